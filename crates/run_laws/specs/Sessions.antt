-- The sessions that entries name are those of the script.
use Rattle.std.specs.Prelude.{◌≡◌, ℕ, ◌+◌, ◌<◌, List, [], ◌∷◌, length, IfSome}
use Rattle.std.specs.List.{AllByRecursion}
use Rattle.rand_pcg.specs.Lcg.{Lcg}
use Rattle.rac_disk.specs.State.{State}
use Rattle.journal.specs.declared.entry.Entry.{Entry}
use Rattle.script_text.specs.Lines.{session_in}
use Rattle.script_text.specs.ScriptParts.{ScriptParts}
use Rattle.script_text.specs.WellFormed.{IsWellFormed}
use Rattle.inst_state.specs.declared.inst.Inst.{Inst}
use Rattle.first_state.specs.Plan.{first_plan, parts_of}
use Rattle.inst_node.specs.declared.actions.Step.{Step}
use Rattle.world_machine.specs.declared.worlds.World.{World}
use Rattle.world_machine.specs.Runs.{IsRun}
use Rattle.cluster_run.specs.First.{IsFirstWorld}
use Rattle.run_laws.specs.Runs.{Adds}

-- The instances from number me on have the plans that the script lays down for them.
abbrev pub ArePlanned : ScriptParts → ℕ → List Inst → Type 0
ArePlanned script me [] = Unit {0}
ArePlanned script me (n ∷ insts) = (parts_of n.plan ≡ first_plan script me) × ArePlanned script (me + 1) insts

-- Before the first step the instances have the plans that the script lays down.
abbrev pub FirstWorldsArePlanned : Type 0
FirstWorldsArePlanned = (script : ScriptParts) (w : World) → IsFirstWorld script w → ArePlanned script 0 w.insts

-- A run changes no instance's plan.
abbrev pub RunsKeepPlans : Type 0
RunsKeepPlans = (script : ScriptParts) (g : Lcg) (old : World) (disk : State) (book : List Step) (h : Lcg) (new : World) (disk_now : State)
    → IsRun g old disk book h new disk_now → ArePlanned script 0 old.insts → ArePlanned script 0 new.insts

-- The session that an entry names, if it names one, is one of the script.
abbrev pub NamesSession : ScriptParts → Entry → Type 0
NamesSession script e = IfSome (session_in e) (λ z. z < length script.names)

-- In a run from a script's first world each session that is opened, and each whose line starts, is one of the script.
abbrev pub RunsNameSessions : Type 0
RunsNameSessions = (script : ScriptParts) → IsWellFormed script
    → (g : Lcg) (old : World) (disk : State) (book : List Step) (h : Lcg) (new : World) (disk_now : State)
    → IsRun g old disk book h new disk_now → IsFirstWorld script old
    → (entries : List Entry) → Adds old new entries → AllByRecursion (NamesSession script) entries
