-- What steps and runs add to the journal.
use Rattle.std.specs.Prelude.{◌≡◌, List, ◌++◌}
use Rattle.rand_pcg.specs.Lcg.{Lcg}
use Rattle.rac_disk.specs.State.{State}
use Rattle.journal.specs.declared.entry.Entry.{Entry}
use Rattle.inst_state.specs.declared.inst.Inst.{Inst}
use Rattle.inst_state.specs.declared.shared.Core.{Core}
use Rattle.inst_node.specs.declared.actions.Action.{Action}
use Rattle.inst_node.specs.declared.actions.Step.{Step}
use Rattle.inst_node.specs.declared.hows.How.{How}
use Rattle.inst_node.specs.Moves.{core_after}
use Rattle.world_machine.specs.declared.worlds.World.{World}
use Rattle.world_machine.specs.Runs.{IsRun}
use Rattle.run_laws.specs.Tells.{tells}

-- The journal of a later world is that of an earlier one with these entries in front, the newest first.
abbrev pub Adds : World → World → List Entry → Type 0
Adds old new entries = new.core.journal ≡ entries ++ old.core.journal

-- A step adds to the journal what it tells.
abbrev pub StepsAddWhatTheyTell : Type 0
StepsAddWhatTheyTell = (n : Inst) (core : Core) (action : Action) (how : How)
    → (core_after n core action how).journal ≡ tells n core action how ++ core.journal

-- A run only adds entries to the journal.
abbrev pub RunsAddEntries : Type 0
RunsAddEntries = (g : Lcg) (old : World) (disk : State) (book : List Step) (h : Lcg) (new : World) (disk_now : State)
    → IsRun g old disk book h new disk_now → (entries : List Entry) × Adds old new entries
