-- A run only adds entries to the journal.
use Rattle.std.proofs.Common.{List, [], ◌++◌, ◌∙◌, refl, ap, sym, append_assoc}
use Rattle.rand_pcg.specs.Lcg.{Lcg}
use Rattle.rac_disk.specs.State.{State}
use Rattle.journal.specs.declared.entry.Entry.{Entry}
use Rattle.inst_state.specs.declared.shared.Core.{Core}
use Rattle.inst_node.specs.declared.actions.Step.{Step}
use Rattle.world_machine.specs.declared.worlds.World.{World}
use Rattle.world_machine.specs.Runs.{IsRun}
use Rattle.run_laws.specs.Runs.{Adds}
use Rattle.run_laws.specs.Tells.{tells}
use Rattle.run_laws.proofs.RunLemmas.{Made, made_of, run_keeps}
use Rattle.run_laws.proofs.ToldByKind.{journal_told}

-- a step adds what it tells
pub made_adds : (old : World) (disk : State) (step : Step) (new : World) (disk_now : State) (m : Made old disk step new disk_now)
    → Adds old new (tells m.n old.core step.action m.how)
made_adds old disk step new disk_now m =
    ap (λ (core : Core). core.journal) m.moved.core ∙ journal_told m.n old.core step.action m.how

-- what is added to a journal, and then to that
pub adds_then : (first mid last : World) (es later : List Entry) → Adds first mid es → Adds mid last later → Adds first last (later ++ es)
adds_then first mid last es later before after =
    after ∙ ap (λ (js : List Entry). later ++ js) before ∙ sym (append_assoc later es first.core.journal)

-- A run only adds entries to the journal.
pub run_adds : (g : Lcg) (old : World) (disk : State) (book : List Step) (h : Lcg) (new : World) (disk_now : State)
    → IsRun g old disk book h new disk_now → (entries : List Entry) × Adds old new entries
run_adds g old disk book h new disk_now run =
    run_keeps (λ (w : World) (d : State). (entries : List Entry) × Adds old w entries)
    (λ w d step w' d' made so_far.
    let m = made_of w d step w' d' made in
    let later = tells m.n w.core step.action m.how in
    (later ++ so_far.0, adds_then old w w' so_far.0 later so_far.1 (made_adds w d step w' d' m)))
    g old disk book h new disk_now run ([], refl)
