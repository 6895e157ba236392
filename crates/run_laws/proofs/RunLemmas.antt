-- What each step keeps, a run keeps.
use Rattle.std.proofs.Common.{◌≡◌, ℕ, ◌<◌, true, List, [], ◌∷◌, sym, subst, Some, arith, get_or, length}
use Rattle.std.specs.Prelude.{slice_get}
use Rattle.std.proofs.lemmas.Option.{slice_get-get_or}
use Rattle.rand_pcg.specs.Lcg.{Lcg}
use Rattle.rac_disk.specs.State.{State}
use Rattle.inst_state.specs.declared.inst.Inst.{Inst}
use Rattle.inst_node.specs.declared.actions.Step.{Step}
use Rattle.inst_node.specs.declared.hows.How.{How}
use Rattle.inst_node.specs.Needs.{needs}
use Rattle.world_machine.specs.declared.worlds.World.{World}
use Rattle.world_machine.specs.Machine.{Moved, W}
use Rattle.world_machine.specs.Runs.{IsRun}

-- What each step keeps of worlds and disks, a run keeps.
pub run_keeps : (Holds : World → State → Type 0)
    → ((old : World) (disk : State) (step : Step) (new : World) (disk_now : State) → W old disk step new disk_now → Holds old disk → Holds new disk_now)
    → (g : Lcg) (old : World) (disk : State) (book : List Step) (h : Lcg) (new : World) (disk_now : State) → IsRun g old disk book h new disk_now
    → Holds old disk → Holds new disk_now
run_keeps Holds kept g old disk [] h new disk_now run first =
    subst (λ (w : World). Holds w disk_now) (sym run.1) (subst (λ (d : State). Holds old d) (sym run.2) first)
run_keeps Holds kept g old disk (step ∷ book) h new disk_now run first =
    run_keeps Holds kept run.0 run.1 run.2 book h new disk_now run.5 (kept old disk step run.1 run.2 run.4 first)

-- The step of an instance that is there, what it had, and what the step left.
pub record Made (old : World) (disk : State) (step : Step) (new : World) (disk_now : State) : Type 0 where
  pub n : Inst
  pub how : How
  pub at : slice_get old.insts step.inst ≡ Some n
  pub within : step.inst < length old.insts
  pub needs : needs n old.core step.action ≡ true
  pub moved : Moved old disk step how n new disk_now

there : (insts : List Inst) (i : ℕ) → i < length insts → (n : Inst) × (slice_get insts i ≡ Some n)
there [] i h = absurd (omega arith)
there (n ∷ insts) i h = (get_or (n ∷ insts) i n, slice_get-get_or (n ∷ insts) i n h)

-- what a step is of
pub made_of : (old : World) (disk : State) (step : Step) (new : World) (disk_now : State) → W old disk step new disk_now
    → Made old disk step new disk_now
made_of old disk step new disk_now it =
    let at = there old.insts step.inst it.may.inst in record {
      n = at.0;
      how = it.how;
      at = at.1;
      within = it.may.inst;
      needs = it.may.needs at.0 at.1;
      moved = it.moved at.0 at.1;
    }
