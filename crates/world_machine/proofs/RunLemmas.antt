-- Runs go on.
use Rattle.std.proofs.Common.{◌≡◌, ℕ, List, [], ◌∷◌, ◌++◌, refl, sym, subst}
use Rattle.rand_pcg.specs.Lcg.{Lcg}
use Rattle.rac_disk.specs.State.{State}
use Rattle.inst_node.specs.declared.actions.Step.{Step}
use Rattle.world_machine.specs.declared.worlds.World.{World}
use Rattle.world_machine.specs.Machine.{W}
use Rattle.world_machine.specs.Runs.{IsPicked, IsRun}

pub run_more : (g : Lcg) (old : World) (disk : State) (book : List Step) (h : Lcg) (mid : World) (mid_disk : State) (step : Step)
    (h' : Lcg) (new : World) (disk_now : State) → IsRun g old disk book h mid mid_disk → IsPicked h mid step h' → W mid mid_disk step new disk_now
    → IsRun g old disk (book ++ step ∷ []) h' new disk_now
run_more g old disk [] h mid mid_disk step h' new disk_now run picked made = (
  h',
  new,
  disk_now,
  subst (λ (x : Lcg). IsPicked x old step h') run.0 (subst (λ (w : World). IsPicked h w step h') run.1 picked),
  subst (λ (w : World). W w disk step new disk_now) run.1 (subst (λ (d : State). W mid d step new disk_now) run.2 made),
  (refl, refl, refl),
)
run_more g old disk (b ∷ book) h mid mid_disk step h' new disk_now run picked made =
    (run.0, run.1, run.2, run.3, run.4, run_more run.0 run.1 run.2 book h mid mid_disk step h' new disk_now run.5 picked made)

-- a run goes on by a turn
pub run_then : (g : Lcg) (old : World) (disk : State) (book more : List Step) (h h' : Lcg) (mid : World) (mid_disk : State)
    (step : Step) (new : World) (disk_now : State) → IsRun g old disk book h mid mid_disk
    → IsPicked h mid step h' × W mid mid_disk step new disk_now → more ≡ book ++ step ∷ [] → IsRun g old disk more h' new disk_now
run_then g old disk book more h h' mid mid_disk step new disk_now run turn book_is =
    subst (λ (b : List Step). IsRun g old disk b h' new disk_now) (sym book_is)
    (run_more g old disk book h mid mid_disk step h' new disk_now run turn.0 turn.1)

-- a run ends in what is the same
pub run_same : (g : Lcg) (old : World) (disk : State) (book : List Step) (h h' : Lcg) (mid new : World) (mid_disk disk_now : State)
    → IsRun g old disk book h mid mid_disk → h' ≡ h → new ≡ mid → disk_now ≡ mid_disk → IsRun g old disk book h' new disk_now
run_same g old disk book h h' mid new mid_disk disk_now run words world held =
    subst (λ (x : Lcg). IsRun g old disk book x new disk_now) (sym words)
    (subst (λ (w : World). IsRun g old disk book h w disk_now) (sym world)
    (subst (λ (d : State). IsRun g old disk book h mid d) (sym held) run))
