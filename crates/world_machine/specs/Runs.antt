-- Runs of machine W.
use Rattle.std.specs.Prelude.{◌≡◌, ℕ, ◌%◌, List, [], ◌∷◌, length, Option, None, Some, slice_get}
use Rattle.rand_pcg.specs.Lcg.{Lcg, increment_of, started}
use Rattle.rand_pcg.specs.Pcg.{multiplier_64, pcg32}
use Rattle.rac_disk.specs.State.{State}
use Rattle.inst_node.specs.declared.actions.Step.{Step}
use Rattle.world_machine.specs.declared.worlds.World.{World}
use Rattle.world_machine.specs.Enabled.{due, enabled}
use Rattle.world_machine.specs.Machine.{W}

-- the words by which the steps of a run are picked
abbrev pub words : ℕ → Lcg
words seed = started 64 multiplier_64 seed (increment_of 64 1)

-- The next word picks the step, by its rest at the number of those that may be made.
pub record IsDrawn (g : Lcg) (w : World) (step : Step) (h : Lcg) : Type 0 where
  pub picked : slice_get (enabled w) ((pcg32 g).0 % length (enabled w)) ≡ Some step
  pub drawn : h ≡ (pcg32 g).1

-- A due crash comes first and draws no word.
abbrev pub IsPickedBy : Option Step → Lcg → World → Step → Lcg → Type 0
IsPickedBy (Some crash) g w step h = (step ≡ crash) × (h ≡ g)
IsPickedBy None g w step h = IsDrawn g w step h

-- The step is the first due crash, or where there is none the one that the next word picks; h are the words behind it.
abbrev pub IsPicked : Lcg → World → Step → Lcg → Type 0
IsPicked g w step h = IsPickedBy (due w) g w step h

-- The steps of the book, each picked so, lead by W from the old world and disk to the new ones.
abbrev pub IsRun : Lcg → World → State → List Step → Lcg → World → State → Type 0
IsRun g old disk [] h new disk_now = (h ≡ g) × (new ≡ old) × (disk_now ≡ disk)
IsRun g old disk (step ∷ book) h new disk_now =
    (g' : Lcg) × (w : World) × (d : State)
    × IsPicked g old step g' × W old disk step w d
    × IsRun g' w d book h new disk_now

-- No step may be made.
pub record IsStuck (w : World) : Type 0 where
  pub due : due w ≡ None
  pub enabled : enabled w ≡ []
