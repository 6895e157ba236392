-- How instances end by faults of the disk, and that the disk's counts say so.
use Rattle.std.specs.Prelude.{◌≡◌, ◌⊎◌, ◌≤◌, ◌+◌, ◌-◌, ◌^◌, ℕ, Bool, true, false, not, List, filter, length}
use Rattle.rand_pcg.specs.Lcg.{Lcg}
use Rattle.rac_io.specs.Counts.{Rose}
use Rattle.rac_disk.specs.State.{IsCalm, State}
use Rattle.journal.specs.declared.entry.Entry.{Entry}
use Rattle.journal.specs.declared.entry.Entry.TheVariants.{Ended}
use Rattle.inst_node.specs.declared.actions.Step.{Step}
use Rattle.world_machine.specs.declared.worlds.World.{World}
use Rattle.world_machine.specs.Machine.{W}
use Rattle.world_machine.specs.Runs.{IsRun}
use Rattle.run_laws.specs.Runs.{Adds}

-- An entry tells that an instance has ended.
abbrev pub is_end : Entry → Bool
is_end (Ended inst bad) = true
is_end _ = false

-- An entry tells that an instance has ended by a fault of the disk.
abbrev pub is_fault_end : Entry → Bool
is_fault_end (Ended inst bad) = not bad
is_fault_end _ = false

-- how many ends of instances are told
abbrev pub ends_in : List Entry → ℕ
ends_in entries = length (filter is_end entries)

-- how many ends of instances by faults of the disk are told
abbrev pub fault_ends_in : List Entry → ℕ
fault_ends_in entries = length (filter is_fault_end entries)

-- Neither count of a disk has fallen.
pub record IsLater (old new : State) : Type 0 where
  pub faults : old.faults ≤ new.faults
  pub full : old.full ≤ new.full

-- One of a disk's counts rose, or stands at its last value.
abbrev pub HasRisen : State → State → Type 0
HasRisen old new = Rose old.faults new.faults ⊎ Rose old.full new.full

-- By a step one instance ends at most, and where a fault of the disk ended it the counts say so. Neither count falls.
pub record IsEndCounted (entries : List Entry) (old new : State) : Type 0 where
  pub later : IsLater old new
  pub one : ends_in entries ≤ 1
  pub counted : 1 ≤ fault_ends_in entries → HasRisen old new

-- A step tells of one end at most, and a fault of the disk that ended an instance was counted.
abbrev pub StepsCountTheirEnds : Type 0
StepsCountTheirEnds = (old : World) (disk : State) (step : Step) (new : World) (disk_now : State) → W old disk step new disk_now
    → (entries : List Entry) → Adds old new entries → IsEndCounted entries disk disk_now

-- The disk's two counts rose by at least as much as instances ended by faults, or one of them stands at its last value.
-- Neither count falls.
pub record AreEndsCounted (entries : List Entry) (disk disk_now : State) : Type 0 where
  pub later : IsLater disk disk_now
  pub counted : (fault_ends_in entries ≤ (disk_now.faults - disk.faults) + (disk_now.full - disk.full))
      ⊎ (2 ^ 64 - 1 ≤ disk_now.faults) ⊎ (2 ^ 64 - 1 ≤ disk_now.full)

-- In a run the instances that end by faults are no more than the faults that the disk counts.
abbrev pub RunsCountTheirEnds : Type 0
RunsCountTheirEnds = (g : Lcg) (old : World) (disk : State) (book : List Step) (h : Lcg) (new : World) (disk_now : State)
    → IsRun g old disk book h new disk_now → (entries : List Entry) → Adds old new entries → AreEndsCounted entries disk disk_now

-- No instance ended by a fault of the disk, and the counts are the same.
pub record IsUnharmed (entries : List Entry) (disk disk_now : State) : Type 0 where
  pub none : fault_ends_in entries ≡ 0
  pub calm : IsCalm disk disk_now

-- In a run in which neither count rose no instance ends by a fault of the disk.
abbrev pub CalmRunsEndNobody : Type 0
CalmRunsEndNobody = (g : Lcg) (old : World) (disk : State) (book : List Step) (h : Lcg) (new : World) (disk_now : State)
    → IsRun g old disk book h new disk_now → (HasRisen disk disk_now → ⊥) → (entries : List Entry) → Adds old new entries
    → IsUnharmed entries disk disk_now
