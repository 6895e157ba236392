-- Whether the calls of a disk failed, by its two counts.
use Rattle.std.specs.Prelude.{ℕ, ◌+◌, ◌-◌, ◌^◌, min, nat_le, Bool, ◌||◌}
use Rattle.rac_disk.specs.State.{State}
use Rattle.rac_top.specs.declared.failures.Failures.{Failures}

-- the count rose, or stands at its end: a test of `Rose`
abbrev pub has_risen : ℕ → ℕ → Bool
has_risen before now = nat_le (min (before + 1) (2 ^ 64 - 1)) now

-- one of the two counts rose, or stands at its end
abbrev pub have_risen : Failures → Failures → Bool
have_risen before now = has_risen before.faults now.faults || has_risen before.full now.full

-- a call of the disk failed, by its two counts
abbrev pub has_failed : State → State → Bool
has_failed old new = has_risen old.faults new.faults || has_risen old.full new.full
