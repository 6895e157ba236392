-- What the control entry of a dead thread must be.
use Rattle.std.specs.Prelude.{◌≡◌, ℕ, ◌&&◌, ◌⊎◌, Bool, true, false, List}
use Rattle.part_image.specs.Cells.{Begins}
use Rattle.control_image.specs.declared.entry.ControlEntry.{ControlEntry}
use Rattle.control_image.specs.Entry.{IsEntry, entry_bytes}
use Rattle.scn_clock.specs.declared.clock.Clock.{Clock}
use Rattle.rac_disk.specs.Content.{Content, control_at}
use Rattle.disk_calls.specs.Images.{is_small}

-- The numbers of an entry are such that a run may have come to them.
abbrev pub has_small_numbers : ControlEntry → Bool
has_small_numbers it = is_small it.position && is_small it.highest_scn && is_small it.highest_end_scn

-- An entry stands in these bytes.
abbrev pub StandsIn : List ℕ → ControlEntry → Type 0
StandsIn bytes it = IsEntry it × Begins bytes (entry_bytes it)

-- An entry that a run may have left stands in these bytes.
abbrev pub IsGoodEntry : List ℕ → ControlEntry → Type 0
IsGoodEntry bytes it = StandsIn bytes it × (has_small_numbers it ≡ true)

-- No entry stands in these bytes, or one with a number that no run comes near.
abbrev pub IsBadEntry : List ℕ → Type 0
IsBadEntry bytes =
    ((it : ControlEntry) → StandsIn bytes it → ⊥) ⊎ ((it : ControlEntry) × StandsIn bytes it × (has_small_numbers it ≡ false))

-- A thread has this control entry.
abbrev pub HasEntry : ℕ → ControlEntry → Content → Type 0
HasEntry thread entry it = IsGoodEntry (control_at it thread) entry

-- A thread has no control entry that a run leaves.
abbrev pub HasBadEntry : ℕ → Content → Type 0
HasBadEntry thread it = IsBadEntry (control_at it thread)

-- the SCNs of a control entry
abbrev pub scns_of : ControlEntry → Clock
scns_of it = record { scn = it.highest_scn; known = it.highest_end_scn }
