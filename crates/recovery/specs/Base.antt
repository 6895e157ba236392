-- Which image a block is rebuilt from.
use Rattle.std.specs.Prelude.{ℕ, nat_le, Bool, true, false, if◌then◌else◌, List, Option, None, Some, position}
use Rattle.std.specs.List.{list_all}
use Rattle.recovery.specs.declared.base.Base.{Base}
use Rattle.recovery.specs.declared.base.Base.TheVariants.{Disk, Past}

-- The past image of an instance, if it has one, isn't newer than a version.
abbrev pub is_up_to : ℕ → Option ℕ → Bool
is_up_to version None = true
is_up_to version (Some past) = nat_le past version

-- No past image is newer than a version.
abbrev pub are_up_to : ℕ → List (Option ℕ) → Bool
are_up_to version pasts = list_all (is_up_to version) pasts

-- An instance has a past image, and none is newer.
abbrev pub is_newest : List (Option ℕ) → Option ℕ → Bool
is_newest pasts None = false
is_newest pasts (Some version) = are_up_to version pasts

-- the lowest instance with the newest past image
abbrev pub newest_past : List (Option ℕ) → Option ℕ
newest_past pasts = position (is_newest pasts) pasts

-- the past image of an instance, if there is one, and else the disk's image
abbrev pub past_or_disk : Option ℕ → Base
past_or_disk None = Disk
past_or_disk (Some inst) = Past inst

-- The disk's image where no past image is newer than its version, and else the newest past image.
abbrev pub chosen_base : ℕ → List (Option ℕ) → Base
chosen_base disk pasts = if are_up_to disk pasts then Disk else past_or_disk (newest_past pasts)
