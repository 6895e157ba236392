-- Where a line stands in the waves: its wave, and its place there, both counted from 0.
use Rattle.std.specs.Prelude.{ℕ, ◌+◌, ◌-◌, List, [], ◌∷◌, Option, Some, None, ◌==◌, slice_get}
use Rattle.std.specs.List.{position_from}
use Rattle.std.specs.Option.{option_map, option_or}
use Rattle.script_text.specs.declared.item.Item.{Item}

-- the place of the first of these lines with a number, in the wave that they are
abbrev pub place_in : ℕ → ℕ → List (ℕ × Item) → Option (ℕ × ℕ)
place_in line wave lines = option_map (λ at. (wave, at)) (position_from (λ item. item.0 == line) 0 lines)

-- the place of a line in the waves, of which the first is numbered so
abbrev pub place_of : ℕ → ℕ → List (List (ℕ × Item)) → Option (ℕ × ℕ)
place_of line first [] = None
place_of line first (lines ∷ waves) = option_or (place_in line first lines) (place_of line (first + 1) waves)

-- what stands at a place of a wave, and of the waves
abbrev pub item_in_wave : Option (List (ℕ × Item)) → ℕ → Option Item
item_in_wave None at = None
item_in_wave (Some lines) at = option_map (λ line. line.1) (slice_get lines at)

abbrev pub item_at_place : ℕ → List (List (ℕ × Item)) → Option (ℕ × ℕ) → Option Item
item_at_place first waves None = None
item_at_place first waves (Some place) = item_in_wave (slice_get waves (place.0 - first)) place.1
