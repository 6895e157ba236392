-- What is found on the way through a journal.
use Rattle.std.specs.Prelude.{◌≡◌, ℕ, ◌<◌, Bool, true, not, ◌&&◌, ◌||◌, ◌==◌}
use Rattle.std.specs.Prelude.{nat_lt, if◌then◌else◌, List, [], Option, take}
use Rattle.std.specs.List.{list_any, list_all, slice_index_or}
use Rattle.std.specs.Option.{option_map_or}
use Rattle.script_text.specs.declared.item.Item.{Item}
use Rattle.run_report.specs.Ends.{is_asked, is_ended}
use Rattle.run_report.specs.declared.ends.Ends.{Ends}

-- Whether a wave and the number of an instance are among those kept.
abbrev pub has_pair : List (ℕ × ℕ) → ℕ → ℕ → Bool
has_pair pairs wave inst = list_any (λ pair. (wave == pair.0) && (inst == pair.1)) pairs

-- Whether an instance is kept as ended in a wave, where `down` holds as one that wasn't up.
abbrev pub kept : Ends → ℕ → Bool → ℕ → Bool
kept ends wave down inst = has_pair (if down then ends.found_down.keys else ends.ended.keys) wave inst

-- A line is settled before a place where it is not to be answered, or where an entry or an end before the place
-- answers it. `first` says where the first entry with a line's number stands.
abbrev pub is_settled : (ℕ → Option ℕ) → ℕ → (ℕ → Bool → ℕ → Bool) → ℕ → ℕ × Item → Bool
is_settled first at ended wave (line, item) =
    not (is_asked item) || option_map_or (λ place. nat_lt place at) (first line) (is_ended ended wave item)

-- Every line before a place in the waves is settled.
pub record AreSettled (settled : ℕ → ℕ × Item → Bool) (waves : List (List (ℕ × Item))) (wave line : ℕ) : Type 0 where
  pub earlier : (w : ℕ) → w < wave → list_all (settled w) (slice_index_or waves w []) ≡ true
  pub here : list_all (settled wave) (take line (slice_index_or waves wave [])) ≡ true
