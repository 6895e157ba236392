use Rattle.std.proofs.Common.{◌≡◌, ℕ, nat_eq, take}
use Rattle.std.specs.HashMap.{get}
use Rattle.std.specs.Option.{option_or}
use Rattle.script_text.specs.Places.{place_in}
use Rattle.script_text.proofs.waves.note_places.Given as goal

abbrev pub invariant-loop-at : goal.invariant-loop-at
invariant-loop-at l =
    (line : ℕ) → get nat_eq l.places line ≡ option_or (get nat_eq l.initial.places line) (place_in line l.wave (take l.at l.lines))
