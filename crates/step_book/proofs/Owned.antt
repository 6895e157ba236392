-- A seat that is of a table has what is its own.
use Rattle.std.proofs.Common.{◌≡◌, ℕ, ◌<◌, List, [], ◌∷◌, length, slice_get, refl, sym, ap, ◌∙◌, subst, Option, Some, None}
use Rattle.step_book.specs.Seats.{BeganAt}
use Rattle.step_book.specs.Turns.{own_of, right_by, right_of_split, seat_of}
use Rattle.step_book.specs.declared.board.Known.{Known}
use Rattle.step_book.proofs.Places.{get_there}
use Rattle.step_book.specs.declared.board.Start.{Start}
use Rattle.step_book.specs.declared.board.Own.{Own}

pub own_there : {P H : Type 0} (o : Option (Own P H)) (start : Start P H) → BeganAt o start → (own : Own P H) × (o ≡ Some own) × (own.start ≡ start)
own_there (Some own) start h = (own, refl, h)
own_there None start h = absurd h

-- what the first slot in hand has
abbrev pub top_or : {A : Type 0} → A → List (ℕ × A) → A
top_or d [] = d
top_or d (x ∷ xs) = x.1

abbrev pub the_none : {A : Type 0} → Option A
the_none = None

-- a new seat was opened with the table
pub new_began : {P H : Type 0} (start : Start P H) (k : ℕ) → k < length start.parts.value.items → BeganAt (own_of (slice_get start.parts.value.items k) start) start
new_began start k h = let t = get_there start.parts.value.items k h in subst (λ o. BeganAt (own_of o start) start) (sym t.1) refl

pub split_knows : {P H S : Type 0} (v : Known P H S) (own : Own P H) (start : Start P H) → v.own ≡ Some own → own.start ≡ start → right_of_split v ≡ seat_of v.made v.seen v.ended v.spoilt start
split_knows v own start mine is = ap (λ o. right_by v o) mine ∙ ap (λ z. seat_of v.made v.seen v.ended v.spoilt z) is
