-- Cells behind other cells.
use Rattle.std.proofs.Common.{◌≡◌, ℕ, ◌+◌, ◌≤◌, List, ◌++◌, length, sym, ap, subst, arith}
use Rattle.std.proofs.lemmas.Grind.{flat_map-append}
use Rattle.std.proofs.lemmas.List.{length-take}
use Rattle.base_types.specs.Bytes.{Puts}
use Rattle.base_types.proofs.BytesLemmas.{Puts-append}
use Rattle.part_image.specs.Cells.{Begins, Cell, StandsAt, cell_bytes, spelled}
use Rattle.part_image.proofs.CellLemmas.{StandsAt-append, StandsAt-first, StandsAt-second}

pub spelled-append : (xs ys : List Cell) → spelled (xs ++ ys) ≡ spelled xs ++ spelled ys
spelled-append xs ys = flat_map-append cell_bytes xs ys

-- two rows of cells stand where they stand as one
pub taken_apart : (bytes : List ℕ) (at next : ℕ) (xs ys : List Cell) → next ≡ at + length (spelled xs) → StandsAt bytes at (spelled (xs ++ ys)) → StandsAt bytes at (spelled xs) × StandsAt bytes next (spelled ys)
taken_apart bytes at next xs ys is both =
    let parts : StandsAt bytes at (spelled xs ++ spelled ys) = subst (λ (text : List ℕ). StandsAt bytes at text) (spelled-append xs ys) both in
    (StandsAt-first bytes (spelled xs) (spelled ys) at parts, StandsAt-second bytes (spelled xs) (spelled ys) at next is parts)

-- and as one where they stand one behind the other
pub put_together : (bytes : List ℕ) (at next : ℕ) (xs ys : List Cell) → next ≡ at + length (spelled xs) → StandsAt bytes at (spelled xs) → StandsAt bytes next (spelled ys) → StandsAt bytes at (spelled (xs ++ ys))
put_together bytes at next xs ys is first second =
    subst (λ (text : List ℕ). StandsAt bytes at text) (sym (spelled-append xs ys)) (StandsAt-append bytes (spelled xs) (spelled ys) at next is first second)

-- cells written right behind others
pub puts_together : (old mid new : List ℕ) (at next : ℕ) (xs ys : List Cell) → next ≡ at + length (spelled xs) → next + length (spelled ys) ≤ length old → Puts old mid at (spelled xs) → Puts mid new next (spelled ys) → Puts old new at (spelled (xs ++ ys))
puts_together old mid new at next xs ys is fits first second =
    subst (λ (text : List ℕ). Puts old new at text) (sym (spelled-append xs ys)) (Puts-append old mid new (spelled xs) (spelled ys) at next is fits first second)

-- bytes that begin with a text are as many or more
pub long_where_begun : (bytes text : List ℕ) → Begins bytes text → length text ≤ length bytes
long_where_begun bytes text begins = omega (arith, length-take (length text) bytes, ap length begins)
