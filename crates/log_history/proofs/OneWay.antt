-- A log is read in one way.
use Rattle.std.proofs.Common.{◌≡◌, ℕ, zero, suc, ◌<◌, List, [], ◌∷◌, ◌++◌, length, take, replicate, take_all, refl, sym, ap, subst, ◌∙◌, arith}
use Rattle.std.specs.Int.{byte_at}
use Rattle.std.proofs.lemmas.List.{append_assoc, append_cancel_left, take_at}
use Rattle.base_types.specs.Bytes.{big_bytes}
use Rattle.redo_types.specs.declared.redo.Redo.{Redo}
use Rattle.part_image.specs.Cells.{AllFit, Begins, Byte, Cell, CellFits, Number, Zeros, cell_bytes, spelled}
use Rattle.part_image.proofs.Numbers.{IsBytes}
use Rattle.redo_record.specs.Front.{BeginsWith, log_bytes}
use Rattle.redo_record.specs.Redo.{redo_bytes, redo_cells}
use Rattle.redo_record.proofs.FrontLemmas.{length_at_front}
use Rattle.redo_record.proofs.RecordLemmas.{one_redo}
use Rattle.log_history.specs.LogHistory.{IsLog}

byte_small : (k x : ℕ) → byte_at k x < 256
byte_small zero x = omega arith
byte_small (suc k) x = omega arith

big_bytes_are_bytes : (size value : ℕ) → IsBytes (big_bytes size value)
big_bytes_are_bytes zero value i = omega arith
big_bytes_are_bytes (suc size) value zero = byte_small size value
big_bytes_are_bytes (suc size) value (suc i) = big_bytes_are_bytes size value i

zeros_are_bytes : (size : ℕ) → IsBytes (replicate size 0)
zeros_are_bytes zero i = omega arith
zeros_are_bytes (suc size) zero = omega arith
zeros_are_bytes (suc size) (suc i) = zeros_are_bytes size i

cell_is_bytes : (cell : Cell) → CellFits cell → IsBytes (cell_bytes cell)
cell_is_bytes (Byte value) fits zero = fits
cell_is_bytes (Byte value) fits (suc i) = omega arith
cell_is_bytes (Number size value) fits i = big_bytes_are_bytes size value i
cell_is_bytes (Zeros size) fits i = zeros_are_bytes size i

both_are_bytes : (xs ys : List ℕ) → IsBytes xs → IsBytes ys → IsBytes (xs ++ ys)
both_are_bytes [] ys first second i = second i
both_are_bytes (x ∷ xs) ys first second zero = first 0
both_are_bytes (x ∷ xs) ys first second (suc i) = both_are_bytes xs ys (λ k. first (suc k)) second i

-- a spelling has bytes alone
spelled_are_bytes : (cells : List Cell) → AllFit cells → IsBytes (spelled cells)
spelled_are_bytes [] fits i = omega arith
spelled_are_bytes (cell ∷ cells) fits i = both_are_bytes (cell_bytes cell) (spelled cells) (cell_is_bytes cell fits.0) (spelled_are_bytes cells fits.1) i

-- bytes begin with one record at most
same_record : (bytes : List ℕ) (v w : Redo) → BeginsWith bytes v → BeginsWith bytes w → v ≡ w
same_record bytes v w begins_v begins_w =
    let size : length (redo_bytes v) ≡ length (redo_bytes w) = sym (length_at_front bytes v begins_v.0 begins_v.1) ∙ length_at_front bytes w begins_w.0 begins_w.1 in
    let text : redo_bytes v ≡ redo_bytes w = sym begins_v.1 ∙ ap (λ (n : ℕ). take n bytes) size ∙ begins_w.1 in
    let itself : Begins (redo_bytes v) (redo_bytes v) = take_all (length (redo_bytes v)) (redo_bytes v) (omega arith) in
    one_redo (redo_bytes v) v w (spelled_are_bytes (redo_cells v) begins_v.0.fits) begins_v.0 begins_w.0 itself (subst (λ (t : List ℕ). Begins (redo_bytes v) t) text itself)

-- a log with records begins with its first
first_record : (bytes : List ℕ) (r : Redo) (records : List Redo) (rest : List ℕ) → IsLog bytes (r ∷ records) rest → BeginsWith bytes r
first_record bytes r records rest is =
    let split = is.spelled ∙ append_assoc (redo_bytes r) (log_bytes records) rest in
    (is.each.0, ap (take (length (redo_bytes r))) split ∙ take_at (redo_bytes r) (log_bytes records ++ rest) (length (redo_bytes r)) refl)

pub one_way : (bytes : List ℕ) (r1 r2 : List Redo) (t1 t2 : List ℕ) → IsLog bytes r1 t1 → IsLog bytes r2 t2 → (r1 ≡ r2) × (t1 ≡ t2)
one_way bytes [] [] t1 t2 a b = (refl, sym a.spelled ∙ b.spelled)
one_way bytes [] (s ∷ r2) t1 t2 a b = absurd (a.no_more s (subst (λ (t : List ℕ). BeginsWith t s) a.spelled (first_record bytes s r2 t2 b)))
one_way bytes (r ∷ r1) [] t1 t2 a b = absurd (b.no_more r (subst (λ (t : List ℕ). BeginsWith t r) b.spelled (first_record bytes r r1 t1 a)))
one_way bytes (r ∷ r1) (s ∷ r2) t1 t2 a b =
    let same = same_record bytes r s (first_record bytes r r1 t1 a) (first_record bytes s r2 t2 b) in
    let first = a.spelled ∙ append_assoc (redo_bytes r) (log_bytes r1) t1 in
    let second = b.spelled ∙ append_assoc (redo_bytes s) (log_bytes r2) t2 in
    let behind : redo_bytes r ++ (log_bytes r1 ++ t1) ≡ redo_bytes r ++ (log_bytes r2 ++ t2) = sym first ∙ second ∙ ap (λ (x : Redo). redo_bytes x ++ (log_bytes r2 ++ t2)) (sym same) in
    let rest = append_cancel_left (redo_bytes r) (log_bytes r1 ++ t1) (log_bytes r2 ++ t2) behind in
    let a_rest : IsLog (log_bytes r1 ++ t1) r1 t1 = record { each = a.each.1; spelled = refl; no_more = a.no_more } in
    let b_rest : IsLog (log_bytes r1 ++ t1) r2 t2 = record { each = b.each.1; spelled = rest; no_more = b.no_more } in
    let more = one_way (log_bytes r1 ++ t1) r1 r2 t1 t2 a_rest b_rest in
    (rw (same, more.0) refl, more.1)
