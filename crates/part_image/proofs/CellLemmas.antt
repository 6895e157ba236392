-- Where cells stand in bytes.
use Rattle.std.proofs.Common.{◌≡◌, ℕ, zero, suc, ◌+◌, ◌^◌, ◌<◌, ◌≤◌, List, [], ◌∷◌, ◌++◌, length, take, drop, replicate, slice_index, refl, sym, ap, subst, ◌∙◌, arith, add-zero, get_or-take}
use Rattle.std.proofs.lemmas.List.{append_assoc, drop-drop, drop-take, drop_at, get_or-drop, length-append, length-replicate, take_at, take-take, take-append-drop, drop_more}
use Rattle.byteorder.specs.Numbers.{length-bytes_high_first, big_number-reads_back}
use Rattle.base_types.specs.Bytes.{big_bytes, big_number, number_at}
use Rattle.part_image.specs.Cells.{Cell, Byte, Number, Zeros, cell_bytes, spelled, CellFits, AllFit, StandsAt, first_fields}
use Rattle.part_image.proofs.Numbers.{IsBytes, IsBytes-drop, big_from-below, bytes_of_number}

-- how many bytes a cell has
abbrev pub size_of : Cell → ℕ
size_of (Byte value) = 1
size_of (Number size value) = size
size_of (Zeros size) = size

-- what a cell has stands at a place
abbrev pub CellStands : List ℕ → ℕ → Cell → Type 0
CellStands bytes at (Byte value) = slice_index bytes at ≡ value
CellStands bytes at (Number size value) = number_at size bytes at ≡ value
CellStands bytes at (Zeros size) = take size (drop at bytes) ≡ replicate size 0

-- what each cell has stands behind that of the one before
abbrev pub AllStand : List ℕ → ℕ → List Cell → Type 0
AllStand bytes at [] = Unit {0}
AllStand bytes at (cell ∷ cells) = CellStands bytes at cell × AllStand bytes (at + size_of cell) cells

pub length-cell : (cell : Cell) → length (cell_bytes cell) ≡ size_of cell
length-cell (Byte value) = refl
length-cell (Number size value) = length-bytes_high_first size value
length-cell (Zeros size) = length-replicate {A = ℕ} size 0

-- a text and the one behind it stand where both together stand
pub StandsAt-append : (bytes x y : List ℕ) (at next : ℕ) → next ≡ at + length x → StandsAt bytes at x → StandsAt bytes next y → StandsAt bytes at (x ++ y)
StandsAt-append bytes x y at next is first second =
    let part = drop at bytes in
    let moved : drop next bytes ≡ drop (length x) part = ap (λ (n : ℕ). drop n bytes) is ∙ sym (drop-drop (length x) at bytes) in
    let rest : take (length y) (drop (length x) part) ≡ y = ap (take (length y)) (sym moved) ∙ second in
    let parts : part ≡ x ++ (y ++ drop (length y) (drop (length x) part)) =
    sym (take-append-drop (length x) part) ∙ ap (λ (t : List ℕ). t ++ drop (length x) part) first
    ∙ ap (λ (t : List ℕ). x ++ t) (sym (take-append-drop (length y) (drop (length x) part)) ∙ ap (λ (t : List ℕ). t ++ drop (length y) (drop (length x) part)) rest) in
    let whole : part ≡ (x ++ y) ++ drop (length y) (drop (length x) part) = parts ∙ sym (append_assoc x y (drop (length y) (drop (length x) part))) in
    ap (take (length (x ++ y))) whole ∙ take_at (x ++ y) (drop (length y) (drop (length x) part)) (length (x ++ y)) refl

-- where both together stand, the first stands
pub StandsAt-first : (bytes x y : List ℕ) (at : ℕ) → StandsAt bytes at (x ++ y) → StandsAt bytes at x
StandsAt-first bytes x y at both =
    let shorter : length x ≤ length (x ++ y) = omega (arith, length-append x y) in
    sym (take-take (length x) (length (x ++ y)) (drop at bytes) shorter) ∙ ap (take (length x)) both ∙ take_at x y (length x) refl

-- and the second behind it
pub StandsAt-second : (bytes x y : List ℕ) (at next : ℕ) → next ≡ at + length x → StandsAt bytes at (x ++ y) → StandsAt bytes next y
StandsAt-second bytes x y at next is both =
    ap (take (length y)) (ap (λ (n : ℕ). drop n bytes) is ∙ sym (drop-drop (length x) at bytes))
    ∙ sym (drop-take (length x) (length y) (drop at bytes))
    ∙ ap (λ (n : ℕ). drop (length x) (take n (drop at bytes))) (sym (length-append x y))
    ∙ ap (drop (length x)) both
    ∙ drop_at x y (length x) refl

-- where the cell stands, its bytes stand
cell_stands : (bytes : List ℕ) (at : ℕ) (cell : Cell) → IsBytes bytes → at + size_of cell ≤ length bytes → CellStands bytes at cell → StandsAt bytes at (cell_bytes cell)
cell_stands bytes at (Byte value) fits within is = ap (take 1) (drop_more bytes at 0 (omega arith)) ∙ ap (λ (v : ℕ). v ∷ []) is
cell_stands bytes at (Number size value) fits within is =
    rw (length-bytes_high_first size value) (sym (bytes_of_number size at bytes fits within) ∙ ap (big_bytes size) is)
cell_stands bytes at (Zeros size) fits within is = rw (length-replicate {A = ℕ} size 0) is

-- where its bytes stand, the cell stands
stands_cell : (bytes : List ℕ) (at : ℕ) (cell : Cell) → CellFits cell → StandsAt bytes at (cell_bytes cell) → CellStands bytes at cell
stands_cell bytes at (Byte value) fits is =
    rw add-zero at (sym (get_or-drop at bytes 0 0)) ∙ sym (get_or-take 1 (drop at bytes) 0 0 (omega arith)) ∙ ap (λ (xs : List ℕ). slice_index xs 0) is
stands_cell bytes at (Number size value) fits is =
    let part = drop at bytes in
    let len = length (big_bytes size value) in
    let split : part ≡ big_bytes size value ++ drop len part = sym (take-append-drop len part) ∙ ap (λ (t : List ℕ). t ++ drop len part) is in
    ap (big_number size) split ∙ big_number-reads_back size value (drop len part) fits
stands_cell bytes at (Zeros size) fits is = ap (λ (n : ℕ). take n (drop at bytes)) (sym (length-replicate {A = ℕ} size 0)) ∙ is

-- where the cells stand, their bytes stand
pub spelled_where_all_stand : (bytes : List ℕ) (at : ℕ) (cells : List Cell) → IsBytes bytes → at + length (spelled cells) ≤ length bytes → AllStand bytes at cells → StandsAt bytes at (spelled cells)
spelled_where_all_stand bytes at [] fits within all = refl
spelled_where_all_stand bytes at (cell ∷ cells) fits within all =
    let size = length-cell cell in
    let both = length-append (cell_bytes cell) (spelled cells) in
    let first = cell_stands bytes at cell fits (omega arith) all.0 in
    let rest = spelled_where_all_stand bytes (at + size_of cell) cells fits (omega arith) all.1 in
    StandsAt-append bytes (cell_bytes cell) (spelled cells) at (at + size_of cell) (omega arith) first rest

-- where the bytes of cells stand, the cells stand
pub all_stand_where_spelled : (bytes : List ℕ) (at : ℕ) (cells : List Cell) → AllFit cells → StandsAt bytes at (spelled cells) → AllStand bytes at cells
all_stand_where_spelled bytes at [] fits is = tt
all_stand_where_spelled bytes at (cell ∷ cells) fits is =
    let size = length-cell cell in
    let first = StandsAt-first bytes (cell_bytes cell) (spelled cells) at is in
    let second = StandsAt-second bytes (cell_bytes cell) (spelled cells) at (at + size_of cell) (omega arith) is in
    (stands_cell bytes at cell fits.0 first, all_stand_where_spelled bytes (at + size_of cell) cells fits.1 second)

-- what stands in bytes has room there
pub fit_where_all_stand : (bytes : List ℕ) (at : ℕ) (cells : List Cell) → IsBytes bytes → AllStand bytes at cells → AllFit cells
fit_where_all_stand bytes at [] fits all = tt
fit_where_all_stand bytes at (Byte value ∷ cells) fits all = (subst (λ (v : ℕ). v < 256) all.0 (fits at), fit_where_all_stand bytes (at + 1) cells fits all.1)
fit_where_all_stand bytes at (Number size value ∷ cells) fits all =
    (subst (λ (v : ℕ). v < 256 ^ size) all.0 (big_from-below 0 size (drop at bytes) (IsBytes-drop at bytes fits)), fit_where_all_stand bytes (at + size) cells fits all.1)
fit_where_all_stand bytes at (Zeros size ∷ cells) fits all = (tt, fit_where_all_stand bytes (at + size) cells fits all.1)

-- cells that fit, taken apart and put together
pub AllFit-left : (xs ys : List Cell) → AllFit (xs ++ ys) → AllFit xs
AllFit-left [] ys all = tt
AllFit-left (x ∷ xs) ys all = (all.0, AllFit-left xs ys all.1)

pub AllFit-right : (xs ys : List Cell) → AllFit (xs ++ ys) → AllFit ys
AllFit-right [] ys all = all
AllFit-right (x ∷ xs) ys all = AllFit-right xs ys all.1

pub AllFit-append : (xs ys : List Cell) → AllFit xs → AllFit ys → AllFit (xs ++ ys)
AllFit-append [] ys first second = second
AllFit-append (x ∷ xs) ys first second = (first.0, AllFit-append xs ys first.1 second)

-- fewer of the fields fit too
pub fewer_fit : (n m : ℕ) (fields : List (List Cell)) → n ≤ m → AllFit (first_fields m fields) → AllFit (first_fields n fields)
fewer_fit zero m fields fewer all = tt
fewer_fit (suc n) m [] fewer all = tt
fewer_fit (suc n) zero (field ∷ fields) fewer all = absurd (omega arith)
fewer_fit (suc n) (suc m) (field ∷ fields) fewer all =
    AllFit-append field (first_fields n fields) (AllFit-left field (first_fields m fields) all) (fewer_fit n m fields (omega arith) (AllFit-right field (first_fields m fields) all))
