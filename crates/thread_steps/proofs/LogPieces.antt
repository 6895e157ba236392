-- A log that is read in pieces.
use Rattle.std.proofs.Common.{◌≡◌, ℕ, ◌+◌, ◌-◌, ◌≤◌, min, List, ◌++◌, length, take, drop, sym, ap, ◌∙◌, arith}
use Rattle.std.proofs.lemmas.List.{drop-drop, length-append, length-drop, length-take, length-take-le, take-append-drop, take_all, take_at}
use Rattle.std.proofs.Math.Seq.{take-append-add}

-- These are the first bytes of a log from a place on.
abbrev pub AreFirst : List ℕ → ℕ → List ℕ → Type 0
AreFirst bytes position log = bytes ≡ take (length bytes) (drop position log)

-- the first n elements, and then so many more
take_add : (l : List ℕ) (n m : ℕ) → n ≤ length l → take (n + m) l ≡ take n l ++ take m (drop n l)
take_add l n m within =
    let len : length (take n l) ≡ n = length-take-le n l within in
    ap (λ (x : List ℕ). take (n + m) x) (sym (take-append-drop n l))
    ∙ ap (λ k. take (k + m) (take n l ++ drop n l)) (sym len)
    ∙ take-append-add (take n l) (drop n l) m

-- one piece more
pub one_piece_more : (bytes piece log : List ℕ) (position at count : ℕ) → at ≡ position + length bytes → count ≤ length piece
    → AreFirst bytes position log → take count piece ≡ take count (drop at log) → AreFirst (bytes ++ take count piece) position log
one_piece_more bytes piece log position at count is within first next =
    let rest = drop position log in
    let few : length bytes ≤ length rest = omega (arith, ap length first ∙ length-take (length bytes) rest) in
    let len : length (bytes ++ take count piece) ≡ length bytes + count = length-append bytes (take count piece) ∙ ap (λ n. length bytes + n) (length-take-le count piece within) in
    let behind : drop at log ≡ drop (length bytes) rest = ap (λ n. drop n log) is ∙ sym (drop-drop (length bytes) position log) in
    ap (λ (front : List ℕ). front ++ take count piece) first
    ∙ ap (λ (back : List ℕ). take (length bytes) rest ++ back) (next ∙ ap (λ (l : List ℕ). take count l) behind)
    ∙ sym (take_add rest (length bytes) count few)
    ∙ ap (λ n. take n rest) (sym len)

-- once no piece comes
pub all_pieces : (bytes log : List ℕ) (position at room : ℕ) → at ≡ position + length bytes → 1 ≤ room → 0 ≡ min (length log - at) room → AreFirst bytes position log → bytes ≡ drop position log
all_pieces bytes log position at room is some none first =
    let rest = drop position log in
    let short : length rest ≤ length bytes = omega (arith, length-drop position log) in
    first ∙ take_all (length bytes) rest short

-- a piece that was read is the whole of what it is read into
pub whole_piece : (out items : List ℕ) (len : ℕ) → length out ≡ length items → len ≡ length items → take len (out ++ drop (length out) items) ≡ out
whole_piece out items len same is = take_at out (drop (length out) items) len (same ∙ sym is)
