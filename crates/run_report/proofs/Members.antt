-- A text for each number in turn.
use Rattle.std.proofs.Common.{◌≡◌, ℕ, zero, suc, ◌+◌, List, ◌++◌, flat_map, arith, sym, ap, append_assoc, append-nil, add-one, ◌∙◌}
use Rattle.std.specs.List.{range_with_len}

numbers-more : (f : ℕ → List ℕ) (a n j : ℕ) → a + n ≡ j → flat_map f (range_with_len a (suc n)) ≡ flat_map f (range_with_len a n) ++ f j
numbers-more f a zero j e =
    let same : a ≡ j = omega arith in
    append-nil (f a) ∙ ap f same
numbers-more f a (suc n) j e =
    ap (λ t. f a ++ t) (numbers-more f (a + 1) n j (omega arith)) ∙ sym (append_assoc (f a) _ (f j))

pub flat_map-range-more : (f : ℕ → List ℕ) (n : ℕ) → flat_map f (range_with_len 0 n) ++ f n ≡ flat_map f (range_with_len 0 (n + 1))
flat_map-range-more f n = rw add-one (sym (numbers-more f 0 n n (omega arith)))
