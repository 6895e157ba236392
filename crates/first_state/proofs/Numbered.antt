-- Lists with numbers, from their fronts on.
use Rattle.std.proofs.Common.{◌≡◌, ◌+◌, ◌<◌, ℕ, List, [], ◌∷◌, ◌++◌, zero, suc, length, take, get_or, arith}
use Rattle.std.specs.List.{enumerate_from, range_with_len}

-- one number more
pub range_more : (a n : ℕ) → range_with_len a (n + 1) ≡ range_with_len a n ++ (a + n) ∷ []
range_more a zero = grind arith
range_more a (suc n) = grind (arith, range_more (a + 1) n)

-- one item more is numbered
pub numbered_more : {A : Type 0} (k : ℕ) (xs : List A) (i : ℕ) (d : A) → i < length xs
    → enumerate_from k (take (i + 1) xs) ≡ enumerate_from k (take i xs) ++ (k + i, get_or xs i d) ∷ []
numbered_more k [] i d within = grind arith
numbered_more k (x ∷ xs) zero d within = grind arith
numbered_more k (x ∷ xs) (suc i) d within = grind (arith, numbered_more (k + 1) xs i d (omega arith))
