-- An array that is filled from its front.
use Rattle.std.proofs.Common.{◌≡◌, ℕ, ◌+◌, ◌-◌, ◌<◌, List, [], ◌∷◌, ◌++◌, map, replicate, set, suc, sym, ap, ◌∙◌, arith, append_assoc}
use Rattle.std.specs.List.{range_with_len}
use Rattle.std.proofs.lemmas.List.{set_at}
use Rattle.std.proofs.lemmas.List.FromFn.{length-map-range_with_len, map-range_with_len_more}

-- one place more of an array of n places is filled
pub filled_more : {A : Type 0} (f : ℕ → A) (d : A) (n i : ℕ) (xs : List A) → i < n
    → xs ≡ map f (range_with_len 0 i) ++ replicate (n - i) d
    → set xs i (f i) ≡ map f (range_with_len 0 (i + 1)) ++ replicate (n - (i + 1)) d
filled_more {A = A} f d n i xs within is =
    let more : n - i ≡ suc (n - (i + 1)) = omega arith in
    let split : xs ≡ map f (range_with_len 0 i) ++ d ∷ replicate (n - (i + 1)) d = is ∙ ap (λ (k : ℕ). map f (range_with_len 0 i) ++ replicate k d) more in
    ap (λ (l : List A). set l i (f i)) split
    ∙ set_at (map f (range_with_len 0 i)) d (replicate (n - (i + 1)) d) (f i) i (length-map-range_with_len f 0 i)
    ∙ sym (append_assoc (map f (range_with_len 0 i)) (f i ∷ []) (replicate (n - (i + 1)) d))
    ∙ ap (λ (front : List A). front ++ replicate (n - (i + 1)) d) (sym (map-range_with_len_more f 0 i i (omega arith)))
