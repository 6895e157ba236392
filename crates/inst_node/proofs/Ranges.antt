-- Lists that are made of the numbers from 0 on.
use Rattle.std.proofs.Common.{◌≡◌, ℕ, ◌+◌, List, [], ◌∷◌, ◌++◌, ap, sym, ◌∙◌, arith, append_assoc}
use Rattle.std.specs.List.{flat_map, range_with_len}
use Rattle.std.proofs.lemmas.List.{map-id}
use Rattle.std.proofs.lemmas.Grind.{flat_map-append}
use Rattle.std.proofs.lemmas.List.FromFn.{map-range_with_len_more}

-- one number more
range_more : (n : ℕ) → range_with_len 0 (n + 1) ≡ range_with_len 0 n ++ n ∷ []
range_more n =
    sym (map-id (range_with_len 0 (n + 1))) ∙ map-range_with_len_more (λ (k : ℕ). k) 0 n n (omega arith)
    ∙ ap (λ (front : List ℕ). front ++ n ∷ []) (map-id (range_with_len 0 n))

-- what one number more gives stands behind what those before it give
flats_more : {Y : Type 0} (h : ℕ → List Y) (n : ℕ) → flat_map h (range_with_len 0 (n + 1)) ≡ flat_map h (range_with_len 0 n) ++ (h n ++ [])
flats_more h n = ap (λ (l : List ℕ). flat_map h l) (range_more n) ∙ flat_map-append h (range_with_len 0 n) (n ∷ [])

-- the same behind other items
pub flat_step : {Y : Type 0} (h : ℕ → List Y) (n : ℕ) (front told now : List Y)
    → told ≡ front ++ flat_map h (range_with_len 0 n) → now ≡ told ++ (h n ++ []) → now ≡ front ++ flat_map h (range_with_len 0 (n + 1))
flat_step h n front told now so_far adds =
    adds ∙ ap (λ l. l ++ (h n ++ [])) so_far ∙ append_assoc front (flat_map h (range_with_len 0 n)) (h n ++ [])
    ∙ ap (λ l. front ++ l) (sym (flats_more h n))
