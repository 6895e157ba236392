-- The blocks below a number that pass a test.
use Rattle.std.proofs.Common.{◌≡◌, ℕ, ◌+◌, Bool, true, false, List, [], ◌∷◌, ◌++◌, cond, sym, ap, ◌∙◌, arith}
use Rattle.std.specs.List.{filter, range_with_len}
use Rattle.std.proofs.lemmas.List.{append-nil, map-id}
use Rattle.std.proofs.lemmas.List.FromFn.{filter_of_map_range_with_len_more}

-- those below one number more
named_more : (p : ℕ → Bool) (n : ℕ) → filter p (range_with_len 0 (n + 1)) ≡ filter p (range_with_len 0 n) ++ cond (p n) (n ∷ []) []
named_more p n =
    ap (λ (l : List ℕ). filter p l) (sym (map-id (range_with_len 0 (n + 1))))
    ∙ filter_of_map_range_with_len_more p (λ k. k) 0 n n (omega arith)
    ∙ ap (λ (l : List ℕ). filter p l ++ cond (p n) (n ∷ []) []) (map-id (range_with_len 0 n))

-- the next number passes
pub named_yes : (p : ℕ → Bool) (n : ℕ) (blocks new : List ℕ) → p n ≡ true → blocks ≡ filter p (range_with_len 0 n) → new ≡ blocks ++ n ∷ [] → new ≡ filter p (range_with_len 0 (n + 1))
named_yes p n blocks new passes is pushed =
    pushed ∙ ap (λ (l : List ℕ). l ++ n ∷ []) is
    ∙ sym (named_more p n ∙ ap (λ (b : Bool). filter p (range_with_len 0 n) ++ cond b (n ∷ []) []) passes)

-- the next number doesn't
pub named_no : (p : ℕ → Bool) (n : ℕ) (blocks new : List ℕ) → p n ≡ false → blocks ≡ filter p (range_with_len 0 n) → new ≡ blocks → new ≡ filter p (range_with_len 0 (n + 1))
named_no p n blocks new fails is same =
    same ∙ is
    ∙ sym (named_more p n ∙ ap (λ (b : Bool). filter p (range_with_len 0 n) ++ cond b (n ∷ []) []) fails ∙ append-nil (filter p (range_with_len 0 n)))
