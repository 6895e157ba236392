-- The first element of a list that passes a test, and its place.
use Rattle.std.proofs.Common.{◌≡◌, ℕ, zero, suc, ◌+◌, ◌-◌, ◌<◌, ◌≤◌, Bool, true, false, cond, List, [], ◌∷◌, ◌++◌, length, get_or, Option, Some, None, arith, refl, ap, sym, take, reverse, ◌||◌, nat_lt, is_some, add-zero, length-take, ◌∙◌}
use Rattle.std.proofs.lemmas.List.{take_more, reverse-append}
use Rattle.std.proofs.lemmas.List.Folds.{list_any-append}
use Rattle.std.proofs.lemmas.Bool.Decides.{nat_tests}
use Rattle.std.specs.Prelude.{find}
use Rattle.std.specs.List.{position_from, list_any}
use Rattle.std.specs.Option.{option_or, option_map_or}

pub find-none : {X : Type 0} (p : X → Bool) (n : ℕ) (xs : List X) → position_from p n xs ≡ None → find p xs ≡ None
find-none p n [] e = refl
find-none p n (x ∷ xs) e =
    elim (p x) as (λ b. cond b (Some n) (position_from p (n + 1) xs) ≡ None → cond b (Some x) (find p xs) ≡ None) [
      | true ↦ λ h. cc
      | false ↦ λ h. find-none p (n + 1) xs h
    ] e

-- a place counts from n, and is within the list
pub place_within : {X : Type 0} (p : X → Bool) (n : ℕ) (xs : List X) (i : ℕ) → position_from p n xs ≡ Some i → (n ≤ i) × (i < n + length xs)
place_within p n [] i e = cc
place_within p n (x ∷ xs) i e =
    elim (p x) as (λ b. cond b (Some n) (position_from p (n + 1) xs) ≡ Some i → (n ≤ i) × (i < n + length (x ∷ xs))) [
      | true ↦ λ h.
          let same : n ≡ i = cc in
          (omega arith, omega arith)
      | false ↦ λ h.
          let later = place_within p (n + 1) xs i h in
          (omega (arith, later.0), omega (arith, later.1))
    ] e

-- the element that is found stands at the place
pub find-some : {X : Type 0} (p : X → Bool) (n : ℕ) (xs : List X) (i : ℕ) (d : X) → position_from p n xs ≡ Some i → find p xs ≡ Some (get_or xs (i - n) d)
find-some p n [] i d e = cc
find-some p n (x ∷ xs) i d e =
    elim (p x) as (λ b. cond b (Some n) (position_from p (n + 1) xs) ≡ Some i → cond b (Some x) (find p xs) ≡ Some (get_or (x ∷ xs) (i - n) d)) [
      | true ↦ λ h.
          let same : n ≡ i = cc in
          let zero_on : i - n ≡ 0 = omega arith in
          rw zero_on refl
      | false ↦ λ h.
          let later = place_within p (n + 1) xs i h in
          let more : i - n ≡ suc (i - (n + 1)) = omega (arith, later.0) in
          rw more (find-some p (n + 1) xs i d h)
    ] e

pub position_from-push : {X : Type 0} (p : X → Bool) (n : ℕ) (xs : List X) (x : X) → position_from p n (xs ++ x ∷ []) ≡ option_or (position_from p n xs) (cond (p x) (Some (n + length xs)) None)
position_from-push p n [] x = rw add-zero refl
position_from-push p n (y ∷ xs) x =
    elim (p y) as (λ b. cond b (Some n) (position_from p (n + 1) (xs ++ x ∷ [])) ≡ option_or (cond b (Some n) (position_from p (n + 1) xs)) (cond (p x) (Some (n + length (y ∷ xs))) None)) [
      | true ↦ refl
      | false ↦
          let e = position_from-push p (n + 1) xs x in
          let k : n + 1 + length xs ≡ n + suc (length xs) = omega arith in
          e ∙ ap (λ m. option_or (position_from p (n + 1) xs) (cond (p x) (Some m) None)) k
    ]

-- the same at the list's beginning
pub place_in_list : {X : Type 0} (p : X → Bool) (xs : List X) (i : ℕ) → position_from p 0 xs ≡ Some i → i < length xs
place_in_list p xs i e = omega (arith, (place_within p 0 xs i e).1)

pub find-at : {X : Type 0} (p : X → Bool) (xs : List X) (i : ℕ) (x : X) → position_from p 0 xs ≡ Some i → x ≡ get_or xs i x → find p xs ≡ Some x
find-at p xs i x e at_i =
    let there : i - 0 ≡ i = omega arith in
    find-some p 0 xs i x e ∙ ap (λ k. Some (get_or xs k x)) there ∙ ap Some (sym at_i)

-- one element more is looked at
pub place-more : {X : Type 0} (p : X → Bool) (xs : List X) (i : ℕ) (x : X) → i < length xs → x ≡ get_or xs i x → position_from p 0 (take (i + 1) xs) ≡ option_or (position_from p 0 (take i xs)) (cond (p x) (Some i) None)
place-more p xs i x within at_i =
    let more = take_more xs i x within in
    let len : 0 + length (take i xs) ≡ i = simp length-take (omega arith) in
    rw (more, ← at_i) (position_from-push p 0 (take i xs) x ∙ ap (λ k. option_or (position_from p 0 (take i xs)) (cond (p x) (Some k) None)) len)

-- what stands before a place
pub list_any-reverse : {X : Type 0} (p : X → Bool) (xs : List X) → list_any p (reverse xs) ≡ list_any p xs
list_any-reverse p [] = refl
list_any-reverse p (x ∷ xs) =
    ap (list_any p) (reverse-append (x ∷ []) xs) ∙ list_any-append p (reverse xs) (x ∷ []) ∙ last (p x) (list_any p (reverse xs)) (list_any p xs) (list_any-reverse p xs)
  where
    last : (a b c : Bool) → b ≡ c → (b || (a || false)) ≡ (a || c)
    last true true c e = refl
    last true false c e = refl
    last false true c e = e
    last false false c e = e

pub list_any-before : {X : Type 0} (p : X → Bool) (n : ℕ) (xs : List X) (at : ℕ) → list_any p (take at xs) ≡ option_map_or (λ place. nat_lt place (n + at)) (position_from p n xs) false
list_any-before p n [] zero = refl
list_any-before p n [] (suc at) = refl
list_any-before p n (x ∷ xs) zero = sym (none_before (position_from p n (x ∷ xs)) (λ i e. (place_within p n (x ∷ xs) i e).0))
  where
    none_before : (r : Option ℕ) → ((i : ℕ) → r ≡ Some i → n ≤ i) → option_map_or (λ place. nat_lt place (n + 0)) r false ≡ false
    none_before None h = refl
    none_before (Some i) h = let later : n ≤ i = h i refl in grind (arith, nat_tests)
list_any-before p n (x ∷ xs) (suc at) =
    elim (p x) as (λ b. (b || list_any p (take at xs)) ≡ option_map_or (λ place. nat_lt place (n + suc at)) (cond b (Some n) (position_from p (n + 1) xs)) false) [
      | true ↦ here n at
      | false ↦
          let e = list_any-before p (n + 1) xs at in
          let k : n + 1 + at ≡ n + suc at = omega arith in
          e ∙ ap (λ m. option_map_or (λ place. nat_lt place m) (position_from p (n + 1) xs) false) k
    ]
  where
    here : (n at : ℕ) → true ≡ nat_lt n (n + suc at)
    here n at = grind (arith, nat_tests)

pub list_any-somewhere : {X : Type 0} (p : X → Bool) (n : ℕ) (xs : List X) → list_any p xs ≡ is_some (position_from p n xs)
list_any-somewhere p n [] = refl
list_any-somewhere p n (x ∷ xs) =
    elim (p x) as (λ b. (b || list_any p xs) ≡ is_some (cond b (Some n) (position_from p (n + 1) xs))) [
      | true ↦ refl
      | false ↦ list_any-somewhere p (n + 1) xs
    ]

-- the past with one entry more
pub past-more : {X : Type 0} (xs : List X) (i : ℕ) (x : X) → i < length xs → x ≡ get_or xs i x → reverse (take (i + 1) xs) ≡ x ∷ reverse (take i xs)
past-more xs i x within at_i =
    let more = take_more xs i x within in
    rw (more, ← at_i) (reverse-append (take i xs) (x ∷ []))
