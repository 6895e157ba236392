-- Places of a list, and sums over the seats.
use Rattle.std.proofs.Common.{◌≡◌, ◌≢◌, ℕ, zero, suc, ◌+◌, ◌%◌, ◌^◌, ◌<◌, ◌≤◌, List, [], ◌∷◌, ◌++◌, length, set, slice_get, refl, sym, ap, arith, Some, ◌⊎◌, ⊎_elim, inl, inr, subst, All, cond, eqb, eq-eqb, ne_eqb, Bool, true, false, ◌||◌}
use mathlib.Core.Option.{some, some-injective, some-ne-none}
use lib.ListN.{get_elem?}
use Rattle.atomic_table.proofs.Lists.{at_set}
use Rattle.step_book.specs.Turns.{total}

module _ {A : Type 0} where
  pub get_set_here : (l : List A) (i : ℕ) (a b : A) → slice_get l i ≡ Some b → slice_get (set l i a) i ≡ Some a
  get_set_here [] i a b e = cc
  get_set_here (x ∷ xs) zero a b e = refl
  get_set_here (x ∷ xs) (suc i) a b e = get_set_here xs i a b e

  pub get_set_else : (l : List A) (i j : ℕ) (a : A) → j ≢ i → slice_get (set l i a) j ≡ slice_get l j
  get_set_else [] i j a n = refl
  get_set_else (x ∷ xs) zero zero a n = absurd (n refl)
  get_set_else (x ∷ xs) zero (suc j) a n = refl
  get_set_else (x ∷ xs) (suc i) zero a n = refl
  get_set_else (x ∷ xs) (suc i) (suc j) a n = get_set_else xs i j a (λ e. n (ap suc e))

  pub set_same : (l : List A) (i : ℕ) (a : A) → slice_get l i ≡ Some a → l ≡ set l i a
  set_same [] i a e = refl
  set_same (x ∷ xs) zero a e = let h : x ≡ a = cc in ap (λ y. y ∷ xs) h
  set_same (x ∷ xs) (suc i) a e = ap (λ ys. x ∷ ys) (set_same xs i a e)

  pub set_twice : (l : List A) (i : ℕ) (a b : A) → set (set l i a) i b ≡ set l i b
  set_twice [] i a b = refl
  set_twice (x ∷ xs) zero a b = refl
  set_twice (x ∷ xs) (suc i) a b = ap (λ ys. x ∷ ys) (set_twice xs i a b)

  pub at_within : (l : List A) (i : ℕ) (a : A) → get_elem? l i ≡ some a → i < length l
  at_within [] i a e = absurd (some-ne-none a (sym e))
  at_within (x ∷ xs) zero a e = omega arith
  at_within (x ∷ xs) (suc i) a e = let h = at_within xs i a e in omega arith

  pub total_set : (f : A → ℕ) (l : List A) (i : ℕ) (v w : A) → get_elem? l i ≡ some v → total f (set l i w) + f v ≡ total f l + f w
  total_set f [] i v w e = absurd (some-ne-none v (sym e))
  total_set f (x ∷ xs) zero v w e = let h : f x ≡ f v = ap f (some-injective x v e) in omega arith
  total_set f (x ∷ xs) (suc i) v w e = let h = total_set f xs i v w e in omega arith

  pub total_more : (f : A → ℕ) (l m : List A) → total f (l ++ m) ≡ total f l + total f m
  total_more f [] m = omega arith
  total_more f (x ∷ xs) m = let h = total_more f xs m in omega arith

  -- one of the terms is at most the sum
  pub total_at : (f : A → ℕ) (l : List A) (i : ℕ) (v : A) → get_elem? l i ≡ some v → f v ≤ total f l
  total_at f [] i v e = absurd (some-ne-none v (sym e))
  total_at f (x ∷ xs) zero v e = let h : f x ≡ f v = ap f (some-injective x v e) in omega arith
  total_at f (x ∷ xs) (suc i) v e = let h = total_at f xs i v e in omega arith

  -- so are two of them together
  pub total_two : (f : A → ℕ) (l : List A) (i j : ℕ) (v w : A) → get_elem? l i ≡ some v → get_elem? l j ≡ some w → j ≢ i → f v + f w ≤ total f l
  total_two f [] i j v w e e' n = absurd (some-ne-none v (sym e))
  total_two f (x ∷ xs) zero zero v w e e' n = absurd (n refl)
  total_two f (x ∷ xs) zero (suc j) v w e e' n = let h : f x ≡ f v = ap f (some-injective x v e) in let k = total_at f xs j w e' in omega arith
  total_two f (x ∷ xs) (suc i) zero v w e e' n = let h : f x ≡ f w = ap f (some-injective x w e') in let k = total_at f xs i v e in omega arith
  total_two f (x ∷ xs) (suc i) (suc j) v w e e' n = let h = total_two f xs i j v w e e' (λ q. n (ap suc q)) in omega arith

  -- where each term is at most 1, the sum is at most the length
  pub total_few : (f : A → ℕ) → ((x : A) → f x ≤ 1) → (l : List A) → total f l ≤ length l
  total_few f h [] = omega arith
  total_few f h (x ∷ xs) = let a = h x in let b = total_few f h xs in omega arith

pub next_mod : (n : ℕ) → (n % 2 ^ 64 + 1) % 2 ^ 64 ≡ (n + 1) % 2 ^ 64
next_mod n = omega arith

module _ {A : Type 0} where
  -- what holds of each seat still does where one of them changes
  pub all_set : (K : ℕ → A → Type 0) (l : List A) (i : ℕ) (w : A) → K i w → ((j : ℕ) (d : A) → j ≢ i → get_elem? l j ≡ some d → K j d)
      → (j : ℕ) (d : A) → get_elem? (set l i w) j ≡ some d → K j d
  all_set K l i w mine others j d e = ⊎_elim (λ (t : (j ≡ i) × (w ≡ d)). subst (λ (x : ℕ × A). K x.0 x.1) (λ k. (sym t.0 k, t.1 k)) mine)
      (λ (t : (j ≢ i) × (get_elem? l j ≡ some d)). others j d t.0 t.1) (at_set l i j w d e)

  at_end : (l : List A) (a b : A) (j : ℕ) → get_elem? (l ++ a ∷ []) j ≡ some b → (get_elem? l j ≡ some b) ⊎ ((j ≡ length l) × (a ≡ b))
  at_end [] a b zero e = inr (refl, some-injective a b e)
  at_end [] a b (suc j) e = absurd (some-ne-none b (sym e))
  at_end (x ∷ xs) a b zero e = inl e
  at_end (x ∷ xs) a b (suc j) e = ⊎_elim (λ h. inl h) (λ h. inr (omega arith, h.1)) (at_end xs a b j e)

  -- or where one is added
  pub all_added : (K : ℕ → A → Type 0) (l : List A) (w : A) → K (length l) w → ((j : ℕ) (d : A) → get_elem? l j ≡ some d → K j d)
      → (j : ℕ) (d : A) → get_elem? (l ++ w ∷ []) j ≡ some d → K j d
  all_added K l w mine others j d e = ⊎_elim (others j d) (λ (t : (j ≡ length l) × (w ≡ d)). subst (λ (x : ℕ × A). K x.0 x.1) (λ k. (sym t.0 k, t.1 k)) mine) (at_end l w d j e)

  pub all_right : (Q : A → Type 0) (xs ys : List A) → All Q (xs ++ ys) → All Q ys
  all_right Q [] ys h = h
  all_right Q (x ∷ xs) ys h = all_right Q xs ys (λ k d lt. h (suc k) d (omega arith))

  -- of two beginnings of a list the shorter one begins the longer one
  pub cut_right : (xs us ys vs : List A) → xs ++ us ≡ ys ++ vs → length xs ≤ length ys → (mid : List A) × (us ≡ mid ++ vs) × (ys ≡ xs ++ mid)
  cut_right [] us ys vs e h = (ys, e, refl)
  cut_right (x ∷ xs) us [] vs e h = absurd (omega arith)
  cut_right (x ∷ xs) us (y ∷ ys) vs e h =
      let same : x ≡ y = cc in let rest : xs ++ us ≡ ys ++ vs = cc in
      let r = cut_right xs us ys vs rest (omega arith) in (r.0, r.1, λ i. sym same i ∷ r.2 i)

  pub get_there : (l : List A) (i : ℕ) → i < length l → (a : A) × (slice_get l i ≡ Some a)
  get_there [] i h = absurd (omega arith)
  get_there (x ∷ xs) zero h = (x, refl)
  get_there (x ∷ xs) (suc i) h = get_there xs i (omega arith)

  pub total_none : (f : A → ℕ) (l : List A) → ((j : ℕ) (d : A) → get_elem? l j ≡ some d → f d ≡ 0) → total f l ≡ 0
  total_none f [] h = refl
  total_none f (x ∷ xs) h = let a = h 0 x refl in let b = total_none f xs (λ j. h (suc j)) in omega arith

-- the function f, with x at k
abbrev pub put : (ℕ → ℕ) → ℕ → ℕ → ℕ → ℕ
put f k x j = cond (eqb j k) x (f j)

pub put_here : (f : ℕ → ℕ) (k x : ℕ) → put f k x k ≡ x
put_here f k x = ap (λ b. cond b x (f k)) (eq-eqb k k refl)

pub put_else : (f : ℕ → ℕ) (k x j : ℕ) → j ≢ k → put f k x j ≡ f j
put_else f k x j n = ap (λ b. cond b x (f j)) (ne_eqb j k n)

pub false_of : (b : Bool) → ¬ b ≡ true → b ≡ false
false_of true n = absurd (n refl)
false_of false n = refl

pub either_of : (a b : Bool) → a || b ≡ true → (a ≡ true) ⊎ (b ≡ true)
either_of true b e = inl refl
either_of false b e = inr e
