-- Lists in the order of a number of each item.
use Rattle.std.proofs.Common.{◌≡◌, ℕ, zero, suc, ◌+◌, ◌<◌, ◌≤◌, Bool, true, false, not, ◌&&◌, cond, nat_lt, List, [], ◌∷◌, length, get_or, map, refl, sym, ap, subst, ◌∙◌, arith, Bor}
use denote.Param.Members.{Mut}
use Rattle.std.specs.Fn.{Called, ComputesKey}
use Rattle.std.specs.List.{AllByRecursion, filter}
use Rattle.std.specs.List.Sorted.{IsNonDecreasingBy, IsPermutation, IsSortedByKey, IsStableByKey}
use Rattle.std.specs.Ordering.{is_lt, nat_cmp}
use Rattle.std.proofs.lemmas.Bool.{cond_both}
use Rattle.std.proofs.lemmas.Bool.Decides.{nat_tests}
use Rattle.std.proofs.lemmas.Fn.{always_returns_same}
use Rattle.std.proofs.lemmas.List.Sorted.{IsNonDecreasingBy-from_sort, IsPermutation-cons, IsPermutation-middle, IsPermutation-refl, IsPermutation-sym, IsPermutation-trans}
use borrow.Author.Tests.{ltb-true, ltb-false}
use Rattle.redo_merge.specs.Merge.{placed, sorted}

-- neither number is below the other
abbrev tied : ℕ → ℕ → Bool
tied a b = not (is_lt (nat_cmp a b)) && not (is_lt (nat_cmp b a))

tied_same : (a b : ℕ) → tied a b ≡ true → a ≡ b
tied_same a b tie = grind (arith, nat_tests)

same_tied : (a b : ℕ) → a ≡ b → tied a b ≡ true
same_tied a b same = grind (arith, nat_tests)

-- two items in the one order or in the other, where not both are taken
either_order : {X : Type 0} (with_x with_y : Bool) (x y : X) (ys : List X) → (with_x ≡ true → with_y ≡ true → ⊥)
    → cond with_y (y ∷ cond with_x (x ∷ ys) ys) (cond with_x (x ∷ ys) ys) ≡ cond with_x (x ∷ cond with_y (y ∷ ys) ys) (cond with_y (y ∷ ys) ys)
either_order true true x y ys apart = absurd (apart refl refl)
either_order true false x y ys apart = refl
either_order false true x y ys apart = refl
either_order false false x y ys apart = refl

first_of_two : {X : Type 0} (x y : X) (xs ys : List X) → x ∷ xs ≡ y ∷ ys → x ≡ y
first_of_two x y xs ys same = cc

others_of_two : {X : Type 0} (x y : X) (xs ys : List X) → x ∷ xs ≡ y ∷ ys → xs ≡ ys
others_of_two x y xs ys same = cc

-- lists that are taken with the same first item or without it are the same
without_first : {X : Type 0} (taken : Bool) (x : X) (xs ys : List X) → cond taken (x ∷ xs) xs ≡ cond taken (x ∷ ys) ys → xs ≡ ys
without_first true x xs ys same = others_of_two x x xs ys same
without_first false x xs ys same = same

cond_true : {A : Type 0} (b : Bool) (x y : A) → b ≡ true → cond b x y ≡ x
cond_true true x y is = refl
cond_true false x y is = cc

cond_false : {A : Type 0} (b : Bool) (x y : A) → b ≡ false → cond b x y ≡ y
cond_false true x y is = cc
cond_false false x y is = refl

module _ {X : Type 0} (number : X → ℕ) where
  -- no item's number is below this one
  abbrev pub AtLeast : ℕ → List X → Type 0
  AtLeast a xs = AllByRecursion (λ x. a ≤ number x) xs

  -- no item's number is below that of one before it
  abbrev pub Rises : List X → Type 0
  Rises [] = Unit {0}
  Rises (x ∷ xs) = AtLeast (number x) xs × Rises xs

  pub lower : (a b : ℕ) (xs : List X) → a ≤ b → AtLeast b xs → AtLeast a xs
  lower a b [] low all = tt
  lower a b (x ∷ xs) low all = (omega arith, lower a b xs low all.1)

  pub all-placed : (P : X → Type 0) (x : X) (ys : List X) → P x → AllByRecursion P ys → AllByRecursion P (placed number x ys)
  all-placed P x [] one all = (one, tt)
  all-placed P x (y ∷ ys) one all =
      cond_both (nat_lt (number y) (number x)) (y ∷ placed number x ys) (x ∷ y ∷ ys) (AllByRecursion P)
      (λ below. (all.0, all-placed P x ys one all.1))
      (λ not_below. (one, all))

  pub all-sorted : (P : X → Type 0) (xs : List X) → AllByRecursion P xs → AllByRecursion P (sorted number xs)
  all-sorted P [] all = tt
  all-sorted P (x ∷ xs) all = all-placed P x (sorted number xs) all.0 (all-sorted P xs all.1)

  pub Rises-placed : (x : X) (ys : List X) → Rises ys → Rises (placed number x ys)
  Rises-placed x [] up = (tt, tt)
  Rises-placed x (y ∷ ys) up =
      cond_both (nat_lt (number y) (number x)) (y ∷ placed number x ys) (x ∷ y ∷ ys) Rises
      (λ below. let less = ltb-true (number y) (number x) below in (all-placed (λ w. number y ≤ number w) x ys (omega arith) up.0, Rises-placed x ys up.1))
      (λ not_below. let least = ltb-false (number y) (number x) not_below in ((least, lower (number x) (number y) ys least up.0), up))

  pub Rises-sorted : (xs : List X) → Rises (sorted number xs)
  Rises-sorted [] = tt
  Rises-sorted (x ∷ xs) = Rises-placed x (sorted number xs) (Rises-sorted xs)

  pub IsPermutation-placed : (x : X) (ys : List X) → IsPermutation (x ∷ ys) (placed number x ys)
  IsPermutation-placed x [] = IsPermutation-refl (x ∷ [])
  IsPermutation-placed x (y ∷ ys) =
      cond_both (nat_lt (number y) (number x)) (y ∷ placed number x ys) (x ∷ y ∷ ys) (IsPermutation (x ∷ y ∷ ys))
      (λ below. IsPermutation-trans (x ∷ y ∷ ys) (y ∷ x ∷ ys) (y ∷ placed number x ys)
      (IsPermutation-middle (x ∷ []) y ys) (IsPermutation-cons y (x ∷ ys) (placed number x ys) (IsPermutation-placed x ys)))
      (λ not_below. IsPermutation-refl (x ∷ y ∷ ys))

  pub IsPermutation-sorted : (xs : List X) → IsPermutation xs (sorted number xs)
  IsPermutation-sorted [] = IsPermutation-refl []
  IsPermutation-sorted (x ∷ xs) =
      IsPermutation-trans (x ∷ xs) (x ∷ sorted number xs) (placed number x (sorted number xs))
      (IsPermutation-cons x xs (sorted number xs) (IsPermutation-sorted xs)) (IsPermutation-placed x (sorted number xs))

  at_least_of : (a : ℕ) (xs : List X) → ((k : ℕ) (d : X) → k < length xs → a ≤ number (get_or xs k d)) → AtLeast a xs
  at_least_of a [] low = tt
  at_least_of a (x ∷ xs) low = (low 0 x (omega arith), at_least_of a xs (λ k d within. low (suc k) d (omega arith)))

  pub Rises-from_non_decreasing : (xs : List X) → IsNonDecreasingBy number xs → Rises xs
  Rises-from_non_decreasing [] up = tt
  Rises-from_non_decreasing (x ∷ xs) up = (
    at_least_of (number x) xs (λ k d within. up 0 (suc k) d (omega arith) (omega arith)),
    Rises-from_non_decreasing xs (λ i j d below within. up (suc i) (suc j) d (omega arith) (omega arith)),
  )

  -- the items whose numbers tie with that of this one
  abbrev tying : X → List X → List X
  tying z xs = filter (λ y. tied (number z) (number y)) xs

  tying-placed : (z x : X) (ys : List X) → tying z (placed number x ys) ≡ tying z (x ∷ ys)
  tying-placed z x [] = refl
  tying-placed z x (y ∷ ys) =
      cond_both (nat_lt (number y) (number x)) (y ∷ placed number x ys) (x ∷ y ∷ ys) (λ (l : List X). tying z l ≡ tying z (x ∷ y ∷ ys))
      (λ below. let less = ltb-true (number y) (number x) below in
      ap (λ (l : List X). cond (tied (number z) (number y)) (y ∷ l) l) (tying-placed z x ys)
      ∙ either_order (tied (number z) (number x)) (tied (number z) (number y)) x y (tying z ys)
      (λ with_x with_y. let ex = tied_same (number z) (number x) with_x in let ey = tied_same (number z) (number y) with_y in omega arith))
      (λ not_below. refl)

  tying-sorted : (z : X) (xs : List X) → tying z (sorted number xs) ≡ tying z xs
  tying-sorted z [] = refl
  tying-sorted z (x ∷ xs) = tying-placed z x (sorted number xs) ∙ ap (λ (l : List X). cond (tied (number z) (number x)) (x ∷ l) l) (tying-sorted z xs)

  -- where some item ties with one, and none is below a number, that one isn't below it
  tie_at_least : (a : ℕ) (z w : X) (xs ws : List X) → tying z xs ≡ w ∷ ws → AtLeast a xs → a ≤ number z
  tie_at_least a z w [] ws some all = cc
  tie_at_least a z w (x ∷ xs) ws some all =
      let P : List X → Type 0 = λ (l : List X). l ≡ w ∷ ws → a ≤ number z in
      cond_both (tied (number z) (number x)) (x ∷ tying z xs) (tying z xs) P
      (λ ties here. let same = tied_same (number z) (number x) ties in let low = all.0 in omega arith)
      (λ apart here. tie_at_least a z w xs ws here all.1)
      some

  tying_itself : (x : X) (xs : List X) → tying x (x ∷ xs) ≡ x ∷ tying x xs
  tying_itself x xs = cond_true (tied (number x) (number x)) (x ∷ tying x xs) (tying x xs) (same_tied (number x) (number x) refl)

  -- two lists that rise are the same where the items that tie are the same in both, in the same order
  rising_same : (xs ys : List X) → Rises xs → Rises ys → ((z : X) → tying z xs ≡ tying z ys) → xs ≡ ys
  rising_same [] [] up up' same = refl
  rising_same [] (y ∷ ys) up up' same = let e = same y ∙ tying_itself y ys in cc
  rising_same (x ∷ xs) [] up up' same = let e = sym (tying_itself x xs) ∙ same x in cc
  rising_same (x ∷ xs) (y ∷ ys) up up' same =
      let low : number y ≤ number x = tie_at_least (number y) x x (y ∷ ys) (tying x xs) (sym (same x) ∙ tying_itself x xs) (omega arith, up'.0) in
      let high : number x ≤ number y = tie_at_least (number x) y y (x ∷ xs) (tying y ys) (same y ∙ tying_itself y ys) (omega arith, up.0) in
      let e : x ≡ y = first_of_two x y (tying x xs) (tying x ys)
      (sym (tying_itself x xs) ∙ (same x ∙ cond_true (tied (number x) (number y)) (y ∷ tying x ys) (tying x ys) (same_tied (number x) (number y) (omega arith)))) in
      let others : (z : X) → tying z xs ≡ tying z ys =
      λ z. without_first (tied (number z) (number x)) x (tying z xs) (tying z ys)
      (same z ∙ ap (λ (w : X). cond (tied (number z) (number w)) (w ∷ tying z ys) (tying z ys)) (sym e)) in
      let rest = rising_same xs ys up.1 up'.1 others in
      cc

  -- what a stable sort leaves is the list in order
  pub sorted-from_stable : (xs ys : List X) → IsSortedByKey number nat_cmp ys → IsStableByKey number nat_cmp xs ys → ys ≡ sorted number xs
  sorted-from_stable xs ys up stable =
      rising_same ys (sorted number xs) (Rises-from_non_decreasing ys (IsNonDecreasingBy-from_sort number ys up)) (Rises-sorted xs)
      (λ z. stable z ∙ sym (tying-sorted z xs))

  -- the same from the clauses of a sort by a key
  pub sorted-from_sort_by_key : {F : Type 0} {g : Mut F (Bor X × Unit {0}) ℕ} {f : F} (xs ys : List X)
      → ((key : X → ℕ) → ComputesKey g key f → IsSortedByKey key nat_cmp ys)
      → ((key : X → ℕ) → ComputesKey g key f → IsStableByKey key nat_cmp xs ys)
      → ((a : Bor X × Unit {0}) (r : ℕ) (f' : F) → Called g f a r f' → (r ≡ number a.0.now) × (f' ≡ f)) → ys ≡ sorted number xs
  sorted-from_sort_by_key {g = g} {f = f} xs ys up stable calls =
      let computes = always_returns_same g (λ a r. r ≡ number a.0.now) f calls in
      sorted-from_stable xs ys (up number computes) (stable number computes)

  placed-first : (x : X) (ys : List X) → AtLeast (number x) ys → placed number x ys ≡ x ∷ ys
  placed-first x [] low = refl
  placed-first x (y ∷ ys) low =
      cond_both (nat_lt (number y) (number x)) (y ∷ placed number x ys) (x ∷ y ∷ ys) (λ (l : List X). l ≡ x ∷ y ∷ ys)
      (λ below. let less = ltb-true (number y) (number x) below in let least = low.0 in absurd (omega arith))
      (λ not_below. refl)

  -- a list that rises is in order already
  pub sorted-rising : (xs : List X) → Rises xs → sorted number xs ≡ xs
  sorted-rising [] up = refl
  sorted-rising (x ∷ xs) up = ap (placed number x) (sorted-rising xs up.1) ∙ placed-first x xs up.0

  module _ (taken : X → Bool) where
    AtLeast-filter : (a : ℕ) (xs : List X) → AtLeast a xs → AtLeast a (filter taken xs)
    AtLeast-filter a [] low = tt
    AtLeast-filter a (x ∷ xs) low =
        cond_both (taken x) (x ∷ filter taken xs) (filter taken xs) (AtLeast a)
        (λ is. (low.0, AtLeast-filter a xs low.1)) (λ is_not. AtLeast-filter a xs low.1)

    filter-placed_taken : (x : X) (ys : List X) → taken x ≡ true → Rises ys → filter taken (placed number x ys) ≡ placed number x (filter taken ys)
    filter-placed_taken x [] is up = cond_true (taken x) (x ∷ []) [] is
    filter-placed_taken x (y ∷ ys) is up =
        cond_both (nat_lt (number y) (number x)) (y ∷ placed number x ys) (x ∷ y ∷ ys)
        (λ (l : List X). filter taken l ≡ placed number x (filter taken (y ∷ ys)))
        (λ below. ap (λ (l : List X). cond (taken y) (y ∷ l) l) (filter-placed_taken x ys is up.1)
        ∙ cond_both (taken y) (y ∷ filter taken ys) (filter taken ys)
        (λ (l : List X). cond (taken y) (y ∷ placed number x (filter taken ys)) (placed number x (filter taken ys)) ≡ placed number x l)
        (λ with_y. cond_true (taken y) (y ∷ placed number x (filter taken ys)) (placed number x (filter taken ys)) with_y
        ∙ sym (cond_true (nat_lt (number y) (number x)) (y ∷ placed number x (filter taken ys)) (x ∷ y ∷ filter taken ys) below))
        (λ without_y. cond_false (taken y) (y ∷ placed number x (filter taken ys)) (placed number x (filter taken ys)) without_y))
        (λ not_below. let least = ltb-false (number y) (number x) not_below in
        cond_true (taken x) (x ∷ filter taken (y ∷ ys)) (filter taken (y ∷ ys)) is
        ∙ sym (placed-first x (filter taken (y ∷ ys)) (AtLeast-filter (number x) (y ∷ ys) (least, lower (number x) (number y) ys least up.0))))

    filter-placed_left : (x : X) (ys : List X) → taken x ≡ false → filter taken (placed number x ys) ≡ filter taken ys
    filter-placed_left x [] is_not = cond_false (taken x) (x ∷ []) [] is_not
    filter-placed_left x (y ∷ ys) is_not =
        cond_both (nat_lt (number y) (number x)) (y ∷ placed number x ys) (x ∷ y ∷ ys)
        (λ (l : List X). filter taken l ≡ filter taken (y ∷ ys))
        (λ below. ap (λ (l : List X). cond (taken y) (y ∷ l) l) (filter-placed_left x ys is_not))
        (λ not_below. cond_false (taken x) (x ∷ filter taken (y ∷ ys)) (filter taken (y ∷ ys)) is_not)

    -- what is taken of a list in order is what is taken of the list, in order
    pub filter-sorted : (xs : List X) → filter taken (sorted number xs) ≡ sorted number (filter taken xs)
    filter-sorted [] = refl
    filter-sorted (x ∷ xs) =
        cond_both (taken x) (x ∷ filter taken xs) (filter taken xs)
        (λ (l : List X). filter taken (placed number x (sorted number xs)) ≡ sorted number l)
        (λ is. filter-placed_taken x (sorted number xs) is (Rises-sorted xs) ∙ ap (placed number x) (filter-sorted xs))
        (λ is_not. filter-placed_left x (sorted number xs) is_not ∙ filter-sorted xs)
