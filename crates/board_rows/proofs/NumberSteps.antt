-- The numbers of deeds and the wraps of slots are kept.
use Rattle.std.proofs.Common.{◌≡◌, ◌≢◌, ℕ, suc, ◌<◌, ◌≤◌, Bool, true, false, cond, ◌||◌, ◌==◌, List, [], ◌∷◌, ◌++◌, length, refl, sym, ap, ◌∙◌, subst, arith, inl, inr, ◌⊎◌}
use Rattle.std.specs.List.{AllByRecursion, filter}
use Rattle.std.proofs.lemmas.Bool.{eqb-true}
use Rattle.board_rows.proofs.Words.{Follows, Xid, same_xid, Deed, Record, Does, thread_of, scn_of, Rising, EachOver, recorded_in, IsNumbered, IsWithin, wrap_in, Numbers, stage, Fresh, Active}
use Rattle.board_rows.proofs.Lists.{cases, all_map, all_of}
use Rattle.board_rows.proofs.Losses.{older-kept, Kept, kept-other, own-other, fresh-kept}

-- an active transaction is within the wraps of its slot
wrap-active : (x : Xid) (recs : List Record) → stage x recs ≡ Active → x.wrap ≤ wrap_in x.seg x.slot recs
wrap-active x [] h = (cc)
wrap-active x (r ∷ recs) h = grind (arith, wrap-active x recs)

module _ {recs : List Record} {told since : ℕ → List (Xid × Deed)} {has ends : Xid → Bool} (h : Numbers recs told since has ends) where
  pub numbers-changes : (c : ℕ) (x : Xid) (seq : ℕ) (deed : Deed) → seq ≡ suc (length (recorded_in x.seg recs)) → (stage x recs ≡ Active) ⊎ (x.wrap ≡ suc (wrap_in x.seg x.slot recs))
      → Numbers (Does c x seq deed ∷ recs) (λ i. cond (i == x.seg) ((x, deed) ∷ told i) (told i)) (λ i. cond (i == x.seg) ((x, deed) ∷ since i) (since i)) (λ y. same_xid y x || has y) ends
  numbers-changes c x seq deed next mine = record { numbered = (next, h.numbered); newest = newest; within = within; wraps = wraps; ended = λ y e. grind (arith, h.ended y) }
    where
      newest : (i : ℕ) → (rest : List (Xid × Deed)) × (recorded_in i (Does c x seq deed ∷ recs) ≡ cond (i == x.seg) ((x, deed) ∷ since i) (since i) ++ rest)
      newest i = let n = h.newest i in (n.0, grind (arith, n.1))

      within : (i : ℕ) → IsWithin (recorded_in i (Does c x seq deed ∷ recs)) (cond (i == x.seg) ((x, deed) ∷ told i) (told i))
      within i = grind (arith, h.within i)

      wraps : (y : Xid) → 0 < y.wrap → y.wrap ≤ wrap_in y.seg y.slot (Does c x seq deed ∷ recs) → (same_xid y x || has y) ≡ true
      wraps y low up = grind (arith, cases, h.wraps y, wrap-active x recs)

-- all deeds of a segment are kept
did-kept : (i kept j : ℕ) (recs : List Record) → AllByRecursion (λ o. thread_of o ≡ j → Kept i kept o ≡ true) recs → recorded_in j (filter (Kept i kept) recs) ≡ recorded_in j recs
did-kept i kept j [] h = refl
did-kept i kept j (r ∷ recs) h = grind (arith, did-kept i kept j recs h.1)

module _ (i kept : ℕ) where
  same-number : (r : Record) (recs : List Record) → Kept i kept r ≡ true → AllByRecursion (λ o. thread_of o ≡ thread_of r → scn_of o < scn_of r) recs → IsNumbered r recs → IsNumbered r (filter (Kept i kept) recs)
  same-number (Does c x seq d) recs k above n = n ∙ ap (λ (ds : List (Xid × Deed)). suc (length ds)) (sym (did-kept i kept x.seg recs (all_map _ _ recs (λ o. older-kept i kept (Does c x seq d) o k) above)))
  same-number _ recs k above n = tt

  numbered-kept : (recs : List Record) → Rising recs → EachOver IsNumbered recs → EachOver IsNumbered (filter (Kept i kept) recs)
  numbered-kept [] rising h = tt
  numbered-kept (r ∷ recs) rising h = grind (arith, same-number r recs, numbered-kept recs)

  within-tail : (x : Xid × Deed) (xs ys : List (Xid × Deed)) → IsWithin (x ∷ xs) ys → IsWithin xs ys
  within-tail x xs [] h = absurd h
  within-tail x [] (y ∷ ys) h = tt
  within-tail x (z ∷ xs) (y ∷ ys) (inl h) = inr h.1
  within-tail x (z ∷ xs) (y ∷ ys) (inr h) = inr (within-tail x (z ∷ xs) ys h)

  within-kept : (j : ℕ) (recs : List Record) (ys : List (Xid × Deed)) → Rising recs → IsWithin (recorded_in j recs) ys → IsWithin (recorded_in j (filter (Kept i kept) recs)) ys
  within-kept j [] ys rising h = h
  within-kept j (r ∷ recs) ys rising h = here r (Kept i kept r) refl rising.0 h (λ g. within-kept j recs ys rising.1 g)
    where
      here : (r : Record) (t : Bool) → Kept i kept r ≡ t → AllByRecursion (λ o. thread_of o ≡ thread_of r → scn_of o < scn_of r) recs → IsWithin (recorded_in j (r ∷ recs)) ys → (IsWithin (recorded_in j recs) ys → IsWithin (recorded_in j (filter (Kept i kept) recs)) ys)
          → IsWithin (recorded_in j (cond t (r ∷ filter (Kept i kept) recs) (filter (Kept i kept) recs))) ys
      here (Does c x seq d) t e above h ih = go (j == x.seg) refl t e h
        where
          go : (u : Bool) → (j == x.seg) ≡ u → (t : Bool) → Kept i kept (Does c x seq d) ≡ t → IsWithin (cond u ((x, d) ∷ recorded_in j recs) (recorded_in j recs)) ys → IsWithin (recorded_in j (cond t (Does c x seq d ∷ filter (Kept i kept) recs) (filter (Kept i kept) recs))) ys
          go true f false e h = ih (within-tail (x, d) (recorded_in j recs) ys h)
          go false f false e h = ih h
          go false f true e h = rw f (ih h)
          go true f true e h =
              let at_j : j ≡ x.seg = eqb-true j x.seg f in
              let same : recorded_in j (filter (Kept i kept) recs) ≡ recorded_in j recs = rw at_j (did-kept i kept x.seg recs (all_map _ _ recs (λ o. older-kept i kept (Does c x seq d) o e) above)) in
              rw f (subst (λ (ds : List (Xid × Deed)). IsWithin ((x, d) ∷ ds) ys) (sym same) h)
      here _ true e above h ih = ih h
      here _ false e above h ih = ih h

  wrap-kept : (seg slot : ℕ) (recs : List Record) → wrap_in seg slot (filter (Kept i kept) recs) ≤ wrap_in seg slot recs
  wrap-kept seg slot [] = omega arith
  wrap-kept seg slot (r ∷ recs) = grind (arith, wrap-kept seg slot recs)

  pub numbers-loses : {recs : List Record} {told since : ℕ → List (Xid × Deed)} {has ends : Xid → Bool} → Numbers recs told since has ends → Rising recs → Follows recs → Numbers (filter (Kept i kept) recs) told (λ j. cond (j == i) [] (since j)) has (λ y. cond (y.seg == i) false (ends y))
  numbers-loses {recs} {told} {since} {has} {ends} h rising follows = record {
    numbered = numbered-kept recs rising h.numbered;
    newest = λ j. newest j (j == i) refl;
    within = λ j. within-kept j recs (told j) rising (h.within j);
    wraps = λ y low up. h.wraps y low (let le = wrap-kept y.seg y.slot recs in omega arith);
    ended = ended;
  }
    where
      ended : (y : Xid) → cond (y.seg == i) false (ends y) ≡ true → stage y (filter (Kept i kept) recs) ≢ Fresh
      ended y e f = grind (arith, fresh-kept i kept y recs, own-other i kept y recs, h.ended y)

      newest : (j : ℕ) (t : Bool) → (j == i) ≡ t → (rest : List (Xid × Deed)) × (recorded_in j (filter (Kept i kept) recs) ≡ cond t [] (since j) ++ rest)
      newest j true e = (recorded_in j (filter (Kept i kept) recs), refl)
      newest j false e = let n = h.newest j in (n.0, did-kept i kept j recs (all_of _ recs (λ o f. kept-other i kept o (rw f e))) ∙ n.1)
