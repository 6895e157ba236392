-- The clauses on segments are kept.
use Rattle.board_rows.proofs.Lists.{cases}
use Rattle.std.proofs.Common.{◌≡◌, ◌≢◌, ℕ, ◌<◌, ◌≤◌, Bool, true, false, cond, ◌==◌, List, ◌∷◌, refl, sym, ◌∙◌, arith, inl}
use Rattle.std.specs.List.{AllByRecursion, filter}
use Rattle.board_rows.proofs.Words.{Xid, same_xid, Deed, Record, Does, TakesBack, Commits, RollsBack, thread_of, scn_of, xid_of, Active, stage, Rising, EachPair, IsSafe, ForSegment, put, KeepsSegments, Segments}
use Rattle.board_rows.proofs.Lists.{cases, pair_map, pair_both, pair_filter, all_of, all_map, all_both, all_filter}
use Rattle.board_rows.proofs.Losses.{Kept, older-kept, stage-kept}

-- under a change or lock what others have for its segment has entered
abbrev AreOnSafe : (ℕ → ℕ) → List Record → Type 0
AreOnSafe durable = EachPair (ForSegment (IsSafe durable))

-- what has entered is kept
safe-kept : (i kept : ℕ) (durable : ℕ → ℕ) → durable i ≤ kept → (r : Record) → scn_of r ≤ durable (thread_of r) → Kept i kept r ≡ true
safe-kept i kept durable low r le = grind (arith, cases)

module _ {recs : List Record} {durable : ℕ → ℕ} {live : Xid → Bool} {up : ℕ → Bool} (h : Segments recs durable live up) where
  pub segments-changes : (c : ℕ) (x : Xid) (seq : ℕ) (deed : Deed) → up x.seg ≡ true → Segments (Does c x seq deed ∷ recs) durable (λ y. cond (same_xid y x) true (live y)) up
  segments-changes c x seq deed is = record {
    lives = λ y e. grind (arith, cases, h.lives y);
    active = λ y e u. grind (arith, cases, h.active y);
    safe = ((λ _. inl refl), h.safe);
    under = (all_map _ _ recs (λ o f e. f (rw e is)) h.safe, h.under);
  }

  pub segments-back : (i c : ℕ) (x : Xid) (seq row : ℕ) → stage x recs ≡ Active → (live x ≡ true → i ≡ x.seg) → Segments (TakesBack i c x seq row ∷ recs) durable live up
  segments-back i c x seq row is own = record { lives = h.lives; active = h.active; safe = ((λ f. inl (own (h.active x is f))), h.safe); under = (all_of _ recs (λ o. tt), h.under) }

  pub segments-marks : (c : ℕ) (x : Xid) → Segments (Commits c x ∷ recs) durable (λ y. cond (same_xid y x) false (live y)) up
  segments-marks c x = record { lives = λ y e. grind (arith, h.lives y); active = λ y e u. grind (arith, h.active y); safe = ((λ _. inl refl), h.safe); under = (all_of _ recs (λ o. tt), h.under) }

  pub segments-rolls : (i c : ℕ) (x : Xid) → stage x recs ≡ Active → (live x ≡ true → i ≡ x.seg) → Segments (RollsBack i c x ∷ recs) durable (λ y. cond (same_xid y x) false (live y)) up
  segments-rolls i c x is own = record {
    lives = λ y e. grind (arith, h.lives y);
    active = λ y e u. grind (arith, h.active y);
    safe = ((λ f. inl (own (h.active x is f))), h.safe);
    under = (all_of _ recs (λ o. tt), h.under);
  }

  pub segments-settles : (j c : ℕ) → durable j < c → Segments recs (put durable j c) live up
  segments-settles j c new = record { lives = h.lives; active = h.active; safe = all_map _ _ recs (λ r f is. safe-more r (f is)) h.safe; under = pair_map _ _ recs more h.under }
    where
      safe-more : (r : Record) → IsSafe durable r → IsSafe (put durable j c) r
      safe-more r f = grind (arith, cases)

      more : (r o : Record) → ForSegment (IsSafe durable) r o → ForSegment (IsSafe (put durable j c)) r o
      more r o f = grind (arith, cases)

  pub segments-loses : (i kept : ℕ) → durable i ≤ kept → Segments (filter (Kept i kept) recs) durable (λ y. cond (y.seg == i) false (live y)) (λ j. cond (j == i) false (up j))
  segments-loses i kept low = record {
    lives = λ y e. grind (arith, h.lives y);
    active = active;
    safe = all_map _ _ (filter (Kept i kept) recs) safe (all_filter (λ r. up (xid_of r).seg ≡ true → IsSafe durable r) (Kept i kept) recs h.safe);
    under = pair_filter _ (Kept i kept) recs h.under;
  }
    where
      safe : (r : Record) → (Kept i kept r ≡ true) × (up (xid_of r).seg ≡ true → IsSafe durable r) → cond ((xid_of r).seg == i) false (up (xid_of r).seg) ≡ true → IsSafe durable r
      safe r f is = grind arith

      kept-own : (y : Xid) → (y.seg == i) ≡ false → up y.seg ≡ true → (r : Record) → (up (xid_of r).seg ≡ true → IsSafe durable r) → same_xid y (xid_of r) ≡ true → Kept i kept r ≡ true
      kept-own y off is r f e = grind (arith, cases, safe-kept i kept durable low r)

      active : (y : Xid) → stage y (filter (Kept i kept) recs) ≡ Active → cond (y.seg == i) false (up y.seg) ≡ true → cond (y.seg == i) false (live y) ≡ true
      active y e is = by (y.seg == i) refl is
        where
          by : (t : Bool) → (y.seg == i) ≡ t → cond t false (up y.seg) ≡ true → cond t false (live y) ≡ true
          by true off is = is
          by false off is = h.active y (sym (stage-kept i kept y recs (all_map _ _ recs (kept-own y off is) h.safe)) ∙ e) is

  pub segments-ups : (i : ℕ) → ((x : Xid) → x.seg ≡ i → stage x recs ≢ Active) → AllByRecursion (λ r. (xid_of r).seg ≡ i → IsSafe durable r) recs → Segments recs durable live (λ j. cond (j == i) true (up j))
  segments-ups i ended safe = record { lives = λ y e. grind (arith, h.lives y); active = λ y e u. grind (arith, cases, h.active y, ended y); safe = all_both _ _ _ recs one safe h.safe; under = h.under }
    where
      one : (r : Record) → ((xid_of r).seg ≡ i → IsSafe durable r) → (up (xid_of r).seg ≡ true → IsSafe durable r) → cond ((xid_of r).seg == i) true (up (xid_of r).seg) ≡ true → IsSafe durable r
      one r new old is = grind (arith, cases)

-- what a loss keeps of a segment
pub keeps-segments : (i kept : ℕ) (durable : ℕ → ℕ) → durable i ≤ kept → (recs : List Record) → Rising recs → AreOnSafe durable recs → KeepsSegments i kept recs
keeps-segments i kept durable low recs = grind (arith, cases, pair_both, Record, thread_of, scn_of, ForSegment, IsSafe, Kept, older-kept, safe-kept)
