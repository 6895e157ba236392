-- What was read stays: no later commit changes it.
use Rattle.std.proofs.Common.{◌≡◌, ℕ, ◌<◌, ◌≤◌, Bool, true, false, cond, max, List, [], ◌∷◌, arith, ◌⊎◌, Option, Some, None}
use Rattle.std.specs.List.{AllByRecursion}
use Rattle.board_rows.proofs.Words.{Xid, same_xid, Deed, row_of, same_xid-refl, Record, Does, TakesBack, Commits, RollsBack, DeedAt, stands, Fresh, Active, Over, stage, on, put, IsLate, RowsAreLate}
use Rattle.board_rows.proofs.Lists.{all_map, all_both, cases}
use Rattle.board_rows.proofs.Order.{all_without}

-- what stands is of a transaction with a record
used-more : (r : Record) (recs : List Record) (m : DeedAt) → (stage m.xid recs ≡ Fresh → ⊥) → stage m.xid (r ∷ recs) ≡ Fresh → ⊥
used-more r recs m f e = grind arith

pub all-used : (recs : List Record) → AllByRecursion (λ m. stage m.xid recs ≡ Fresh → ⊥) (stands recs)
all-used [] = tt
all-used (Does c x seq d ∷ recs) = (first, all_map _ _ (stands recs) (used-more (Does c x seq d) recs) (all-used recs))
  where
    first : stage x (Does c x seq d ∷ recs) ≡ Fresh → ⊥
    first e = grind (arith, cases)
all-used (TakesBack i c x seq row ∷ recs) = all_without _ x seq row (stands recs) (all-used recs)
all-used (Commits c x ∷ recs) = all_map _ _ (stands recs) (used-more (Commits c x) recs) (all-used recs)
all-used (RollsBack i c x ∷ recs) = all_map _ _ (stands recs) (used-more (RollsBack i c x) recs) (all-used recs)

module _ (recs : List Record) (scn floor : ℕ → ℕ) (live : Xid → Bool) (committed : Xid → Option ℕ) where
  abbrev pub Late : DeedAt → Type 0
  Late m = committed m.xid ≡ None → IsLate (floor (row_of m.deed)) (live m.xid) (stage m.xid recs) (scn m.xid.seg)

  -- it is late at one more SCN in one row
  pub late-reads : (k s : ℕ) → AllByRecursion (λ m. on k m ≡ true → committed m.xid ≡ None → IsLate s (live m.xid) (stage m.xid recs) (scn m.xid.seg)) (stands recs) → RowsAreLate recs scn floor live committed
      → RowsAreLate recs scn (put floor k (max (floor k) s)) live committed
  late-reads k s here old = all_both _ _ _ (stands recs) one here old
    where
      one : (m : DeedAt) → (on k m ≡ true → committed m.xid ≡ None → IsLate s (live m.xid) (stage m.xid recs) (scn m.xid.seg)) → Late m → committed m.xid ≡ None → IsLate (put floor k (max (floor k) s) (row_of m.deed)) (live m.xid) (stage m.xid recs) (scn m.xid.seg)
      one m h l new = grind (arith, cases)

  -- clocks rise, and the rest stays
  pub late-raises : (now : ℕ → ℕ) → ((j : ℕ) → scn j ≤ now j) → RowsAreLate recs scn floor live committed → RowsAreLate recs now floor live committed
  late-raises now up = all_map _ _ (stands recs) one
    where
      one : (m : DeedAt) → Late m → committed m.xid ≡ None → IsLate (floor (row_of m.deed)) (live m.xid) (stage m.xid recs) (now m.xid.seg)
      one m h new = grind (arith, up m.xid.seg)

  -- a change above the floor of its row
  pub late-changes : (c : ℕ) (x : Xid) (seq : ℕ) (deed : Deed) → ((live x ≡ true) × (stage x recs ≡ Active)) ⊎ (stage x recs ≡ Fresh) → floor (row_of deed) ≤ scn x.seg → RowsAreLate recs scn floor live committed
      → RowsAreLate (Does c x seq deed ∷ recs) scn floor (λ y. cond (same_xid y x) true (live y)) committed
  late-changes c x seq deed goes above old = ((λ new. rw (same_xid-refl x) (λ e. above)), all_both _ _ _ (stands recs) one (all-used recs) old)
    where
      one : (m : DeedAt) → (stage m.xid recs ≡ Fresh → ⊥) → Late m → committed m.xid ≡ None → IsLate (floor (row_of m.deed)) (cond (same_xid m.xid x) true (live m.xid)) (cond (same_xid m.xid x) Active (stage m.xid recs)) (scn m.xid.seg)
      one m used h new = grind (arith, cases)

  pub late-back : (i c : ℕ) (x : Xid) (seq row : ℕ) → RowsAreLate recs scn floor live committed → RowsAreLate (TakesBack i c x seq row ∷ recs) scn floor live committed
  late-back i c x seq row old = all_without Late x seq row (stands recs) old

  -- a commit whose record is above the clock
  pub late-marks : (c : ℕ) (x : Xid) → live x ≡ true → stage x recs ≡ Active → scn x.seg < c → RowsAreLate recs scn floor live committed
      → RowsAreLate (Commits c x ∷ recs) scn floor (λ y. cond (same_xid y x) false (live y)) committed
  late-marks c x is act above = all_map _ _ (stands recs) one
    where
      one : (m : DeedAt) → Late m → committed m.xid ≡ None → IsLate (floor (row_of m.deed)) (cond (same_xid m.xid x) false (live m.xid)) (cond (same_xid m.xid x) (Over (Some c)) (stage m.xid recs)) (scn m.xid.seg)
      one m h new = grind (arith, cases)

  pub late-rolls : (i c : ℕ) (x : Xid) → RowsAreLate recs scn floor live committed → RowsAreLate (RollsBack i c x ∷ recs) scn floor (λ y. cond (same_xid y x) false (live y)) committed
  late-rolls i c x = all_map _ _ (stands recs) one
    where
      one : (m : DeedAt) → Late m → committed m.xid ≡ None → IsLate (floor (row_of m.deed)) (cond (same_xid m.xid x) false (live m.xid)) (cond (same_xid m.xid x) (Over None) (stage m.xid recs)) (scn m.xid.seg)
      one m h new = grind (arith, cases)

  -- more commits are in the journal
  pub late-settles : (now : Xid → Option ℕ) → ((y : Xid) → now y ≡ None → committed y ≡ None) → RowsAreLate recs scn floor live committed → RowsAreLate recs scn floor live now
  late-settles now less = all_map _ _ (stands recs) (λ m h new. h (less m.xid new))
