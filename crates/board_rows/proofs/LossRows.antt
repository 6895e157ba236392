-- The clauses on rows are kept by a loss: what vanishes of a row is its newest.
use Rattle.std.proofs.Common.{◌≡◌, ℕ, Bool, true, false, cond, ◌==◌, List, [], ◌∷◌, refl, sym, ap, ◌∙◌, subst, inl, arith, Option}
use Rattle.std.specs.List.{AllByRecursion, filter}
use Rattle.board_rows.proofs.Words.{Xid, Change, row_of, changes_of, value_by, Replays, Record, DeedAt, xid_of, touches, without, stands_after, stands, EachSuffix, FreeUnder, on, shown, on_row, deeds_in, Ordered, is_kept, AreNear, EachPair}
use Rattle.board_rows.proofs.Lists.{cases, pair_filter, all_map, clash}
use Rattle.board_rows.proofs.Shown.{shown-later}
use Rattle.board_rows.proofs.Order.{pair_from}
use Rattle.board_rows.proofs.Replay.{value-on_row}
use Rattle.board_rows.proofs.Losses.{KeepsUnder, Kept}

-- what stands on a row
abbrev pub mods_on : ℕ → List DeedAt → List DeedAt
mods_on k mods = filter (on k) mods

without-other : (k : ℕ) (x : Xid) (seq row : ℕ) (mods : List DeedAt) → (row == k) ≡ false → mods_on k (without x seq row mods) ≡ mods_on k mods
without-other k x seq row [] h = refl
without-other k x seq row (m ∷ mods) h = grind (arith, without-other k x seq row mods h)

without-on : (k : ℕ) (x : Xid) (seq row : ℕ) (mods : List DeedAt) → (row == k) ≡ true → mods_on k (without x seq row mods) ≡ without x seq row (mods_on k mods)
without-on k x seq row [] h = refl
without-on k x seq row (m ∷ mods) h = grind (arith, without-on k x seq row mods h)

-- a record goes by what stands on its row, and leaves other rows
after-same : (k : ℕ) (r : Record) (xs ys : List DeedAt) → mods_on k xs ≡ mods_on k ys → mods_on k (stands_after r xs) ≡ mods_on k (stands_after r ys)
after-same k r xs ys e = grind (arith, cases, without-other, without-on)

after-other : (k : ℕ) (r : Record) (xs : List DeedAt) → touches k r ≡ false → mods_on k (stands_after r xs) ≡ mods_on k xs
after-other k r xs e = grind (arith, cases, without-other)

Replays-on : (k : ℕ) (changes : List Change) → Replays changes → Replays (on_row k changes)
Replays-on k [] h = tt
Replays-on k (change ∷ older) h = grind (arith, cases, value-on_row, Replays-on k older h.1)

Replays-from : (changes : List Change) → ((k : ℕ) → Replays (on_row k changes)) → Replays changes
Replays-from [] h = tt
Replays-from (change ∷ older) h = (head (h change.row), Replays-from older (λ k. tail k (h k)))
  where
    tail : (k : ℕ) → Replays (on_row k (change ∷ older)) → Replays (on_row k older)
    tail k g = grind arith

    head : Replays (on_row change.row (change ∷ older)) → change.found ≡ value_by older change.row
    head g = grind (arith, cases, value-on_row)

on_row-mods : (k : ℕ) (mods : List DeedAt) → on_row k (changes_of (deeds_in mods)) ≡ changes_of (deeds_in (mods_on k mods))
on_row-mods k [] = refl
on_row-mods k (m ∷ mods) = grind (arith, on_row-mods k mods)

shown-on : (k : ℕ) (test : Xid → Bool) (mods : List DeedAt) → shown k test (mods_on k mods) ≡ shown k test mods
shown-on k test [] = refl
shown-on k test (m ∷ mods) = grind (arith, shown-on k test mods)

-- under a record that is kept all of its row is kept
near-row : (i kept k : ℕ) (r : Record) (recs : List Record) → touches k r ≡ true → is_kept i kept r ≡ true → AllByRecursion (λ o. is_kept i kept r ≡ true → AreNear r o → is_kept i kept o ≡ true) recs → AllByRecursion (λ o. touches k o ≡ true → is_kept i kept o ≡ true) recs
near-row i kept k r recs t e = all_map _ _ recs (λ o f u. f e (inl (k, t, u)))

module _ (i kept : ℕ) where
  -- a row of which every record is kept
  row-kept : (k : ℕ) (recs : List Record) → AllByRecursion (λ o. touches k o ≡ true → is_kept i kept o ≡ true) recs → mods_on k (stands (filter (Kept i kept) recs)) ≡ mods_on k (stands recs)
  row-kept k [] h = refl
  row-kept k (r ∷ recs) h = grind (arith, cases, Kept, after-same, after-other, row-kept k recs h.1)

  -- each row is as it was on an earlier board
  row-before : (P : List Record → Type 0) (k : ℕ) (recs : List Record) → KeepsUnder i kept recs → EachSuffix P recs → (older : List Record) × P older × (mods_on k (stands (filter (Kept i kept) recs)) ≡ mods_on k (stands older))
  row-before P k [] l h = ([], h, refl)
  row-before P k (r ∷ recs) l h = by (Kept i kept r) refl (touches k r) refl (row-before P k recs l.1 h.1)
    where
      by : (t : Bool) → Kept i kept r ≡ t → (u : Bool) → touches k r ≡ u → (older : List Record) × P older × (mods_on k (stands (filter (Kept i kept) recs)) ≡ mods_on k (stands older))
          → (older : List Record) × P older × (mods_on k (stands (cond t (r ∷ filter (Kept i kept) recs) (filter (Kept i kept) recs))) ≡ mods_on k (stands older))
      by false e u f ih = ih
      by true e false f ih = (ih.0, ih.1, after-other k r (stands (filter (Kept i kept) recs)) f ∙ ih.2)
      by true e true f ih = (r ∷ recs, h.0, after-same k r (stands (filter (Kept i kept) recs)) (stands recs) (row-kept k recs (near-row i kept k r recs f e l.0)))

  -- earlier boards of what is left
  suffix-kept : (P Q : List Record → Type 0) → ((recs : List Record) → KeepsUnder i kept recs → EachSuffix P recs → Q (filter (Kept i kept) recs)) → (recs : List Record) → KeepsUnder i kept recs → EachSuffix P recs → EachSuffix Q (filter (Kept i kept) recs)
  suffix-kept P Q f [] l h = f [] l h
  suffix-kept P Q f (r ∷ recs) l h = grind (arith, f (r ∷ recs) l h, suffix-kept P Q f recs l.1 h.1)

  -- what is seen of a row is as before, where nothing that vanishes is seen
  pub shown-kept : (k : ℕ) (test : Xid → Bool) (recs : List Record) → KeepsUnder i kept recs → AllByRecursion (λ r. is_kept i kept r ≡ false → touches k r ≡ true → test (xid_of r) ≡ false) recs → shown k test (stands (filter (Kept i kept) recs)) ≡ shown k test (stands recs)
  shown-kept k test [] l h = refl
  shown-kept k test (r ∷ recs) l h = by (Kept i kept r) refl (touches k r) refl (shown-kept k test recs l.1 h.1)
    where
      by_mods : (xs ys : List DeedAt) → mods_on k xs ≡ mods_on k ys → shown k test xs ≡ shown k test ys
      by_mods xs ys e = sym (shown-on k test xs) ∙ (ap (shown k test) e ∙ shown-on k test ys)

      by : (t : Bool) → Kept i kept r ≡ t → (u : Bool) → touches k r ≡ u → shown k test (stands (filter (Kept i kept) recs)) ≡ shown k test (stands recs) → shown k test (stands (cond t (r ∷ filter (Kept i kept) recs) (filter (Kept i kept) recs))) ≡ shown k test (stands (r ∷ recs))
      by false e u f ih = ih ∙ sym (shown-later k test (r ∷ []) recs (h.0 e, tt))
      by true e false f ih = by_mods _ (stands (filter (Kept i kept) recs)) (after-other k r _ f) ∙ (ih ∙ by_mods (stands recs) _ (sym (after-other k r (stands recs) f)))
      by true e true f ih = by_mods _ _ (after-same k r (stands (filter (Kept i kept) recs)) (stands recs) (row-kept k recs (near-row i kept k r recs f e l.0)))

  -- the order and the replay are kept
  -- what holds of each pair on each earlier board, where what stands on two rows is apart
  pairs-kept : (R : DeedAt → DeedAt → Type 0) → ((m o : DeedAt) → on (row_of m.deed) o ≡ false → R m o) → (recs : List Record) → KeepsUnder i kept recs → EachSuffix (λ older. EachPair R (stands older)) recs → EachSuffix (λ older. EachPair R (stands older)) (filter (Kept i kept) recs)
  pairs-kept R apart = suffix-kept (λ older. EachPair R (stands older)) (λ older. EachPair R (stands older)) (λ recs l h.
      pair_from R apart (stands (filter (Kept i kept) recs)) (λ k. (let b = row-before (λ older. EachPair R (stands older)) k recs l h in subst (EachPair R) (sym b.2) (pair_filter R (on k) (stands b.0) b.1))))

  pub order-kept : (committed : Xid → Option ℕ) (recs : List Record) → KeepsUnder i kept recs → EachSuffix (λ older. Ordered committed (stands older)) recs → EachSuffix (λ older. Ordered committed (stands older)) (filter (Kept i kept) recs)
  order-kept committed = pairs-kept _ (λ m o e a. clash (on (row_of m.deed) o) a e)

  pub replay-kept : (recs : List Record) → KeepsUnder i kept recs → EachSuffix (λ older. Replays (changes_of (deeds_in (stands older)))) recs → EachSuffix (λ older. Replays (changes_of (deeds_in (stands older)))) (filter (Kept i kept) recs)
  replay-kept = suffix-kept (λ older. Replays (changes_of (deeds_in (stands older)))) (λ older. Replays (changes_of (deeds_in (stands older)))) (λ recs l h.
      Replays-from (changes_of (deeds_in (stands (filter (Kept i kept) recs)))) (λ k. (let b = row-before (λ older. Replays (changes_of (deeds_in (stands older)))) k recs l h in
      let same = on_row-mods k (stands (filter (Kept i kept) recs)) ∙ (ap (λ (ms : List DeedAt). changes_of (deeds_in ms)) b.2 ∙ sym (on_row-mods k (stands b.0))) in
      subst Replays (sym same) (Replays-on k (changes_of (deeds_in (stands b.0))) b.1))))

  pub under-kept : (committed : Xid → Option ℕ) (s : ℕ) (x : Xid) (recs : List Record) → KeepsUnder i kept recs → EachSuffix (λ older. FreeUnder committed s x (stands older)) recs → EachSuffix (λ older. FreeUnder committed s x (stands older)) (filter (Kept i kept) recs)
  under-kept committed s x = pairs-kept _ (λ m o e f a. clash (on (row_of m.deed) o) a e)
