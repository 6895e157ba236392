-- A step back leaves a block that says what stands.
use Rattle.std.proofs.Common.{◌≡◌, ℕ, ◌<◌, ◌≤◌, Bool, true, false, cond, ◌&&◌, ◌==◌, List, ◌∷◌, ◌++◌, ◌+◌, refl, sym, ap, ◌∙◌, subst, arith, inl, inr}
use Rattle.std.specs.Prelude.{Option, Some, None, IsSomeAnd, is_some}
use Rattle.std.specs.List.{AllByRecursion}
use Rattle.std.proofs.lemmas.Bool.{eqb-true, eq-eqb}
use Rattle.base_types.specs.declared.names.Xid.{Xid}
use Rattle.journal.specs.Past.{same_xid}
use Rattle.journal.proofs.XidLemmas.{both_true, same_xid-refl, same_xid-true}
use Rattle.board_slots.specs.Block.{Deed, newest, on_row, in_slot, by, slot_of, slot_by, Image, changed}
use Rattle.board_slots.specs.Slots.{IsUnder, IsIn, Orderly, IsLocked, Shows, back_of}
use Rattle.board_slots.proofs.Newest.{clash, same_xid-sym, all_map, all_append, all_join, newest-skip, newest-past, newest-all, newest-passes, newest-none, some-of, the, eqb-off}
use Rattle.board_slots.proofs.Removal.{no-commit, row-shares, slot-shares, newest-own, IsClear, is-in, rest, no-row, newest-row, newest-slot, values-after, slots-after}

-- nothing of another stands over what isn't committed
pub clear-open : (committed : Xid → Option ℕ) (m n : Deed) → committed m.xid ≡ None → same_xid n.xid m.xid ≡ false → IsUnder committed n m → IsClear m n
clear-open committed m n new other under = (eqb-off n.row m.row (row (n.row == m.row) refl), eqb-off n.itl m.itl (slot (n.itl == m.itl) refl), other)
  where
    row : (t : Bool) → (n.row == m.row) ≡ t → t ≡ false
    row false e = refl
    row true e = absurd (no-commit (committed m.xid) (λ c. c < n.scn) new (under.row e other))

    slot : (t : Bool) → (n.itl == m.itl) ≡ t → t ≡ false
    slot false e = refl
    slot true e = absurd (no-commit (committed m.xid) (λ c. c < n.scn) new (under.slot e other))

-- where one of an open transaction stands, its slot is that one's
pub slot-own : (committed : Xid → Option ℕ) (x : Xid) (k : ℕ) (deeds : List Deed) → Orderly committed deeds → committed x ≡ None → is_some (newest (λ m. in_slot k m && by x m) deeds) ≡ true → (slot_by k deeds).xid ≡ x
slot-own committed x k deeds h new is =
    let p = the (newest (λ m. in_slot k m && by x m) deeds) is in
    let passes = both_true (in_slot k p.0) (by x p.0) (newest-passes (λ m. in_slot k m && by x m) p.0 deeds p.1) in
    ap (λ o. (slot_of o).xid) (newest-own committed (in_slot k) x deeds p.0 (slot-shares committed k) h new p.1) ∙ sym (same_xid-true x p.0.xid passes.1)

module _ (committed : Xid → Option ℕ) (m : Deed) (newer older : List Deed)
    (clear : AllByRecursion (IsClear m) newer) (h : Orderly committed (newer ++ m ∷ older))
    (image : Image) (scn : ℕ) (shows : Shows committed image (newer ++ m ∷ older)) (new : committed m.xid ≡ None) (up : image.scn < scn) where
  abbrev before : List Deed
  before = newer ++ m ∷ older

  abbrev after : List Deed
  after = newer ++ older

  abbrev now : Image
  now = changed (back_of m image) scn image

  under : IsIn committed m older
  under = is-in committed m newer older clear h

  old : Orderly committed older
  old = rest committed m newer older clear h

  none-newer : (k : ℕ) → AllByRecursion (λ n. (in_slot k n && by m.xid n) ≡ false) newer
  none-newer k = all_map (IsClear m) (λ n. (in_slot k n && by m.xid n) ≡ false) newer (λ n c. both (in_slot k n) (by m.xid n) (same_xid-sym m.xid n.xid ∙ c.2)) clear
    where
      both : (a b : Bool) → b ≡ false → (a && b) ≡ false
      both true b e = e
      both false b e = refl

  -- the slot that is given back still names the transaction where another of it stands
  still : (o : Deed) (t : Deed → Bool) → newest t after ≡ Some o → o.itl ≡ m.itl → o.xid ≡ m.xid → m.old_itl.xid ≡ m.xid
  still o t e itl x =
      let is = some-of t (λ n. in_slot m.itl n && by m.xid n) after o e (rw (itl, x, eq-eqb m.itl m.itl refl) (same_xid-refl m.xid)) in
      let there : is_some (newest (λ n. in_slot m.itl n && by m.xid n) older) ≡ true = ap is_some (sym (newest-past (λ n. in_slot m.itl n && by m.xid n) newer older (none-newer m.itl))) ∙ is in
      ap (λ s. s.xid) under.undo.slot ∙ slot-own committed m.xid m.itl older old new there

  mscn : m.scn ≤ image.scn
  mscn = ((all_append _ newer (m ∷ older) shows.low).1.0).0

  row : (t : Bool) → m.mine ≡ t → IsLocked committed scn now.slot (cond t (image.lock m.row) 0) (newest (on_row m.row) after)
  row true mine =
      let is : is_some (newest (λ o. on_row m.row o && by m.xid o) older) ≡ true = sym under.undo.mine ∙ mine in
      let o = the (newest (λ o. on_row m.row o && by m.xid o) older) is in
      let passes = both_true (on_row m.row o.0) (by m.xid o.0) (newest-passes (λ o. on_row m.row o && by m.xid o) o.0 older o.1) in
      let x : m.xid ≡ o.0.xid = same_xid-true m.xid o.0.xid passes.1 in
      let there : newest (on_row m.row) older ≡ Some o.0 = newest-own committed (on_row m.row) m.xid older o.0 (row-shares committed m.row) old new o.1 in
      let here : newest (on_row m.row) after ≡ Some o.0 = newest-past (on_row m.row) newer older (no-row committed m newer older clear h) ∙ there in
      let itl : m.itl ≡ o.0.itl = (newest-all (IsUnder committed m) (λ o. on_row m.row o && by m.xid o) o.0 older under.under o.1).one passes.1 in
      let locked : IsLocked committed image.scn image.slot (image.lock m.row) (Some m) = subst (IsLocked committed image.scn image.slot (image.lock m.row)) (newest-row committed m newer older clear h) (shows.locks m.row) in
      rw here (elim locked [
        | inl l ↦ absurd (no-commit (committed m.xid) (λ c. c < image.scn) new l.1)
        | inr l ↦ inr (l.0 ∙ itl, rw (sym itl, eq-eqb m.itl m.itl refl, sym x) (still o.0 (on_row m.row) here (sym itl) (sym x)))
      ])
  row false mine = rw (newest-past (on_row m.row) newer older (no-row committed m newer older clear h)) (here (newest (on_row m.row) older) refl)
    where
      less : (o : Option ℕ) → IsSomeAnd o (λ c. c < m.scn) → IsSomeAnd o (λ c. c < scn)
      less None l = l
      less (Some c) l = (let a = mscn in omega (arith, l, a, up))

      here : (o : Option Deed) → newest (on_row m.row) older ≡ o → IsLocked committed scn now.slot 0 o
      here None e = refl
      here (Some o) e =
          let none : newest (λ o. on_row m.row o && by m.xid o) older ≡ None = gone (newest (λ o. on_row m.row o && by m.xid o) older) refl in
          let off = newest-all (λ o. (on_row m.row o && by m.xid o) ≡ false) (on_row m.row) o older (newest-none (λ o. on_row m.row o && by m.xid o) older none) e in
          let on : on_row m.row o ≡ true = newest-passes (on_row m.row) o older e in
          let other : same_xid m.xid o.xid ≡ false = (rw on at off) in
          let u = newest-all (IsUnder committed m) (on_row m.row) o older under.under e in
          inl (refl, less (committed o.xid) (u.row (rw (eqb-true o.row m.row on) (eq-eqb m.row m.row refl)) other))
        where
          gone : (p : Option Deed) → newest (λ o. on_row m.row o && by m.xid o) older ≡ p → p ≡ None
          gone None e = refl
          gone (Some p) e = clash m.mine (under.undo.mine ∙ ap is_some e) mine

  other : (r : ℕ) → (m.row == r) ≡ false → IsLocked committed scn now.slot (image.lock r) (newest (on_row r) after)
  other r off = here (newest (on_row r) after) refl (subst (IsLocked committed image.scn image.slot (image.lock r)) (newest-skip (on_row r) m newer older off) (shows.locks r))
    where
      less : (o : Option ℕ) → IsSomeAnd o (λ c. c < image.scn) → IsSomeAnd o (λ c. c < scn)
      less None l = l
      less (Some c) l = omega (arith, l, up)

      here : (o : Option Deed) → newest (on_row r) after ≡ o → IsLocked committed image.scn image.slot (image.lock r) o → IsLocked committed scn now.slot (image.lock r) o
      here None e l = l
      here (Some o) e (inl l) = inl (l.0, less (committed o.xid) l.1)
      here (Some o) e (inr l) = inr (l.0, go (m.itl == o.itl) refl)
        where
          go : (t : Bool) → (m.itl == o.itl) ≡ t → (cond t m.old_itl (image.slot o.itl)).xid ≡ o.xid
          go false f = l.1
          go true f =
              let itl : m.itl ≡ o.itl = eqb-true m.itl o.itl f in
              let top : (slot_by m.itl before).xid ≡ m.xid = ap (λ p. (slot_of p).xid) (newest-slot committed m newer older clear h) in
              let x : o.xid ≡ m.xid = sym l.1 ∙ (ap (λ k. (image.slot k).xid) (sym itl) ∙ (ap (λ s. s.xid) (shows.slots m.itl) ∙ top)) in
              still o (on_row r) e (sym itl) x ∙ sym x

  pub back-shows : Shows committed now after
  back-shows =
      record {
        values = values-after committed m newer older clear h image.value shows.values;
        slots = slots-after committed m newer older clear h image.slot shows.slots;
        locks = λ r. lock r (m.row == r) refl;
        low = low;
      }
    where
      lock : (r : ℕ) (t : Bool) → (m.row == r) ≡ t → IsLocked committed scn now.slot (cond t (cond m.mine (image.lock m.row) 0) (image.lock r)) (newest (on_row r) after)
      lock r true e = rw (sym (eqb-true m.row r e)) (row m.mine refl)
      lock r false e = other r e

      low : AllByRecursion (λ n. (n.scn ≤ scn) × (n.version ≤ image.version + 1)) after
      low =
          let parts = all_append (λ n. (n.scn ≤ image.scn) × (n.version ≤ image.version)) newer (m ∷ older) shows.low in
          let up_to : (n : Deed) → (n.scn ≤ image.scn) × (n.version ≤ image.version) → (n.scn ≤ scn) × (n.version ≤ image.version + 1) = λ n l. (omega (arith, l.0, up), omega (arith, l.1)) in
          all_join (λ n. (n.scn ≤ scn) × (n.version ≤ image.version + 1)) newer older (all_map _ _ newer up_to parts.0) (all_map _ _ older up_to parts.1.1)
