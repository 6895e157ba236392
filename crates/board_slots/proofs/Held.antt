-- Who holds a row, by its lock byte.
use Rattle.std.proofs.Common.{◌≡◌, ℕ, ◌<◌, ◌≤◌, Bool, true, false, cond, ◌&&◌, ◌==◌, List, [], ◌∷◌, refl, sym, ◌∙◌, arith, inl, inr}
use Rattle.std.specs.Prelude.{Option, Some, None, is_some}
use Rattle.std.specs.List.{AllByRecursion}
use Rattle.std.proofs.lemmas.Bool.{eqb-true}
use Rattle.base_types.specs.declared.names.Xid.{Xid}
use Rattle.journal.specs.Past.{same_xid}
use Rattle.journal.proofs.XidLemmas.{both_true, same_xid-true}
use Rattle.board_slots.specs.Block.{Deed, newest, on_row, by, Image, held_by}
use Rattle.board_slots.specs.Slots.{IsFair, Orderly, IsLocked, Shows}
use Rattle.board_slots.proofs.Newest.{clash, same_xid-sym, all_map, newest-all, newest-passes, some-of}
use Rattle.board_slots.proofs.Removal.{no-commit, row-shares, newest-own}

-- each one that stands passes what it passes
pub each-there : (deeds : List Deed) → AllByRecursion (λ o. (t : Deed → Bool) → t o ≡ true → is_some (newest t deeds) ≡ true) deeds
each-there [] = tt
each-there (m ∷ deeds) = ((λ t p. rw p refl), all_map (λ o. (t : Deed → Bool) → t o ≡ true → is_some (newest t deeds) ≡ true) (λ o. (t : Deed → Bool) → t o ≡ true → is_some (newest t (m ∷ deeds)) ≡ true) deeds (λ o f t p. more t (t m) (f t p)) (each-there deeds))
  where
    more : (t : Deed → Bool) (b : Bool) → is_some (newest t deeds) ≡ true → is_some (cond b (Some m) (newest t deeds)) ≡ true
    more t true i = refl
    more t false i = i

pub fair-all : (committed : Xid → Option ℕ) (deeds : List Deed) → Orderly committed deeds → AllByRecursion (IsFair committed) deeds
fair-all committed [] h = tt
fair-all committed (m ∷ deeds) h = (h.0.fair, fair-all committed deeds h.1)

module _ (committed : Xid → Option ℕ) (image : Image) (deeds : List Deed) (h : Orderly committed deeds) (shows : Shows committed image deeds)
    (x : Xid) (r : ℕ) (new : committed x ≡ None) where
  abbrev own : Option Deed
  own = newest (λ o. on_row r o && by x o) deeds

  -- whether the row was held before
  pub held-is : held_by x image r ≡ is_some (newest (λ o. on_row r o && by x o) deeds)
  held-is = here (newest (on_row r) deeds) refl (shows.locks r)
    where
      -- an own one on the row is the newest there
      top : (o : Deed) → own ≡ Some o → newest (on_row r) deeds ≡ Some o
      top o e = newest-own committed (on_row r) x deeds o (row-shares committed r) h new e

      none : (p : Option Deed) → own ≡ p → ((o : Deed) → p ≡ Some o → ⊥) → false ≡ is_some own
      none None e f = rw e refl
      none (Some o) e f = absurd (f o refl)

      here : (p : Option Deed) → newest (on_row r) deeds ≡ p → IsLocked committed image.scn image.slot (image.lock r) p → held_by x image r ≡ is_some own
      here None e l = rw l (none own refl (λ o f. (let bad : ◌≡◌ {A = Option Deed} None (Some o) = sym e ∙ top o f in cc)))
      here (Some n) e (inl l) =
          rw l.0 (none own refl (λ o f.
          (let same : ◌≡◌ {A = Option Deed} (Some n) (Some o) = sym e ∙ top o f in
          let is : n ≡ o = cc in
          let is_x : x ≡ o.xid = same_xid-true x o.xid (both_true (on_row r o) (by x o) (newest-passes (λ o. on_row r o && by x o) o deeds f)).1 in
          no-commit (committed n.xid) (λ c. c < image.scn) (rw (is, sym is_x) new) l.1)))
      here (Some n) e (inr l) = go (by x n) refl
        where
          first : (n.itl == 0) ≡ false
          first = zero_not n.itl ((newest-all (IsFair committed) (on_row r) n deeds (fair-all committed deeds h) e).placed.first)
            where
              zero_not : (k : ℕ) → 1 ≤ k → (k == 0) ≡ false
              zero_not k le = test (k == 0) refl
                where
                  test : (b : Bool) → (k == 0) ≡ b → b ≡ false
                  test false e = refl
                  test true e = let z : k ≡ 0 = eqb-true k 0 e in absurd (omega arith)

          held : held_by x image r ≡ same_xid n.xid x
          held = rw (l.0, first, l.1) refl

          go : (b : Bool) → by x n ≡ b → held_by x image r ≡ is_some own
          go true f = held ∙ (same_xid-sym n.xid x ∙ (f ∙ sym (some-of (on_row r) (λ o. on_row r o && by x o) deeds n e (rw (newest-passes (on_row r) n deeds e) f))))
          go false f = held ∙ (same_xid-sym n.xid x ∙ (f ∙ none own refl (λ o g.
              (let same : ◌≡◌ {A = Option Deed} (Some n) (Some o) = sym e ∙ top o g in
              let is : n ≡ o = cc in
              clash (by x n) (rw is (both_true (on_row r o) (by x o) (newest-passes (λ o. on_row r o && by x o) o deeds g)).1) f))))
