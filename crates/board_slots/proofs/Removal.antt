-- One of those that stand is taken out, and the block gets what its undo keeps.
use Rattle.std.proofs.Common.{◌≡◌, ℕ, ◌<◌, Bool, true, false, cond, ◌&&◌, ◌==◌, List, [], ◌∷◌, ◌++◌, refl, sym, ap, ◌∙◌}
use Rattle.std.specs.Prelude.{Option, Some, None, IsSomeAnd, is_some}
use Rattle.std.specs.List.{AllByRecursion}
use Rattle.std.proofs.lemmas.Bool.{eqb-true, eq-eqb}
use Rattle.base_types.specs.declared.names.Xid.{Xid}
use Rattle.redo_types.specs.declared.blocks.ItlSlot.{ItlSlot}
use Rattle.journal.specs.Past.{same_xid}
use Rattle.journal.proofs.XidLemmas.{both_true, same_xid-true}
use Rattle.board_slots.specs.Block.{Deed, newest, on_row, puts_on, in_slot, by, slot_of, value_of, slot_by, value_by, put}
use Rattle.board_slots.specs.Slots.{IsUnder, IsUndone, IsIn, Orderly}
use Rattle.board_slots.proofs.Newest.{same_xid-sym, all_map, all_append, all_join, newest-skip, newest-past, newest-all, newest-passes, eqb-off, eqb-both}

pub no-commit : (o : Option ℕ) (P : ℕ → Type 0) → o ≡ None → IsSomeAnd o P → ⊥
no-commit o P e h = rw e at h

-- two that pass share a row or a slot
abbrev pub Shares : (Xid → Option ℕ) → (Deed → Bool) → Type 0
Shares committed t = (m o : Deed) → t m ≡ true → t o ≡ true → IsUnder committed m o → same_xid m.xid o.xid ≡ false → IsSomeAnd (committed o.xid) (λ c. c < m.scn)

pub row-shares : (committed : Xid → Option ℕ) (r : ℕ) → Shares committed (on_row r)
row-shares committed r m o a b under = under.row (eqb-both r m.row o.row a b)

pub slot-shares : (committed : Xid → Option ℕ) (k : ℕ) → Shares committed (in_slot k)
slot-shares committed k m o a b under = under.slot (eqb-both k m.itl o.itl a b)

-- in a row or slot, what isn't committed is the newest
pub newest-own : (committed : Xid → Option ℕ) (t : Deed → Bool) (x : Xid) (deeds : List Deed) (o : Deed) → Shares committed t → Orderly committed deeds → committed x ≡ None → newest (λ m. t m && by x m) deeds ≡ Some o → newest t deeds ≡ Some o
newest-own committed t x [] o shares h new e = e
newest-own committed t x (m ∷ deeds) o shares h new e = here (t m) refl (by x m) refl e (newest-own committed t x deeds o shares h.1 new)
  where
    here : (a : Bool) → t m ≡ a → (b : Bool) → by x m ≡ b → cond (a && b) (Some m) (newest (λ m. t m && by x m) deeds) ≡ Some o → (newest (λ m. t m && by x m) deeds ≡ Some o → newest t deeds ≡ Some o) → cond a (Some m) (newest t deeds) ≡ Some o
    here true f true g e ih = e
    here true f false g e ih =
        let p = both_true (t o) (by x o) (newest-passes (λ m. t m && by x m) o deeds e) in
        let is : x ≡ o.xid = same_xid-true x o.xid p.1 in
        let under = newest-all (IsUnder committed m) (λ m. t m && by x m) o deeds h.0.under e in
        absurd (no-commit (committed o.xid) (λ c. c < m.scn) (rw (sym is) new) (shares m o f p.0 under (rw (sym is, same_xid-sym m.xid x) g)))
    here false f b g e ih = ih e

-- a newer one has nothing in common with it
abbrev pub IsClear : Deed → Deed → Type 0
IsClear m n = ((m.row == n.row) ≡ false) × ((m.itl == n.itl) ≡ false) × (same_xid n.xid m.xid ≡ false)

undone-without : (m n : Deed) (newer older : List Deed) → IsClear m n → IsUndone n (newer ++ m ∷ older) → IsUndone n (newer ++ older)
undone-without m n newer older c u =
    record {
      old = u.old ∙ ap value_of (newest-skip (puts_on n.row) m newer older (rw c.0 refl));
      slot = u.slot ∙ ap slot_of (newest-skip (in_slot n.itl) m newer older c.1);
      mine = u.mine ∙ ap is_some (newest-skip (λ o. on_row n.row o && by n.xid o) m newer older (rw c.0 refl));
    }

pub orderly-without : (committed : Xid → Option ℕ) (m : Deed) (newer older : List Deed) → AllByRecursion (IsClear m) newer → Orderly committed (newer ++ m ∷ older) → Orderly committed (newer ++ older)
orderly-without committed m [] older c h = h.1
orderly-without committed m (n ∷ newer) older c h =
    let parts = all_append (IsUnder committed n) newer (m ∷ older) h.0.under in (
      record {
        under = all_join (IsUnder committed n) newer older parts.0 parts.1.1;
        undo = undone-without m n newer older c.0 h.0.undo;
        fair = h.0.fair;
      },
      orderly-without committed m newer older c.1 h.1,
    )

pub orderly-older : (committed : Xid → Option ℕ) (newer older : List Deed) → Orderly committed (newer ++ older) → Orderly committed older
orderly-older committed [] older h = h
orderly-older committed (n ∷ newer) older h = orderly-older committed newer older h.1

-- what stands over one of those, of each
pub orderly-over : (committed : Xid → Option ℕ) (newer : List Deed) (m : Deed) (older : List Deed) → Orderly committed (newer ++ m ∷ older) → AllByRecursion (λ n. IsUnder committed n m) newer
orderly-over committed [] m older h = tt
orderly-over committed (n ∷ newer) m older h =
    ((all_append (IsUnder committed n) newer (m ∷ older) h.0.under).1.0, orderly-over committed newer m older h.1)

module _ (committed : Xid → Option ℕ) (m : Deed) (newer older : List Deed)
    (clear : AllByRecursion (IsClear m) newer) (h : Orderly committed (newer ++ m ∷ older)) where
  abbrev before : List Deed
  before = newer ++ m ∷ older

  abbrev after : List Deed
  after = newer ++ older

  pub is-in : IsIn committed m older
  is-in = (orderly-older committed newer (m ∷ older) h).0

  pub rest : Orderly committed older
  rest = (orderly-older committed newer (m ∷ older) h).1

  pub no-row : AllByRecursion (λ n. on_row m.row n ≡ false) newer
  no-row = all_map (IsClear m) (λ n. on_row m.row n ≡ false) newer (λ n c. eqb-off m.row n.row c.0) clear

  pub no-put : AllByRecursion (λ n. puts_on m.row n ≡ false) newer
  no-put = all_map (IsClear m) (λ n. puts_on m.row n ≡ false) newer (λ n c. rw (eqb-off m.row n.row c.0) refl) clear

  pub no-slot : AllByRecursion (λ n. in_slot m.itl n ≡ false) newer
  no-slot = all_map (IsClear m) (λ n. in_slot m.itl n ≡ false) newer (λ n c. eqb-off m.itl n.itl c.1) clear

  pub newest-row : newest (on_row m.row) before ≡ Some m
  newest-row = newest-past (on_row m.row) newer (m ∷ older) no-row ∙ rw (eq-eqb m.row m.row refl) refl

  pub newest-slot : newest (in_slot m.itl) before ≡ Some m
  newest-slot = newest-past (in_slot m.itl) newer (m ∷ older) no-slot ∙ rw (eq-eqb m.itl m.itl refl) refl

  pub values-after : (value : ℕ → _) → ((r : ℕ) → value r ≡ value_by r before) → (r : ℕ) → put value m.row m.old r ≡ value_by r after
  values-after value is r = here (m.row == r) refl
    where
      here : (t : Bool) → (m.row == r) ≡ t → cond t m.old (value r) ≡ value_by r after
      here true e = rw (sym (eqb-true m.row r e)) (is-in.undo.old ∙ ap value_of (sym (newest-past (puts_on m.row) newer older no-put)))
      here false e = is r ∙ ap value_of (newest-skip (puts_on r) m newer older (rw e refl))

  pub slots-after : (slot : ℕ → ItlSlot) → ((k : ℕ) → slot k ≡ slot_by k before) → (k : ℕ) → put slot m.itl m.old_itl k ≡ slot_by k after
  slots-after slot is k = here (m.itl == k) refl
    where
      here : (t : Bool) → (m.itl == k) ≡ t → cond t m.old_itl (slot k) ≡ slot_by k after
      here true e = rw (sym (eqb-true m.itl k e)) (is-in.undo.slot ∙ ap slot_of (sym (newest-past (in_slot m.itl) newer older no-slot)))
      here false e = is k ∙ ap slot_of (newest-skip (in_slot k) m newer older e)
