-- A consistent copy shows what is visible.
use Rattle.std.proofs.Common.{◌≡◌, ℕ, ◌≤◌, Bool, true, false, cond, not, ◌&&◌, ◌||◌, ◌==◌, List, [], ◌∷◌, refl, sym, ap, ◌∙◌, subst, inl, inr, ◌⊎◌}
use Rattle.std.specs.Prelude.{Option, Some, None, Result, IsSomeAnd, IfSome, is_some, if◌then◌else◌}
use Rattle.std.specs.List.{AllByRecursion}
use Rattle.std.proofs.lemmas.Bool.{eqb-true, eq-eqb}
use Rattle.base_types.specs.declared.names.Xid.{Xid}
use Rattle.base_types.specs.declared.value.Value.{Value}
use Rattle.journal.specs.Past.{same_xid}
use Rattle.undo_segment.specs.declared.fetch.Fetch.{Fetch}
use Rattle.txn_slots.specs.Own.{is_own}
use Rattle.cr_copy.specs.declared.copy.Pick.{Pick}
use Rattle.cr_copy.specs.declared.made.Halt.{Halt}
use Rattle.journal.proofs.XidLemmas.{both_true, same_xid-true}
use Rattle.board_slots.specs.Block.{Deed, newest, on_row, puts_on, in_slot, by, value_of, Image, held_by}
use Rattle.board_slots.specs.Slots.{IsFair, Orderly, Shows}
use Rattle.board_slots.specs.Views.{ReaderFollows, view}
use Rattle.board_slots.proofs.Rule.{four, head_halt, pick, best, undo_halt}
use Rattle.board_slots.proofs.Newest.{clash, all_map, all_both, newest-all, newest-passes, newest-none, the}
use Rattle.board_slots.proofs.Removal.{row-shares, newest-own}
use Rattle.board_slots.proofs.Held.{each-there, fair-all, held-is}
use Rattle.board_slots.proofs.Rounds.{no-answer, four-all, all_each, goes, Fits, Rest, Left, slot-over, goes-picked, best-none}

-- the rows that are shown, where the reader's own rows are as in the image
abbrev pub rows_of : Option Xid → Image → Rest → ℕ → Value
rows_of None image w r = w.value r
rows_of (Some x) image w r = if held_by x image r then image.value r else w.value r

-- tests that agree on all
pub newest-alike : (t u : Deed → Bool) (deeds : List Deed) → AllByRecursion (λ m. t m ≡ u m) deeds → newest t deeds ≡ newest u deeds
newest-alike t u [] h = refl
newest-alike t u (m ∷ deeds) h = rw (h.0, newest-alike t u deeds h.1) refl

module _ (committed : Xid → Option ℕ) (s : ℕ) (me : Option Xid) (visible : Xid → Bool) (class_of : Xid → Result Bool Halt) (number : ℕ) (fetch : Xid → ℕ → Fetch) where
  abbrev F : Deed → Type 0
  F m = Fits committed s me visible class_of number fetch m

  abbrev cand : Deed → Bool
  cand m = goes me visible m.xid

  -- where no slot is picked, all that is left stays
  pub left-stays : (all : List Deed) (w : Rest) (deeds : List Deed) → Left committed s me visible class_of number fetch all w deeds
      → AllByRecursion (λ k. head_halt class_of (w.slot k) ≡ None) four → AllByRecursion (λ k. undo_halt class_of number fetch k (w.slot k) ≡ None) four
      → best (λ k. pick class_of number fetch k (w.slot k)) four ≡ None → AllByRecursion (λ n. cand n ≡ false) deeds
  left-stays all w deeds left heads undos none =
      all_both (λ n. There n × IsFair committed n) Over (λ n. cand n ≡ false) deeds (λ n a b. one n a.0 a.1 b (cand n) refl)
      (all_both There (IsFair committed) (λ n. There n × IsFair committed n) deeds (λ n a b. (a, b)) (each-there deeds) (fair-all committed deeds left.orderly))
      (all_each (λ (a : InSlot) n. in_slot a.0 n ≡ true → cand n ≡ true → cand a.1 ≡ true) deeds
      (λ a. all_map (λ n. in_slot a.0 n ≡ true → (n.version ≤ a.1.version) × (cand n ≡ true → cand a.1 ≡ true)) (λ n. in_slot a.0 n ≡ true → cand n ≡ true → cand a.1 ≡ true) deeds (λ n f on. (f on).1)
      (slot-over committed s me visible class_of number fetch a.0 a.1 deeds left.orderly left.fits a.2)))
    where
      There : Deed → Type 0
      There o = (t : Deed → Bool) → t o ≡ true → is_some (newest t deeds) ≡ true

      InSlot : Type 0
      InSlot = (k : ℕ) × (q : Deed) × (newest (in_slot k) deeds ≡ Some q)

      Over : Deed → Type 0
      Over n = (a : InSlot) → in_slot a.0 n ≡ true → cand n ≡ true → cand a.1 ≡ true

      one : (n : Deed) → There n → IsFair committed n → Over n → (t : Bool) → cand n ≡ t → t ≡ false
      one n there fair over false e = refl
      one n there fair over true e =
          let q = the (newest (in_slot n.itl) deeds) (there (in_slot n.itl) (eq-eqb n.itl n.itl refl)) in
          let c = over (n.itl, q.0, q.1) (eq-eqb n.itl n.itl refl) e in
          let is = goes-picked committed s me visible class_of number fetch all w deeds left heads undos q.0 n.itl fair.placed.first fair.placed.last (newest-all F (in_slot n.itl) q.0 deeds left.fits q.1) q.1 c in
          let no = four-all (λ k. pick class_of number fetch k (w.slot k) ≡ None) (best-none (λ k. pick class_of number fetch k (w.slot k)) four none) n.itl fair.placed.first fair.placed.last in
          no-answer Pick _ (sym no ∙ is)

  -- whom the reader's row has under it
  pub row-seen : (r : ℕ) (x : Xid) (o : Deed) (deeds : List Deed) → newest (on_row r) deeds ≡ Some o → by x o ≡ true → ReaderFollows committed s (Some x) deeds
      → AllByRecursion (λ n. on_row r n ≡ true → (by x n ≡ true) ⊎ IsSomeAnd (committed n.xid) (λ c. c ≤ s)) deeds
  row-seen r x o [] e own follows = tt
  row-seen r x o (m ∷ deeds) e own follows = here (on_row r m) refl e (row-seen r x o deeds)
    where
      here : (t : Bool) → on_row r m ≡ t → cond t (Some m) (newest (on_row r) deeds) ≡ Some o
          → (newest (on_row r) deeds ≡ Some o → by x o ≡ true → ReaderFollows committed s (Some x) deeds → AllByRecursion (λ n. on_row r n ≡ true → (by x n ≡ true) ⊎ IsSomeAnd (committed n.xid) (λ c. c ≤ s)) deeds)
          → (on_row r m ≡ true → (by x m ≡ true) ⊎ IsSomeAnd (committed m.xid) (λ c. c ≤ s)) × AllByRecursion (λ n. on_row r n ≡ true → (by x n ≡ true) ⊎ IsSomeAnd (committed n.xid) (λ c. c ≤ s)) deeds
      here false g e ih = ((λ yes. clash (on_row r m) yes g), ih e own follows.1)
      here true g e ih =
          let same : m ≡ o = cc in
          let mine : by x m ≡ true = rw same own in (
            (λ yes. inl mine),
            all_map (λ n. (m.row == n.row) ≡ true → same_xid m.xid n.xid ≡ false → IsSomeAnd (committed n.xid) (λ c. c ≤ s)) (λ n. on_row r n ≡ true → (by x n ≡ true) ⊎ IsSomeAnd (committed n.xid) (λ c. c ≤ s)) deeds
                (λ n f on. one n (same_xid m.xid n.xid) refl mine (f (rw (eqb-true m.row r g, eqb-true n.row r on) (eq-eqb r r refl)))) (follows.0 mine),
          )
        where
          one : (n : Deed) (t : Bool) → same_xid m.xid n.xid ≡ t → by x m ≡ true → (same_xid m.xid n.xid ≡ false → IsSomeAnd (committed n.xid) (λ c. c ≤ s)) → (by x n ≡ true) ⊎ IsSomeAnd (committed n.xid) (λ c. c ≤ s)
          one n true f mine l = inl (rw (sym (same_xid-true m.xid n.xid f)) mine)
          one n false f mine l = inr (l f)

  module _ (image : Image) (all : List Deed) (h : Orderly committed all) (shows : Shows committed image all) (fits : AllByRecursion F all)
      (reader : IfSome me (λ x. committed x ≡ None)) (follows : ReaderFollows committed s me all) where
    abbrev Seen : Xid → Bool
    Seen x = is_own me x || visible x

    -- a row on which nothing of the reader stands
    other-row : (r : ℕ) → AllByRecursion (λ n. on_row r n ≡ true → is_own me n.xid ≡ false) all → newest (λ m. puts_on r m && not (cand m)) all ≡ newest (λ m. puts_on r m && Seen m.xid) all
    other-row r none = newest-alike _ _ all (all_map (λ n. on_row r n ≡ true → is_own me n.xid ≡ false) (λ m. (puts_on r m && not (cand m)) ≡ (puts_on r m && Seen m.xid)) all (λ n f. one (on_row r n) n.puts (is_own me n.xid) (visible n.xid) f) none)
      where
        one : (o p a b : Bool) → (o ≡ true → a ≡ false) → ((o && p) && not (a || not b)) ≡ ((o && p) && (a || b))
        one true true true b f = clash true refl (f refl)
        one true true false true f = refl
        one true true false false f = refl
        one true false a b f = refl
        one false p a b f = refl

    -- a row that the reader holds
    own-row : (r : ℕ) (x : Xid) → me ≡ Some x → held_by x image r ≡ true → committed x ≡ None → ReaderFollows committed s (Some x) all → image.value r ≡ view Seen all r
    own-row r x is held new follows =
        shows.values r ∙ ap value_of (newest-alike (puts_on r) (λ m. puts_on r m && Seen m.xid) all
        (all_both F (λ n. on_row r n ≡ true → (by x n ≡ true) ⊎ IsSomeAnd (committed n.xid) (λ c. c ≤ s)) (λ m. puts_on r m ≡ (puts_on r m && Seen m.xid)) all (λ n f g. one (on_row r n) n.puts (Seen n.xid) (λ on. seen n f (g on))) fits (row-seen r x top.0 all there own follows)))
      where
        top : (o : Deed) × (newest (λ o. on_row r o && by x o) all ≡ Some o)
        top = the (newest (λ o. on_row r o && by x o) all) (sym (held-is committed image all h shows x r new) ∙ held)

        own : by x top.0 ≡ true
        own = (both_true (on_row r top.0) (by x top.0) (newest-passes (λ o. on_row r o && by x o) top.0 all top.1)).1

        there : newest (on_row r) all ≡ Some top.0
        there = newest-own committed (on_row r) x all top.0 (row-shares committed r) h new top.1

        stays : (a b : Bool) → (a || not b) ≡ false → (a || b) ≡ true
        stays true b e = refl
        stays false true e = refl
        stays false false e = sym e

        seen : (n : Deed) → F n → (by x n ≡ true) ⊎ IsSomeAnd (committed n.xid) (λ c. c ≤ s) → Seen n.xid ≡ true
        seen n f (inl e) = rw (is, e) refl
        seen n f (inr l) = stays (is_own me n.xid) (visible n.xid) (f.stays l)

        one : (o p a : Bool) → (o ≡ true → a ≡ true) → (o && p) ≡ ((o && p) && a)
        one true true a f = sym (f refl)
        one true false a f = refl
        one false p a f = refl

    -- what is left shows what is visible, and the reader's rows are as they were
    pub shown : (w : Rest) (deeds : List Deed) → Left committed s me visible class_of number fetch all w deeds → AllByRecursion (λ n. cand n ≡ false) deeds → (r : ℕ) → rows_of me image w r ≡ view Seen all r
    shown w deeds left stays r = here me refl
      where
        rest : AllByRecursion (λ n. on_row r n ≡ true → is_own me n.xid ≡ false) all → w.value r ≡ view Seen all r
        rest none =
            left.values r
            ∙ (ap value_of (newest-alike (puts_on r) (λ m. puts_on r m && not (cand m)) deeds (all_map (λ n. cand n ≡ false) (λ m. puts_on r m ≡ (puts_on r m && not (cand m))) deeds (λ n c. rw c (and_true (puts_on r n))) stays))
            ∙ (ap value_of (left.same (puts_on r)) ∙ ap value_of (other-row r none)))
          where
            and_true : (b : Bool) → b ≡ (b && not false)
            and_true true = refl
            and_true false = refl

        all_of : {P : Deed → Type 0} (deeds : List Deed) → ((m : Deed) → P m) → AllByRecursion P deeds
        all_of [] f = tt
        all_of (m ∷ deeds) f = (f m, all_of deeds f)

        none : (x : Xid) → me ≡ Some x → held_by x image r ≡ false → committed x ≡ None → AllByRecursion (λ n. on_row r n ≡ true → is_own me n.xid ≡ false) all
        none x e free new =
            all_map (λ n. (on_row r n && by x n) ≡ false) (λ n. on_row r n ≡ true → is_own me n.xid ≡ false) all (λ n off on. rw e (rw on at off))
            (newest-none (λ o. on_row r o && by x o) all (gone (newest (λ o. on_row r o && by x o) all) (sym (held-is committed image all h shows x r new) ∙ free)))
          where
            gone : (o : Option Deed) → is_some o ≡ false → o ≡ None
            gone None e = refl
            gone (Some m) e = clash true refl e

        here : (o : Option Xid) → me ≡ o → rows_of o image w r ≡ view Seen all r
        here None e = rest (all_of all (λ m _. rw e refl))
        here (Some x) e = go (held_by x image r) refl (rw e at reader) (subst (λ o. ReaderFollows committed s o all) e follows)
          where
            go : (t : Bool) → held_by x image r ≡ t → committed x ≡ None → ReaderFollows committed s (Some x) all → cond t (image.value r) (w.value r) ≡ view Seen all r
            go true f new follows = own-row r x e f new follows
            go false f new follows = rest (none x e f new)
