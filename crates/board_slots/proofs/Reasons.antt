-- Why a copy has no rows.
use Rattle.std.proofs.Common.{◌≡◌, ℕ, ◌-◌, ◌<◌, ◌≤◌, Bool, true, false, cond, List, [], ◌∷◌, ◌++◌, refl, sym, ap, ◌∙◌, subst, arith, inl, inr, ◌⊎◌}
use Rattle.std.specs.Prelude.{Option, Some, None, Result, Ok, Err, nat_lt, nat_le, zero, suc}
use Rattle.std.specs.List.{AllByRecursion, Any}
use Rattle.std.proofs.lemmas.Bool.Decides.{nat_tests}
use Rattle.base_types.specs.declared.names.Xid.{Xid}
use Rattle.redo_types.specs.declared.undo.UndoRecord.{UndoRecord}
use Rattle.journal.specs.declared.cause.Cause.TheVariants.{OldSlot, OldUndo}
use Rattle.undo_segment.specs.declared.fetch.Fetch.{Fetch}
use Rattle.undo_segment.specs.declared.fetch.Fetch.TheVariants.{Has, Never, Reused, Unfetched}
use Rattle.undo_segment.specs.declared.look.Look.{Look}
use Rattle.undo_segment.specs.declared.look.Look.TheVariants.{Active, Ended, ReusedBelow, Unlooked}
use Rattle.txn_slots.specs.declared.wanted.Wanted.TheVariants.{Head, Undo}
use Rattle.txn_slots.specs.Own.{is_own}
use Rattle.cr_copy.specs.declared.copy.Pick.{Pick}
use Rattle.cr_copy.specs.declared.copy.Work.{Work}
use Rattle.cr_copy.specs.declared.made.Halt.{Halt}
use Rattle.cr_copy.specs.declared.made.Halt.TheVariants.{Need, TooOld}
use Rattle.cr_copy.specs.Copy as copy
use Rattle.cr_copy.specs.Copy.{back_by, falling, fetched, fits, goes_on, halted, is_named, round, rounds}
use Rattle.board_slots.specs.Block.{Deed, newest, in_slot, slot_of}
use Rattle.board_slots.specs.Slots.{IsFair, IsUnder, Orderly}
use Rattle.board_slots.specs.Told.{Stops}
use Rattle.board_slots.specs.Views.{IsWritten, undo_of}
use Rattle.board_slots.proofs.Newest.{all_append, all_both, all_join, all_map, newest-all, newest-passes}
use Rattle.board_slots.proofs.Removal.{orderly-older, orderly-over}
use Rattle.board_slots.proofs.Held.{fair-all}
use Rattle.board_slots.proofs.Rule.{class, first_of, four, halt_of, head_halt, or_else, outcome, undo_halt, undo_halt_of}
use Rattle.board_slots.proofs.Rounds.{class-is, class-none, fits-own, four-in, goes, going-low, halts-none, Fits, Left, no-answer, old-named, Rest, taken}
use Rattle.board_slots.proofs.Works.{IsLeft}
use Rattle.board_slots.proofs.Ends.{best_of, heads_of, Next, next, round-of, undos_of}

any-first : {X : Type 0} (P : X → Type 0) (x : X) (xs : List X) → P x → Any P (x ∷ xs)
any-first P x xs p = (0, x, omega arith, refl, p)

any-rest : {X : Type 0} (P : X → Type 0) (x : X) (xs : List X) → Any P xs → Any P (x ∷ xs)
any-rest P x xs a = (suc a.0, a.1, omega (arith, a.2), a.3, a.4)

any-one : {X : Type 0} (P : X → Type 0) (x : X) (xs : List X) → Any P (x ∷ xs) → P x ⊎ Any P xs
any-one P x xs (zero, y, lt, at, p) = inl (rw at p)
any-one P x xs (suc k, y, lt, at, p) = inr (k, y, omega (arith, lt), at, p)

any-none : {X : Type 0} (P : X → Type 0) → Any P [] → ⊥
any-none P a = absurd (omega (arith, a.2))

-- what holds of one of those that are left holds of one of all
any-more : {X : Type 0} (P : X → Type 0) (m : X) (newer older : List X) → Any P (newer ++ older) → Any P (newer ++ m ∷ older)
any-more P m [] older a = any-rest P m older a
any-more P m (n ∷ newer) older a = elim (any-one P n (newer ++ older) a) [ inl p ↦ any-first P n (newer ++ m ∷ older) p | inr b ↦ any-rest P n (newer ++ m ∷ older) (any-more P m newer older b) ]

pub any-newest : (P : Deed → Type 0) (t : Deed → Bool) (q : Deed) (deeds : List Deed) → newest t deeds ≡ Some q → P q → Any P deeds
any-newest P t q [] e p = no-answer Deed q e
any-newest P t q (m ∷ deeds) e p = here (t m) e (any-newest P t q deeds)
  where
    here : (b : Bool) → cond b (Some m) (newest t deeds) ≡ Some q → (newest t deeds ≡ Some q → P q → Any P deeds) → Any P (m ∷ deeds)
    here true e ih = let same : m ≡ q = cc in any-first P m deeds (rw same p)
    here false e ih = any-rest P m deeds (ih e p)

-- the slot of the first halt
first-at : (halt : ℕ → Option Halt) (ks : List ℕ) (P : ℕ → Type 0) (a : Halt) → AllByRecursion P ks → first_of halt ks ≡ Some a → (k : ℕ) × (halt k ≡ Some a) × P k
first-at halt [] P a all e = no-answer Halt a e
first-at halt (j ∷ ks) P a all e = here (halt j) refl e (first-at halt ks P a all.1)
  where
    here : (o : Option Halt) → halt j ≡ o → or_else o (first_of halt ks) ≡ Some a → (first_of halt ks ≡ Some a → (k : ℕ) × (halt k ≡ Some a) × P k) → (k : ℕ) × (halt k ≡ Some a) × P k
    here (Some b) f e ih = (j, f ∙ e, all.0)
    here None f e ih = ih e

module _ (s : ℕ) (me : Option Xid) (look : Xid → Look) (number : ℕ) (fetch : Xid → ℕ → Fetch) where
  abbrev Why : Halt → Deed → Type 0
  Why a m = Stops s look fetch (halted a) m

  -- a header that halts is of the deed's transaction
  class-stops : (q : Deed) (a : Halt) → class s me look q.xid ≡ Err a → Why a q
  class-stops q a e = here (is_own me q.xid) e
    where
      by_look : (l : Look) → look q.xid ≡ l → back_by s q.xid l ≡ Err a → Why a q
      by_look Unlooked f e = let same : Need (Head q.xid.seg) ≡ a = cc in subst (λ a. Why a q) same (refl, f)
      by_look Active f e = absurd (let bad : ◌≡◌ {A = Result Bool Halt} (Ok true) (Err a) = e in cc)
      by_look (Ended d) f e = absurd (let bad : ◌≡◌ {A = Result Bool Halt} (Ok (nat_lt s d)) (Err a) = e in cc)
      by_look (ReusedBelow d now) f e = reused (nat_lt s d) refl e
        where
          reused : (t : Bool) → nat_lt s d ≡ t → cond t (Err (TooOld (OldSlot q.xid now))) (Ok false) ≡ Err a → Why a q
          reused true g e = let same : TooOld (OldSlot q.xid now) ≡ a = cc in subst (λ a. Why a q) same (refl, rw f (grind (arith, nat_tests, g), refl))
          reused false g e = absurd (let bad : ◌≡◌ {A = Result Bool Halt} (Ok false) (Err a) = e in cc)

      here : (t : Bool) → cond t (Ok true) (back_by s q.xid (look q.xid)) ≡ Err a → Why a q
      here true e = absurd (let bad : ◌≡◌ {A = Result Bool Halt} (Ok true) (Err a) = e in cc)
      here false e = by_look (look q.xid) refl e

  -- an undo record that halts is the deed's
  undo-stops : (q : Deed) (k : ℕ) (a : Halt) (c : Result Bool Halt) (f : Fetch) → fetch q.xid q.seq ≡ f → IsWritten (undo_of number q) f → fits number k (slot_of (Some q)) (undo_of number q) ≡ true
      → undo_halt_of c (fetched number k (slot_of (Some q)) f) ≡ Some a → Why a q
  undo-stops q k a (Ok false) f g is own e = no-answer Halt a e
  undo-stops q k a (Err b) f g is own e = no-answer Halt a e
  undo-stops q k a (Ok true) Unfetched g is own e = let same : Need (Undo (record { seg = q.xid.seg; seq = q.seq })) ≡ a = cc in subst (λ a. Why a q) same (refl, g)
  undo-stops q k a (Ok true) Never g is own e = absurd is
  undo-stops q k a (Ok true) (Reused now) g is own e = let same : TooOld (OldUndo q.xid q.seq now) ≡ a = cc in subst (λ a. Why a q) same (refl, refl, g)
  undo-stops q k a (Ok true) (Has u) g is own e = no-answer Halt a (sym (rw (is, own) refl) ∙ e)

  module _ (committed : Xid → Option ℕ) (visible : Xid → Bool) (all : List Deed) where
    abbrev class_of : Xid → Result Bool Halt
    class_of x = class s me look x

    abbrev IsRest : Rest → List Deed → Type 0
    IsRest rest deeds = Left committed s me visible class_of number fetch all rest deeds

    heads-stop : (rest : Rest) (deeds : List Deed) → IsRest rest deeds → (a : Halt) → heads_of committed s me visible look number fetch rest ≡ Some a → Any (Why a) deeds
    heads-stop rest deeds left a e =
        let at = first-at (λ k. head_halt class_of (rest.slot k)) four (λ k. (1 ≤ k) × (k ≤ 4)) a four-in e in here at.0 at.1 (newest (in_slot at.0) deeds) refl
      where
        here : (k : ℕ) → head_halt class_of (rest.slot k) ≡ Some a → (o : Option Deed) → newest (in_slot k) deeds ≡ o → Any (Why a) deeds
        here k e None f = no-answer Halt a (sym (ap halt_of (class-none committed s me visible class_of number fetch all rest deeds left k f)) ∙ e)
        here k e (Some q) f = any-newest (Why a) (in_slot k) q deeds f (class-stops q a (err (class_of q.xid) (sym (ap halt_of (class-is committed s me visible class_of number fetch all rest deeds left k q f)) ∙ e)))
          where
            err : (c : Result Bool Halt) → halt_of c ≡ Some a → c ≡ Err a
            err (Ok b) e = no-answer Halt a e
            err (Err b) e = let same : b ≡ a = cc in ap (λ (b : Halt). Err b) same

    undos-stop : (rest : Rest) (deeds : List Deed) → IsRest rest deeds → (a : Halt) → undos_of committed s me visible look number fetch rest ≡ Some a → Any (Why a) deeds
    undos-stop rest deeds left a e =
        let at = first-at (λ k. undo_halt class_of number fetch k (rest.slot k)) four (λ k. (1 ≤ k) × (k ≤ 4)) a four-in e in here at.0 at.1 (newest (in_slot at.0) deeds) refl
      where
        here : (k : ℕ) → undo_halt class_of number fetch k (rest.slot k) ≡ Some a → (o : Option Deed) → newest (in_slot k) deeds ≡ o → Any (Why a) deeds
        here k e None f = no-answer Halt a (sym (ap (λ c. undo_halt_of c (fetched number k (rest.slot k) (fetch (rest.slot k).xid (rest.slot k).seq))) (class-none committed s me visible class_of number fetch all rest deeds left k f)) ∙ e)
        here k e (Some q) f =
            any-newest (Why a) (in_slot k) q deeds f (undo-stops q k a (class_of q.xid) (fetch q.xid q.seq) refl fq.fetched own
            (sym (rw (class-is committed s me visible class_of number fetch all rest deeds left k q f, slot_is) refl) ∙ e))
          where
            fq : Fits committed s me visible class_of number fetch q
            fq = newest-all (Fits committed s me visible class_of number fetch) (in_slot k) q deeds left.fits f

            slot_is : rest.slot k ≡ slot_of (Some q)
            slot_is = left.slots k ∙ ap slot_of f

            own : fits number k (slot_of (Some q)) (undo_of number q) ≡ true
            own = fits-own number k q (newest-all (IsFair committed) (in_slot k) q deeds (fair-all committed deeds left.orderly) f).placed (newest-all (λ m. is_named m.old_itl ≡ true) (in_slot k) q deeds (old-named committed deeds left.orderly) f) (newest-passes (in_slot k) q deeds f)

    abbrev pub Low : ℕ → Deed → Type 0
    Low last n = goes me visible n.xid ≡ true → n.version ≤ last

    -- what goes of the rest is below what was taken back
    falls : (m : Deed) (newer older : List Deed) (top : ℕ) → top ≡ m.version → Orderly committed (newer ++ m ∷ older) → AllByRecursion (Low top) (newer ++ m ∷ older) → AllByRecursion (Low (top - 1)) (newer ++ older)
    falls m newer older top v h low =
        all_join (Low (top - 1)) newer older
        (all_both (λ n. IsUnder committed n m) (Low top) (Low (top - 1)) newer (λ n u l c. (let a = u.rises in let b = l c in absurd (omega arith))) (orderly-over committed newer m older h) (all_append (Low top) newer (m ∷ older) low).0)
        (all_map (IsUnder committed m) (Low (top - 1)) older (λ n u c. (let a = u.rises in omega arith)) ((orderly-older committed newer (m ∷ older) h).0.under))

    -- a copy that halts has a reason
    pub rounds-stop : (fuel last : ℕ) (w : Work) (rest : Rest) (deeds : List Deed) → IsLeft w rest → IsRest rest deeds → AllByRecursion (Low last) deeds → last < fuel
        → (a : Halt) → rounds (round s me look fetch number) fuel last w ≡ Err a → Any (Why a) deeds
    unfolding rounds
    rounds-stop zero last w rest deeds is left low lt a e = absurd (omega (arith, lt))
    rounds-stop (suc fuel) last w rest deeds is left low lt a e =
        here (heads_of committed s me visible look number fetch rest) refl (undos_of committed s me visible look number fetch rest) refl (best_of committed s me visible look number fetch rest) refl
        (sym (ap (λ r. goes_on (λ p. rounds (round s me look fetch number) fuel (p.undo.version - 1) (copy.taken p w)) w (falling last r)) (round-of committed s me visible look number fetch w rest is)) ∙ e) (rounds-stop fuel)
      where
        go : Pick → Result Work Halt
        go p = rounds (round s me look fetch number) fuel (p.undo.version - 1) (copy.taken p w)

        here : (b : Option Halt) → heads_of committed s me visible look number fetch rest ≡ b → (c : Option Halt) → undos_of committed s me visible look number fetch rest ≡ c
            → (o : Option Pick) → best_of committed s me visible look number fetch rest ≡ o → goes_on go w (falling last (outcome (or_else b c) o)) ≡ Err a
            → ((last : ℕ) (w : Work) (rest : Rest) (deeds : List Deed) → IsLeft w rest → IsRest rest deeds → AllByRecursion (Low last) deeds → last < fuel → (a : Halt) → rounds (round s me look fetch number) fuel last w ≡ Err a → Any (Why a) deeds)
            → Any (Why a) deeds
        here (Some b) f c g o i e ih = let same : b ≡ a = cc in heads-stop rest deeds left a (f ∙ ap (λ (b : Halt). Some b) same)
        here None f (Some c) g o i e ih = let same : c ≡ a = cc in undos-stop rest deeds left a (g ∙ ap (λ (b : Halt). Some b) same)
        here None f None g None i e ih = absurd (let bad : ◌≡◌ {A = Result Work Halt} (Ok w) (Err a) = e in cc)
        here None f None g (Some p) i e ih = goes_down (rw (one, most) at e)
          where
            x : Next committed s me visible look number fetch all w rest deeds p
            x = next committed s me visible look number fetch all w rest deeds p is left f g i

            v : p.undo.version ≡ x.m.version
            v = ap (λ (u : UndoRecord). u.version) x.kept

            lows : AllByRecursion (Low p.undo.version) deeds
            lows = going-low committed s me visible class_of number fetch all rest deeds left (halts-none (λ k. head_halt class_of (rest.slot k)) four f) (halts-none (λ k. undo_halt class_of number fetch k (rest.slot k)) four g) p i

            upto : x.m.version ≤ last
            upto = (all_append (Low last) x.newer (x.m ∷ x.older) (subst (AllByRecursion (Low last)) x.place low)).1.0 x.goes_back

            fair : IsFair committed x.m
            fair = (all_append (IsFair committed) x.newer (x.m ∷ x.older) (subst (AllByRecursion (IsFair committed)) x.place (fair-all committed deeds left.orderly))).1.0

            one : nat_le 1 p.undo.version ≡ true
            one = rw v (grind (arith, nat_tests, fair.version))

            most : nat_le p.undo.version last ≡ true
            most = rw v (grind (arith, nat_tests, upto))

            goes_down : go p ≡ Err a → Any (Why a) deeds
            goes_down e =
                subst (Any (Why a)) (sym x.place) (any-more (Why a) x.m x.newer x.older
                (ih (p.undo.version - 1) (copy.taken p w) (taken p rest) (x.newer ++ x.older) x.left x.stands
                (falls x.m x.newer x.older p.undo.version v (subst (Orderly committed) x.place left.orderly) (subst (AllByRecursion (Low p.undo.version)) x.place lows))
                (omega (arith, v, fair.version, upto, lt)) a e))
