-- One round of a consistent copy.
use Rattle.std.proofs.Common.{◌≡◌, ℕ, ◌<◌, ◌≤◌, Bool, true, false, cond, not, ◌&&◌, ◌||◌, ◌==◌, List, [], ◌∷◌, ◌++◌, refl, sym, ap, ◌∙◌, subst, arith, inl, inr, ◌⊎◌}
use Rattle.std.specs.Prelude.{Option, Some, None, Result, Ok, Err, IsSomeAnd, IfSome, is_some, nat_lt, nat_le, zero, suc}
use Rattle.std.specs.List.{AllByRecursion}
use Rattle.std.proofs.lemmas.Bool.{eqb-true, eq-eqb}
use Rattle.std.proofs.lemmas.Bool.Decides.{nat_tests}
use Rattle.base_types.specs.declared.names.Xid.{Xid}
use Rattle.redo_types.specs.declared.blocks.ItlSlot.{ItlSlot}
use Rattle.redo_types.specs.declared.undo.UndoRecord.{UndoRecord}
use Rattle.journal.specs.Past.{same_xid}
use Rattle.undo_segment.specs.declared.fetch.Fetch.{Fetch}
use Rattle.undo_segment.specs.declared.fetch.Fetch.TheVariants.{Has, Never, Reused, Unfetched}
use Rattle.txn_slots.specs.Own.{is_own}
use Rattle.cr_copy.specs.declared.copy.Pick.{Pick}
use Rattle.cr_copy.specs.declared.made.Halt.{Halt}
use Rattle.cr_copy.specs.declared.made.Halt.TheVariants.{Bad, Need, TooOld}
use Rattle.cr_copy.specs.Named.{IsNamed}
use Rattle.journal.specs.declared.cause.Cause.TheVariants.{OldUndo}
use Rattle.txn_slots.specs.declared.wanted.Wanted.TheVariants.{Undo}
use Rattle.base_types.specs.declared.value.Value.{Value}
use Rattle.cr_copy.specs.Copy.{fetched, fits, higher, is_named}
use Rattle.journal.proofs.XidLemmas.{same_xid-true}
use Rattle.board_slots.specs.Block.{Deed, newest, in_slot, put, slot_of, slot_by, value_by}
use Rattle.board_slots.specs.Slots.{IsUnder, IsFair, IsPlaced, Orderly}
use Rattle.board_slots.specs.Views.{IsWritten, undo_of}
use Rattle.board_slots.proofs.Rule.{first_of, four, found, halt_of, head_halt, or_else, pick, pick_of, slot_class, best, undo_halt, undo_halt_of}
use Rattle.board_slots.proofs.Newest.{clash, all_map, all_both, all_append, all_join, newest-skip, Split, split, newest-all, newest-passes, the, eqb-off, eqb-both}
use Rattle.board_slots.proofs.Removal.{IsClear, orderly-without, orderly-over, values-after, slots-after}
use Rattle.board_slots.proofs.Held.{each-there, fair-all}

pub no-answer : {A : Type 0} (X : Type 0) (a : X) → ◌≡◌ {A = Option X} None (Some a) → A
no-answer X a e = absurd (cc)

pub or-none : (a b : Option Halt) → or_else a b ≡ None → (a ≡ None) × (b ≡ None)
or-none None b e = (refl, e)
or-none (Some a) b e = no-answer Halt a (sym e)

pub halts-none : (halt : ℕ → Option Halt) (ks : List ℕ) → first_of halt ks ≡ None → AllByRecursion (λ k. halt k ≡ None) ks
halts-none halt [] e = tt
halts-none halt (k ∷ ks) e = let both = or-none (halt k) (first_of halt ks) e in (both.0, halts-none halt ks both.1)

-- a fact of all for each of something
pub all_each : {A X : Type 0} (P : A → X → Type 0) (xs : List X) → ((a : A) → AllByRecursion (P a) xs) → AllByRecursion (λ x. (a : A) → P a x) xs
all_each P [] f = tt
all_each P (x ∷ xs) f = ((λ a. (f a).0), all_each P xs (λ a. (f a).1))

pub four-in : AllByRecursion (λ k. (1 ≤ k) × (k ≤ 4)) four
four-in = ((omega arith, omega arith), ((omega arith, omega arith), ((omega arith, omega arith), ((omega arith, omega arith), tt))))

-- a number from 1 to 4
pub four-all : (P : ℕ → Type 0) → AllByRecursion P four → (k : ℕ) → 1 ≤ k → k ≤ 4 → P k
four-all P h zero a b = absurd (omega arith)
four-all P h (suc zero) a b = h.0
four-all P h (suc (suc zero)) a b = h.1.0
four-all P h (suc (suc (suc zero))) a b = h.1.1.0
four-all P h (suc (suc (suc (suc zero)))) a b = h.1.1.1.0
four-all P h (suc (suc (suc (suc (suc k))))) a b = absurd (omega arith)

-- the copy as far as it was made
pub record Rest : Type 0 where
  pub value : ℕ → Value
  pub slot : ℕ → ItlSlot

abbrev pub taken : Pick → Rest → Rest
taken p w = record { value = put w.value p.undo.row p.undo.old; slot = put w.slot p.itl p.undo.old_itl }

-- whether a transaction is to be taken back, by who is the reader and who is visible
abbrev pub goes : Option Xid → (Xid → Bool) → Xid → Bool
goes me visible x = is_own me x || not (visible x)

-- a class tells what is so
abbrev pub IsClassed : Result Bool Halt → Bool → Type 0
IsClassed (Ok was) back = was ≡ back
IsClassed (Err halt) back = Unit {0}

-- Headers and undo blocks fit what stands: one that stays was made up to s; who committed up to s stays; classes
-- and undo records are right.
pub record Fits (committed : Xid → Option ℕ) (s : ℕ) (me : Option Xid) (visible : Xid → Bool) (class_of : Xid → Result Bool Halt) (number : ℕ) (fetch : Xid → ℕ → Fetch) (m : Deed) : Type 0 where
  pub low : goes me visible m.xid ≡ false → m.scn ≤ s
  pub stays : IsSomeAnd (committed m.xid) (λ c. c ≤ s) → goes me visible m.xid ≡ false
  pub classed : IsClassed (class_of m.xid) (goes me visible m.xid)
  pub fetched : IsWritten (undo_of number m) (fetch m.xid m.seq)

module _ (pick_at : ℕ → Option Pick) where
  higher-none : (a b : Option Pick) → higher a b ≡ None → (a ≡ None) × (b ≡ None)
  higher-none None b e = (refl, e)
  higher-none (Some a) None e = no-answer Pick a (sym e)
  higher-none (Some a) (Some b) e = here (nat_lt a.undo.version b.undo.version) e
    where
      here : (t : Bool) → cond t (Some b) (Some a) ≡ None → (Some a ≡ None) × (Some b ≡ None)
      here true e = no-answer Pick b (sym e)
      here false e = no-answer Pick a (sym e)

  pub best-none : (ks : List ℕ) → best pick_at ks ≡ None → AllByRecursion (λ k. pick_at k ≡ None) ks
  best-none [] e = tt
  best-none (k ∷ ks) e = let both = higher-none (pick_at k) (best pick_at ks) e in (both.0, best-none ks both.1)

  abbrev Upto : ℕ → Option Pick → Type 0
  Upto bound o = IfSome o (λ q. q.undo.version ≤ bound)

  higher-top : (a b : Option Pick) (bound : ℕ) → Upto bound (higher a b) → Upto bound a × Upto bound b
  higher-top None b bound h = (tt, h)
  higher-top (Some a) None bound h = (h, tt)
  higher-top (Some a) (Some b) bound h = here (nat_lt a.undo.version b.undo.version) refl h
    where
      here : (t : Bool) → nat_lt a.undo.version b.undo.version ≡ t → Upto bound (cond t (Some b) (Some a)) → (a.undo.version ≤ bound) × (b.undo.version ≤ bound)
      here true f h = (grind (arith, nat_tests, f, h), h)
      here false f h = (h, grind (arith, nat_tests, f, h))

  -- the best one is at or above each
  pub best-top : (ks : List ℕ) (bound : ℕ) → Upto bound (best pick_at ks) → AllByRecursion (λ k. Upto bound (pick_at k)) ks
  best-top [] bound h = tt
  best-top (k ∷ ks) bound h = let both = higher-top (pick_at k) (best pick_at ks) bound h in (both.0, best-top ks bound both.1)

  higher-one : (a b : Option Pick) (p : Pick) → higher a b ≡ Some p → (a ≡ Some p) ⊎ (b ≡ Some p)
  higher-one None b p e = inr e
  higher-one (Some a) None p e = inl e
  higher-one (Some a) (Some b) p e = here (nat_lt a.undo.version b.undo.version) e
    where
      here : (t : Bool) → cond t (Some b) (Some a) ≡ Some p → (Some a ≡ Some p) ⊎ (Some b ≡ Some p)
      here true e = inr e
      here false e = inl e

  -- and it is at one of them
  pub best-at : (ks : List ℕ) (p : Pick) → best pick_at ks ≡ Some p → (k : ℕ) × (pick_at k ≡ Some p)
  best-at [] p e = no-answer Pick p e
  best-at (k ∷ ks) p e = elim (higher-one (pick_at k) (best pick_at ks) p e) [ inl a ↦ (k, a) | inr b ↦ best-at ks p b ]

-- what is picked
pub picked : (number k : ℕ) (slot : ItlSlot) (c : Result Bool Halt) (f : Fetch) (p : Pick) → pick_of c (fetched number k slot f) ≡ Some p → (c ≡ Ok true) × ((f ≡ Has p.undo) × (p.itl ≡ k))
picked number k slot (Ok false) f p e = no-answer Pick p e
picked number k slot (Err a) f p e = no-answer Pick p e
picked number k slot (Ok true) Unfetched p e = no-answer Pick p e
picked number k slot (Ok true) Never p e = no-answer Pick p e
picked number k slot (Ok true) (Reused other) p e = no-answer Pick p e
picked number k slot (Ok true) (Has u) p e = here (fits number k slot u) e
  where
    here : (t : Bool) → pick_of (Ok true) (cond t (Ok (record { itl = k; undo = u })) (Err Bad)) ≡ Some p → (◌≡◌ {A = Result Bool Halt} (Ok true) (Ok true)) × ((Has u ≡ Has p.undo) × (p.itl ≡ k))
    here false e = no-answer Pick p e
    here true e = let same : ◌≡◌ {A = Pick} (record { itl = k; undo = u }) p = cc in (refl, (ap (λ (q : Pick). Has q.undo) same, ap (λ (q : Pick). q.itl) (sym same)))

or_true : (b : Bool) → (b || true) ≡ true
or_true true = refl
or_true false = refl

named-true : (slot : ItlSlot) → IsNamed slot → 1 ≤ slot.xid.wrap → is_named slot ≡ true
named-true slot named used =
    let seg : nat_lt slot.xid.seg 8 ≡ true = grind (arith, nat_tests, named.segment) in
    let at : nat_lt slot.xid.slot 8 ≡ true = grind (arith, nat_tests, named.slot_no) in
    let seq : nat_le 1 slot.seq ≡ true = grind (arith, nat_tests, named.seq used) in
    rw (seg, at, seq) (or_true (slot.xid.wrap == 0))

slot-named : (committed : Xid → Option ℕ) (k : ℕ) (deeds : List Deed) → Orderly committed deeds → (o : Option Deed) → newest (in_slot k) deeds ≡ o → is_named (slot_of o) ≡ true
slot-named committed k deeds h None e = refl
slot-named committed k deeds h (Some q) e = let placed = (newest-all (IsFair committed) (in_slot k) q deeds (fair-all committed deeds h) e).placed in named-true (slot_of (Some q)) placed.named placed.wrap

-- a slot as it was before can be looked up
pub old-named : (committed : Xid → Option ℕ) (deeds : List Deed) → Orderly committed deeds → AllByRecursion (λ m. is_named m.old_itl ≡ true) deeds
old-named committed [] h = tt
old-named committed (m ∷ deeds) h = (rw h.0.undo.slot (slot-named committed m.itl deeds h.1 (newest (in_slot m.itl) deeds) refl), old-named committed deeds h.1)

-- the undo of a deed fits
pub fits-own : (number k : ℕ) (q : Deed) → IsPlaced q → is_named q.old_itl ≡ true → (q.itl == k) ≡ true → fits number k (slot_of (Some q)) (undo_of number q) ≡ true
fits-own number k q placed named at =
    let row : nat_lt q.row 8 ≡ true = grind (arith, nat_tests, placed.row) in
    rw (eq-eqb number number refl, at, eq-eqb q.xid.slot q.xid.slot refl, eq-eqb q.xid.wrap q.xid.wrap refl, row, named) refl

-- the copy as far as it was made is what is left of what stood
pub record Left (committed : Xid → Option ℕ) (s : ℕ) (me : Option Xid) (visible : Xid → Bool) (class_of : Xid → Result Bool Halt) (number : ℕ) (fetch : Xid → ℕ → Fetch)
    (all : List Deed) (w : Rest) (deeds : List Deed) : Type 0 where
  pub orderly : Orderly committed deeds
  pub fits : AllByRecursion (Fits committed s me visible class_of number fetch) deeds
  pub values : (r : ℕ) → w.value r ≡ value_by r deeds
  pub slots : (k : ℕ) → w.slot k ≡ slot_by k deeds
  pub same : (t : Deed → Bool) → newest (λ m. t m && not (goes me visible m.xid)) deeds ≡ newest (λ m. t m && not (goes me visible m.xid)) all

module _ (committed : Xid → Option ℕ) (s : ℕ) (me : Option Xid) (visible : Xid → Bool) (class_of : Xid → Result Bool Halt) (number : ℕ) (fetch : Xid → ℕ → Fetch) where
  abbrev F : Deed → Type 0
  F m = Fits committed s me visible class_of number fetch m

  abbrev cand : Deed → Bool
  cand m = goes me visible m.xid

  -- what stands over one that goes goes too
  goes-up : (m o : Deed) → F m → F o → IsSomeAnd (committed o.xid) (λ c. c < m.scn) → cand o ≡ true → cand m ≡ true
  goes-up m o fm fo l h = here (cand m) refl
    where
      below : (p : Option ℕ) → m.scn ≤ s → IsSomeAnd p (λ c. c < m.scn) → IsSomeAnd p (λ c. c ≤ s)
      below None le l = l
      below (Some c) le l = omega (arith, le, l)

      here : (t : Bool) → cand m ≡ t → t ≡ true
      here true e = refl
      here false e = clash (cand o) h (fo.stays (below (committed o.xid) (fm.low e) l))

  -- the newest in a slot, over each in it
  pub slot-over : (k : ℕ) (q : Deed) (deeds : List Deed) → Orderly committed deeds → AllByRecursion F deeds → newest (in_slot k) deeds ≡ Some q → AllByRecursion (λ n. in_slot k n ≡ true → (n.version ≤ q.version) × (cand n ≡ true → cand q ≡ true)) deeds
  slot-over k q [] h f e = tt
  slot-over k q (m ∷ deeds) h f e = here (in_slot k m) refl e (slot-over k q deeds h.1 f.1)
    where
      here : (b : Bool) → in_slot k m ≡ b → cond b (Some m) (newest (in_slot k) deeds) ≡ Some q
          → (newest (in_slot k) deeds ≡ Some q → AllByRecursion (λ n. in_slot k n ≡ true → (n.version ≤ q.version) × (cand n ≡ true → cand q ≡ true)) deeds)
          → (in_slot k m ≡ true → (m.version ≤ q.version) × (cand m ≡ true → cand q ≡ true)) × AllByRecursion (λ n. in_slot k n ≡ true → (n.version ≤ q.version) × (cand n ≡ true → cand q ≡ true)) deeds
      here false g e ih = ((λ yes. clash (in_slot k m) yes g), ih e)
      here true g e ih =
          let same : m ≡ q = cc in (
            (λ yes. (rw same (omega arith), λ c. rw (sym same) c)),
            all_both (IsUnder committed m) F (λ n. in_slot k n ≡ true → (n.version ≤ q.version) × (cand n ≡ true → cand q ≡ true)) deeds
                (λ n u fn on. rw (sym same) (one n u fn on)) h.0.under f.1,
          )
        where
          one : (n : Deed) → IsUnder committed m n → F n → in_slot k n ≡ true → (n.version ≤ m.version) × (cand n ≡ true → cand m ≡ true)
          one n u fn on = ((let r = u.rises in omega arith), λ c. up (same_xid m.xid n.xid) refl c)
            where
              up : (t : Bool) → same_xid m.xid n.xid ≡ t → cand n ≡ true → cand m ≡ true
              up true x c = rw (same_xid-true m.xid n.xid x) c
              up false x c = goes-up m n f.0 fn (u.slot (eqb-both k m.itl n.itl g on) x) c

  module _ (all : List Deed) (w : Rest) (deeds : List Deed) (left : Left committed s me visible class_of number fetch all w deeds) where
    abbrev fair : AllByRecursion (IsFair committed) deeds
    fair = fair-all committed deeds left.orderly

    not_zero : (k : ℕ) → 1 ≤ k → (k == 0) ≡ false
    not_zero k le = test (k == 0) refl
      where
        test : (b : Bool) → (k == 0) ≡ b → b ≡ false
        test false e = refl
        test true e = let z : k ≡ 0 = eqb-true k 0 e in absurd (omega arith)

    -- a slot is of who stands newest in it
    pub class-is : (k : ℕ) (q : Deed) → newest (in_slot k) deeds ≡ Some q → slot_class class_of (w.slot k) ≡ class_of q.xid
    class-is k q e = rw (left.slots k, e, not_zero q.xid.wrap (newest-all (IsFair committed) (in_slot k) q deeds fair e).placed.wrap) refl

    pub class-none : (k : ℕ) → newest (in_slot k) deeds ≡ None → slot_class class_of (w.slot k) ≡ Ok false
    class-none k e = rw (left.slots k, e) refl

    module _ (heads : AllByRecursion (λ k. head_halt class_of (w.slot k) ≡ None) four)
        (undos : AllByRecursion (λ k. undo_halt class_of number fetch k (w.slot k) ≡ None) four) where
      -- each that stands is in a slot, whose class is known
      -- where it goes, the newest of its slot is picked
      pub goes-picked : (q : Deed) (k : ℕ) → 1 ≤ k → k ≤ 4 → F q → newest (in_slot k) deeds ≡ Some q → cand q ≡ true → pick class_of number fetch k (w.slot k) ≡ Some (record { itl = k; undo = undo_of number q })
      goes-picked q k a b fq e c = here (class_of q.xid) refl (fetch q.xid q.seq) refl fq.fetched
        where
          slot_is : w.slot k ≡ slot_of (Some q)
          slot_is = left.slots k ∙ ap slot_of e

          head : halt_of (class_of q.xid) ≡ None
          head = ap halt_of (sym (class-is k q e)) ∙ four-all (λ k. head_halt class_of (w.slot k) ≡ None) heads k a b

          undo : undo_halt_of (class_of q.xid) (fetched number k (slot_of (Some q)) (fetch q.xid q.seq)) ≡ None
          undo = sym (rw (class-is k q e, slot_is) refl) ∙ four-all (λ k. undo_halt class_of number fetch k (w.slot k) ≡ None) undos k a b

          picks : pick class_of number fetch k (w.slot k) ≡ pick_of (class_of q.xid) (fetched number k (slot_of (Some q)) (fetch q.xid q.seq))
          picks = rw (class-is k q e, slot_is) refl

          own : fits number k (slot_of (Some q)) (undo_of number q) ≡ true
          own = fits-own number k q (newest-all (IsFair committed) (in_slot k) q deeds fair e).placed (newest-all (λ m. is_named m.old_itl ≡ true) (in_slot k) q deeds (old-named committed deeds left.orderly) e) (newest-passes (in_slot k) q deeds e)

          here : (c : Result Bool Halt) → class_of q.xid ≡ c → (f : Fetch) → fetch q.xid q.seq ≡ f → IsWritten (undo_of number q) f → pick class_of number fetch k (w.slot k) ≡ Some (record { itl = k; undo = undo_of number q })
          here (Ok false) g f i is = clash (cand q) c (let x = fq.classed in sym (rw g at x))
          here (Err a) g f i is = no-answer Halt a (sym (sym (ap halt_of g) ∙ head))
          here (Ok true) g (Has u) i is = picks ∙ rw (g, i, is, own) refl
          here (Ok true) g Unfetched i is = no-answer Halt (Need (Undo (record { seg = q.xid.seg; seq = q.seq }))) (sym (let x = undo in rw (g, i) at x))
          here (Ok true) g Never i is = absurd is
          here (Ok true) g (Reused other) i is = no-answer Halt (TooOld (OldUndo q.xid q.seq other)) (sym (let x = undo in rw (g, i) at x))

      abbrev There : Deed → Type 0
      There o = (t : Deed → Bool) → t o ≡ true → is_some (newest t deeds) ≡ true

      -- a slot with the newest in it
      abbrev InSlot : Type 0
      InSlot = (k : ℕ) × (q : Deed) × (newest (in_slot k) deeds ≡ Some q)

      abbrev Over : Deed → Type 0
      Over n = (a : InSlot) → in_slot a.0 n ≡ true → (n.version ≤ a.1.version) × (F a.1 × (cand n ≡ true → cand a.1 ≡ true))

      module _ (p : Pick) (top : best (λ k. pick class_of number fetch k (w.slot k)) four ≡ Some p) where
        -- each that goes has a version up to the one that is picked
        pub going-low : AllByRecursion (λ n. cand n ≡ true → n.version ≤ p.undo.version) deeds
        going-low = all_both (λ n. There n × IsFair committed n) (λ n. Over n × F n) (λ n. cand n ≡ true → n.version ≤ p.undo.version) deeds (λ n a b. one n a.0 a.1 b.0)
            (all_both There (IsFair committed) (λ n. There n × IsFair committed n) deeds (λ n a b. (a, b)) (each-there deeds) fair)
            (all_both Over F (λ n. Over n × F n) deeds (λ n a b. (a, b)) over left.fits)
          where
            over : AllByRecursion Over deeds
            over = all_each (λ (a : InSlot) n. in_slot a.0 n ≡ true → (n.version ≤ a.1.version) × (F a.1 × (cand n ≡ true → cand a.1 ≡ true))) deeds
                (λ a. all_map (λ n. in_slot a.0 n ≡ true → (n.version ≤ a.1.version) × (cand n ≡ true → cand a.1 ≡ true)) (λ n. in_slot a.0 n ≡ true → (n.version ≤ a.1.version) × (F a.1 × (cand n ≡ true → cand a.1 ≡ true))) deeds
                (λ n f on. ((f on).0, (newest-all F (in_slot a.0) a.1 deeds left.fits a.2, (f on).1))) (slot-over a.0 a.1 deeds left.orderly left.fits a.2))

            upto : (k : ℕ) → 1 ≤ k → k ≤ 4 → IfSome (pick class_of number fetch k (w.slot k)) (λ q. q.undo.version ≤ p.undo.version)
            upto = four-all (λ k. IfSome (pick class_of number fetch k (w.slot k)) (λ q. q.undo.version ≤ p.undo.version)) (best-top (λ k. pick class_of number fetch k (w.slot k)) four p.undo.version (rw top (omega arith)))

            one : (n : Deed) → There n → IsFair committed n → Over n → cand n ≡ true → n.version ≤ p.undo.version
            one n there fair_n over_n c =
                let q = the (newest (in_slot n.itl) deeds) (there (in_slot n.itl) (eq-eqb n.itl n.itl refl)) in
                let o = over_n (n.itl, q.0, q.1) (eq-eqb n.itl n.itl refl) in
                let at = upto n.itl fair_n.placed.first fair_n.placed.last in
                let is = goes-picked q.0 n.itl fair_n.placed.first fair_n.placed.last o.1.0 q.1 (o.1.1 c) in
                let le : q.0.version ≤ p.undo.version = rw is at at in
                let up = o.0 in
                omega arith

        pub record Round : Type 0 where
          pub m : Deed
          pub newer : List Deed
          pub older : List Deed
          pub place : deeds ≡ newer ++ m ∷ older
          pub clear : AllByRecursion (IsClear m) newer
          pub itl : p.itl ≡ m.itl
          pub kept : p.undo ≡ undo_of number m
          pub goes_back : cand m ≡ true

        round-of : (k : ℕ) → pick class_of number fetch k (w.slot k) ≡ Some p → (o : Option Deed) → newest (in_slot k) deeds ≡ o → Round
        round-of k e None f = no-answer Pick p (sym (ap (λ c. pick_of c (found number fetch k (w.slot k))) (class-none k f)) ∙ e)
        round-of k e (Some m) f =
            record {
              m = m;
              newer = s0.newer;
              older = s0.older;
              place = s0.place;
              clear = all_both (λ n. in_slot k n ≡ false) (λ n. IsUnder committed n m × (F n × (cand n ≡ true → n.version ≤ p.undo.version))) (IsClear m) s0.newer clear_one s0.none overs;
              itl = is.1.1 ∙ sym (eqb-true m.itl k s0.passes);
              kept = kept;
              goes_back = goes_back;
            }
          where
            s0 : Split (in_slot k) m deeds
            s0 = split (in_slot k) m deeds f

            slot_is : w.slot k ≡ slot_of (Some m)
            slot_is = left.slots k ∙ ap slot_of f

            is : (class_of m.xid ≡ Ok true) × ((fetch m.xid m.seq ≡ Has p.undo) × (p.itl ≡ k))
            is = picked number k (slot_of (Some m)) (class_of m.xid) (fetch m.xid m.seq) p (sym (rw (class-is k m f, slot_is) refl) ∙ e)

            fm : F m
            fm = newest-all F (in_slot k) m deeds left.fits f

            goes_back : cand m ≡ true
            goes_back = let x = fm.classed in sym (rw is.0 at x)

            kept : p.undo ≡ undo_of number m
            kept = let x = fm.fetched in rw is.1.0 at x

            overs : AllByRecursion (λ n. IsUnder committed n m × (F n × (cand n ≡ true → n.version ≤ p.undo.version))) s0.newer
            overs =
                let placed : Orderly committed (s0.newer ++ m ∷ s0.older) = subst (Orderly committed) s0.place left.orderly in
                let fits : AllByRecursion F (s0.newer ++ m ∷ s0.older) = subst (AllByRecursion F) s0.place left.fits in
                let low : AllByRecursion (λ n. cand n ≡ true → n.version ≤ p.undo.version) (s0.newer ++ m ∷ s0.older) = subst (AllByRecursion (λ n. cand n ≡ true → n.version ≤ p.undo.version)) s0.place going-low in
                all_both (λ n. IsUnder committed n m) (λ n. F n × (cand n ≡ true → n.version ≤ p.undo.version)) (λ n. IsUnder committed n m × (F n × (cand n ≡ true → n.version ≤ p.undo.version))) s0.newer (λ n a b. (a, b))
                (orderly-over committed s0.newer m s0.older placed)
                (all_both F (λ n. cand n ≡ true → n.version ≤ p.undo.version) (λ n. F n × (cand n ≡ true → n.version ≤ p.undo.version)) s0.newer (λ n a b. (a, b)) (all_append F s0.newer (m ∷ s0.older) fits).0 (all_append (λ n. cand n ≡ true → n.version ≤ p.undo.version) s0.newer (m ∷ s0.older) low).0)

            clear_one : (n : Deed) → in_slot k n ≡ false → IsUnder committed n m × (F n × (cand n ≡ true → n.version ≤ p.undo.version)) → IsClear m n
            clear_one n off rest = (eqb-off n.row m.row (row (n.row == m.row) refl), rw (eqb-true m.itl k s0.passes) (eqb-off n.itl k off), other (same_xid n.xid m.xid) refl)
              where
                other : (t : Bool) → same_xid n.xid m.xid ≡ t → t ≡ false
                other false x = refl
                other true x = clash (in_slot k n) (rw (rest.0.one x) s0.passes) off

                row : (t : Bool) → (n.row == m.row) ≡ t → t ≡ false
                row false g = refl
                row true g =
                    let c = goes-up n m rest.1.0 fm (rest.0.row g (other (same_xid n.xid m.xid) refl)) goes_back in
                    let le = rest.1.1 c in
                    let lt = rest.0.rises in
                    let v : p.undo.version ≡ m.version = ap (λ (u : UndoRecord). u.version) kept in
                    absurd (omega arith)

        pub round : Round
        round = let at = best-at (λ k. pick class_of number fetch k (w.slot k)) four p top in round-of at.0 at.1 (newest (in_slot at.0) deeds) refl

-- the copy after a round is what is left without the one that was taken back
pub left-taken : (committed : Xid → Option ℕ) (s : ℕ) (me : Option Xid) (visible : Xid → Bool) (class_of : Xid → Result Bool Halt) (number : ℕ) (fetch : Xid → ℕ → Fetch) (all : List Deed) (w : Rest)
    (p : Pick) (m : Deed) (newer older : List Deed) → Left committed s me visible class_of number fetch all w (newer ++ m ∷ older) → AllByRecursion (IsClear m) newer → p.itl ≡ m.itl → p.undo ≡ undo_of number m → goes me visible m.xid ≡ true
    → Left committed s me visible class_of number fetch all (taken p w) (newer ++ older)
left-taken committed s me visible class_of number fetch all w p m newer older left clear itl kept c =
    record {
      orderly = orderly-without committed m newer older clear left.orderly;
      fits = (let parts = all_append (Fits committed s me visible class_of number fetch) newer (m ∷ older) left.fits in all_join (Fits committed s me visible class_of number fetch) newer older parts.0 parts.1.1);
      values = λ r. rw kept (values-after committed m newer older clear left.orderly w.value left.values r);
      slots = λ k. rw (kept, itl) (slots-after committed m newer older clear left.orderly w.slot left.slots k);
      same = λ t. sym (newest-skip (λ n. t n && not (goes me visible n.xid)) m newer older (off (t m))) ∙ left.same t;
    }
  where
    off : (b : Bool) → (b && not (goes me visible m.xid)) ≡ false
    off true = rw c refl
    off false = refl
