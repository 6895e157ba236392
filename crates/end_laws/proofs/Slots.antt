-- The slots of a segment's transactions, as records are made of them.
use Rattle.std.proofs.Common.{◌≡◌, ℕ, zero, suc, ◌+◌, ◌-◌, ◌^◌, ◌<◌, ◌≤◌, Bool, true, false, List, [], ◌∷◌, length, get_or, min, Option, Some, None, refl, sym, ap, subst, ◌∙◌, ◌⊎◌, inl, inr, arith}
use Rattle.std.specs.List.{position}
use Rattle.std.specs.Option.{option_map}
use Rattle.std.proofs.lemmas.Bool.{cases_eq}
use Rattle.std.proofs.lemmas.List.{get_or-set_other, get_or-set_same}
use Rattle.std.proofs.lemmas.List.Quantifiers.{position-Some}
use Rattle.std.proofs.lemmas.Option.{none-some, same_Some}
use Rattle.base_types.specs.declared.names.Xid.{Xid}
use Rattle.redo_types.specs.declared.redo.Redo.{Redo}
use Rattle.redo_types.specs.declared.undo.TxnSlot.{TxnSlot}
use Rattle.undo_image.specs.Header.{HeaderContent, never_slot, slot_at, with_slot}
use Rattle.undo_segment.specs.Begin.{ended_first, next_of_slot, next_xid}
use Rattle.undo_segment.specs.Look.{is_active}
use Rattle.undo_segment.specs.Segment.{SegmentState}
use Rattle.scn_clock.specs.declared.clock.Clock.{Clock}
use Rattle.txn_engine.specs.Limits.{is_under_way}
use Rattle.end_laws.proofs.Decisions.{IsOf, under_active, under_wrap}

-- A transaction has ended: its slot isn't active, or is another one's by now.
abbrev pub IsSpent : HeaderContent → Xid → Type 0
IsSpent head x =
    (x.wrap < (slot_at head x.slot).wrap) ⊎ ((x.wrap ≡ (slot_at head x.slot).wrap) × (is_active (slot_at head x.slot).state ≡ false))

pub spent_wrap : (head : HeaderContent) (x : Xid) → IsSpent head x → x.wrap ≤ (slot_at head x.slot).wrap
spent_wrap head x (inl less) = omega (arith, less)
spent_wrap head x (inr is) = let same : x.wrap ≡ (slot_at head x.slot).wrap = is.0 in omega (arith, same)

-- a transaction that is under way hasn't ended
pub under_unspent : (head : HeaderContent) (x : Xid) → is_under_way head x ≡ true → IsSpent head x → ⊥
under_unspent head x under (inl less) = let same : (slot_at head x.slot).wrap ≡ x.wrap = under_wrap head x under in omega (arith, less, same)
under_unspent head x under (inr is) = let no : true ≡ false = sym (under_active head x under) ∙ is.1 in cc

-- The wraps of slots haven't fallen, and what had ended has.
pub record Advances (head now : HeaderContent) : Type 0 where
  pub up : (k : ℕ) → (slot_at head k).wrap ≤ (slot_at now k).wrap
  pub spent : (y : Xid) → IsSpent head y → IsSpent now y

-- A transaction may take its slot: it has it, active, or its wrap is above the slot's.
abbrev pub Takes : HeaderContent → Xid → Type 0
Takes head x = (is_under_way head x ≡ true) ⊎ ((slot_at head x.slot).wrap < x.wrap)

slot_by : (head now : HeaderContent) (x : Xid) (to : TxnSlot) (k : ℕ) → slot_at now x.slot ≡ to → ((j : ℕ) → (j ≡ x.slot → ⊥) → slot_at now j ≡ slot_at head j)
    → to.wrap ≡ x.wrap → (slot_at head x.slot).wrap ≤ x.wrap → (k ≡ x.slot) ⊎ (k ≡ x.slot → ⊥) → (slot_at head k).wrap ≤ (slot_at now k).wrap
slot_by head now x to k there others wrap le (inl same) =
    subst (λ (j : ℕ). (slot_at head j).wrap ≤ (slot_at now j).wrap) (sym same)
    (let e : (slot_at now x.slot).wrap ≡ x.wrap = ap (λ (s : TxnSlot). s.wrap) there ∙ wrap in omega (arith, e, le))
slot_by head now x to k there others wrap le (inr apart) =
    let e : (slot_at now k).wrap ≡ (slot_at head k).wrap = ap (λ (s : TxnSlot). s.wrap) (others k apart) in omega (arith, e)

takes_over : (head : HeaderContent) (x : Xid) → Takes head x → (slot_at head x.slot).wrap ≤ x.wrap
takes_over head x (inl under) = let e : (slot_at head x.slot).wrap ≡ x.wrap = under_wrap head x under in omega (arith, e)
takes_over head x (inr less) = omega (arith, less)

-- what had ended in a slot that is taken has a lower wrap
taken_spent : (head : HeaderContent) (x y : Xid) → Takes head x → y.slot ≡ x.slot → IsSpent head y → y.wrap < x.wrap
taken_spent head x y (inl under) same (inl less) =
    let e : (slot_at head x.slot).wrap ≡ x.wrap = under_wrap head x under in
    let f : (slot_at head y.slot).wrap ≡ (slot_at head x.slot).wrap = ap (λ (k : ℕ). (slot_at head k).wrap) same in omega (arith, less, e, f)
taken_spent head x y (inl under) same (inr is) =
    let f : is_active (slot_at head y.slot).state ≡ is_active (slot_at head x.slot).state = ap (λ (k : ℕ). is_active (slot_at head k).state) same in
    absurd (let no : false ≡ true = sym is.1 ∙ f ∙ under_active head x under in cc)
taken_spent head x y (inr above) same spent =
    let le : y.wrap ≤ (slot_at head y.slot).wrap = spent_wrap head y spent in
    let f : (slot_at head y.slot).wrap ≡ (slot_at head x.slot).wrap = ap (λ (k : ℕ). (slot_at head k).wrap) same in omega (arith, le, f, above)

spent_by : (head now : HeaderContent) (x : Xid) (to : TxnSlot) (y : Xid) → slot_at now x.slot ≡ to → ((j : ℕ) → (j ≡ x.slot → ⊥) → slot_at now j ≡ slot_at head j)
    → to.wrap ≡ x.wrap → Takes head x → IsSpent head y → (y.slot ≡ x.slot) ⊎ (y.slot ≡ x.slot → ⊥) → IsSpent now y
spent_by head now x to y there others wrap takes spent (inl same) =
    let less : y.wrap < x.wrap = taken_spent head x y takes same spent in
    let e : (slot_at now y.slot).wrap ≡ x.wrap = ap (λ (k : ℕ). (slot_at now k).wrap) same ∙ ap (λ (s : TxnSlot). s.wrap) there ∙ wrap in
    inl (omega (arith, less, e))
spent_by head now x to y there others wrap takes spent (inr apart) =
    subst (λ (s : TxnSlot). (y.wrap < s.wrap) ⊎ ((y.wrap ≡ s.wrap) × (is_active s.state ≡ false))) (sym (others y.slot apart)) spent

-- an active slot is there
active_within : (slots : List TxnSlot) (k : ℕ) → is_active (get_or slots k never_slot).state ≡ true → k < length slots
active_within [] k e = absurd (let no : false ≡ true = e in cc)
active_within (s ∷ slots) zero e = omega arith
active_within (s ∷ slots) (suc k) e = let at : k < length slots = active_within slots k e in omega arith

pub under_within : (head : HeaderContent) (x : Xid) → is_under_way head x ≡ true → x.slot < length head.slots
under_within head x under = active_within head.slots x.slot (under_active head x under)

-- the header after a record of a transaction that may take its slot
abbrev pub head_of : HeaderContent → Redo → HeaderContent
head_of head redo = with_slot head redo.head.slot redo.head.to redo.head.next redo.scn

-- the slot of a transaction after its record
pub slot_there : (head : HeaderContent) (clock : Clock) (x : Xid) (active : Bool) (redo : Redo) → IsOf clock x active redo → x.slot < length head.slots
    → slot_at (head_of head redo) x.slot ≡ redo.head.to
slot_there head clock x active redo of within =
    subst (λ (k : ℕ). slot_at (head_of head redo) k ≡ redo.head.to) of.slot
    (get_or-set_same head.slots redo.head.slot redo.head.to never_slot (let e : redo.head.slot ≡ x.slot = of.slot in omega (arith, e, within)))

pub slot_other : (head : HeaderContent) (clock : Clock) (x : Xid) (active : Bool) (redo : Redo) → IsOf clock x active redo → (j : ℕ) → (j ≡ x.slot → ⊥)
    → slot_at (head_of head redo) j ≡ slot_at head j
slot_other head clock x active redo of j apart =
    get_or-set_other head.slots redo.head.slot j redo.head.to never_slot (λ same. apart (same ∙ of.slot))

pub advances : (head : HeaderContent) (clock : Clock) (x : Xid) (active : Bool) (redo : Redo) → IsOf clock x active redo → x.slot < length head.slots → Takes head x
    → Advances head (head_of head redo)
advances head clock x active redo of within takes =
    let now = head_of head redo in
    let there = slot_there head clock x active redo of within in
    let others = slot_other head clock x active redo of in
    record {
      up = λ k. slot_by head now x redo.head.to k there others of.wrap (takes_over head x takes) (cases_eq k x.slot);
      spent = λ y spent. spent_by head now x redo.head.to y there others of.wrap takes spent (cases_eq y.slot x.slot);
    }

-- a transaction whose record has ended it has ended
pub ended_spent : (head : HeaderContent) (clock : Clock) (x : Xid) (redo : Redo) → IsOf clock x false redo → x.slot < length head.slots → IsSpent (head_of head redo) x
ended_spent head clock x redo of within =
    let there = slot_there head clock x false redo of within in
    inr (sym (ap (λ (s : TxnSlot). s.wrap) there ∙ of.wrap), ap (λ (s : TxnSlot). is_active s.state) there ∙ of.state)

-- A transaction that begins is of the segment, and takes a slot whose wrap is one less, at most.
pub record Begins (segment : SegmentState) (x : Xid) : Type 0 where
  pub seg : x.seg ≡ segment.head.front.seg
  pub within : x.slot < length segment.head.slots
  pub wrap : x.wrap ≡ min ((slot_at segment.head x.slot).wrap + 1) (2 ^ 32 - 1)

begins_at : (segment : SegmentState) (x : Xid) (k : ℕ) → position (ended_first segment.head.slots) segment.head.slots ≡ Some k → next_of_slot segment k ≡ x → Begins segment x
begins_at segment x k at is = subst (Begins segment) is (record {
  seg = refl;
  within = (position-Some (ended_first segment.head.slots) segment.head.slots k never_slot at).0;
  wrap = refl;
})

begins_by : (segment : SegmentState) (x : Xid) (o : Option ℕ) → position (ended_first segment.head.slots) segment.head.slots ≡ o
    → option_map (next_of_slot segment) o ≡ Some x → Begins segment x
begins_by segment x None at e = absurd (none-some x e)
begins_by segment x (Some k) at e = begins_at segment x k at (same_Some (next_of_slot segment k) x e)

pub begins_of : (segment : SegmentState) (x : Xid) → next_xid segment ≡ Some x → Begins segment x
begins_of segment x e = begins_by segment x (position (ended_first segment.head.slots) segment.head.slots) refl e
