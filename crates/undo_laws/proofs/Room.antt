-- Where a segment has no room.
use Rattle.std.proofs.Common.{◌≡◌, ℕ, ◌-◌, ◌<◌, ◌≤◌, Bool, true, false, if◌then◌else◌, nat_le, Option, Some, None, Ok, Err, refl, sym, ap, subst, arith}
use Rattle.std.specs.Result.{IsErr}
use Rattle.std.proofs.lemmas.Bool.{le-leb, leb-true}
use Rattle.std.proofs.lemmas.List.Elements.{All-from_recursion}
use Rattle.redo_types.specs.declared.undo.TxnSlot.{TxnSlot}
use Rattle.redo_types.specs.declared.undo.TxnState.{TxnState}
use Rattle.redo_types.specs.declared.undo.TxnState.TheVariants.{Never, Active, Committed, RolledBack}
use Rattle.part_image.specs.Undo.{HasState, IsTxnSlot}
use Rattle.undo_image.specs.Header.{HeaderContent, IsHeader, never_slot, slot_at}
use Rattle.undo_segment.specs.declared.segment.UndoFull.{UndoFull}
use Rattle.undo_segment.specs.Begin.{oldest, room, room_from}
use Rattle.undo_segment.specs.Look.{is_active}
use Rattle.undo_segment.specs.Segment.{IsSegment, SegmentState}
use Rattle.undo_laws.specs.Room.{OverwritesOpenUndo}
use Rattle.undo_laws.proofs.Least.{oldest_at, oldest_found}
use Rattle.undo_laws.proofs.Places.{apart, ring_before}

active_has_first : (state : TxnState) (slot : TxnSlot) → is_active state ≡ true → HasState state slot → 1 ≤ slot.first
active_has_first Never slot e has = absurd (let clash : false ≡ true = e in cc)
active_has_first Active slot e has = has.1
active_has_first Committed slot e has = absurd (let clash : false ≡ true = e in cc)
active_has_first RolledBack slot e has = absurd (let clash : false ≡ true = e in cc)

-- an active slot of a header has a first undo record
slot_has_first : (h : HeaderContent) (k : ℕ) → IsHeader h → k < 8 → is_active (slot_at h k).state ≡ true → 1 ≤ (slot_at h k).first
slot_has_first h k is few active =
    let slot : IsTxnSlot (slot_at h k) = All-from_recursion IsTxnSlot h.slots is.slots.each k never_slot (omega (arith, is.slots.eight)) in
    active_has_first (slot_at h k).state (slot_at h k) active slot.state

refused_by : (b : Bool) (full : UndoFull) (next : ℕ) → IsErr {T = ℕ} (if b then Err full else Ok next) → b ≡ true
refused_by true full next e = refl
refused_by false full next e = e

refuses_from : (b : Bool) (full : UndoFull) (next : ℕ) → b ≡ true → IsErr {T = ℕ} (if b then Err full else Ok next)
refuses_from true full next e = refl
refuses_from false full next e = e

-- where a record of an open transaction would be overwritten, there is no room
pub refuses : (own : SegmentState) → IsSegment own → IsHeader own.head → OverwritesOpenUndo own → IsErr (room own)
refuses own is header over =
    let k = over.0 in
    let seq = over.1 in
    let o = over.2 in
    let next = own.head.front.next in
    let undo = own.layout.undo in
    let one : 1 ≤ (slot_at own.head k).first = slot_has_first own.head k header o.within o.active in
    let old = oldest_found own.head.slots k never_slot (omega (arith, header.slots.eight, o.within)) o.active in
    let far = apart undo (seq - 1) (next - 1) (omega (arith, o.from_first, o.before_next, one)) o.one_place in
    let full = le-leb undo (next - old.0.first) (omega (arith, far, old.2, one, o.from_first, o.before_next)) in
    subst (λ s. IsErr (room_from s next undo)) (sym old.1) (refuses_from (nat_le undo (next - old.0.first)) (record { first = old.0.first; next = next }) next full)

overwrites_from : (own : SegmentState) → IsSegment own → IsHeader own.head → (s : Option TxnSlot) → oldest own.head.slots ≡ s → IsErr (room_from s own.head.front.next own.layout.undo) → OverwritesOpenUndo own
overwrites_from own is header None e err = absurd (let clash : false ≡ true = err in cc)
overwrites_from own is header (Some o) e err =
    let next = own.head.front.next in
    let undo = own.layout.undo in
    let at = oldest_at own.head.slots o never_slot e in
    let full = leb-true undo (next - o.first) (refused_by (nat_le undo (next - o.first)) (record { first = o.first; next = next }) next err) in
    let active = subst (λ slot. is_active slot.state ≡ true) (sym at.2) at.3 in
    let few : at.0 < 8 = omega (arith, at.1, header.slots.eight) in
    let one = slot_has_first own.head at.0 header few active in
    let first : (slot_at own.head at.0).first ≡ o.first = ap (λ slot. slot.first) at.2 in (
      at.0,
      next - undo,
      record {
        within = few;
        active = active;
        from_first = omega (arith, full, first, is.layout.some_undo, one);
        before_next = omega (arith, full, first, is.layout.some_undo, one);
        one_place = ring_before undo next (omega (arith, full, first, is.layout.some_undo, one));
      },
    )

-- where there is no room, a record of an open transaction would be overwritten
pub overwrites : (own : SegmentState) → IsSegment own → IsHeader own.head → IsErr (room own) → OverwritesOpenUndo own
overwrites own is header err = overwrites_from own is header (oldest own.head.slots) refl err
