-- What the records of transactions do to the header of their segment.
use Rattle.std.proofs.Common.{◌≡◌, ℕ, ◌+◌, ◌&&◌, Bool, true, false, Option, Some, None, if◌then◌else◌, refl, ap, subst}
use Rattle.std.specs.Prelude.{◌==◌, ◌%◌, nat_lt, Result, Ok, Err}
use Rattle.std.proofs.lemmas.Bool.{and_parts, eqb-true}
use Rattle.std.proofs.lemmas.Option.{none-some, same_Some}
use Rattle.base_types.specs.declared.names.Scn.{Scn}
use Rattle.base_types.specs.declared.names.Xid.{Xid}
use Rattle.base_types.specs.declared.value.Value.{Value}
use Rattle.redo_types.specs.declared.redo.Redo.{Redo}
use Rattle.redo_types.specs.declared.undo.UndoRecord.{UndoRecord}
use Rattle.block_image.specs.Block.{BlockContent, row_at}
use Rattle.undo_image.specs.Header.{HeaderContent, slot_at}
use Rattle.undo_segment.specs.declared.segment.UndoFull.{UndoFull}
use Rattle.undo_segment.specs.Begin.{next_xid, room}
use Rattle.undo_segment.specs.Handed.{HandedState}
use Rattle.undo_segment.specs.Look.{is_active}
use Rattle.undo_segment.specs.Segment.{SegmentState, look}
use Rattle.txn_slots.specs.declared.choice.SlotAnswer.{SlotAnswer}
use Rattle.txn_slots.specs.declared.choice.SlotAnswer.TheVariants as slots
use Rattle.txn_slots.specs.declared.lock.LockAnswer.{LockAnswer}
use Rattle.txn_slots.specs.declared.lock.LockAnswer.TheVariants as locks
use Rattle.txn_slots.specs.declared.lock.Released.{Released}
use Rattle.txn_slots.specs.Choice.{choose_slot}
use Rattle.txn_slots.specs.Lock.{lock_row, released_at}
use Rattle.scn_clock.specs.declared.clock.Clock.{Clock}
use Rattle.journal.specs.declared.cause.Cause.{Cause}
use Rattle.txn_engine.specs.declared.ask.ChangeAsk.{ChangeAsk}
use Rattle.txn_engine.specs.declared.ask.Decision.{Decision}
use Rattle.txn_engine.specs.declared.ask.Decision.TheVariants.{AlreadyMine, Bad, Do, ForceFirst, Restart}
use Rattle.txn_engine.specs.declared.back.NextBack.{NextBack}
use Rattle.txn_engine.specs.declared.back.NextBack.TheVariants as back
use Rattle.txn_engine.specs.declared.end.EndKind.{EndKind}
use Rattle.txn_engine.specs.declared.end.EndKind.TheVariants as end
use Rattle.txn_engine.specs.declared.made.Plan.{Plan}
use Rattle.txn_engine.specs.Back.{back_decision, back_of, back_record, may_step_back, next_from, slot_back}
use Rattle.txn_engine.specs.Change.{change_decision, change_record, free_decision, is_lock, is_within_limits, late_decision, lock_decision, may_wait, own_or_next, room_decision, slot_after, slot_decision, txn_decision, value_after, value_decision}
use Rattle.txn_engine.specs.End.{state_after, allows_end, end_decision, end_record, ended_slot, may_end}
use Rattle.txn_engine.specs.Limits.{began_before, has_row, is_under_way, may_go_on, may_rise}
use Rattle.txn_engine.specs.Parts.{head_change, undo_block_at}

-- A redo record is a transaction's, has the next SCN, and leaves the transaction's slot with its wrap, active or not.
pub record IsOf (clock : Clock) (x : Xid) (active : Bool) (redo : Redo) : Type 0 where
  pub xid : redo.xid ≡ x
  pub scn : redo.scn ≡ clock.scn + 1
  pub slot : redo.head.slot ≡ x.slot
  pub wrap : redo.head.to.wrap ≡ x.wrap
  pub state : is_active redo.head.to.state ≡ active

-- a transaction that is under way has the wrap of its slot
pub under_wrap : (head : HeaderContent) (x : Xid) → is_under_way head x ≡ true → (slot_at head x.slot).wrap ≡ x.wrap
under_wrap head x is =
    let a = and_parts (x.seg == head.front.seg && nat_lt x.slot 8 && (slot_at head x.slot).wrap == x.wrap) (is_active (slot_at head x.slot).state) is in
    let b = and_parts (x.seg == head.front.seg && nat_lt x.slot 8) ((slot_at head x.slot).wrap == x.wrap) a.0 in
    eqb-true (slot_at head x.slot).wrap x.wrap b.1

pub under_active : (head : HeaderContent) (x : Xid) → is_under_way head x ≡ true → is_active (slot_at head x.slot).state ≡ true
under_active head x is =
    (and_parts (x.seg == head.front.seg && nat_lt x.slot 8 && (slot_at head x.slot).wrap == x.wrap) (is_active (slot_at head x.slot).state) is).1

pub under_seg : (head : HeaderContent) (x : Xid) → is_under_way head x ≡ true → x.seg ≡ head.front.seg
under_seg head x is =
    let a = and_parts (x.seg == head.front.seg && nat_lt x.slot 8 && (slot_at head x.slot).wrap == x.wrap) (is_active (slot_at head x.slot).state) is in
    let b = and_parts (x.seg == head.front.seg && nat_lt x.slot 8) ((slot_at head x.slot).wrap == x.wrap) a.0 in
    eqb-true x.seg head.front.seg (and_parts (x.seg == head.front.seg) (nat_lt x.slot 8) b.0).0

-- the end of a transaction

ended_active : (kind : EndKind) → is_active (state_after kind) ≡ false
ended_active end.Commit = refl
ended_active end.RollbackEnd = refl

end_is : (x : Xid) (kind : EndKind) (head : HeaderContent) (clock : Clock) → is_under_way head x ≡ true → IsOf clock x false (end_record x kind head (clock.scn + 1))
unfolding end_record head_change ended_slot
end_is x kind head clock under = record { xid = refl; scn = refl; slot = refl; wrap = under_wrap head x under; state = ended_active kind }

-- A transaction under way has this record.
pub record IsUnder (head : HeaderContent) (clock : Clock) (x : Xid) (active : Bool) (redo : Redo) : Type 0 where
  pub under : is_under_way head x ≡ true
  pub of : IsOf clock x active redo

end_by : (x : Xid) (kind : EndKind) (segment : SegmentState) (clock : Clock) (redo : Redo) (b : Bool) → may_end x kind segment.head clock ≡ b
    → (if b then Some (end_record x kind segment.head (clock.scn + 1)) else None) ≡ Some redo → IsUnder segment.head clock x false redo
end_by x kind segment clock redo true may e =
    let head = segment.head in
    let a = and_parts (is_under_way head x && allows_end kind (slot_at head x.slot) && may_rise clock.scn) (may_rise head.front.version) may in
    let b = and_parts (is_under_way head x && allows_end kind (slot_at head x.slot)) (may_rise clock.scn) a.0 in
    let under = (and_parts (is_under_way head x) (allows_end kind (slot_at head x.slot)) b.0).0 in
    record { under = under; of = subst (IsOf clock x false) (same_Some (end_record x kind head (clock.scn + 1)) redo e) (end_is x kind head clock under) }
end_by x kind segment clock redo false may e = absurd (none-some redo e)

pub ends_under : (x : Xid) (kind : EndKind) (segment : SegmentState) (clock : Clock) (redo : Redo) → end_decision x kind segment clock ≡ Some redo
    → IsUnder segment.head clock x false redo
ends_under x kind segment clock redo e = end_by x kind segment clock redo (may_end x kind segment.head clock) refl e

-- a step back

back_is : (x : Xid) (u : UndoRecord) (head : HeaderContent) (image : BlockContent) (clock : Clock) → is_under_way head x ≡ true
    → IsOf clock x true (back_record x u head image (clock.scn + 1))
unfolding back_record head_change slot_back
back_is x u head image clock under =
    record { xid = refl; scn = refl; slot = refl; wrap = under_wrap head x under; state = under_active head x under }

back_may : (x : Xid) (u : UndoRecord) (head : HeaderContent) (image : BlockContent) (clock : Clock) (redo : Redo) (b : Bool) → is_under_way head x ≡ true
    → (if b then Some (back_record x u head image (clock.scn + 1)) else None) ≡ Some redo → IsUnder head clock x true redo
back_may x u head image clock redo true under e =
    record { under = under; of = subst (IsOf clock x true) (same_Some (back_record x u head image (clock.scn + 1)) redo e) (back_is x u head image clock under) }
back_may x u head image clock redo false under e = absurd (none-some redo e)

back_next : (x : Xid) (segment : SegmentState) (image : BlockContent) (clock : Clock) (redo : Redo) (next : NextBack) → is_under_way segment.head x ≡ true
    → back_of next x segment.head image clock ≡ Some redo → IsUnder segment.head clock x true redo
back_next x segment image clock redo (back.Undo u) under e = back_may x u segment.head image clock redo (may_step_back x u segment.head image clock) under e
back_next x segment image clock redo back.Nothing under e = absurd (none-some redo e)
back_next x segment image clock redo back.Bad under e = absurd (none-some redo e)

back_by : (x : Xid) (segment : SegmentState) (image : BlockContent) (clock : Clock) (redo : Redo) (b : Bool) → is_under_way segment.head x ≡ b
    → back_of (if b then next_from x segment (slot_at segment.head x.slot).last else back.Bad) x segment.head image clock ≡ Some redo
    → IsUnder segment.head clock x true redo
back_by x segment image clock redo true under e =
    back_next x segment image clock redo (next_from x segment (slot_at segment.head x.slot).last) under e
back_by x segment image clock redo false under e = absurd (none-some redo e)

pub backs_under : (x : Xid) (segment : SegmentState) (image : BlockContent) (clock : Clock) (redo : Redo) → back_decision x segment image clock ≡ Some redo
    → IsUnder segment.head clock x true redo
backs_under x segment image clock redo e = back_by x segment image clock redo (is_under_way segment.head x) refl e

-- a change

-- A transaction goes on that is under way, or begins as the next one of the segment.
pub data Whose (own : Option Xid) (segment : SegmentState) (x : Xid) : Type 0 where
  on : own ≡ Some x → is_under_way segment.head x ≡ true → Whose own segment x
  begins : own ≡ None → next_xid segment ≡ Some x → Whose own segment x

-- The record of a change is of such a transaction.
pub record IsChange (own : Option Xid) (segment : SegmentState) (clock : Clock) (redo : Redo) : Type 0 where
  pub x : Xid
  pub whose : Whose own segment x
  pub of : IsOf clock x true redo

-- the record that is decided, if one is
abbrev pub record_in : Decision → Option Redo
record_in (Do redo) = Some redo
record_in _ = None

change_is : (ask : ChangeAsk) (plan : Plan) (image : BlockContent) (segment : SegmentState) (clock : Clock)
    → IsOf clock plan.xid true (change_record ask plan image segment (clock.scn + 1))
unfolding change_record head_change slot_after
change_is ask plan image segment clock = record { xid = refl; scn = refl; slot = refl; wrap = refl; state = refl }

whose_of : (own : Option Xid) (segment : SegmentState) (x : Xid) → may_go_on segment.head own ≡ true → own_or_next own segment ≡ Some x → Whose own segment x
whose_of (Some y) segment x may is =
    let under = (and_parts (is_under_way segment.head y) (began_before segment.head y) may).0 in
    on is (subst (λ (z : Xid). is_under_way segment.head z ≡ true) (same_Some y x is) under)
whose_of None segment x may is = begins refl is

module _ (ask : ChangeAsk) (image : BlockContent) (segment : SegmentState) (handed : HandedState) (clock : Clock) (redo : Redo) (may : may_go_on segment.head ask.own ≡ true) where
  in_room : (x : Xid) (plan : Plan) (r : Result ℕ UndoFull) → plan.xid ≡ x → own_or_next ask.own segment ≡ Some x
      → record_in (room_decision r ask plan image segment clock) ≡ Some redo → IsChange ask.own segment clock redo
  in_room x plan (Ok next) named is e = record {
    x = x;
    whose = whose_of ask.own segment x may is;
    of = subst (IsOf clock x true) (same_Some (change_record ask plan image segment (clock.scn + 1)) redo e)
        (subst (λ (y : Xid). IsOf clock y true (change_record ask plan image segment (clock.scn + 1))) named (change_is ask plan image segment clock));
  }
  in_room x plan (Err full) named is e = absurd (none-some redo e)

  in_slot : (x : Xid) (value : Value) (answer : SlotAnswer) → own_or_next ask.own segment ≡ Some x
      → record_in (slot_decision answer ask x value image segment clock) ≡ Some redo → IsChange ask.own segment clock redo
  in_slot x value (slots.Need wanted) is e = absurd (none-some redo e)
  in_slot x value (slots.NoItl holders) is e = absurd (none-some redo e)
  in_slot x value (slots.Take itl fresh) is e =
      in_room x (record { xid = x; itl = itl; fresh = fresh; value = value }) (room segment) refl is e

  in_txn : (o : Option Xid) (value : Value) → own_or_next ask.own segment ≡ o
      → record_in (txn_decision o ask value image segment handed clock) ≡ Some redo → IsChange ask.own segment clock redo
  in_txn None value is e = absurd (none-some redo e)
  in_txn (Some x) value is e = in_slot x value (choose_slot ask.own (look segment handed) image.itl) is e

  in_value : (r : Result Value Cause) → record_in (value_decision r ask image segment handed clock) ≡ Some redo → IsChange ask.own segment clock redo
  in_value (Err cause) e = absurd (none-some redo e)
  in_value (Ok value) e = in_txn (own_or_next ask.own segment) value refl e

  in_free : record_in (free_decision ask image segment handed clock) ≡ Some redo → IsChange ask.own segment clock redo
  in_free e = in_value (value_after ask.wish (row_at image.rows (ask.row % 8)).value) e

  in_mine : (lock : Bool) → record_in (if lock then AlreadyMine else free_decision ask image segment handed clock) ≡ Some redo → IsChange ask.own segment clock redo
  in_mine true e = absurd (none-some redo e)
  in_mine false e = in_free e

  late : (force : Bool) (scn : Scn) → record_in (if force then ForceFirst else Restart scn) ≡ Some redo → IsChange ask.own segment clock redo
  late true scn e = absurd (none-some redo e)
  late false scn e = absurd (none-some redo e)

  in_released : (is_late : Bool) (released : Released) (on_disk : Scn)
      → record_in (if is_late then late_decision released segment.head.front.seg on_disk else free_decision ask image segment handed clock) ≡ Some redo
      → IsChange ask.own segment clock redo
  in_released true released on_disk e =
      late (nat_lt on_disk (released_at released) && may_wait released segment.head.front.seg) (released_at released) e
  in_released false released on_disk e = in_free e

  in_lock : (answer : LockAnswer) (on_disk : Scn) → record_in (lock_decision answer ask image segment handed clock on_disk) ≡ Some redo
      → IsChange ask.own segment clock redo
  in_lock (locks.Need wanted) on_disk e = absurd (none-some redo e)
  in_lock (locks.Held x) on_disk e = absurd (none-some redo e)
  in_lock locks.Mine on_disk e = in_mine (is_lock ask.wish) e
  in_lock (locks.Free released) on_disk e = in_released (nat_lt ask.snapshot (released_at released)) released on_disk e

limits_go_on : (ask : ChangeAsk) (image : BlockContent) (segment : SegmentState) (clock : Clock) → is_within_limits ask image segment clock ≡ true
    → may_go_on segment.head ask.own ≡ true
limits_go_on ask image segment clock is =
    let last = may_rise (undo_block_at segment segment.head.front.next).front.version in
    let a = and_parts (has_row image ask.row && may_go_on segment.head ask.own && may_rise clock.scn && may_rise image.front.version && may_rise segment.head.front.version && may_rise segment.head.front.next) last is in
    let b = and_parts (has_row image ask.row && may_go_on segment.head ask.own && may_rise clock.scn && may_rise image.front.version && may_rise segment.head.front.version) (may_rise segment.head.front.next) a.0 in
    let c = and_parts (has_row image ask.row && may_go_on segment.head ask.own && may_rise clock.scn && may_rise image.front.version) (may_rise segment.head.front.version) b.0 in
    let d = and_parts (has_row image ask.row && may_go_on segment.head ask.own && may_rise clock.scn) (may_rise image.front.version) c.0 in
    let f = and_parts (has_row image ask.row && may_go_on segment.head ask.own) (may_rise clock.scn) d.0 in
    (and_parts (has_row image ask.row) (may_go_on segment.head ask.own) f.0).1

change_by : (ask : ChangeAsk) (image : BlockContent) (segment : SegmentState) (handed : HandedState) (clock : Clock) (on_disk : Scn) (redo : Redo) (b : Bool)
    → is_within_limits ask image segment clock ≡ b
    → record_in (if b then lock_decision (lock_row ask.own (look segment handed) image (ask.row % 8)) ask image segment handed clock on_disk else Bad) ≡ Some redo
    → IsChange ask.own segment clock redo
change_by ask image segment handed clock on_disk redo true is e =
    in_lock ask image segment handed clock redo (limits_go_on ask image segment clock is)
    (lock_row ask.own (look segment handed) image (ask.row % 8)) on_disk e
change_by ask image segment handed clock on_disk redo false is e = absurd (none-some redo e)

pub change_made : (ask : ChangeAsk) (image : BlockContent) (segment : SegmentState) (handed : HandedState) (clock : Clock) (on_disk : Scn) (redo : Redo)
    → change_decision ask image segment handed clock on_disk ≡ Do redo → IsChange ask.own segment clock redo
change_made ask image segment handed clock on_disk redo e =
    change_by ask image segment handed clock on_disk redo (is_within_limits ask image segment clock) refl (ap record_in e)
