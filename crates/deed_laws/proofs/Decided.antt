-- How a change came about that was decided.
use Rattle.std.proofs.Common.{◌≡◌, ℕ, ◌+◌, ◌%◌, ◌&&◌, Bool, true, false, cond, refl, arith}
use Rattle.std.specs.Prelude.{Option, Some, None, Result, Ok, Err, nat_lt}
use Rattle.std.proofs.lemmas.Bool.Decides.{nat_tests}
use Rattle.base_types.specs.declared.names.Scn.{Scn}
use Rattle.base_types.specs.declared.names.Xid.{Xid}
use Rattle.base_types.specs.declared.value.Value.{Value}
use Rattle.redo_types.specs.declared.redo.Redo.{Redo}
use Rattle.block_image.specs.Block.{BlockContent, row_at}
use Rattle.undo_segment.specs.declared.segment.UndoFull.{UndoFull}
use Rattle.undo_segment.specs.Begin.{room}
use Rattle.undo_segment.specs.Handed.{HandedState}
use Rattle.undo_segment.specs.Segment.{SegmentState, look}
use Rattle.txn_slots.specs.declared.choice.SlotAnswer.{SlotAnswer}
use Rattle.txn_slots.specs.declared.choice.SlotAnswer.TheVariants as slots
use Rattle.txn_slots.specs.declared.lock.LockAnswer.{LockAnswer}
use Rattle.txn_slots.specs.declared.lock.LockAnswer.TheVariants as locks
use Rattle.txn_slots.specs.Choice.{choose_slot}
use Rattle.txn_slots.specs.Lock.{lock_row, released_at}
use Rattle.scn_clock.specs.declared.clock.Clock.{Clock}
use Rattle.journal.specs.declared.cause.Cause.{Cause}
use Rattle.txn_engine.specs.declared.ask.ChangeAsk.{ChangeAsk}
use Rattle.txn_engine.specs.declared.ask.Decision.{Decision}
use Rattle.txn_engine.specs.declared.ask.Decision.TheVariants.{Do, ForceFirst, Restart}
use Rattle.txn_engine.specs.declared.made.Plan.{Plan}
use Rattle.txn_engine.specs.Change.{change_decision, change_record, free_decision, is_lock, is_within_limits, late_decision, lock_decision, may_wait, own_or_next, room_decision, slot_decision, txn_decision, value_after, value_decision}
use Rattle.board_slots.specs.Decide.{GoesOn}

module _ (ask : ChangeAsk) (image : BlockContent) (segment : SegmentState) (handed : HandedState) (clock : Clock) (r : Redo) where
  abbrev found : Value
  found = (row_at image.rows (ask.row % 8)).value

  -- some plan makes the record, where the row is free
  pub record IsPlanned : Type 0 where
    pub plan : Plan
    pub xid : own_or_next ask.own segment ≡ Some plan.xid
    pub value : value_after ask.wish found ≡ Ok plan.value
    pub slot : choose_slot ask.own (look segment handed) image.itl ≡ slots.Take plan.itl plan.fresh
    pub is : change_record ask plan image segment (clock.scn + 1) ≡ r

  by_room : (answer : Result ℕ UndoFull) (plan : Plan) → room_decision answer ask plan image segment clock ≡ Do r → change_record ask plan image segment (clock.scn + 1) ≡ r
  by_room (Ok next) plan h = cc
  by_room (Err full) plan h = absurd cc

  by_slot : (answer : SlotAnswer) (x : Xid) (value : Value) → own_or_next ask.own segment ≡ Some x → value_after ask.wish found ≡ Ok value → choose_slot ask.own (look segment handed) image.itl ≡ answer → slot_decision answer ask x value image segment clock ≡ Do r → IsPlanned
  by_slot (slots.Need wanted) x value named is chosen h = absurd cc
  by_slot (slots.NoItl holders) x value named is chosen h = absurd cc
  by_slot (slots.Take itl fresh) x value named is chosen h =
      let plan : Plan = record { xid = x; itl = itl; fresh = fresh; value = value } in
      record { plan = plan; xid = named; value = is; slot = chosen; is = by_room (room segment) plan h }

  by_txn : (named : Option Xid) (value : Value) → own_or_next ask.own segment ≡ named → value_after ask.wish found ≡ Ok value → txn_decision named ask value image segment handed clock ≡ Do r → IsPlanned
  by_txn None value named is h = absurd cc
  by_txn (Some x) value named is h = by_slot (choose_slot ask.own (look segment handed) image.itl) x value named is refl h

  by_value : (value : Result Value Cause) → value_after ask.wish found ≡ value → value_decision value ask image segment handed clock ≡ Do r → IsPlanned
  by_value (Err cause) is h = absurd cc
  by_value (Ok value) is h = by_txn (own_or_next ask.own segment) value refl is h

  by_free : free_decision ask image segment handed clock ≡ Do r → IsPlanned
  by_free h = by_value (value_after ask.wish found) refl h

  -- of two, the one that isn't the record leaves the other
  by_either : (b : Bool) (one other : Decision) (P : Type 0) → cond b one other ≡ Do r → (b ≡ true → one ≡ Do r → P) → (b ≡ false → other ≡ Do r → P) → P
  by_either true one other P h first second = first refl h
  by_either false one other P h first second = second refl h

  not_late : (b : Bool) (scn : Scn) → cond b ForceFirst (Restart scn) ≡ Do r → ⊥
  not_late true scn h = cc
  not_late false scn h = cc

  abbrev IsDecided : LockAnswer → Type 0
  IsDecided answer = GoesOn ask.snapshot answer × IsPlanned

  by_lock : (answer : LockAnswer) (on_disk : Scn) → lock_decision answer ask image segment handed clock on_disk ≡ Do r → IsDecided answer
  by_lock (locks.Need wanted) on_disk h = absurd cc
  by_lock (locks.Held x) on_disk h = absurd cc
  by_lock locks.Mine on_disk h =
      by_either (is_lock ask.wish) _ (free_decision ask image segment handed clock) (IsDecided locks.Mine) h (λ b already. absurd cc) (λ b free. (tt, by_free free))
  by_lock (locks.Free released) on_disk h =
      by_either (nat_lt ask.snapshot (released_at released)) (late_decision released segment.head.front.seg on_disk) (free_decision ask image segment handed clock) (IsDecided (locks.Free released)) h
      (λ b late. absurd (not_late (nat_lt on_disk (released_at released) && may_wait released segment.head.front.seg) (released_at released) late))
      (λ b free. (grind (arith, nat_tests, b), by_free free))

  pub decided_is : (on_disk : Scn) → change_decision ask image segment handed clock on_disk ≡ Do r → GoesOn ask.snapshot (lock_row ask.own (look segment handed) image (ask.row % 8)) × IsPlanned
  decided_is on_disk h =
      by_either (is_within_limits ask image segment clock) (lock_decision (lock_row ask.own (look segment handed) image (ask.row % 8)) ask image segment handed clock on_disk) _ (IsDecided (lock_row ask.own (look segment handed) image (ask.row % 8))) h
      (λ b within. by_lock (lock_row ask.own (look segment handed) image (ask.row % 8)) on_disk within) (λ b bad. absurd cc)

  -- within the limits
  pub decided_within : (on_disk : Scn) → change_decision ask image segment handed clock on_disk ≡ Do r → is_within_limits ask image segment clock ≡ true
  decided_within on_disk h =
      by_either (is_within_limits ask image segment clock) (lock_decision (lock_row ask.own (look segment handed) image (ask.row % 8)) ask image segment handed clock on_disk) _ (is_within_limits ask image segment clock ≡ true) h
      (λ b within. b) (λ b bad. absurd cc)
