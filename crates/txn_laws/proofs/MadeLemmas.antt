-- How a change came about that was decided.
use Rattle.std.proofs.Common.{◌≡◌, ℕ, ◌+◌, ◌%◌, ◌&&◌, Bool, true, false, cond, refl, Option, None, Some}
use Rattle.std.specs.Prelude.{Result, Ok, Err, nat_lt}
use Rattle.base_types.specs.declared.names.Scn.{Scn}
use Rattle.base_types.specs.declared.names.Xid.{Xid}
use Rattle.base_types.specs.declared.value.Value.{Value}
use Rattle.redo_types.specs.declared.redo.Redo.{Redo}
use Rattle.block_image.specs.Block.{BlockContent, row_at}
use Rattle.undo_segment.specs.declared.segment.UndoFull.{UndoFull}
use Rattle.undo_segment.specs.Begin.{room}
use Rattle.undo_segment.specs.Handed.{HandedState}
use Rattle.undo_segment.specs.Segment.{SegmentState, look}
use Rattle.txn_slots.specs.declared.choice.SlotAnswer.{SlotAnswer}
use Rattle.txn_slots.specs.declared.choice.SlotAnswer.TheVariants as slots
use Rattle.txn_slots.specs.declared.lock.LockAnswer.{LockAnswer}
use Rattle.txn_slots.specs.declared.lock.LockAnswer.TheVariants as locks
use Rattle.txn_slots.specs.Choice.{choose_slot}
use Rattle.txn_slots.specs.Lock.{lock_row, released_at}
use Rattle.scn_clock.specs.declared.clock.Clock.{Clock}
use Rattle.journal.specs.declared.cause.Cause.{Cause}
use Rattle.txn_engine.specs.declared.ask.ChangeAsk.{ChangeAsk}
use Rattle.txn_engine.specs.declared.ask.Decision.{Decision}
use Rattle.txn_engine.specs.declared.ask.Decision.TheVariants.{Bad, Do, ForceFirst, Restart}
use Rattle.txn_engine.specs.declared.made.Plan.{Plan}
use Rattle.txn_engine.specs.Change.{change_decision, change_record, free_decision, is_lock, is_within_limits, late_decision, lock_decision, may_wait, own_or_next, room_decision, slot_decision, txn_decision, value_after, value_decision}

-- the record is made by a plan
pub record IsMadeBy (ask : ChangeAsk) (image : BlockContent) (segment : SegmentState) (handed : HandedState) (clock : Clock) (plan : Plan) (r : Redo) : Type 0 where
  pub xid : own_or_next ask.own segment ≡ Some plan.xid
  pub slot : choose_slot ask.own (look segment handed) image.itl ≡ slots.Take plan.itl plan.fresh
  pub is : change_record ask plan image segment (clock.scn + 1) ≡ r

-- some plan makes the record
pub record IsMade (ask : ChangeAsk) (image : BlockContent) (segment : SegmentState) (handed : HandedState) (clock : Clock) (r : Redo) : Type 0 where
  pub plan : Plan
  pub by : IsMadeBy ask image segment handed clock plan r

by_room : (answer : Result ℕ UndoFull) (ask : ChangeAsk) (plan : Plan) (image : BlockContent) (segment : SegmentState) (clock : Clock) (r : Redo) → room_decision answer ask plan image segment clock ≡ Do r
    → change_record ask plan image segment (clock.scn + 1) ≡ r
by_room (Ok next) ask plan image segment clock r h = cc
by_room (Err full) ask plan image segment clock r h = absurd cc

by_slot : (answer : SlotAnswer) (ask : ChangeAsk) (x : Xid) (value : Value) (image : BlockContent) (segment : SegmentState) (handed : HandedState) (clock : Clock) (r : Redo)
    → own_or_next ask.own segment ≡ Some x → choose_slot ask.own (look segment handed) image.itl ≡ answer → slot_decision answer ask x value image segment clock ≡ Do r
    → IsMade ask image segment handed clock r
by_slot (slots.Need wanted) ask x value image segment handed clock r named chosen h = absurd cc
by_slot (slots.NoItl holders) ask x value image segment handed clock r named chosen h = absurd cc
by_slot (slots.Take itl fresh) ask x value image segment handed clock r named chosen h =
    let plan : Plan = record { xid = x; itl = itl; fresh = fresh; value = value } in
    record { plan = plan; by = record { xid = named; slot = chosen; is = by_room (room segment) ask plan image segment clock r h } }

by_txn : (named : Option Xid) (ask : ChangeAsk) (value : Value) (image : BlockContent) (segment : SegmentState) (handed : HandedState) (clock : Clock) (r : Redo)
    → own_or_next ask.own segment ≡ named → txn_decision named ask value image segment handed clock ≡ Do r → IsMade ask image segment handed clock r
by_txn None ask value image segment handed clock r named h = absurd cc
by_txn (Some x) ask value image segment handed clock r named h =
    by_slot (choose_slot ask.own (look segment handed) image.itl) ask x value image segment handed clock r named refl h

by_value : (value : Result Value Cause) (ask : ChangeAsk) (image : BlockContent) (segment : SegmentState) (handed : HandedState) (clock : Clock) (r : Redo)
    → value_decision value ask image segment handed clock ≡ Do r → IsMade ask image segment handed clock r
by_value (Err cause) ask image segment handed clock r h = absurd cc
by_value (Ok value) ask image segment handed clock r h = by_txn (own_or_next ask.own segment) ask value image segment handed clock r refl h

by_free : (ask : ChangeAsk) (image : BlockContent) (segment : SegmentState) (handed : HandedState) (clock : Clock) (r : Redo) → free_decision ask image segment handed clock ≡ Do r
    → IsMade ask image segment handed clock r
by_free ask image segment handed clock r h = by_value (value_after ask.wish (row_at image.rows (ask.row % 8)).value) ask image segment handed clock r h

-- of two, the one that isn't the record leaves the other
by_either : (b : Bool) (one other : Decision) (r : Redo) (P : Type 0) → cond b one other ≡ Do r → (one ≡ Do r → P) → (other ≡ Do r → P) → P
by_either true one other r P h first second = first h
by_either false one other r P h first second = second h

not_late : (b : Bool) (scn : Scn) (r : Redo) → cond b ForceFirst (Restart scn) ≡ Do r → ⊥
not_late true scn r h = cc
not_late false scn r h = cc

by_lock : (answer : LockAnswer) (ask : ChangeAsk) (image : BlockContent) (segment : SegmentState) (handed : HandedState) (clock : Clock) (on_disk : Scn) (r : Redo)
    → lock_decision answer ask image segment handed clock on_disk ≡ Do r → IsMade ask image segment handed clock r
by_lock (locks.Need wanted) ask image segment handed clock on_disk r h = absurd cc
by_lock (locks.Held x) ask image segment handed clock on_disk r h = absurd cc
by_lock locks.Mine ask image segment handed clock on_disk r h =
    by_either (is_lock ask.wish) _ (free_decision ask image segment handed clock) r (IsMade ask image segment handed clock r) h (λ already. absurd cc) (λ free. by_free ask image segment handed clock r free)
by_lock (locks.Free released) ask image segment handed clock on_disk r h =
    by_either (nat_lt ask.snapshot (released_at released)) (late_decision released segment.head.front.seg on_disk) (free_decision ask image segment handed clock) r (IsMade ask image segment handed clock r) h
    (λ late. absurd (not_late (nat_lt on_disk (released_at released) && may_wait released segment.head.front.seg) (released_at released) r late)) (λ free. by_free ask image segment handed clock r free)

-- each record that is decided is made by a plan
pub decided_is_made : (ask : ChangeAsk) (image : BlockContent) (segment : SegmentState) (handed : HandedState) (clock : Clock) (on_disk : Scn) (r : Redo) → change_decision ask image segment handed clock on_disk ≡ Do r
    → IsMade ask image segment handed clock r
decided_is_made ask image segment handed clock on_disk r h =
    by_either (is_within_limits ask image segment clock) (lock_decision (lock_row ask.own (look segment handed) image (ask.row % 8)) ask image segment handed clock on_disk) _ r (IsMade ask image segment handed clock r) h
    (λ within. by_lock (lock_row ask.own (look segment handed) image (ask.row % 8)) ask image segment handed clock on_disk r within) (λ bad. absurd cc)

within_by : (b : Bool) (one : Decision) (r : Redo) → cond b one Bad ≡ Do r → (b ≡ true) × (one ≡ Do r)
within_by true one r h = (refl, h)
within_by false one r h = absurd cc

-- each record is decided within the limits
pub decided_within : (ask : ChangeAsk) (image : BlockContent) (segment : SegmentState) (handed : HandedState) (clock : Clock) (on_disk : Scn) (r : Redo) → change_decision ask image segment handed clock on_disk ≡ Do r
    → is_within_limits ask image segment clock ≡ true
decided_within ask image segment handed clock on_disk r h =
    (within_by (is_within_limits ask image segment clock) (lock_decision (lock_row ask.own (look segment handed) image (ask.row % 8)) ask image segment handed clock on_disk) r h).0

unheld_by : (answer : LockAnswer) (x : Xid) (ask : ChangeAsk) (image : BlockContent) (segment : SegmentState) (handed : HandedState) (clock : Clock) (on_disk : Scn) (r : Redo)
    → answer ≡ locks.Held x → lock_decision answer ask image segment handed clock on_disk ≡ Do r → ⊥
unheld_by (locks.Need wanted) x ask image segment handed clock on_disk r is h = cc
unheld_by (locks.Held y) x ask image segment handed clock on_disk r is h = cc
unheld_by locks.Mine x ask image segment handed clock on_disk r is h = cc
unheld_by (locks.Free released) x ask image segment handed clock on_disk r is h = cc

-- each record is decided where nobody else holds the row
pub decided_unheld : (ask : ChangeAsk) (image : BlockContent) (segment : SegmentState) (handed : HandedState) (clock : Clock) (on_disk : Scn) (r : Redo) (x : Xid) → change_decision ask image segment handed clock on_disk ≡ Do r
    → lock_row ask.own (look segment handed) image (ask.row % 8) ≡ locks.Held x → ⊥
decided_unheld ask image segment handed clock on_disk r x h held =
    let answer = lock_row ask.own (look segment handed) image (ask.row % 8) in
    unheld_by answer x ask image segment handed clock on_disk r held (within_by (is_within_limits ask image segment clock) (lock_decision answer ask image segment handed clock on_disk) r h).1
