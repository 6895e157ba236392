-- A change or a lock of a row.
use Rattle.std.specs.Prelude.{ℕ, ◌+◌, ◌-◌, ◌%◌, ◌^◌, ◌&&◌, ◌||◌, ◌==◌, nat_lt, ℤ, pos, neg_ℤ, ◌+ℤ◌, int_le, int_lt, Bool, true, false, if◌then◌else◌, Option, None, Some, Result, Ok, Err}
use Rattle.base_types.specs.declared.names.Scn.{Scn}
use Rattle.base_types.specs.declared.names.Xid.{Xid}
use Rattle.base_types.specs.declared.value.Value.{Value}
use Rattle.base_types.specs.declared.value.Value.TheVariants.{Absent, Num}
use Rattle.redo_types.specs.declared.blocks.RowChange.{RowChange}
use Rattle.redo_types.specs.declared.redo.HeadChange.{HeadChange}
use Rattle.redo_types.specs.declared.redo.Redo.{Redo}
use Rattle.redo_types.specs.declared.redo.RedoKind.{RedoKind}
use Rattle.redo_types.specs.declared.redo.RedoKind.TheVariants as kind
use Rattle.redo_types.specs.declared.redo.UndoChange.{UndoChange}
use Rattle.redo_types.specs.declared.undo.TxnSlot.{TxnSlot}
use Rattle.redo_types.specs.declared.undo.TxnState.TheVariants as state
use Rattle.redo_types.specs.declared.undo.UndoRecord.{UndoRecord}
use Rattle.block_image.specs.Block.{BlockContent, row_at}
use Rattle.block_image.specs.Block.{slot_at as itl_at}
use Rattle.undo_image.specs.Header.{HeaderContent, slot_at}
use Rattle.undo_image.specs.UndoBlock.{UndoContent}
use Rattle.undo_segment.specs.declared.segment.UndoFull.{UndoFull}
use Rattle.undo_segment.specs.Begin.{next_xid, room}
use Rattle.undo_segment.specs.Handed.{HandedState}
use Rattle.undo_segment.specs.Segment.{SegmentState, look}
use Rattle.txn_slots.specs.declared.choice.SlotAnswer.{SlotAnswer}
use Rattle.txn_slots.specs.declared.choice.SlotAnswer.TheVariants as slots
use Rattle.txn_slots.specs.declared.lock.LockAnswer.{LockAnswer}
use Rattle.txn_slots.specs.declared.lock.LockAnswer.TheVariants as locks
use Rattle.txn_slots.specs.declared.lock.Released.{Released}
use Rattle.txn_slots.specs.declared.lock.Released.TheVariants.{Below, Exactly}
use Rattle.txn_slots.specs.Choice.{choose_slot}
use Rattle.txn_slots.specs.Lock.{lock_row, locker, released_at}
use Rattle.txn_slots.specs.Own.{is_own}
use Rattle.scn_clock.specs.declared.clock.Clock.{Clock}
use Rattle.journal.specs.declared.cause.Cause.{Cause}
use Rattle.journal.specs.declared.cause.Cause.TheVariants.{Busy, NoItl, NoTxnSlot, NoUndo, Overflow}
use Rattle.txn_engine.specs.declared.ask.ChangeAsk.{ChangeAsk}
use Rattle.txn_engine.specs.declared.ask.Wish.{Wish}
use Rattle.txn_engine.specs.declared.ask.Wish.TheVariants as wish
use Rattle.txn_engine.specs.declared.ask.Decision.{Decision}
use Rattle.txn_engine.specs.declared.ask.Decision.TheVariants.{AlreadyMine, Bad, Do, ForceFirst, Need, Refuse, Restart}
use Rattle.txn_engine.specs.declared.made.Plan.{Plan}
use Rattle.txn_engine.specs.Limits.{has_row, may_go_on, may_rise}
use Rattle.txn_engine.specs.Parts.{data_change, head_change, undo_block_at}

-- No number of what is at hand is at its limit, the image is of the block of the row, and the transaction, if there is
-- one, is under way.
abbrev pub is_within_limits : ChangeAsk → BlockContent → SegmentState → Clock → Bool
is_within_limits ask image segment clock =
    has_row image ask.row && may_go_on segment.head ask.own
    && may_rise clock.scn && may_rise image.front.version && may_rise segment.head.front.version
    && may_rise segment.head.front.next && may_rise (undo_block_at segment segment.head.front.next).front.version

-- the number that a row holds, an absent one 0
abbrev pub number_of : Value → ℤ
number_of Absent = pos 0
number_of (Num n) = n

-- The sum is outside 64 bits.
abbrev pub overflows : ℤ → ℤ → Bool
overflows found by = int_lt (found +ℤ by) (neg_ℤ (pos (2 ^ 63))) || int_le (pos (2 ^ 63)) (found +ℤ by)

-- a row that an addition leaves, or why it is refused
abbrev pub sum_of : ℤ → ℤ → Result Value Cause
sum_of found by = if overflows found by then Err (Overflow found by) else Ok (Num (found +ℤ by))

-- what a row holds after a change, by what it held before, or why the change is refused; a lock leaves it
abbrev pub value_after : Wish → Value → Result Value Cause
value_after (wish.Put v) found = Ok v
value_after (wish.Add by) found = sum_of (number_of found) by
value_after wish.Del found = Ok Absent
value_after wish.Lock found = Ok found

abbrev pub is_lock : Wish → Bool
is_lock wish.Lock = true
is_lock _ = false

-- the kind of record by what is wished
abbrev pub kind_of : Wish → RedoKind
kind_of wish.Lock = kind.Lock
kind_of _ = kind.Change

-- the first undo record of a transaction: that of the change where it begins by it
abbrev pub first_after : Option Xid → TxnSlot → ℕ → ℕ
first_after None slot next = next
first_after (Some x) slot next = slot.first

-- the end before a transaction: that of the slot's last one where it begins
abbrev pub prev_after : Option Xid → TxnSlot → Scn
prev_after None slot = slot.scn
prev_after (Some x) slot = slot.prev

-- the last undo record that stood of a transaction before the change, 0 for none
abbrev pub stood_last : Option Xid → TxnSlot → ℕ
stood_last None slot = 0
stood_last (Some x) slot = slot.last

-- the slot of a transaction after a change with this undo record
unfoldable pub slot_after : Option Xid → TxnSlot → ℕ → ℕ → TxnSlot
slot_after own slot wrap next =
    record { wrap = wrap; state = state.Active; first = first_after own slot next; last = next; scn = 0; prev = prev_after own slot }

-- A transaction holds a row, as the row's lock byte tells.
abbrev pub holds : Xid → BlockContent → ℕ → Bool
holds x image row = is_own (locker image row) x

-- what was before the change
unfoldable pub undo_made : ChangeAsk → Plan → BlockContent → HeaderContent → UndoRecord
undo_made ask plan image head =
    record {
      seq = head.front.next;
      slot = plan.xid.slot;
      itl = plan.itl;
      row = ask.row % 8;
      mine = holds plan.xid image (ask.row % 8);
      wrap = plan.xid.wrap;
      block = image.front.number;
      version = image.front.version + 1;
      prev = stood_last ask.own (slot_at head plan.xid.slot);
      old_itl = itl_at image.itl plan.itl;
      old = (row_at image.rows (ask.row % 8)).value;
    }

-- An undo record is written into its undo block, which has one version more.
unfoldable pub undo_change : UndoContent → UndoRecord → UndoChange
undo_change block undo =
    record { block = block.front.number; version = block.front.version + 1; place = (undo.seq - 1) % 4; to = undo }

-- what the change does to the row
unfoldable pub row_made : ChangeAsk → Plan → ℕ → RowChange
row_made ask plan seq =
    record {
      row = ask.row % 8;
      lock = plan.itl;
      itl = plan.itl;
      fresh = plan.fresh;
      slot = record { xid = plan.xid; seq = seq };
      value = plan.value;
    }

-- what the change does to the header of its segment
abbrev pub head_made : ChangeAsk → Plan → HeaderContent → HeadChange
head_made ask plan head =
    head_change head plan.xid.slot (head.front.next + 1) (slot_after ask.own (slot_at head plan.xid.slot) plan.xid.wrap head.front.next)

-- the record of a change or a lock with this SCN
unfoldable pub change_record : ChangeAsk → Plan → BlockContent → SegmentState → Scn → Redo
change_record ask plan image segment scn =
    record {
      kind = kind_of ask.wish;
      xid = plan.xid;
      scn = scn;
      seq = segment.head.front.next;
      head = head_made ask plan segment.head;
      undo = Some (undo_change (undo_block_at segment segment.head.front.next) (undo_made ask plan image segment.head));
      row = Some (data_change image (row_made ask plan segment.head.front.next));
    }

-- What is decided by the room for an undo record.
abbrev pub room_decision : Result ℕ UndoFull → ChangeAsk → Plan → BlockContent → SegmentState → Clock → Decision
room_decision (Ok next) ask plan image segment clock = Do (change_record ask plan image segment (clock.scn + 1))
room_decision (Err full) ask plan image segment clock = Refuse (NoUndo full.first full.next)

-- What is decided by the ITL slot, and then by the room.
abbrev pub slot_decision : SlotAnswer → ChangeAsk → Xid → Value → BlockContent → SegmentState → Clock → Decision
slot_decision (slots.Need wanted) ask x value image segment clock = Need wanted
slot_decision (slots.NoItl holders) ask x value image segment clock = Refuse (NoItl image.front.number holders)
slot_decision (slots.Take itl fresh) ask x value image segment clock =
    room_decision (room segment) ask (record { xid = x; itl = itl; fresh = fresh; value = value }) image segment clock

-- the transaction of the change: the own one, or the next of the segment
abbrev pub own_or_next : Option Xid → SegmentState → Option Xid
own_or_next (Some x) segment = Some x
own_or_next None segment = next_xid segment

-- What is decided by the transaction, and then by the ITL slot.
abbrev pub txn_decision : Option Xid → ChangeAsk → Value → BlockContent → SegmentState → HandedState → Clock → Decision
txn_decision None ask value image segment handed clock = Refuse (NoTxnSlot segment.head.front.seg)
txn_decision (Some x) ask value image segment handed clock =
    slot_decision (choose_slot ask.own (look segment handed) image.itl) ask x value image segment clock

-- What is decided by the value, and then by the transaction.
abbrev pub value_decision : Result Value Cause → ChangeAsk → BlockContent → SegmentState → HandedState → Clock → Decision
value_decision (Err cause) ask image segment handed clock = Refuse cause
value_decision (Ok value) ask image segment handed clock =
    txn_decision (own_or_next ask.own segment) ask value image segment handed clock

-- What is decided once the row is free, or the transaction's own.
abbrev pub free_decision : ChangeAsk → BlockContent → SegmentState → HandedState → Clock → Decision
free_decision ask image segment handed clock =
    value_decision (value_after ask.wish (row_at image.rows (ask.row % 8)).value) ask image segment handed clock

-- The end of which an answer tells may wait for the disk: it is of the own segment, or a bound.
abbrev pub may_wait : Released → ℕ → Bool
may_wait (Exactly x e) seg = x.seg == seg
may_wait (Below e) seg = true

-- What is decided where the row was let go after the statement's start: redo is forced first where the end may not be on
-- the disk, and else the statement starts again.
abbrev pub late_decision : Released → ℕ → Scn → Decision
late_decision released seg on_disk =
    if nat_lt on_disk (released_at released) && may_wait released seg then ForceFirst else Restart (released_at released)

-- What is decided where the row is free.
abbrev pub released_decision : Released → ChangeAsk → BlockContent → SegmentState → HandedState → Clock → Scn → Decision
released_decision released ask image segment handed clock on_disk =
    if nat_lt ask.snapshot (released_at released) then late_decision released segment.head.front.seg on_disk
    else free_decision ask image segment handed clock

-- What is decided by who holds the row, and then by the value.
abbrev pub lock_decision : LockAnswer → ChangeAsk → BlockContent → SegmentState → HandedState → Clock → Scn → Decision
lock_decision (locks.Need wanted) ask image segment handed clock on_disk = Need wanted
lock_decision (locks.Held x) ask image segment handed clock on_disk = Refuse (Busy x)
lock_decision locks.Mine ask image segment handed clock on_disk =
    if is_lock ask.wish then AlreadyMine else free_decision ask image segment handed clock
lock_decision (locks.Free released) ask image segment handed clock on_disk =
    released_decision released ask image segment handed clock on_disk

-- What is decided of a change or a lock: first by the limits, and then by who holds the row.
abbrev pub change_decision : ChangeAsk → BlockContent → SegmentState → HandedState → Clock → Scn → Decision
change_decision ask image segment handed clock on_disk =
    if is_within_limits ask image segment clock
    then lock_decision (lock_row ask.own (look segment handed) image (ask.row % 8)) ask image segment handed clock on_disk
    else Bad

-- what holds of the record, if there is one
abbrev pub IfDo : Decision → (Redo → Type 0) → Type 0
IfDo (Do r) P = P r
IfDo _ P = Unit {0}
