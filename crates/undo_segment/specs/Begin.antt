-- The next transaction of a segment, and the room for its undo.
use Rattle.std.specs.Prelude.{ℕ, ◌+◌, ◌-◌, ◌^◌, ◌&&◌, ◌||◌, not, nat_le, min, Bool, if◌then◌else◌, List, Option, None, Some, Result, Ok, Err, find, length}
use Rattle.std.specs.List.{filter, list_all, position}
use Rattle.std.specs.Option.{option_map}
use Rattle.base_types.specs.declared.names.Xid.{Xid}
use Rattle.redo_types.specs.declared.undo.TxnSlot.{TxnSlot}
use Rattle.undo_image.specs.Header.{slot_at}
use Rattle.undo_segment.specs.declared.segment.UndoFull.{UndoFull}
use Rattle.undo_segment.specs.Look.{is_active}
use Rattle.undo_segment.specs.Segment.{SegmentState}

-- No transaction has the slot now.
abbrev pub is_free : TxnSlot → Bool
is_free slot = not (is_active slot.state)

-- A slot ended no later than another one, or that one is active.
abbrev pub ended_no_later : TxnSlot → TxnSlot → Bool
ended_no_later slot other = is_active other.state || nat_le slot.scn other.scn

-- A slot is free, and no free slot ended before it.
abbrev pub ended_first : List TxnSlot → TxnSlot → Bool
ended_first slots slot = is_free slot && list_all (ended_no_later slot) slots

-- the transaction that takes the slot with this number next
abbrev pub next_of_slot : SegmentState → ℕ → Xid
next_of_slot own k = record { seg = own.head.front.seg; slot = k; wrap = min ((slot_at own.head k).wrap + 1) (2 ^ 32 - 1) }

-- The next transaction takes the first slot that ended first, and there is none where all are active.
abbrev pub next_xid : SegmentState → Option Xid
next_xid own = option_map (next_of_slot own) (position (ended_first own.head.slots) own.head.slots)

-- A slot's first undo record is no later than another one's, or that one isn't active.
abbrev pub began_no_later : TxnSlot → TxnSlot → Bool
began_no_later slot other = is_free other || nat_le slot.first other.first

-- A slot is active, and no active slot has an earlier first undo record.
abbrev pub began_first : List TxnSlot → TxnSlot → Bool
began_first slots slot = is_active slot.state && list_all (began_no_later slot) slots

-- the slot whose transaction holds back the ring
abbrev pub oldest : List TxnSlot → Option TxnSlot
oldest slots = find (began_first slots) slots

-- The next sequence number, unless the undo from the first one that is needed on fills the ring.
abbrev pub room_from : Option TxnSlot → ℕ → ℕ → Result ℕ UndoFull
room_from None next undo = Ok next
room_from (Some slot) next undo = if nat_le undo (next - slot.first) then Err (record { first = slot.first; next = next }) else Ok next

-- the sequence number of the next undo record, where the ring has room for one
abbrev pub room : SegmentState → Result ℕ UndoFull
room own = room_from (oldest own.head.slots) own.head.front.next own.layout.undo

-- how many slots are active
abbrev pub active_count : SegmentState → ℕ
active_count own = length (filter (λ slot. is_active slot.state) own.head.slots)
