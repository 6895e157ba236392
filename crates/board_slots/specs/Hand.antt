-- The headers and undo blocks that are at hand, of the own segment and of others.
use Rattle.std.specs.Prelude.{ℕ, ◌-◌, ◌%◌, ◌≡◌, List, Option, IfSome}
use Rattle.std.specs.List.{Contains}
use Rattle.base_types.specs.declared.names.Xid.{Xid}
use Rattle.redo_types.specs.declared.undo.UndoRecord.{UndoRecord}
use Rattle.undo_image.specs.Header.{HeaderContent, slot_at}
use Rattle.undo_image.specs.UndoBlock.{record_at, UndoContent}
use Rattle.undo_segment.specs.Handed.{HandedState}
use Rattle.undo_segment.specs.Segment.{header_for, SegmentState, undo_block_for}
use Rattle.board_slots.specs.Block.{Deed}
use Rattle.board_slots.specs.Header.{end_in, IsSlotOf, table_slot, Turn, Turns}
use Rattle.board_slots.specs.Ring.{in_place, Rising}
use Rattle.board_slots.specs.Views.{undo_of}

-- A header has in a transaction's slot what the turns of the slot left, and by these the transaction ended so, or not yet.
pub record HeaderTells (xid : Xid) (end : Option ℕ) (head : HeaderContent) : Type 0 where
  pub turns : List Turn
  pub in_turn : Turns turns
  pub slot : IsSlotOf (slot_at head xid.slot) (table_slot turns)
  pub ends : end_in xid.wrap turns ≡ end

-- An undo block has in the place of an undo record what the undo of the segment left there, which that record is one of.
pub record BlockHolds (size : ℕ) (undo : UndoRecord) (block : UndoContent) : Type 0 where
  pub written : List UndoRecord
  pub rises : Rising written
  pub there : Contains written undo
  pub place : record_at block ((undo.seq - 1) % 4) ≡ in_place size ((undo.seq - 1) % size) written

-- What is at hand of a deed in the block with this number: the header of its segment, if that is at hand, tells its
-- transaction's end, and the block of its undo record, if that is at hand, is of a moment after it was written.
pub record IsAtHand (own : SegmentState) (handed : HandedState) (number : ℕ) (ended : Xid → Option ℕ) (deed : Deed)
    : Type 0 where
  pub head : IfSome (header_for own handed deed.xid.seg) (HeaderTells deed.xid (ended deed.xid))
  pub undo : IfSome (undo_block_for own handed deed.xid.seg deed.seq) (BlockHolds own.layout.undo (undo_of number deed))
