-- What each redo record is made of.
use Rattle.std.specs.Prelude.{ℕ, ◌+◌, ◌-◌, ◌/◌, ◌%◌, ◌^◌, ◌<◌, Option, IfSome}
use Rattle.base_types.specs.declared.names.Scn.{Scn}
use Rattle.redo_types.specs.declared.blocks.RowChange.{RowChange}
use Rattle.redo_types.specs.declared.redo.DataChange.{DataChange}
use Rattle.redo_types.specs.declared.redo.HeadChange.{HeadChange}
use Rattle.redo_types.specs.declared.redo.Redo.{Redo}
use Rattle.redo_types.specs.declared.undo.TxnSlot.{TxnSlot}
use Rattle.redo_types.specs.declared.undo.UndoRecord.{UndoRecord}
use Rattle.block_image.specs.Block.{BlockContent, IsBlock}
use Rattle.block_image.specs.Changes.{applied}
use Rattle.redo_record.specs.Redo.{IsRedo}
use Rattle.undo_image.specs.Header.{HeaderContent}
use Rattle.undo_image.specs.UndoBlock.{UndoContent, record_at}
use Rattle.undo_segment.specs.Apply.{version_of}
use Rattle.undo_segment.specs.Segment.{SegmentState, ring_block}

-- A redo record touches the header of its transaction: it has one version more, this next sequence number, and this slot.
unfoldable pub head_change : HeaderContent → ℕ → ℕ → TxnSlot → HeadChange
head_change head slot next to =
    record { block = head.front.number; version = head.front.version + 1; slot = slot; next = next; to = to }

-- A redo record changes a row of a data block, which has one version more.
unfoldable pub data_change : BlockContent → RowChange → DataChange
data_change image change =
    record { block = image.front.number; version = image.front.version + 1; to = change }

-- the undo block that has the place of a sequence number in the ring
abbrev pub undo_block_at : SegmentState → ℕ → UndoContent
undo_block_at segment seq = ring_block segment ((seq - 1) % segment.layout.undo / 4)

-- the undo record in the place of a sequence number in the ring
abbrev pub undo_at : SegmentState → ℕ → Option UndoRecord
undo_at segment seq = record_at (undo_block_at segment seq) ((seq - 1) % 4)

-- A record is one, and may be applied to the segment.
pub record FitsSegment (segment : SegmentState) (r : Redo) : Type 0 where
  pub is : IsRedo r
  pub head : segment.head.front.version < 2 ^ 64 - 1
  pub undo : IfSome r.undo (λ change. version_of segment change < 2 ^ 64 - 1)

-- A record may be applied to the image of its data block, if it changes one.
pub record FitsImage (image : BlockContent) (r : Redo) : Type 0 where
  pub version : image.front.version < 2 ^ 64 - 1
  pub block : IfSome r.row (λ change. IsBlock (applied image change.to r.scn))

-- A record may be applied to the segment and to the image.
pub record FitsBoth (segment : SegmentState) (image : BlockContent) (r : Redo) : Type 0 where
  pub segment_fits : FitsSegment segment r
  pub image_fits : FitsImage image r
