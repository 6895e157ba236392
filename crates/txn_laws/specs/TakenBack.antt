-- A change or a lock that was decided and made, and then was taken back.
use Rattle.std.specs.Prelude.{◌≡◌, ℕ, ◌+◌, ◌-◌, ◌^◌, ◌<◌, ◌≤◌, ◌==◌, ◌&&◌, true, if◌then◌else◌, List, map, Option, None, Some, slice_set}
use Rattle.base_types.specs.declared.names.Scn.{Scn}
use Rattle.base_types.specs.declared.names.Xid.{Xid}
use Rattle.redo_types.specs.declared.blocks.RowChange.{RowChange}
use Rattle.redo_types.specs.declared.redo.DataChange.{DataChange}
use Rattle.redo_types.specs.declared.redo.Redo.{Redo}
use Rattle.block_image.specs.Block.{BlockContent, IsBlock, slot_at}
use Rattle.block_image.specs.Changes.{applied}
use Rattle.undo_image.specs.Header.{IsHeader}
use Rattle.undo_image.specs.UndoBlock.{IsUndoBlock}
use Rattle.undo_segment.specs.Apply.{applied as segment_applied}
use Rattle.undo_segment.specs.Handed.{HandedState}
use Rattle.undo_segment.specs.Segment.{IsSegment, SegmentState}
use Rattle.scn_clock.specs.declared.clock.Clock.{Clock}
use Rattle.txn_engine.specs.declared.ask.ChangeAsk.{ChangeAsk}
use Rattle.txn_engine.specs.declared.ask.Decision.{Decision}
use Rattle.txn_engine.specs.declared.ask.Decision.TheVariants.{Do}
use Rattle.txn_engine.specs.Back.{back_decision, locks_of}
use Rattle.txn_engine.specs.Change.{change_decision, holds}
use Rattle.txn_engine.specs.Limits.{may_rise}
use Rattle.txn_engine.specs.Parts.{undo_block_at}

-- what a change is decided on: what is asked, an image of the block, the own segment, what was handed in of others, the
-- clock, and an SCN up to which each own record is on the disk
pub record OnHand : Type 0 where
  pub ask : ChangeAsk
  pub image : BlockContent
  pub segment : SegmentState
  pub handed : HandedState
  pub clock : Clock
  pub on_disk : Scn

-- The image is one of a block, and the segment is one, with its header and the undo block that is written next.
pub record AreWhole (hand : OnHand) : Type 0 where
  pub block : IsBlock hand.image
  pub segment : IsSegment hand.segment
  pub head : IsHeader hand.segment.head
  pub undo : IsUndoBlock (undo_block_at hand.segment hand.segment.head.front.next)

-- what is decided of the change
abbrev pub decided : OnHand → Decision
decided hand = change_decision hand.ask hand.image hand.segment hand.handed hand.clock hand.on_disk

-- a block after what a redo record does to one of its rows, if it changes one
abbrev pub row_applied : BlockContent → Option DataChange → Scn → BlockContent
row_applied image None scn = image
row_applied image (Some change) scn = applied image change.to scn

-- the block after a redo record
abbrev pub image_after : BlockContent → Redo → BlockContent
image_after image redo = row_applied image redo.row redo.scn

-- the record that takes the change back that stands at this place in the redo, with the clock of a later time
abbrev pub decided_back : OnHand → Redo → ℕ → Clock → Option Redo
decided_back hand change at later =
    back_decision change.xid (segment_applied hand.segment change at) (image_after hand.image change) later

-- On what is whole a change was decided, made at this place in the redo, and taken back by the record that was decided
-- with the clock of a later time.
pub record IsTakenBack (hand : OnHand) (change : Redo) (at : ℕ) (later : Clock) (back : Redo) : Type 0 where
  pub whole : AreWhole hand
  pub made : decided hand ≡ Do change
  pub taken_back : decided_back hand change at later ≡ Some back

-- On what is whole a change was decided, and no number is at its limit after it: not the clock of the later time, the
-- version of the block or of the header, nor how often the slot of the transaction was taken.
pub record MayTakeBack (hand : OnHand) (change : Redo) (later : Clock) : Type 0 where
  pub whole : AreWhole hand
  pub made : decided hand ≡ Do change
  pub clock : may_rise later.scn ≡ true
  pub image : may_rise (hand.image.front.version + 1) ≡ true
  pub head : may_rise (hand.segment.head.front.version + 1) ≡ true
  pub wrap : change.xid.wrap < 2 ^ 32 - 1

-- the block after the change and the record that takes it back
abbrev pub block_after : OnHand → Redo → Redo → BlockContent
block_after hand change back = image_after (image_after hand.image change) back

-- the segment after the change and the record that takes it back, at their places in the redo
abbrev pub segment_after : OnHand → Redo → ℕ → Redo → ℕ → SegmentState
segment_after hand change at back back_at = segment_applied (segment_applied hand.segment change at) back back_at

-- the lock byte of another row: as it was, or 0 where it named the ITL slot that was taken anew
abbrev pub other_lock : RowChange → ℕ → ℕ
other_lock change lock = if change.fresh && lock == change.itl then 0 else lock

-- the lock byte of the row itself: 0, or the number of the ITL slot where the transaction held the row before
abbrev pub row_lock : Xid → BlockContent → RowChange → ℕ
row_lock x image change = if holds x image change.row then change.itl else 0

-- the lock bytes after a change was taken back
abbrev pub locks_left : Xid → BlockContent → RowChange → List ℕ
locks_left x image change = slice_set (map (other_lock change) (locks_of image)) change.row (row_lock x image change)

-- A transaction has no more than one ITL slot in a block.
abbrev pub HasOneSlot : BlockContent → Xid → Type 0
HasOneSlot image x =
    (j k : ℕ) → 1 ≤ j → j ≤ 4 → 1 ≤ k → k ≤ 4 → (slot_at image.itl j).xid ≡ x → (slot_at image.itl k).xid ≡ x → j ≡ k
