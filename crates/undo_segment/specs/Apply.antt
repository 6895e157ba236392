-- What a redo record does to a segment, and what of it the disk may not have.
use Rattle.std.specs.Prelude.{◌≡◌, ℕ, ◌+◌, ◌-◌, nat_lt, if◌then◌else◌, List, Option, None, Some, length, slice_set}
use Rattle.base_types.specs.declared.names.RedoAt.{RedoAt}
use Rattle.base_types.specs.declared.names.Scn.{Scn}
use Rattle.redo_types.specs.declared.redo.HeadChange.{HeadChange}
use Rattle.redo_types.specs.declared.redo.Redo.{Redo}
use Rattle.redo_types.specs.declared.redo.UndoChange.{UndoChange}
use Rattle.undo_image.specs.Header.{with_slot}
use Rattle.undo_image.specs.UndoBlock.{UndoContent, with_record}
use Rattle.undo_segment.specs.Segment.{SegmentState, ring_block, since_at}

-- A block that redo from a place on touches is dirty since then, or longer.
abbrev pub dirtied : Option ℕ → ℕ → Option ℕ
dirtied None at = Some at
dirtied (Some first) at = Some first

-- the place in the ring of the undo block with this number; past the ring's end where the segment has no such block
abbrev pub ring_place : SegmentState → ℕ → ℕ
ring_place own number = if nat_lt own.head.front.number number then number - own.head.front.number - 1 else length own.blocks

-- a segment after the change of its header by redo at this place
abbrev pub head_applied : SegmentState → HeadChange → Scn → ℕ → SegmentState
head_applied own change scn at = record own {
  head = with_slot own.head change.slot change.to change.next scn;
  since = slice_set own.since 0 (dirtied (since_at own 0) at);
}

-- the undo blocks after a change of one of them, if there is one
abbrev pub blocks_after : SegmentState → Option UndoChange → Scn → List UndoContent
blocks_after own None scn = own.blocks
blocks_after own (Some change) scn =
    let k = ring_place own change.block in slice_set own.blocks k (with_record (ring_block own k) change.place change.to scn)

-- what is dirty after a change of an undo block, if there is one
abbrev pub since_after : SegmentState → Option UndoChange → ℕ → List (Option ℕ)
since_after own None at = own.since
since_after own (Some change) at =
    let k = ring_place own change.block + 1 in slice_set own.since k (dirtied (since_at own k) at)

-- a segment after the change of an undo block, if there is one, by redo at this place
abbrev pub undo_applied : SegmentState → Option UndoChange → Scn → ℕ → SegmentState
undo_applied own change scn at = record own { blocks = blocks_after own change scn; since = since_after own change at }

-- a segment after the redo record at this place
abbrev pub applied : SegmentState → Redo → ℕ → SegmentState
applied own redo at = undo_applied (head_applied own redo.head redo.scn at) redo.undo redo.scn at

-- the version of the undo block that a change touches; 0 where the segment has no such block
abbrev pub version_of : SegmentState → UndoChange → ℕ
version_of own change = (ring_block own (ring_place own change.block)).front.version
