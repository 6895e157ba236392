-- The undo segment of an instance.
use Rattle.std.specs.Prelude.{◌≡◌, ℕ, ◌+◌, ◌-◌, ◌/◌, ◌%◌, ◌<◌, ◌==◌, List, Option, None, Some, if◌then◌else◌, length, find, slice_get, slice_index_or}
use Rattle.base_types.specs.declared.layout.Layout.{Layout}
use Rattle.base_types.specs.declared.names.Xid.{Xid}
use Rattle.base_types.specs.Layout.{IsLayout, head_block_of, undo_block_of}
use Rattle.undo_image.specs.Header.{HeaderContent}
use Rattle.undo_image.specs.UndoBlock.{UndoContent, empty_undo_block}
use Rattle.undo_segment.specs.declared.fetch.Fetch.{Fetch}
use Rattle.undo_segment.specs.declared.look.Look.{Look}
use Rattle.undo_segment.specs.Fetch.{fetch_in}
use Rattle.undo_segment.specs.Handed.{HandedState}
use Rattle.undo_segment.specs.Look.{look_in}

-- A segment: how the disk is laid out, its header, its undo blocks, and of the header and then of each block the place of
-- the first redo that it has and the disk's may not have, or None where it is clean.
pub record SegmentState : Type 0 where
  pub layout : Layout
  pub head : HeaderContent
  pub blocks : List UndoContent
  pub since : List (Option ℕ)

-- the undo block at this place
abbrev pub block_in : List UndoContent → ℕ → UndoContent
block_in blocks k = slice_index_or blocks k (empty_undo_block 0 0)

-- the undo block at this place in the ring
abbrev pub ring_block : SegmentState → ℕ → UndoContent
ring_block own k = block_in own.blocks k

-- since when the header, or the block before the next place in the ring, is dirty
abbrev pub since_at : SegmentState → ℕ → Option ℕ
since_at own k = slice_index_or own.since k None

-- An undo block has this number and is of this segment.
pub record IsBlockOf (n segment : ℕ) (block : UndoContent) : Type 0 where
  pub number : block.front.number ≡ n
  pub seg : block.front.seg ≡ segment

-- A segment lies where its instance's does, and has an undo block for each four records, one behind the other.
pub record IsSegment (own : SegmentState) : Type 0 where
  pub layout : IsLayout own.layout
  pub seg : own.head.front.seg < own.layout.instances
  pub number : own.head.front.number ≡ head_block_of own.layout own.head.front.seg
  pub blocks : length own.blocks ≡ own.layout.undo / 4
  pub since : length own.since ≡ 1 + own.layout.undo / 4
  pub each : (k : ℕ) → k < own.layout.undo / 4 → IsBlockOf (own.head.front.number + 1 + k) own.head.front.seg (ring_block own k)

-- The header of a segment, where it is at hand: the own one, or one that was handed in.
abbrev pub header_for : SegmentState → HandedState → ℕ → Option HeaderContent
header_for own handed seg = if own.head.front.seg == seg then Some own.head else find (λ h. h.front.seg == seg) handed.heads

-- what the header of its segment tells of a transaction
abbrev pub look : SegmentState → HandedState → Xid → Look
look own handed x = look_in (header_for own handed x.seg) x

-- the own undo block that has the place of a sequence number in the ring
abbrev pub own_block_for : SegmentState → ℕ → Option UndoContent
own_block_for own seq = slice_get own.blocks ((seq - 1) % own.layout.undo / 4)

-- The undo block of a sequence number of a segment, where it is at hand: the own one, or one that was handed in.
abbrev pub undo_block_for : SegmentState → HandedState → ℕ → ℕ → Option UndoContent
undo_block_for own handed seg seq =
    if own.head.front.seg == seg then own_block_for own seq
    else find (λ b. b.front.number == undo_block_of own.layout (record { seg = seg; seq = seq })) handed.blocks

-- what stands in the place of an undo record of a transaction
abbrev pub fetch : SegmentState → HandedState → Xid → ℕ → Fetch
fetch own handed x seq = fetch_in seq (undo_block_for own handed x.seg seq)

-- what stands in the place of an undo record of the own segment
abbrev pub fetch_own : SegmentState → ℕ → Fetch
fetch_own own seq = fetch_in seq (own_block_for own seq)
