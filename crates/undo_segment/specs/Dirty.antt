-- What of a segment the disk may not have.
use Rattle.std.specs.Prelude.{ℕ, ◌-◌, ◌==◌, min, Bool, if◌then◌else◌, List, Option, None, Some, fold, is_some, length, replicate, slice_set}
use Rattle.undo_image.specs.Header.{header_bytes}
use Rattle.undo_image.specs.UndoBlock.{undo_bytes}
use Rattle.undo_segment.specs.Segment.{SegmentState, ring_block, since_at}

-- the earlier of two places, as far as there are any
abbrev pub earlier : Option ℕ → Option ℕ → Option ℕ
earlier None other = other
earlier (Some at) None = Some at
earlier (Some at) (Some other) = Some (min at other)

-- the earliest place since when a block is dirty; None where all are clean
abbrev pub first_dirty : SegmentState → Option ℕ
first_dirty own = fold earlier None own.since

-- The block with this place in the segment, 0 for the header, is dirty.
abbrev pub is_dirty : SegmentState → ℕ → Bool
is_dirty own k = is_some (since_at own k)

-- the segment once the block with this place in it was written
abbrev pub cleaned : SegmentState → ℕ → SegmentState
cleaned own k = record own { since = slice_set own.since k None }

-- the segment with nothing noted as dirty
abbrev pub all_clean : SegmentState → SegmentState
all_clean own = record own { since = replicate (length own.since) None }

-- the bytes of the block with this place in the segment
abbrev pub bytes_of : SegmentState → ℕ → List ℕ
bytes_of own k = if k == 0 then header_bytes own.head else undo_bytes (ring_block own (k - 1))
