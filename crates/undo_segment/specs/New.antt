-- Segments that were just made.
use Rattle.std.specs.Prelude.{ℕ, ◌+◌, ◌/◌, List, None, length, map, replicate}
use Rattle.std.specs.List.{range_with_len}
use Rattle.base_types.specs.declared.layout.Layout.{Layout}
use Rattle.base_types.specs.Layout.{head_block_of}
use Rattle.undo_image.specs.Header.{HeaderContent, empty_header}
use Rattle.undo_image.specs.UndoBlock.{UndoContent, empty_undo_block}
use Rattle.undo_segment.specs.Segment.{SegmentState}

-- a segment of this header and these undo blocks, all clean
abbrev pub clean_segment : Layout → HeaderContent → List UndoContent → SegmentState
clean_segment layout head blocks = record {
  layout = layout;
  head = head;
  blocks = blocks;
  since = replicate (1 + length blocks) None;
}

-- so many undo blocks that no undo record was ever written to, behind this header
abbrev pub empty_ring : ℕ → ℕ → ℕ → List UndoContent
empty_ring head seg count = map (λ k. empty_undo_block (head + 1 + k) seg) (range_with_len 0 count)

-- the segment that no transaction ever used
abbrev pub new_segment : Layout → ℕ → SegmentState
new_segment layout seg =
    let head = head_block_of layout seg in clean_segment layout (empty_header head seg) (empty_ring head seg (layout.undo / 4))
