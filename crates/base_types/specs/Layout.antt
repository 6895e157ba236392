-- The places of blocks on the disk: the data blocks first, then a segment for each instance.
use Rattle.std.specs.Prelude.{◌≡◌, ℕ, ◌+◌, ◌-◌, ◌*◌, ◌/◌, ◌%◌, ◌≤◌}
use Rattle.base_types.specs.declared.layout.Layout.{Layout}
use Rattle.base_types.specs.declared.names.UndoAt.{UndoAt}

-- A disk is laid out for 1 to 8 instances, 1 to 64 data blocks, and 8 to 64 undo records a segment,
-- a multiple of 4.
pub record IsLayout (l : Layout) : Type 0 where
  pub some_instances : 1 ≤ l.instances
  pub few_instances : l.instances ≤ 8
  pub some_blocks : 1 ≤ l.blocks
  pub few_blocks : l.blocks ≤ 64
  pub some_undo : 8 ≤ l.undo
  pub few_undo : l.undo ≤ 64
  pub undo_by_four : l.undo % 4 ≡ 0

-- A segment has its header and a block for each four undo records.
abbrev pub segment_blocks : Layout → ℕ
segment_blocks l = 1 + l.undo / 4

-- The header of an instance's segment comes after the data blocks and the segments of the instances
-- before it.
abbrev pub head_block_of : Layout → ℕ → ℕ
head_block_of l i = l.blocks + i * segment_blocks l

-- An instance's segment ends before this block.
abbrev pub segment_end_of : Layout → ℕ → ℕ
segment_end_of l i = head_block_of l i + segment_blocks l

-- An undo record stands in the block of its place in the ring, four places a block, after its
-- segment's header.
abbrev pub undo_block_of : Layout → UndoAt → ℕ
undo_block_of l at = head_block_of l at.seg + 1 + (at.seq - 1) % l.undo / 4

-- The disk has the data blocks and the segments of all instances.
abbrev pub total_of : Layout → ℕ
total_of l = l.blocks + l.instances * segment_blocks l
