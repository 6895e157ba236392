-- What the blocks of the disk are laid out for.
use Rattle.std.specs.Prelude.{ℕ, ◌-◌, ◌/◌, ◌%◌, ◌==◌, if◌then◌else◌, nat_lt}
use Rattle.base_types.specs.declared.layout.Layout.{Layout}
use Rattle.base_types.specs.Layout.{segment_blocks}
use Rattle.thread_steps.specs.declared.kinds.BlockKind.{BlockKind}
use Rattle.thread_steps.specs.declared.kinds.BlockKind.TheVariants.{Data, Head, Undo}

-- what the block is that stands so many blocks behind the data blocks, where each segment has so many
abbrev pub segment_part : ℕ → ℕ → BlockKind
segment_part at len = if at % len == 0 then Head (at / len) else Undo (at / len)

-- The data blocks come first, and then the segments, each with its header first.
abbrev pub kind_of : Layout → ℕ → BlockKind
kind_of layout block =
    if nat_lt block layout.blocks then Data else segment_part (block - layout.blocks) (segment_blocks layout)
