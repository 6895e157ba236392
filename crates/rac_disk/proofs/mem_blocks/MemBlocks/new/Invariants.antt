use Rattle.std.proofs.Common.{◌≡◌, replicate}
use Rattle.rac_disk.proofs.mem_blocks.MemBlocks.new.Given as goal

abbrev pub invariant-loop-made : goal.invariant-loop-made
invariant-loop-made l = l.blocks.items ≡ replicate l._made (replicate 512 0)
