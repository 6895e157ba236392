use Rattle.std.proofs.Common.{arith}
use Rattle.std.proofs.lemmas.List.{take-replicate, replicate-append-replicate}
use Rattle.rac_disk.specs.Memory.{zero_block}
use Rattle.rac_disk.proofs.mem_blocks.MemBlocks.new.Goals as goal

pub loop-made-preserved : goal.loop-made-preserved
loop-made-preserved c = rw (c.in_ok-push.ensures.items, c.loop-made.invariant) (replicate-append-replicate c.loop-made._made 1 _)

pub returns : goal.returns
unfolding zero_block
returns c = rw c.loop-made.invariant (take-replicate 200 c.loop-made._made _ (omega arith))
