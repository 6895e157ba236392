use Rattle.std.proofs.Common.{false}
use Rattle.wave_steps.specs.Begins.{waits_for_block}
use Rattle.wave_steps.proofs.Filled.{filled_more}
use Rattle.wave_steps.proofs.begins.awaited_blocks.Goals as goal

pub loop-block-preserved : goal.loop-block-preserved
loop-block-preserved c =
    rw c.from.ensures
    (rw c.waits_for_block.ensures
    (filled_more (waits_for_block c.args.inst.now) false 64 c.loop-block.block _ c.loop-block-test.true c.loop-block.invariant))
