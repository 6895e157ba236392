use Rattle.image_steps.specs.Frames.{without_block}
use Rattle.inst_state.proofs.Mapped.{mapped_more}
use Rattle.image_steps.proofs.frames.leave_each.Goals as goal

pub loop-begun-preserved : goal.loop-begun-preserved
loop-begun-preserved c =
    rw c.leave.ensures (mapped_more (without_block c.args.block) c.args.checkpoints.now c.loop-begun.checkpoints c.loop-begun.begun-index _ c.loop-begun-test.true c.loop-begun.invariant)
