use Rattle.inst_loss.specs.Lost.{idle_checkpoint}
use Rattle.inst_state.proofs.Mapped.{mapped_more}
use Rattle.inst_loss.proofs.parts.idle_each.Goals as goal

pub loop-begun-preserved : goal.loop-begun-preserved
loop-begun-preserved c =
    rw c.make_idle.ensures
    (mapped_more
    idle_checkpoint
    c.args.checkpoints.now
    c.loop-begun.checkpoints
    c.loop-begun.begun-index
    _
    c.loop-begun-test.true
    c.loop-begun.invariant)
