use Rattle.std.proofs.Common.{◌≡◌}
use Rattle.disk_steps.specs.Write.{without_undo}
use Rattle.inst_state.proofs.Mapped.{mapped_more}
use Rattle.disk_steps.proofs.writing.leave_each.Goals as goal

pub loop-begun-preserved : goal.loop-begun-preserved
loop-begun-preserved c =
    rw c.leave_undo.ensures (mapped_more (without_undo c.args.k) c.args.checkpoints.now c.loop-begun.checkpoints c.loop-begun.begun-index _ c.loop-begun-test.true c.loop-begun.invariant)
