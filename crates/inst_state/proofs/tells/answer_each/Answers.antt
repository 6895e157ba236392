use Rattle.std.proofs.Common.{◌≡◌}
use Rattle.inst_state.specs.Shared.{answered_if}
use Rattle.inst_state.proofs.Mapped.{mapped_more}
use Rattle.inst_state.proofs.tells.answer_each.Goals as goal

pub loop-control-preserved : goal.loop-control-preserved
loop-control-preserved c =
    rw c.answer_if.ensures (mapped_more (answered_if c.args.line) c.args.controls.now c.loop-control.controls c.loop-control.control-index c.control-item.result c.loop-control-test.true c.loop-control.invariant)
