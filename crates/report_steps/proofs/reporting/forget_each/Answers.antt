use Rattle.report_steps.specs.Report.{without_hand}
use Rattle.inst_state.proofs.Mapped.{mapped_more}
use Rattle.report_steps.proofs.reporting.forget_each.Goals as goal

pub loop-session-preserved : goal.loop-session-preserved
loop-session-preserved c =
    rw c.forget_hand.ensures (mapped_more without_hand c.args.sessions.now c.loop-session.sessions c.loop-session.session-index _ c.loop-session-test.true c.loop-session.invariant)
