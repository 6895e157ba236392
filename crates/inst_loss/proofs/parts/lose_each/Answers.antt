use Rattle.inst_loss.specs.Lost.{lost_session}
use Rattle.inst_state.proofs.Mapped.{mapped_more}
use Rattle.inst_loss.proofs.parts.lose_each.Goals as goal

pub loop-session-preserved : goal.loop-session-preserved
loop-session-preserved c =
    rw c.lose_session.ensures
    (mapped_more
    lost_session
    c.args.sessions.now
    c.loop-session.sessions
    c.loop-session.session-index
    c.session-item.result
    c.loop-session-test.true
    c.loop-session.invariant)
