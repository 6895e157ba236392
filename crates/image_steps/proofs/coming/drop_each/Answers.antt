use Rattle.image_steps.specs.TakeCopy.{without_came}
use Rattle.inst_state.proofs.Mapped.{mapped_more}
use Rattle.image_steps.proofs.coming.drop_each.Goals as goal

pub loop-session-preserved : goal.loop-session-preserved
loop-session-preserved c =
    rw c.drop_copy.ensures (mapped_more (without_came c.args.block) c.args.sessions.now c.loop-session.sessions c.loop-session.session-index _ c.loop-session-test.true c.loop-session.invariant)
