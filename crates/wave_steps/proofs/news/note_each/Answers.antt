use Rattle.wave_steps.specs.News.{heard_by}
use Rattle.inst_state.proofs.Mapped.{mapped_more}
use Rattle.wave_steps.proofs.news.note_each.Goals as goal

pub loop-session-preserved : goal.loop-session-preserved
loop-session-preserved c =
    rw c.note_heard.ensures
    (mapped_more
    (heard_by c.args.epoch c.args.from c.args.c)
    c.args.sessions.now
    c.loop-session.sessions
    c.loop-session.session-index
    c.session-item.result
    c.loop-session-test.true
    c.loop-session.invariant)
