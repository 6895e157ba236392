use Rattle.std.proofs.Common.{◌≡◌, replicate}
use Rattle.inst_state.specs.Sessions.{new_session}
use Rattle.first_state.proofs.insts.new_sessions.Given as goal

abbrev pub invariant-loop-session : goal.invariant-loop-session
invariant-loop-session l = l.sessions ≡ replicate l._session new_session
