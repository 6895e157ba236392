use Rattle.std.proofs.Common.{◌≡◌, ◌++◌, drop, map, take}
use Rattle.inst_loss.specs.Lost.{lost_session}
use Rattle.inst_loss.proofs.parts.lose_each.Given as goal

abbrev pub invariant-loop-session : goal.invariant-loop-session
invariant-loop-session l = l.sessions ≡ map lost_session (take l.session-index l.initial.sessions) ++ drop l.session-index l.initial.sessions
