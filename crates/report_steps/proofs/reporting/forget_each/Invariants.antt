use Rattle.std.proofs.Common.{◌≡◌, ◌++◌, drop, map, take}
use Rattle.report_steps.specs.Report.{without_hand}
use Rattle.report_steps.proofs.reporting.forget_each.Given as goal

abbrev pub invariant-loop-session : goal.invariant-loop-session
invariant-loop-session l = l.sessions ≡ map without_hand (take l.session-index l.initial.sessions) ++ drop l.session-index l.initial.sessions
