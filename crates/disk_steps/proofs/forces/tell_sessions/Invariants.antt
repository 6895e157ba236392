use Rattle.std.proofs.Common.{◌≡◌, fold, take}
use Rattle.disk_steps.specs.Force.{end_told_to}
use Rattle.disk_steps.proofs.forces.tell_sessions.Given as goal

abbrev pub invariant-loop-end : goal.invariant-loop-end
invariant-loop-end l = l.sessions ≡ fold end_told_to l.fn.sessions (take l.end-index l.ends)
