use Rattle.std.proofs.Common.{◌≡◌, drop}
use Rattle.recovery.specs.Dead.{next_back}
use Rattle.recovery.proofs.dead.next_back.Given as goal

abbrev pub invariant-loop-segment : goal.invariant-loop-segment
invariant-loop-segment l = next_back (drop l.segment-index l.segments) ≡ next_back l.segments
