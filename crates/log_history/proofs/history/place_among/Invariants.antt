use Rattle.std.proofs.Common.{◌≡◌, ◌≤◌, ◌∷◌, drop, length}
use Rattle.log_history.specs.LogHistory.{entered}
use Rattle.log_history.proofs.history.place_among.Given as goal

abbrev pub invariant-loop-at : goal.invariant-loop-at
invariant-loop-at l = record {
  within : l.at ≤ length l.lines;
  before : entered l.line (drop l.at l.lines) ≡ l.line ∷ drop l.at l.lines;
}

abbrev pub decreases-loop-at : goal.decreases-loop-at
decreases-loop-at l = l.at
