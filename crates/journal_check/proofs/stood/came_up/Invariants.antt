use Rattle.std.proofs.Common.{◌≡◌, reverse, take}
use Rattle.journal.specs.Stood.{came_up}
use Rattle.journal_check.proofs.stood.came_up.Given as goal

abbrev pub invariant-loop-at : goal.invariant-loop-at
invariant-loop-at l = l.came ≡ came_up l.session (reverse (take l.at l.past))
