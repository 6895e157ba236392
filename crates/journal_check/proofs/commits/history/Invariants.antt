use Rattle.std.proofs.Common.{◌≡◌, map, reverse, take}
use Rattle.journal.specs.History.{history}
use Rattle.journal_check.proofs.commits.history.Given as goal

abbrev pub invariant-loop-at : goal.invariant-loop-at
invariant-loop-at l = l.commits.items ≡ history (reverse (take l.at l.past))
