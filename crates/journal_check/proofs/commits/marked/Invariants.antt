use Rattle.std.proofs.Common.{◌≡◌, map, reverse, take}
use Rattle.journal.specs.History.{marked}
use Rattle.journal_check.proofs.commits.marked.Given as goal

abbrev pub invariant-loop-at : goal.invariant-loop-at
invariant-loop-at l = l.changes.items ≡ marked l.xid l.commit_scn (reverse (take l.at l.past))
