use Rattle.std.proofs.Common.{◌≡◌, ◌++◌, map, drop}
use Rattle.journal.specs.History.{changes_up_to}
use Rattle.journal_check.proofs.commits.add_up_to.Given as goal

abbrev pub invariant-loop-commit : goal.invariant-loop-commit
invariant-loop-commit l = l.changes.items ++ changes_up_to l.snapshot (drop l.commit-index l.commits) ≡ l.fn.changes.items ++ changes_up_to l.snapshot l.commits
