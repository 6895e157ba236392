use Rattle.std.proofs.Common.{◌≡◌, ◌++◌, map, drop}
use Rattle.journal.specs.Good.{changes_in}
use Rattle.journal_check.proofs.commits.changes_in.Given as goal

abbrev pub invariant-loop-commit : goal.invariant-loop-commit
invariant-loop-commit l = l.changes.items ++ changes_in ((drop l.commit-index l.commits)) ≡ changes_in (l.commits)
