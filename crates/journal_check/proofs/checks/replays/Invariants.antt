use Rattle.std.proofs.Common.{◌↔◌, map, drop}
use Rattle.journal.specs.Good.{Replays}
use Rattle.journal_check.proofs.checks.replays.Given as goal

-- the changes so far replay
abbrev pub invariant-loop-at : goal.invariant-loop-at
invariant-loop-at l = Replays l.changes ↔ Replays (drop l.at l.changes)
