use Rattle.std.proofs.Common.{◌≡◌, length, reverse}
use Rattle.run_report.specs.Summaries.{newest_rows}
use Rattle.run_report.proofs.counts.newest_rows.Given as goal

abbrev pub invariant-loop-last : goal.invariant-loop-last
invariant-loop-last l = newest_rows l.journal ≡ newest_rows (reverse l.left)

abbrev pub decreases-loop-last : goal.decreases-loop-last
decreases-loop-last l = length l.left
