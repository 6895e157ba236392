use Rattle.std.proofs.Common.{◌≡◌, ◌*◌, ◌^◌, take, pos, neg_ℤ, ◌≤ℤ◌}
use Rattle.run_report.specs.Summaries.{sum_of}
use Rattle.run_report.proofs.counts.sum_of.Given as goal

abbrev pub invariant-loop-value : goal.invariant-loop-value
invariant-loop-value l = record {
  sum_is : l.sum ≡ sum_of (take l.value-index l.rows);
  low : neg_ℤ (pos (2 ^ 63 * l.value-index)) ≤ℤ l.sum;
  high : l.sum ≤ℤ pos (2 ^ 63 * l.value-index);
}
