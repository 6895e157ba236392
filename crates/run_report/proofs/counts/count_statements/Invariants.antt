use Rattle.std.proofs.Common.{◌≡◌, ℕ, nat_eq, take}
use Rattle.std.specs.HashSet.{contains}
use Rattle.std.specs.List.{filter_map, list_any}
use Rattle.run_report.specs.Summaries.{answered_statement}
use Rattle.run_report.proofs.counts.count_statements.Given as goal

abbrev pub invariant-loop-entry : goal.invariant-loop-entry
invariant-loop-entry l =
    (line : ℕ) → contains nat_eq l.lines line ≡ list_any (nat_eq line) (filter_map answered_statement (take l.entry-index l.entries))
