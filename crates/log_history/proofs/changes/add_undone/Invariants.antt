use Rattle.std.proofs.Common.{◌≡◌, ◌++◌, drop, filter_map}
use Rattle.log_history.specs.Standing.{undone_by}
use Rattle.log_history.proofs.changes.add_undone.Given as goal

abbrev pub invariant-loop-redo : goal.invariant-loop-redo
invariant-loop-redo l = l.undone.items ++ filter_map undone_by (drop l.redo-index l.records) ≡ l.fn.undone.items ++ filter_map undone_by l.records
