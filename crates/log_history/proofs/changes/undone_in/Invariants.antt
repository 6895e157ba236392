use Rattle.std.proofs.Common.{◌≡◌, ◌++◌, drop, filter_map, flat_map}
use Rattle.log_history.specs.Standing.{undone_by}
use Rattle.log_history.proofs.changes.undone_in.Given as goal

abbrev pub invariant-loop-records : goal.invariant-loop-records
invariant-loop-records l = l.undone.items ++ flat_map (filter_map undone_by) (drop l.records-index l.threads) ≡ flat_map (filter_map undone_by) l.threads
