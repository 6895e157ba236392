use Rattle.std.proofs.Common.{◌≡◌, ◌++◌, drop, filter_map, flat_map}
use Rattle.log_history.specs.Standing.{standing_of}
use Rattle.log_history.proofs.changes.standing_in.Given as goal

abbrev pub invariant-loop-records : goal.invariant-loop-records
invariant-loop-records l = l.standing.items ++ flat_map (filter_map (standing_of l.undone)) (drop l.records-index l.threads) ≡ flat_map (filter_map (standing_of l.undone)) l.threads
