use Rattle.std.proofs.Common.{◌≡◌, ◌++◌, drop, filter_map}
use Rattle.log_history.specs.Standing.{standing_of}
use Rattle.log_history.proofs.changes.add_standing.Given as goal

abbrev pub invariant-loop-redo : goal.invariant-loop-redo
invariant-loop-redo l = l.standing.items ++ filter_map (standing_of l.undone) (drop l.redo-index l.records) ≡ l.fn.standing.items ++ filter_map (standing_of l.undone) l.records
