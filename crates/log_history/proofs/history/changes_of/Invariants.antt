use Rattle.std.proofs.Common.{◌≡◌, ◌++◌, drop, filter_map}
use Rattle.log_history.specs.Standing.{change_for}
use Rattle.log_history.proofs.history.changes_of.Given as goal

abbrev pub invariant-loop-change : goal.invariant-loop-change
invariant-loop-change l = l.changes ++ filter_map (change_for l.xid) (drop l.change-index l.standing) ≡ filter_map (change_for l.xid) l.standing
