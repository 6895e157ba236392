use Rattle.std.proofs.Common.{◌≡◌, ◌==◌, ℕ, filter, take}
use Rattle.log_history.specs.Standing.{group_at}
use Rattle.log_history.specs.declared.changes.StandingChange.{StandingChange}
use Rattle.log_history.proofs.changes.group_standing.Given as goal

abbrev pub invariant-loop-change : goal.invariant-loop-change
invariant-loop-change l = (n : ℕ) → group_at l.groups n ≡ filter (λ (s : StandingChange). s.xid.wrap == n) (take l.change-index l.standing)
