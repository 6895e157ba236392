use Rattle.std.proofs.Common.{◌≡◌, ◌==◌, ℕ, filter, take}
use Rattle.log_history.specs.Standing.{group_at}
use Rattle.log_history.specs.declared.changes.Undone.{Undone}
use Rattle.log_history.proofs.changes.group_undone.Given as goal

abbrev pub invariant-loop-taken : goal.invariant-loop-taken
invariant-loop-taken l = (n : ℕ) → group_at l.groups n ≡ filter (λ (u : Undone). u.seq == n) (take l.taken-index l.undone)
