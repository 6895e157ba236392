use Rattle.std.proofs.Common.{◌≡◌, filter, take}
use Rattle.first_state.specs.Plan.{is_home}
use Rattle.first_state.proofs.plans.mine_of.Given as goal

abbrev pub invariant-loop-z : goal.invariant-loop-z
invariant-loop-z l = l.mine ≡ filter (is_home l.script l.me) (take l.z-index l.sessions)
