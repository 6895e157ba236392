use Rattle.std.proofs.Common.{◌≡◌, fold, take}
use Rattle.disk_steps.specs.Force.{end_learnt}
use Rattle.disk_steps.proofs.forces.learn_each.Given as goal

abbrev pub invariant-loop-end : goal.invariant-loop-end
invariant-loop-end l = l.clock ≡ fold end_learnt l.fn.clock (take l.end-index l.ends)
