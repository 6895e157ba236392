use Rattle.std.proofs.Common.{◌≡◌, fold, take}
use Rattle.rebuild_steps.specs.Bound.{with_inst_of}
use Rattle.rebuild_steps.proofs.bounds.learn_insts.Given as goal

abbrev pub invariant-loop-inst : goal.invariant-loop-inst
invariant-loop-inst l = l.clock ≡ fold (with_inst_of l.core) l.initial.clock (take l.inst-index l.insts)
