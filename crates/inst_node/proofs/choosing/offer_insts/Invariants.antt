use Rattle.std.proofs.Common.{◌≡◌, ◌++◌, take}
use Rattle.std.specs.List.{flat_map}
use Rattle.inst_node.specs.declared.actions.Action.TheVariants.{Inst as OfInst}
use Rattle.inst_node.specs.Choices.{offer}
use Rattle.inst_node.proofs.choosing.offer_insts.Given as goal

abbrev pub invariant-loop-from : goal.invariant-loop-from
invariant-loop-from l = l.out ≡ l.fn.out ++ flat_map (λ from. offer l.me l.inst l.core (OfInst l.kind from)) (take l.from-index l.insts)
