use Rattle.std.proofs.Common.{◌≡◌, ◌++◌}
use Rattle.std.specs.List.{flat_map, range_with_len}
use Rattle.inst_node.specs.declared.actions.Action.TheVariants.{Block}
use Rattle.inst_node.specs.Choices.{offer}
use Rattle.inst_node.proofs.choosing.with_blocks.Given as goal

abbrev pub invariant-loop-block : goal.invariant-loop-block
invariant-loop-block l = l.out ≡ l.fn.out ++ flat_map (λ block. offer l.me l.inst l.core (Block l.kind block)) (range_with_len 0 l.block)
