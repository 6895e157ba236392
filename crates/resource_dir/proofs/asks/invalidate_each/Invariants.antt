use Rattle.std.proofs.Common.{◌≡◌, ◌++◌, take}
use Rattle.std.specs.List.{flat_map}
use Rattle.resource_dir.specs.Asks.{invalidates_to}
use Rattle.resource_dir.proofs.asks.invalidate_each.Given as goal

abbrev pub invariant-loop-inst : goal.invariant-loop-inst
invariant-loop-inst l = l.out ≡ l.initial.out ++ flat_map (invalidates_to l.block l.asker l.shared) (take l.inst-index l.insts)
