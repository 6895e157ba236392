use Rattle.std.proofs.Common.{◌≡◌, ◌++◌, take}
use Rattle.std.specs.List.{flat_map}
use Rattle.wire_net.specs.Entry.{version_of}
use Rattle.resource_dir.specs.Pasts.{drops_to}
use Rattle.resource_dir.proofs.pasts.drop_each.Given as goal

abbrev pub invariant-loop-inst : goal.invariant-loop-inst
invariant-loop-inst l =
    l.out ≡ l.initial.out ++ flat_map (λ inst. drops_to l.block l.limit (version_of l.past inst) inst) (take l.inst-index l.insts)
