use Rattle.std.proofs.Common.{◌≡◌, ◌++◌, drop, map, take}
use Rattle.disk_steps.specs.Write.{without_undo}
use Rattle.disk_steps.proofs.writing.leave_each.Given as goal

abbrev pub invariant-loop-begun : goal.invariant-loop-begun
invariant-loop-begun l = l.checkpoints ≡ map (without_undo l.k) (take l.begun-index l.initial.checkpoints) ++ drop l.begun-index l.initial.checkpoints
