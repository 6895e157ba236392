use Rattle.std.proofs.Common.{◌≡◌, ◌++◌, drop, map, take}
use Rattle.inst_loss.specs.Lost.{idle_checkpoint}
use Rattle.inst_loss.proofs.parts.idle_each.Given as goal

abbrev pub invariant-loop-begun : goal.invariant-loop-begun
invariant-loop-begun l = l.checkpoints ≡ map idle_checkpoint (take l.begun-index l.initial.checkpoints) ++ drop l.begun-index l.initial.checkpoints
