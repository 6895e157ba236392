use Rattle.std.proofs.Common.{◌≡◌, ◌++◌, drop, map, take}
use Rattle.image_steps.specs.Frames.{without_block}
use Rattle.image_steps.proofs.frames.leave_each.Given as goal

abbrev pub invariant-loop-begun : goal.invariant-loop-begun
invariant-loop-begun l = l.checkpoints ≡ map (without_block l.block) (take l.begun-index l.initial.checkpoints) ++ drop l.begun-index l.initial.checkpoints
