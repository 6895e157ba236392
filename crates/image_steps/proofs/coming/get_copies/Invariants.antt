use Rattle.std.proofs.Common.{◌≡◌, take}
use Rattle.image_steps.specs.TakeCopy.{came_for}
use Rattle.image_steps.proofs.coming.get_copies.Given as goal

abbrev pub invariant-loop-z : goal.invariant-loop-z
invariant-loop-z l = l.sessions ≡ came_for l.image l.upto l.initial.sessions (take l.z-index l.whose)
