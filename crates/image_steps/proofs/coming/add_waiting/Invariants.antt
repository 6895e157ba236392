use Rattle.std.proofs.Common.{◌≡◌, ◌++◌, take}
use Rattle.std.specs.List.{filter}
use Rattle.image_steps.specs.TakeCopy.{waits_for_copy}
use Rattle.image_steps.proofs.coming.add_waiting.Given as goal

abbrev pub invariant-loop-z : goal.invariant-loop-z
invariant-loop-z l = l.waiting ≡ l.initial.waiting ++ filter (waits_for_copy l.inst l.block l.upto) (take l.z-index l.sessions)
