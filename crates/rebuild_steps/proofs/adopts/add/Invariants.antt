use Rattle.std.proofs.Common.{◌≡◌, ◌++◌}
use Rattle.rebuild_steps.proofs.adopts.add.Given as goal

abbrev pub invariant-loop-segment : goal.invariant-loop-segment
invariant-loop-segment l = l.adopted ≡ l.initial.adopted ++ l.yielded
