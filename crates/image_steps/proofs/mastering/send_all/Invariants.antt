use Rattle.std.proofs.Common.{◌≡◌, length}
use Rattle.image_steps.specs.MasterTake.{sends_all}
use Rattle.image_steps.proofs.mastering.send_all.Given as goal

abbrev pub invariant-loop-to : goal.invariant-loop-to
invariant-loop-to l = sends_all l.inst l.core l.messages ≡ sends_all l.initial.inst l.initial.core l.initial.messages

abbrev pub decreases-loop-to : goal.decreases-loop-to
decreases-loop-to l = length l.messages
