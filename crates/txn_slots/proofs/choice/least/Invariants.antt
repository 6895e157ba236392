use Rattle.std.proofs.Common.{◌≡◌, ◌+◌, drop}
use Rattle.txn_slots.specs.Choice.{earlier, least}
use Rattle.txn_slots.proofs.choice.least.Given as goal

abbrev pub invariant-loop-at : goal.invariant-loop-at
invariant-loop-at l = earlier l.first (least (l.at + 1) (drop l.at l.looks)) ≡ least 1 l.looks
