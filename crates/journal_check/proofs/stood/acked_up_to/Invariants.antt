use Rattle.std.proofs.Common.{◌≡◌, reverse, take}
use Rattle.journal.specs.Stood.{acked_up_to}
use Rattle.journal_check.proofs.stood.acked_up_to.Given as goal

abbrev pub invariant-loop-entry : goal.invariant-loop-entry
invariant-loop-entry l = l.acked ≡ acked_up_to (reverse (take l.entry-index l.past))
