use Rattle.std.proofs.Common.{◌≡◌, reverse, take}
use Rattle.journal.specs.Stood.{started_up_to}
use Rattle.journal_check.proofs.stood.started_up_to.Given as goal

abbrev pub invariant-loop-entry : goal.invariant-loop-entry
invariant-loop-entry l = l.started ≡ started_up_to l.session (reverse (take l.entry-index l.past))
