use Rattle.std.proofs.Common.{◌≡◌, reverse, take}
use Rattle.journal.specs.Standing.{is_open}
use Rattle.journal_check.proofs.deeds.is_open.Given as goal

abbrev pub invariant-loop-entry : goal.invariant-loop-entry
invariant-loop-entry l = l.open ≡ is_open l.xid (reverse (take l.entry-index l.past))
