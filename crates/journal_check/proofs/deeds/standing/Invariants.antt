use Rattle.std.proofs.Common.{◌≡◌, map, reverse, take}
use Rattle.journal.specs.Standing.{standing}
use Rattle.journal_check.proofs.deeds.standing.Given as goal

abbrev pub invariant-loop-entry : goal.invariant-loop-entry
invariant-loop-entry l = (reverse l.deeds.items) ≡ standing l.xid (reverse (take l.entry-index l.past))
