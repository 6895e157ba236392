use Rattle.std.proofs.Common.{◌≡◌, reverse, take}
use Rattle.journal.specs.Past.{is_up}
use Rattle.journal_check.proofs.past.is_up.Given as goal

abbrev pub invariant-loop-entry : goal.invariant-loop-entry
invariant-loop-entry l = l.up ≡ is_up l.inst (reverse (take l.entry-index l.past))
