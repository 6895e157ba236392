use Rattle.std.proofs.Common.{◌≡◌, reverse, take}
use Rattle.std.specs.Option.{option_map}
use Rattle.journal.specs.Past.{start_of}
use Rattle.journal_check.proofs.past.start_of.Given as goal

abbrev pub invariant-loop-entry : goal.invariant-loop-entry
invariant-loop-entry l = l.start ≡ start_of l.stmt (reverse (take l.entry-index l.past))
