use Rattle.std.proofs.Common.{◌≡◌, reverse, take}
use Rattle.journal.specs.Sees.{last_of}
use Rattle.journal_check.proofs.sight.last_of.Given as goal

abbrev pub invariant-loop-at : goal.invariant-loop-at
invariant-loop-at l = l.last ≡ last_of l.session (reverse (take l.at l.past))
