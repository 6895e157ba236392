use Rattle.std.proofs.Common.{reverse, take}
use Rattle.journal.specs.Past.{Each}
use Rattle.journal.specs.History.{history}
use Rattle.journal_check.specs.Place.{IsGoodAt}
use Rattle.journal_check.proofs.checks.check.Given as goal

-- each entry so far is good
abbrev pub invariant-loop-at : goal.invariant-loop-at
invariant-loop-at l = Each (IsGoodAt l.script_rows (history l.journal)) (reverse (take l.at l.entries))
