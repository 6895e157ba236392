use Rattle.std.proofs.Common.{◌≡◌, map, drop}
use Rattle.journal.specs.History.{value_by}
use Rattle.journal_check.proofs.sight.value_by.Given as goal

-- no change so far is of the row
abbrev pub invariant-loop-change : goal.invariant-loop-change
invariant-loop-change l = value_by ((drop l.change-index l.changes)) l.row ≡ value_by l.changes l.row
