use Rattle.std.proofs.Common.{◌↔◌, map, drop}
use Rattle.journal.specs.History.{value_by}
use Rattle.journal_check.specs.Checked.{AreListed}
use Rattle.journal_check.proofs.place.are_listed.Given as goal

-- the rows so far are listed
abbrev pub invariant-loop-item : goal.invariant-loop-item
invariant-loop-item l = AreListed (value_by l.changes) 0 l.rows ↔ AreListed (value_by l.changes) l.from (drop l.item-index l.rows)
