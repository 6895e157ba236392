use Rattle.std.proofs.Common.{◌↔◌, drop}
use Rattle.journal_check.specs.Checked.{AreBelow}
use Rattle.journal_check.proofs.place.are_below.Given as goal

-- the rows so far are below
abbrev pub invariant-loop-item : goal.invariant-loop-item
invariant-loop-item l = AreBelow l.script_rows l.rows ↔ AreBelow l.script_rows (drop l.item-index l.rows)
