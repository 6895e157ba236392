use Rattle.std.proofs.Common.{◌≡◌, ◌++◌, map, drop}
use Rattle.journal.specs.Standing.{changes_of}
use Rattle.journal_check.proofs.deeds.changes_of.Given as goal

-- the changes so far and those of the deeds that are left are all
abbrev pub invariant-loop-deed : goal.invariant-loop-deed
invariant-loop-deed l = l.changes.items ++ changes_of ((drop l.deed-index l.deeds)) ≡ changes_of (l.deeds)
