use Rattle.std.proofs.Common.{◌≡◌, true, reverse, take}
use Rattle.std.specs.List.{list_any}
use Rattle.base_types.specs.declared.names.Xid.{Xid}
use Rattle.journal.specs.Standing.{holds}
use Rattle.journal_check.proofs.HolderLemmas.{is_deed_of}
use Rattle.journal_check.proofs.place.is_free.Given as goal

-- no other transaction of a change entry so far holds the row
abbrev pub invariant-loop-entry : goal.invariant-loop-entry
invariant-loop-entry l = (y : Xid) → list_any (is_deed_of y) (take l.entry-index l.past) ≡ true → holds y l.row (reverse l.past) ≡ true → y ≡ l.xid
