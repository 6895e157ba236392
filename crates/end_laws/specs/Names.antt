-- Which transactions entries name.
use Rattle.std.specs.Prelude.{Bool, false}
use Rattle.base_types.specs.declared.names.Xid.{Xid}
use Rattle.journal.specs.declared.entry.Entry.{Entry}
use Rattle.journal.specs.declared.entry.Entry.TheVariants.{Acked, Changed, Committed, Locked, Marked, Rolled, Undone}
use Rattle.journal.specs.Past.{same_xid}

-- An entry names a transaction.
abbrev pub names : Xid → Entry → Bool
names x (Changed stmt y row found new) = same_xid x y
names x (Locked stmt y row) = same_xid x y
names x (Marked stmt y commit_scn) = same_xid x y
names x (Committed y commit_scn inst) = same_xid x y
names x (Acked stmt y commit_scn) = same_xid x y
names x (Undone y left) = same_xid x y
names x (Rolled y) = same_xid x y
names x _ = false
