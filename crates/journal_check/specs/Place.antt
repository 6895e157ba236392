-- What a checked journal asks of one place.
use Rattle.std.specs.Prelude.{ℕ, List, Option, Some, None}
use Rattle.base_types.specs.declared.names.Xid.{Xid}
use Rattle.journal.specs.declared.entry.Entry.{Entry}
use Rattle.journal.specs.declared.entry.Entry.TheVariants.{Changed, Locked}
use Rattle.journal.specs.Past.{Past}
use Rattle.journal.specs.declared.deeds.Commit.{Commit}
use Rattle.journal.specs.Good.{FoundIsSeen, CommitIsProper, AckIsProper, StartIsProper, RowIsFree}
use Rattle.journal_check.specs.Checked.{RowsExist, IsNamed, RowsAreListed}

-- all that is asked of an entry and of the entries before it, by the commits of the whole journal
pub record IsGoodAt (rows : ℕ) (commits : List Commit) (past : Past) (e : Entry) : Type 0 where
  pub rows_exist : RowsExist rows past e
  pub named : IsNamed past e
  pub listed : RowsAreListed commits past e
  pub found : FoundIsSeen commits past e
  pub commit : CommitIsProper past e
  pub acknowledgement : AckIsProper past e
  pub start : StartIsProper past e
  pub row_lock : RowIsFree past e

-- the transaction of a change entry
abbrev pub changer : Entry → Option Xid
changer (Changed n x row found new) = Some x
changer (Locked n x row) = Some x
changer _ = None
