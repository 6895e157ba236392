-- The journal's words that the definitions and the proofs speak in.
pub use Rattle.base_types.specs.declared.names.Xid.{Xid}
pub use Rattle.base_types.specs.declared.value.Value.{Value}
pub use Rattle.journal.specs.declared.entry.Entry.{Entry}
pub use Rattle.journal.specs.declared.entry.Entry.TheVariants.{Opened, Started, Rows, Changed, Locked, Marked, Committed, Acked, Undone, Rolled, Plain, Refused, Crashed, Ended, Recovered, Up, Moved, Checkpointed, NotDone}
pub use Rattle.journal.specs.declared.deeds.Change.{Change}
pub use Rattle.journal.specs.declared.deeds.Commit.{Commit}
pub use Rattle.journal.specs.declared.deeds.Deed.{Deed}
pub use Rattle.journal.specs.declared.deeds.Deed.TheVariants.{Changes, Locks}
pub use Rattle.journal.specs.Past.{Past, Each, same_xid, start_of, home_of, is_up, is_loss_of}
pub use Rattle.journal.specs.Standing.{row_of, changes_of, standing, is_open, holds}
pub use Rattle.journal.specs.History.{history, is_before, entered, marked, changes_up_to, value_by}
pub use Rattle.journal.specs.Sees.{sees, is_of, is_home, last_of, own, own_changes}
pub use Rattle.journal.specs.Stood.{stood, is_mark, is_mark_by, is_commit, is_commit_at, is_commit_by, acked_up_to, started_up_to, came_up}
pub use Rattle.journal.specs.Good.{GoodRows, GoodJournal, Range, listed, listed_before, RowsAreSeen, FoundIsSeen, CommitIsProper, AckIsProper, StartIsProper, RowIsFree, changes_in, Replays}
