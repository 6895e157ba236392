-- The words of the journal and of the board that the proofs speak in.
pub use Rattle.base_types.specs.declared.value.Value.TheVariants.{Absent, Num}
pub use Rattle.journal.specs.declared.deeds.Start.{Start}
pub use Rattle.journal.proofs.XidLemmas.{same_xid-true, same_xid-refl, both_true}
pub use Rattle.board_rows.specs.Words.{Xid, Value, Entry, Rows, Changed, Opened, Started, Locked, Marked, Committed, Acked, Undone, Rolled, Crashed, Ended, Up, Plain, Refused, Recovered, Moved, Checkpointed, NotDone, Past, Each, same_xid, start_of, home_of, is_up, is_loss_of, Change, row_of, changes_of, standing, is_open, holds, Commit, entered, changes_up_to, value_by, marked, history, is_before, sees, last_of, own_changes, is_of, is_home, own, Range, listed, listed_before, GoodRows, GoodJournal, RowsAreSeen, FoundIsSeen, CommitIsProper, Replays, changes_in, AckIsProper, StartIsProper, RowIsFree, Deed, Changes, Locks, stood, is_commit_by, is_mark, started_up_to, came_up, acked_up_to, is_commit, is_commit_at}
pub use Rattle.board_rows.specs.Board.{Record, DeedAt, stands, of_xid, Over, stage, thread_of, scn_of, Does, TakesBack, Commits, RollsBack, Fresh, Active, xid_of, touches, Stage, durable_commit, EachSuffix, without, Rising, EachPair, stands_after, EachOver, IsSafe, ForSegment, on, on_row, deeds_in, shown, committed_at, is_up_to, seen_at, FreeUnder, IsFree, commit_of, logged, IsMade, Ordered, IsOver, NewestIsFree, TableStands, wrap_in, recorded_in}
pub use Rattle.board_rows.specs.Events.{Scan, put, unread, anew, read_on, Board, Event, after, nothing, Leads, IsLateHere, IsLate, IsNote, MayOpen, MayStart, MayRead, MayChange, MayTakeBack, MayRoll, MayEnd, MaySettle, MayAnswer, MayAck, MayUp, MayJoin, Finds, entry_of, told, recorded, is_own, value_there, MayLose, is_kept, MayLook, AreNear, LosesNewest, May, KeepsSegments, MayTell, ended}
pub use Rattle.board_rows.specs.Sound.{RowsAreLate, RowsStand, AreRead, IsRead, ScanIsSeen, Answers, Clocks, Sound, Follows, MayFollow, RecordIsIn, Sessions, EndsBy, CanCommit, Txns, Segments, Starts, TxnAgrees, has_end, IsNumbered, IsWithin, Numbers}
