-- The end record of a transaction is made.
use Rattle.std.specs.Prelude.{ℕ, ◌+◌, ◌*◌, ◌==◌, ◌&&◌, not, if◌then◌else◌, Bool, true, false, List, [], ◌∷◌, ◌++◌, Option, None, Some, is_some, slice_get, slice_set}
use Rattle.std.specs.Option.{option_map}
use Rattle.base_types.specs.declared.names.Xid.{Xid}
use Rattle.redo_types.specs.declared.redo.Redo.{Redo}
use Rattle.journal.specs.declared.entry.Entry.{Entry}
use Rattle.journal.specs.declared.entry.Entry.TheVariants.{Marked, Rolled}
use Rattle.inst_set.specs.Sets.{no_insts}
use Rattle.redo_thread.specs.Thread.{appended, end_of}
use Rattle.undo_segment.specs.Apply.{applied}
use Rattle.undo_segment.specs.Segment.{SegmentState}
use Rattle.txn_engine.specs.declared.end.EndKind.{EndKind}
use Rattle.txn_engine.specs.declared.end.EndKind.TheVariants as end
use Rattle.txn_engine.specs.End.{end_decision}
use Rattle.inst_state.specs.declared.inst.Inst.{Inst}
use Rattle.inst_state.specs.declared.inst.WaitingEnd.{WaitingEnd}
use Rattle.inst_state.specs.declared.line.Asks.{Asks}
use Rattle.inst_state.specs.declared.line.Asks.TheVariants.{Commit, Rollback}
use Rattle.inst_state.specs.declared.session.Doing.TheVariants.{Ends}
use Rattle.inst_state.specs.declared.session.Session.{Session}
use Rattle.inst_state.specs.declared.inst.Leading.{Leading}
use Rattle.inst_state.specs.Needs.{dead_place, dead_segment, dead_txn}
use Rattle.inst_state.specs.Records.{with_record}
use Rattle.inst_state.specs.Sessions.{snapshot_of}
use Rattle.inst_state.specs.State.{asks_at, has_room, is_stopped, session_at, stmt_at, works}

-- how a line ends its session's transaction: a rollback only once nothing of it stands
abbrev pub kind_of : Session → Option Asks → Option EndKind
kind_of s (Some Commit) = Some end.Commit
kind_of s (Some Rollback) = if s.standing == 0 then Some end.RollbackEnd else None
kind_of s _ = None

-- how a session's line that is under way ends its transaction
abbrev pub end_kind : Inst → ℕ → Option EndKind
end_kind n z =
    if is_some (snapshot_of (session_at n z).doing) then kind_of (session_at n z) (asks_at n z) else None

-- the record of a transaction's end, if there is a transaction and an end
abbrev pub end_of_txn : Inst → Option Xid → Option EndKind → Option Redo
end_of_txn n (Some x) (Some kind) = end_decision x kind n.segment n.clock
end_of_txn n _ _ = None

-- the record of the end to which a session's line comes
abbrev pub end_decided : Inst → ℕ → Option Redo
end_decided n z = end_of_txn n (session_at n z).own (end_kind n z)

-- A transaction's end record is made where its line asks for it, nothing of a rollback is left, and there is room.
abbrev pub may_mark : Inst → ℕ → Bool
may_mark n z = works n && has_room n && not (is_stopped n z) && is_some (end_decided n z)

-- An end is a commit, if it is one at all.
abbrev pub commits : Option EndKind → Bool
commits (Some end.Commit) = true
commits _ = false

-- an end that waits for the disk; the place behind its record is the thread's end
abbrev pub waiting_end : Inst → Redo → Bool → Option ℕ → WaitingEnd
waiting_end n redo commit session = record {
  xid = redo.xid;
  scn = redo.scn;
  behind = end_of (appended n.thread redo);
  commit = commit;
  session = session;
}

-- a session whose transaction has its end record
abbrev pub ending : Redo → Bool → Session → Session
ending redo commit s = record s {
  own = None;
  standing = 0;
  doing = Ends (record { xid = redo.xid; scn = redo.scn; commit = commit; on_disk = false; told = None; heard = no_insts });
}

-- an instance after the end record of a session's transaction
abbrev pub end_made : Inst → ℕ → Redo → Bool → Inst
end_made n z redo commit = record (with_record n redo true) {
  segment = applied n.segment redo (end_of n.thread);
  ends = n.ends ++ waiting_end n redo commit (Some z) ∷ [];
  sessions = slice_set n.sessions z (ending redo commit (session_at n z));
}

-- an instance after a mark, by the record
abbrev pub marked_by : Inst → ℕ → Option Redo → Inst
marked_by n z None = n
marked_by n z (Some redo) = end_made n z redo (commits (end_kind n z))

-- an instance after a mark
abbrev pub marked : Inst → ℕ → Inst
marked n z = marked_by n z (end_decided n z)

-- what an end tells
abbrev pub end_tells : ℕ → Redo → Bool → Entry
end_tells stmt redo true = Marked stmt redo.xid redo.scn
end_tells stmt redo false = Rolled redo.xid

-- what a mark tells, by the record
abbrev pub tells_by : Inst → ℕ → Option Redo → List Entry
tells_by n z None = []
tells_by n z (Some redo) = end_tells (stmt_at n z) redo (commits (end_kind n z)) ∷ []

-- what a mark tells
abbrev pub mark_tells : Inst → ℕ → List Entry
mark_tells n z = tells_by n z (end_decided n z)

-- the number of the job of a dead transaction
abbrev pub dead_job : Xid → ℕ
dead_job x = 1024 + 8 * x.seg + x.slot

-- a job, if there is a transaction, is this one
abbrev pub is_job : ℕ → Option Xid → Bool
is_job job None = false
is_job job (Some x) = dead_job x == job

-- the record of the end of the dead transaction, if there is one with its segment
abbrev pub dead_end_of : Inst → Option Xid → Option SegmentState → Option Redo
dead_end_of n (Some x) (Some segment) = end_decision x end.RollbackEnd segment n.clock
dead_end_of n _ _ = None

-- the record of the end of the dead transaction
abbrev pub dead_end_decided : Inst → Option Redo
dead_end_decided n = dead_end_of n (dead_txn n) (dead_segment n)

-- The end record of the dead transaction is made once nothing of it is left, where there is room.
abbrev pub may_mark_dead : Inst → ℕ → Bool
may_mark_dead n job = has_room n && is_job job (dead_txn n) && is_some (dead_end_decided n)

-- the adopted segments with another one at a place, if there is one
abbrev pub with_segment : List SegmentState → ℕ → Option SegmentState → List SegmentState
with_segment adopted place None = adopted
with_segment adopted place (Some segment) = slice_set adopted place segment

-- the adopted segments after a record of a transaction of the one at a place, if there is a place
abbrev pub adopted_applied : List SegmentState → Option ℕ → Redo → ℕ → List SegmentState
adopted_applied adopted None redo at = adopted
adopted_applied adopted (Some place) redo at =
    with_segment adopted place (option_map (λ segment. applied segment redo at) (slice_get adopted place))

-- the leader's part after a record of the dead transaction
abbrev pub leading_applied : Inst → Redo → Leading
leading_applied n redo = record n.leading {
  adopted = adopted_applied n.leading.adopted (dead_place n) redo (end_of n.thread);
}

-- an instance after the end record of the dead transaction
abbrev pub dead_end_made : Inst → Redo → Inst
dead_end_made n redo = record (with_record n redo true) {
  leading = leading_applied n redo;
  ends = n.ends ++ waiting_end n redo false None ∷ [];
}

-- an instance after the mark of the dead transaction, by the record
abbrev pub dead_marked_by : Inst → Option Redo → Inst
dead_marked_by n None = n
dead_marked_by n (Some redo) = dead_end_made n redo

-- an instance after the mark of the dead transaction
abbrev pub dead_marked : Inst → Inst
dead_marked n = dead_marked_by n (dead_end_decided n)

-- what the mark of the dead transaction tells, by the record
abbrev pub dead_tells_by : Option Redo → List Entry
dead_tells_by None = []
dead_tells_by (Some redo) = Rolled redo.xid ∷ []

-- what the mark of the dead transaction tells
abbrev pub dead_mark_tells : Inst → List Entry
dead_mark_tells n = dead_tells_by (dead_end_decided n)
