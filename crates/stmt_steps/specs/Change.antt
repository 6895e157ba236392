-- A row is changed or locked.
use Rattle.std.specs.Prelude.{◌≡◌, ℕ, ◌+◌, ◌-◌, ◌/◌, ◌^◌, ◌<◌, ◌&&◌, min, Bool, true, false, List, [], ◌∷◌, Option, None, Some, slice_set}
use Rattle.std.specs.Option.{ForSome, option_and_then, option_map}
use Rattle.base_types.specs.declared.names.RedoAt.{RedoAt}
use Rattle.base_types.specs.declared.names.RowNo.{RowNo}
use Rattle.base_types.specs.declared.names.Scn.{Scn}
use Rattle.base_types.specs.declared.names.Xid.{Xid}
use Rattle.base_types.specs.declared.value.Value.{Value}
use Rattle.base_types.specs.declared.value.Value.TheVariants.{Absent}
use Rattle.redo_types.specs.declared.redo.DataChange.{DataChange}
use Rattle.redo_types.specs.declared.redo.Redo.{Redo}
use Rattle.redo_types.specs.declared.redo.RedoKind.{RedoKind}
use Rattle.redo_types.specs.declared.redo.RedoKind.TheVariants as kind
use Rattle.redo_types.specs.declared.redo.UndoChange.{UndoChange}
use Rattle.block_image.specs.Block.{BlockContent}
use Rattle.journal.specs.declared.cause.Cause.{Cause}
use Rattle.journal.specs.declared.entry.Entry.{Entry}
use Rattle.journal.specs.declared.entry.Entry.TheVariants.{Changed, Locked, Plain, Refused, Started}
use Rattle.redo_thread.specs.Thread.{end_of}
use Rattle.scn_clock.specs.Clock.{learnt}
use Rattle.undo_segment.specs.Apply.{applied}
use Rattle.buffer_cache.specs.Cache.{CacheState, at_place, place_at}
use Rattle.buffer_cache.specs.Place.{with_change}
use Rattle.txn_engine.specs.declared.ask.ChangeAsk.{ChangeAsk}
use Rattle.txn_engine.specs.declared.ask.Decision.{Decision}
use Rattle.txn_engine.specs.declared.ask.Decision.TheVariants.{AlreadyMine, Do, Refuse, Restart}
use Rattle.txn_engine.specs.declared.ask.Wish.{Wish}
use Rattle.txn_engine.specs.Change.{change_decision}
use Rattle.txn_engine.specs.Parts.{FitsImage, FitsSegment}
use Rattle.inst_state.specs.declared.inst.Inst.{Inst}
use Rattle.inst_state.specs.declared.line.Asks.{Asks}
use Rattle.inst_state.specs.declared.line.Asks.TheVariants.{Change}
use Rattle.inst_state.specs.declared.needs.Needed.{Needed}
use Rattle.inst_state.specs.declared.session.Doing.TheVariants.{Runs}
use Rattle.inst_state.specs.declared.session.Session.{Session}
use Rattle.inst_state.specs.Hand.{handed_at, image_in_hand, snapshot_at}
use Rattle.inst_state.specs.Needs.{needed}
use Rattle.inst_state.specs.Records.{with_newest, with_record}
use Rattle.inst_state.specs.Sessions.{answered}
use Rattle.inst_state.specs.State.{asks_at, has_room, on_disk, session_at, stmt_at, with_session, works}
use Rattle.stmt_steps.specs.Visit.{line_refused}

-- what a session asks to change
abbrev pub ask_of : Inst → ℕ → RowNo → Wish → ChangeAsk
ask_of n z row wish =
    record { wish = wish; row = row; snapshot = snapshot_at n z; own = (session_at n z).own }

-- what is decided of a session's change on an image
abbrev pub decided_on : Inst → ℕ → RowNo → Wish → BlockContent → Decision
decided_on n z row wish image =
    change_decision (ask_of n z row wish) image n.segment (handed_at n z) n.clock (on_disk n)

-- what is decided of a session's change, by what its line asks, where its block is held
abbrev pub decided_of : Inst → ℕ → Option Asks → Option Decision
decided_of n z (Some (Change row wish)) = option_map (decided_on n z row wish) (image_in_hand n z)
decided_of n z _ = None

-- what is decided of a session's change, where its block is held
abbrev pub change_decided : Inst → ℕ → Option Decision
change_decided n z = decided_of n z (asks_at n z)

-- A change is decided for good: no undo of others is missing, and no force comes first.
abbrev pub is_decided : Option Decision → Bool
is_decided (Some (Do redo)) = true
is_decided (Some (Refuse cause)) = true
is_decided (Some (Restart scn)) = true
is_decided (Some AlreadyMine) = true
is_decided _ = false

-- A row is changed or locked once that is decided, and where there is room for a record.
abbrev pub may_change : Inst → ℕ → Bool
may_change n z = works n && has_room n && is_decided (change_decided n z)

-- the block that is needed, 0 without one
abbrev pub block_or_zero : Option Needed → ℕ
block_or_zero None = 0
block_or_zero (Some need) = need.block

-- the block that a session's line needs
abbrev pub block_at : Inst → ℕ → ℕ
block_at n z = block_or_zero (needed n z)

-- the cache after a record's change of a block, if it changes one
abbrev pub cache_changed : CacheState → ℕ → Option DataChange → Scn → RedoAt → CacheState
cache_changed cache block None scn at = cache
cache_changed cache block (Some change) scn at = at_place (with_change change.to scn at) cache block

-- a record that is made and applied to the segment and to a block
abbrev pub applying : Inst → ℕ → Redo → Inst
applying n block redo = record (with_newest (with_record n redo false) block) {
  segment = applied n.segment redo (end_of n.thread);
  cache = cache_changed n.cache block redo.row redo.scn (end_of n.thread);
}

-- a session whose change or lock was made by a transaction
abbrev pub changed_by : Xid → Session → Session
changed_by x s = answered (record s {
  own = Some x;
  standing = min (s.standing + 1) (2 ^ 32 - 1);
  job = record s.job { handed_for = None };
})

-- an instance after a session's change was made
abbrev pub row_changed : Inst → ℕ → Redo → Inst
row_changed n z redo = with_session (applying n (block_at n z) redo) z (changed_by redo.xid (session_at n z))

-- a session whose line starts again
abbrev pub restarted : Scn → Session → Session
restarted snapshot s = record s { doing = Runs snapshot }

-- an instance after a session's line started again with what is known once an end is
abbrev pub line_restarted : Inst → ℕ → Scn → Inst
line_restarted n z end = record n {
  clock = learnt n.clock end;
  sessions = slice_set n.sessions z (restarted (learnt n.clock end).known (session_at n z));
}

-- an instance after a session's lock found the row its own
abbrev pub lock_found : Inst → ℕ → Inst
lock_found n z = with_session n z (answered (record (session_at n z) { job = record (session_at n z).job { handed_for = None } }))

-- an instance after a change, by what was decided
abbrev pub changed_as : Inst → ℕ → Option Decision → Inst
changed_as n z (Some (Do redo)) = row_changed n z redo
changed_as n z (Some (Refuse cause)) = line_refused n z
changed_as n z (Some (Restart end)) = line_restarted n z end
changed_as n z (Some AlreadyMine) = lock_found n z
changed_as n z _ = n

-- an instance after a change
abbrev pub changed : Inst → ℕ → Inst
changed n z = changed_as n z (change_decided n z)

-- what a row held before a change
abbrev pub found_by : Option UndoChange → Value
found_by None = Absent
found_by (Some undo) = undo.to.old

-- what a row holds after a change
abbrev pub new_by : Option DataChange → Value
new_by None = Absent
new_by (Some change) = change.to.value

-- the row that a line changes, 0 where it changes none
abbrev pub row_of : Option Asks → RowNo
row_of (Some (Change row wish)) = row
row_of _ = 0

-- what a record tells, by its kind
abbrev pub record_tells : ℕ → RowNo → Redo → RedoKind → Entry
record_tells stmt row redo kind.Lock = Locked stmt redo.xid row
record_tells stmt row redo _ = Changed stmt redo.xid row (found_by redo.undo) (new_by redo.row)

-- what a change tells, by what was decided
abbrev pub decision_tells : Inst → ℕ → Option Decision → List Entry
decision_tells n z (Some (Do redo)) = record_tells (stmt_at n z) (row_of (asks_at n z)) redo redo.kind ∷ []
decision_tells n z (Some (Refuse cause)) = Refused (stmt_at n z) cause ∷ []
decision_tells n z (Some (Restart end)) = Started (stmt_at n z) z (learnt n.clock end).known ∷ []
decision_tells n z (Some AlreadyMine) = Plain (stmt_at n z) ∷ []
decision_tells n z _ = []

-- what a change tells
abbrev pub change_tells : Inst → ℕ → List Entry
change_tells n z = decision_tells n z (change_decided n z)

-- the record that a decision is to make, if it is to make one
abbrev pub record_in : Option Decision → Option Redo
record_in (Some (Do redo)) = Some redo
record_in _ = None

-- A record can be applied to the segment and to the current image of a block.
pub record FitsInst (n : Inst) (block : ℕ) (redo : Redo) : Type 0 where
  pub segment : FitsSegment n.segment redo
  pub image : ForSome (place_at n.cache block).current (λ now. FitsImage now.image redo)

-- The record of a decision, if it is one, can be applied.
abbrev pub IfFits : Inst → ℕ → Option Decision → Type 0
IfFits n block (Some (Do redo)) = FitsInst n block redo
IfFits n block _ = Unit {0}
