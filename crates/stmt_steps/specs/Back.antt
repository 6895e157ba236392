-- The newest change or lock of a transaction is taken back.
use Rattle.std.specs.Prelude.{◌≡◌, ℕ, ◌-◌, ◌&&◌, if◌then◌else◌, Bool, true, false, List, [], ◌∷◌, Option, None, Some, is_some}
use Rattle.std.specs.Option.{ForSome, option_and_then, option_map}
use Rattle.base_types.specs.declared.names.Xid.{Xid}
use Rattle.redo_types.specs.declared.redo.Redo.{Redo}
use Rattle.block_image.specs.Block.{BlockContent}
use Rattle.journal.specs.declared.entry.Entry.{Entry}
use Rattle.journal.specs.declared.entry.Entry.TheVariants.{Undone}
use Rattle.redo_record.specs.Redo.{IsRedo}
use Rattle.redo_thread.specs.Thread.{end_of}
use Rattle.undo_segment.specs.Segment.{SegmentState}
use Rattle.buffer_cache.specs.Cache.{place_at}
use Rattle.txn_engine.specs.Back.{back_decision}
use Rattle.txn_engine.specs.Parts.{FitsImage, FitsSegment}
use Rattle.inst_state.specs.declared.inst.Inst.{Inst}
use Rattle.inst_state.specs.declared.needs.Needed.{Needed}
use Rattle.inst_state.specs.declared.session.Session.{Session}
use Rattle.inst_state.specs.Hand.{current_image, image_in_hand}
use Rattle.inst_state.specs.Needs.{dead_needed, dead_segment, dead_txn, goes_back, holds}
use Rattle.inst_state.specs.Records.{with_newest, with_record}
use Rattle.inst_state.specs.State.{has_room, session_at, with_session, works}
use Rattle.stmt_steps.specs.Change.{FitsInst, applying, block_at, block_or_zero, cache_changed}
use Rattle.stmt_steps.specs.Mark.{is_job, leading_applied}

-- what is decided of a step back of a transaction, if there is one and its block is held
abbrev pub back_on : Inst → Option Xid → Option BlockContent → Option (Option Redo)
back_on n (Some x) (Some image) = Some (back_decision x n.segment image n.clock)
back_on n _ _ = None

-- What is decided of a session's step back, where its block is held; Some None where what is at hand is such that no run
-- leaves it.
abbrev pub back_decided : Inst → ℕ → Option (Option Redo)
back_decided n z = if goes_back n z then back_on n (session_at n z).own (image_in_hand n z) else None

-- a record, if one is decided
abbrev pub record_of : Option (Option Redo) → Option Redo
record_of None = None
record_of (Some redo) = redo

-- A session's step back is made once its block is held, where there is room for a record.
abbrev pub may_step_back : Inst → ℕ → Bool
may_step_back n z = works n && has_room n && is_some (record_of (back_decided n z))

-- a session of whose transaction one change or lock less stands
abbrev pub one_less : Session → Session
one_less s = record s { standing = s.standing - 1 }

-- an instance after a session's step back, by the record
abbrev pub stepped_by : Inst → ℕ → Option Redo → Inst
stepped_by n z None = n
stepped_by n z (Some redo) = with_session (applying n (block_at n z) redo) z (one_less (session_at n z))

-- an instance after a session's step back
abbrev pub stepped_back : Inst → ℕ → Inst
stepped_back n z = stepped_by n z (record_of (back_decided n z))

-- what a step back tells, by the record and by how much is left
abbrev pub undone : Option Redo → ℕ → List Entry
undone None left = []
undone (Some redo) left = Undone redo.xid left ∷ []

-- what a session's step back tells
abbrev pub back_tells : Inst → ℕ → List Entry
back_tells n z = undone (record_of (back_decided n z)) ((session_at n z).standing - 1)

-- the current image of a needed block, if it is held as needed
abbrev pub needed_image : Inst → Option Needed → Option BlockContent
needed_image n None = None
needed_image n (Some need) = if holds n need.block need.mode then current_image n need.block else None

-- what is decided of a step back of the dead transaction, if there is one with its segment, and its block is held
abbrev pub dead_back_on : Inst → Option Xid → Option SegmentState → Option BlockContent → Option (Option Redo)
dead_back_on n (Some x) (Some segment) (Some image) = Some (back_decision x segment image n.clock)
dead_back_on n _ _ _ = None

-- what is decided of the dead transaction's step back
abbrev pub dead_back_decided : Inst → Option (Option Redo)
dead_back_decided n = dead_back_on n (dead_txn n) (dead_segment n) (needed_image n (dead_needed n))

-- The dead transaction's step back is made once its block is held, where there is room for a record.
abbrev pub may_step_back_dead : Inst → ℕ → Bool
may_step_back_dead n job = has_room n && is_job job (dead_txn n) && is_some (record_of (dead_back_decided n))

-- a record of the dead transaction that is made and applied to its segment and to a block
abbrev pub applying_dead : Inst → ℕ → Redo → Inst
applying_dead n block redo = record (with_newest (with_record n redo false) block) {
  leading = leading_applied n redo;
  cache = cache_changed n.cache block redo.row redo.scn (end_of n.thread);
}

-- an instance after the dead transaction's step back, by the record
abbrev pub dead_stepped_by : Inst → Option Redo → Inst
dead_stepped_by n None = n
dead_stepped_by n (Some redo) = applying_dead n (block_or_zero (dead_needed n)) redo

-- an instance after the dead transaction's step back
abbrev pub dead_stepped_back : Inst → Inst
dead_stepped_back n = dead_stepped_by n (record_of (dead_back_decided n))

-- what the dead transaction's step back tells
abbrev pub dead_back_tells : Inst → List Entry
dead_back_tells n = undone (record_of (dead_back_decided n)) 0

-- The record of a step back, if one is decided, can be applied.
abbrev pub IfBackFits : Inst → ℕ → Option (Option Redo) → Type 0
IfBackFits n block (Some (Some redo)) = FitsInst n block redo
IfBackFits n block _ = Unit {0}

-- A record can be applied to the dead transaction's segment and to the current image of a block.
pub record FitsDead (n : Inst) (block : ℕ) (redo : Redo) : Type 0 where
  pub is : IsRedo redo
  pub segment : ForSome (dead_segment n) (λ segment. FitsSegment segment redo)
  pub image : ForSome (place_at n.cache block).current (λ now. FitsImage now.image redo)

-- The record of the dead transaction's step back, if one is decided, can be applied.
abbrev pub IfDeadFits : Inst → ℕ → Option (Option Redo) → Type 0
IfDeadFits n block (Some (Some redo)) = FitsDead n block redo
IfDeadFits n block _ = Unit {0}
