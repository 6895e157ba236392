-- A header or an undo block of another segment is asked for.
use Rattle.std.specs.Prelude.{◌≡◌, ℕ, ◌&&◌, nat_le, nat_lt, not, if◌then◌else◌, Bool, true, false, Option, None, Some, Result, Ok, Err, IfOk, is_none, is_some}
use Rattle.base_types.specs.declared.layout.Layout.{Layout}
use Rattle.base_types.specs.Layout.{head_block_of, undo_block_of}
use Rattle.redo_types.specs.declared.redo.Redo.{Redo}
use Rattle.rac_disk.specs.Content.{block_at}
use Rattle.rac_disk.specs.State.{State}
use Rattle.undo_image.specs.Header.{HeaderContent, header_bytes}
use Rattle.undo_image.specs.UndoBlock.{UndoContent, undo_bytes}
use Rattle.undo_segment.specs.Load.{Loads}
use Rattle.undo_segment.specs.declared.error.LoadError.{LoadError}
use Rattle.undo_segment.specs.declared.error.LoadError.TheVariants as error
use Rattle.wire_net.specs.declared.message.Message.TheVariants.{NeedUndo}
use Rattle.wire_net.specs.declared.message.UndoImage.{UndoImage}
use Rattle.wire_net.specs.declared.message.UndoImage.TheVariants.{Block, Head}
use Rattle.txn_slots.specs.declared.wanted.Wanted.{Wanted}
use Rattle.txn_slots.specs.declared.wanted.Wanted.TheVariants as wanted
use Rattle.txn_engine.specs.declared.ask.Decision.{Decision}
use Rattle.txn_engine.specs.declared.ask.Decision.TheVariants as decision
use Rattle.cr_copy.specs.declared.made.Made.{Made}
use Rattle.cr_copy.specs.declared.made.Made.TheVariants as made
use Rattle.inst_state.specs.declared.inst.Inst.{Inst}
use Rattle.inst_state.specs.declared.session.ImageName.{ImageName}
use Rattle.inst_state.specs.declared.session.Session.{Session}
use Rattle.inst_state.specs.declared.shared.Core.{Core}
use Rattle.inst_state.specs.Hand.{name_in_hand}
use Rattle.inst_state.specs.Needs.{dead_txn}
use Rattle.inst_state.specs.Shared.{is_live}
use Rattle.inst_state.specs.State.{session_at, with_session, works}
use Rattle.stmt_steps.specs.Back.{back_decided, dead_back_decided}
use Rattle.stmt_steps.specs.Change.{change_decided}
use Rattle.stmt_steps.specs.Mark.{is_job}
use Rattle.stmt_steps.specs.Visit.{read_made}
use Rattle.image_steps.specs.Sends.{sends}
use Rattle.image_steps.specs.TakeCopy.{handed_in}
use Rattle.inst_loss.specs.Lost.{lost}
use Rattle.inst_loss.specs.LostCore.{lost_core}
use Rattle.inst_loss.specs.declared.ends.Loss.TheVariants as loss
use Rattle.disk_calls.specs.declared.images.ReadUndo.{ReadUndo}
use Rattle.disk_calls.specs.declared.images.ReadUndo.TheVariants as read
use Rattle.disk_calls.specs.Images.{IsBadBy, IsHead, IsUndo, is_head_of, is_undo_of}
use Rattle.disk_steps.specs.declared.undo_asks.AskedUndo.{AskedUndo}
use Rattle.disk_steps.specs.declared.undo_asks.AskedUndo.TheVariants.{Calm, Read}
use Rattle.disk_steps.specs.declared.undo_asks.Lacking.{Lacking}
use Rattle.disk_steps.specs.declared.undo_asks.Lacking.TheVariants.{Sense, Undo}
use Rattle.disk_steps.specs.declared.undo_asks.Place.{Place}

-- what a copy lacks
abbrev pub copy_lacks : Option Made → Option Lacking
copy_lacks (Some (made.Need what)) = Some (Undo what)
copy_lacks (Some made.Bad) = Some Sense
copy_lacks _ = None

-- what a change lacks
abbrev pub change_lacks : Option Decision → Option Lacking
change_lacks (Some (decision.Need what)) = Some (Undo what)
change_lacks (Some decision.Bad) = Some Sense
change_lacks _ = None

-- what a step back lacks: what is at hand may be such that no run leaves it
abbrev pub back_lacks : Option (Option Redo) → Option Lacking
back_lacks (Some None) = Some Sense
back_lacks _ = None

-- the first of two things that are lacking
abbrev pub first_lack : Option Lacking → Option Lacking → Option Lacking
first_lack None later = later
first_lack (Some lack) later = Some lack

-- what a session's line lacks
abbrev pub lacking : Inst → ℕ → Option Lacking
lacking n z =
    first_lack (copy_lacks (read_made n z))
    (first_lack (change_lacks (change_decided n z)) (back_lacks (back_decided n z)))

-- Undo is asked for that a session's line lacks, unless an ask is out. Where what is at hand makes no sense, the instance ends.
abbrev pub may_ask_undo : Inst → ℕ → Bool
may_ask_undo n z = works n && is_none (session_at n z).job.undo_out && is_some (lacking n z)

-- What is at hand of the dead transaction makes no sense.
abbrev pub may_ask_undo_dead : Inst → ℕ → Bool
may_ask_undo_dead n job = is_job job (dead_txn n) && is_some (back_lacks (dead_back_decided n))

-- where a header or an undo block stands that is wanted, if its segment is there
abbrev pub place_of : Layout → Wanted → Option Place
place_of layout (wanted.Head seg) =
    if nat_lt seg layout.instances then Some (record { seg = seg; block = head_block_of layout seg; head = true }) else None
place_of layout (wanted.Undo at) =
    if nat_lt at.seg layout.instances && nat_le 1 at.seq
    then Some (record { seg = at.seg; block = undo_block_of layout at; head = false })
    else None

-- a session that has asked for undo, for the image with this name
abbrev pub asked_for : Option ImageName → Session → Session
asked_for name s = record s { job = record s.job { undo_out = name } }

-- an instance that has asked for undo for a session
abbrev pub undo_asked : Inst → ℕ → Inst
undo_asked n z = with_session n z (asked_for (name_in_hand n z) (session_at n z))

-- an instance that has read undo from the disk for a session, as its read went
abbrev pub undo_read : Inst → ℕ → AskedUndo → Inst
undo_read n z (Read (read.Head head)) = handed_in n z (Head head.value)
undo_read n z (Read (read.Block block)) = handed_in n z (Block block.value)
undo_read n z _ = lost n

-- the shared part after undo was read from the disk
abbrev pub undo_read_core : Inst → Core → AskedUndo → Core
undo_read_core n core (Read (read.Head head)) = core
undo_read_core n core (Read (read.Block block)) = core
undo_read_core n core (Read read.Failed) = lost_core n core (loss.Ended false) (Some 0)
undo_read_core n core _ = lost_core n core (loss.Ended true) (Some 0)

-- an instance whose session lacks undo at a place, which the segment's live instance is asked for, or the disk
abbrev pub asked_at : Inst → Core → ℕ → Option Place → AskedUndo → Inst
asked_at n core z None how = lost n
asked_at n core z (Some place) how = if is_live core place.seg then undo_asked n z else undo_read n z how

-- the shared part after undo at a place was asked for
abbrev pub asked_core : Inst → Core → ℕ → Option Place → AskedUndo → Core
asked_core n core z None how = lost_core n core (loss.Ended true) (Some 0)
asked_core n core z (Some place) how =
    if is_live core place.seg then sends n core place.seg (NeedUndo place.block z) else undo_read_core n core how

-- an instance after what its session lacks was asked for
abbrev pub asked_by : Inst → Core → ℕ → Option Lacking → AskedUndo → Inst
asked_by n core z None how = n
asked_by n core z (Some (Undo what)) how = asked_at n core z (place_of n.plan.layout what) how
asked_by n core z (Some Sense) how = lost n

-- the shared part after what a session lacks was asked for
abbrev pub asked_by_core : Inst → Core → ℕ → Option Lacking → AskedUndo → Core
asked_by_core n core z None how = core
asked_by_core n core z (Some (Undo what)) how = asked_core n core z (place_of n.plan.layout what) how
asked_by_core n core z (Some Sense) how = lost_core n core (loss.Ended true) (Some 0)

-- an instance after undo was asked for
abbrev pub asked_undo : Inst → Core → ℕ → AskedUndo → Inst
asked_undo n core z how = asked_by n core z (lacking n z) how

-- the shared part after undo was asked for
abbrev pub undo_ask_told : Inst → Core → ℕ → AskedUndo → Core
undo_ask_told n core z how = asked_by_core n core z (lacking n z) how

-- What a read of a header left that went so.
pub record ReadsHead (place : Place) (result : Result HeaderContent LoadError) (old new : State) : Type 0 where
  pub fits : IfOk result (λ h. is_head_of place.block place.seg h ≡ true)
  pub loads :
      Loads (λ h it. block_at it place.block ≡ header_bytes h) (IsBadBy place.block (IsHead place.block place.seg)) result old new

-- What a read of an undo block left that went so.
pub record ReadsBlock (place : Place) (result : Result UndoContent LoadError) (old new : State) : Type 0 where
  pub fits : IfOk result (λ b. is_undo_of place.block place.seg b ≡ true)
  pub loads :
      Loads (λ b it. block_at it place.block ≡ undo_bytes b) (IsBadBy place.block (IsUndo place.block place.seg)) result old new

-- What a read left that gave nothing, of a header or of an undo block.
abbrev pub ErrAs : Place → Bool → LoadError → State → State → Type 0
ErrAs place true why old new = ReadsHead place (Err why) old new
ErrAs place false why old new = ReadsBlock place (Err why) old new

-- What a read of a header or of an undo block left.
abbrev pub ReadsAt : Place → Result UndoImage LoadError → State → State → Type 0
ReadsAt place (Ok (Head head)) old new = ReadsHead place (Ok head) old new
ReadsAt place (Ok (Block block)) old new = ReadsBlock place (Ok block) old new
ReadsAt place (Err why) old new = ErrAs place place.head why old new

-- What a read of undo gave, or why it gave nothing.
abbrev pub UndoGaveAs : Place → ReadUndo → State → State → Type 0
UndoGaveAs place (read.Head head) old new = ReadsHead place (Ok head.value) old new
UndoGaveAs place (read.Block block) old new = ReadsBlock place (Ok block.value) old new
UndoGaveAs place read.Bad old new = (block : ℕ) × (field : ℕ) × ErrAs place place.head (error.Bad block field) old new
UndoGaveAs place read.Failed old new = ErrAs place place.head error.Failed old new

-- How an ask went that handed an image in which was read.
abbrev pub IsReadOf : UndoImage → AskedUndo → Type 0
IsReadOf (Head head) (Read (read.Head seen)) = seen.value ≡ head
IsReadOf (Block block) (Read (read.Block seen)) = seen.value ≡ block
IsReadOf image how = ⊥

-- What a read of undo at a place left that went so.
abbrev pub ReadsUndoAs : Place → AskedUndo → State → State → Type 0
ReadsUndoAs place (Read how) old new = UndoGaveAs place how old new
ReadsUndoAs place Calm old new = ⊥

-- What an ask left that was read from the disk, or went to the segment's live instance.
abbrev pub AsksWhere : Bool → Place → AskedUndo → State → State → Type 0
AsksWhere true place how old new = new ≡ old
AsksWhere false place how old new = ReadsUndoAs place how old new

-- What an ask left on the disk that went so.
abbrev pub AsksAt : Core → Option Place → AskedUndo → State → State → Type 0
AsksAt core None how old new = new ≡ old
AsksAt core (Some place) how old new = AsksWhere (is_live core place.seg) place how old new

-- What an ask left on the disk, by what is lacking.
abbrev pub AsksBy : Layout → Core → Option Lacking → AskedUndo → State → State → Type 0
AsksBy layout core (Some (Undo what)) how old new = AsksAt core (place_of layout what) how old new
AsksBy layout core lack how old new = new ≡ old

-- What an ask for undo left on the disk.
abbrev pub AsksUndoAs : Inst → Core → ℕ → AskedUndo → State → State → Type 0
AsksUndoAs n core z how old new = AsksBy n.plan.layout core (lacking n z) how old new
