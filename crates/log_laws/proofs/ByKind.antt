-- What each kind of step leaves of the logs.
use Rattle.rebuild_steps.specs.declared.images.Image.{Image}
use Rattle.image_steps.specs.ServeUndo.{first_undo_order, undo_sent}
use Rattle.std.proofs.Common.{◌≡◌, ℕ, ◌^◌, ◌<◌, ◌&&◌, not, Bool, true, false, List, [], ◌∷◌, length, Option, None, Some, slice_get, if◌then◌else◌, refl, sym, ap, subst, ◌∙◌, arith}
use Rattle.std.specs.Prelude.{Result, Ok, Err, ◌==◌, slice_set}
use Rattle.std.specs.List.{AllByRecursion, list_all}
use Rattle.std.proofs.lemmas.Bool.{eqb-true}
use Rattle.std.proofs.lemmas.List.{length-set}
use Rattle.rac_disk.specs.State.{State}
use Rattle.redo_record.specs.Redo.{IsRedo}
use Rattle.redo_thread.specs.Thread.{appended, end_of}
use Rattle.redo_merge.specs.declared.tagged.Tagged.{Tagged}
use Rattle.base_types.specs.declared.layout.Layout.{Layout}
use Rattle.undo_image.specs.Header.{HeaderContent}
use Rattle.undo_image.specs.UndoBlock.{UndoContent}
use Rattle.undo_segment.specs.declared.error.LoadError.{LoadError}
use Rattle.undo_segment.specs.Apply.{applied}
use Rattle.disk_calls.specs.declared.images.ReadUndo.{ReadUndo}
use Rattle.disk_calls.specs.declared.images.ReadData.{ReadData}
use Rattle.disk_calls.specs.Calls.{result_of}
use Rattle.txn_engine.specs.declared.ask.Decision.{Decision}
use Rattle.txn_engine.specs.declared.ask.Decision.TheVariants.{AlreadyMine, Do, Refuse, Restart}
use Rattle.stmt_steps.specs.declared.answers.Answer.{Answer}
use Rattle.stmt_steps.specs.Back.{back_decided, back_tells, dead_back_tells, one_less, stepped_by, applying_dead, dead_back_decided, record_of, dead_stepped_by}
use Rattle.stmt_steps.specs.Change.{applying, block_at, block_or_zero, change_decided, change_tells, changed_as, line_restarted, lock_found, row_changed}
use Rattle.stmt_steps.specs.End.{answer_at, end_tells, ended, ended_by}
use Rattle.stmt_steps.specs.Mark.{adopted_applied, commits, dead_end_made, dead_mark_tells, end_decided, end_kind, end_made, mark_tells, marked_by, with_segment as segment_with, dead_end_decided, dead_marked_by}
use Rattle.stmt_steps.specs.Start.{start_tells, started}
use Rattle.stmt_steps.specs.Visit.{line_refused, visit_tells, visited}
use Rattle.wave_steps.specs.Answers.{acked, acked_core, with_acked}
use Rattle.wave_steps.specs.News.{broadcast, broadcast_core, with_told, hearing, hearing_packet, heard as news_heard, durable_ending, heard_core}
use Rattle.inst_state.specs.Needs.{dead_needed, dead_place}
use Rattle.inst_state.specs.Shared.{given_of, is_live, open_control}
use Rattle.inst_state.specs.declared.inst.ReadThread.{ReadThread}
use Rattle.disk_steps.specs.AskUndo.{AsksAt, AsksBy, AsksWhere, ErrAs, ReadsBlock, ReadsHead, ReadsUndoAs, UndoGaveAs, asked_at, asked_by, lacking, place_of, undo_asked, undo_read as read_undo, asked_by_core, asked_core, undo_read_core}
use Rattle.disk_steps.specs.Write.{bytes_to_write, block_written, target, written_as, write_told, write_told_as}
use Rattle.image_steps.specs.Ask.{ask_sent, asked, lacked}
use Rattle.image_steps.specs.AskWrite.{write_asked, write_plea_sent, past_version}
use Rattle.image_steps.specs.Evict.{evict_sent, evicted}
use Rattle.report_steps.specs.Report.{given, reported, reported_core}
use Rattle.rebuild_steps.specs.Images.{LoadsImage, bytes_of, rolled_from}
use Rattle.rebuild_steps.specs.Recover.{RebuildsAs, Rewrites, WritesAs, WritesMade, noted, noted_core, recovered_core, redo_read, recovered as recover}
use Rattle.inst_node.specs.Moves.{BlockDisk, RecoveredAs, SessionDisk, telling, asked_undo_of, block_part, closing_of, crashed_of, dead_part, forced_of, found_of, inst_part, installed_of, joined_by, line_part, plain_part, recovered_by, session_part, thawed_by, written_of, block_core, dead_core, inst_core, joined_core_by, line_core, plain_core, recovered_core_by, session_core, thawed_core_by, InstDisk, JoinedAs, LineDisk, PlainDisk, ThawedAs}
use Rattle.inst_node.specs.Made.{record_made}
use Rattle.stmt_steps.specs.Change.{record_in}
use Rattle.log_laws.proofs.Cluster.{AtOwn, Files, Logs, Own as OwnPart, ReadOf, Shared, own_of, shared_of, left as left_shared, lost_own, open_in}
use Rattle.log_laws.proofs.Keeps.{Eased, Keeps, MayRecord, Untouched, eased_then, eased_where_same, eases, held, lost_is, records, rests, stops, untouched_block, untouched_kept, untouched_same, untouched_then}
use Rattle.log_laws.proofs.Eases.{asked_eases, came_eases, evicted_eases, followed_eases, past_eases, plea_eases, read_eases, reported_eases, shipped_eases, upgraded_eases, visited_eases, without_eases, written_eases}
use Rattle.log_laws.proofs.Places.{applying_more, dead_more, marking_more, places_of, reopened_fewer, taken_fewer}
use Rattle.log_laws.proofs.Moves.{own_moved, no_way}
use Rattle.log_laws.proofs.Thawing.{own_kept, reopened_again}
use Rattle.log_laws.proofs.Quiet.{write_shared, ack_shared, broadcast_shared, gave_shared, lost_shared, plea_shared, sent_shared, copy_shared, gone_shared, hear_shared, master_shared, move_shared, note_shared, past_shared, send_shared, ship_shared, skip_shared, undo_shared}
use Rattle.redo_types.specs.declared.redo.Redo.{Redo}
use Rattle.inst_set.specs.Sets.{has}
use Rattle.wire_net.specs.declared.message.Lane.{Lane}
use Rattle.wire_net.specs.declared.message.Lane.TheVariants.{Main, Undo as UndoLane}
use Rattle.wire_net.specs.declared.message.Message.{Message}
use Rattle.wire_net.specs.declared.message.Message.TheVariants.{Bucket, Grant, Shipped, Commit, Heard, NeedUndo}
use Rattle.wire_net.specs.declared.message.Mode.{Mode}
use Rattle.wire_net.specs.declared.message.Packet.{Packet}
use Rattle.inst_state.specs.declared.inst.Inst.{Inst}
use Rattle.inst_state.specs.declared.shared.Core.{Core}
use Rattle.inst_state.specs.State.{session_at, with_session, stmt_at}
use Rattle.std.specs.Option.{option_map}
use Rattle.inst_state.specs.Sending.{first_from, without_first}
use Rattle.inst_loss.specs.Lost.{lost}
use Rattle.inst_loss.specs.LostCore.{lost_core}
use Rattle.disk_calls.specs.declared.writes.Written.{Written}
use Rattle.disk_steps.specs.Install.{brought, granted, with_image, brought_core, granted_core, GaveAs, InstallsAs}
use Rattle.buffer_cache.specs.Place.{read_from_disk, clean_grant}
use Rattle.buffer_cache.specs.Cache.{place_at}
use Rattle.disk_steps.specs.declared.installs.Installed.{Installed}
use Rattle.disk_steps.specs.declared.undo_asks.AskedUndo.{AskedUndo}
use Rattle.disk_steps.specs.declared.undo_asks.Lacking.{Lacking}
use Rattle.disk_steps.specs.declared.undo_asks.Lacking.TheVariants.{Sense, Undo}
use Rattle.disk_steps.specs.declared.undo_asks.Place.{Place}
use Rattle.wave_steps.specs.declared.buckets.BucketMove.{BucketMove}
use Rattle.image_steps.specs.Hear.{first_message, hears, heard}
use Rattle.image_steps.specs.Invalidate.{first_to_go, invalidate_sent, invalidated}
use Rattle.image_steps.specs.Ship.{first_order, shipment, ship_sent, shipped as ship_part}
use Rattle.image_steps.specs.TakeCopy.{copy_taken, handed_in}
use Rattle.wave_steps.specs.Buckets.{moved_by, with_moved, taking_bucket, taking_packet, bucket_kept, bucket_sent, bucket_sent_core, bucket_taken, bucket_taken_core}
use Rattle.report_steps.specs.Reopen.{is_done, reopened, reopened_core, resumed, resumed_core}
use Rattle.rebuild_steps.specs.Join.{begun}
use Rattle.rebuild_steps.specs.declared.recovers.Recovered.{Recovered}
use Rattle.inst_node.specs.declared.actions.Action.{Action}
use Rattle.inst_node.specs.declared.actions.Action.TheVariants.{Dead, Session}
use Rattle.inst_node.specs.declared.actions.BlockStep.{BlockStep}
use Rattle.inst_node.specs.declared.actions.DeadStep.{DeadStep}
use Rattle.inst_node.specs.declared.actions.InstStep.{InstStep}
use Rattle.inst_node.specs.declared.actions.LineStep.{LineStep}
use Rattle.inst_node.specs.declared.actions.PlainStep.{PlainStep}
use Rattle.inst_node.specs.declared.actions.SessionStep.{SessionStep}
use Rattle.inst_node.specs.declared.hows.How.{How}
use Rattle.block_image.specs.Block.{BlockContent}
use Rattle.undo_segment.specs.Segment.{SegmentState}
use Rattle.scn_clock.specs.Clock.{raised}
use Rattle.wave_steps.specs.Enter.{entered, entered_core}
use Rattle.inst_state.specs.declared.session.Ending.{Ending}
use Rattle.image_steps.specs.DropPast.{first_past_order, past_dropped, past_sent}
use Rattle.image_steps.specs.MasterTake.{master_sent, master_taken}
use Rattle.image_steps.specs.Sends.{sends}
use Rattle.image_steps.specs.ServeCopy.{first_copy_order, copy_sent}
use Rattle.wave_steps.specs.WaveEnd.{left, risen, skipped}
use Rattle.log_laws.proofs.ByDisk.{check_keeps, crash_keeps, force_keeps}
use Rattle.log_laws.proofs.ByOpen.{JoinMay, ThawMay, join_keeps, thaw_keeps}
use Rattle.log_laws.proofs.ByThread.{close_keeps, read_keeps}
use Rattle.log_laws.proofs.Coming.{no_former}
use Rattle.undo_segment.specs.declared.error.LoadError.TheVariants as error
use Rattle.inst_loss.specs.declared.ends.Loss.TheVariants as loss
use Rattle.disk_calls.specs.declared.images.ReadData.TheVariants as data_read
use Rattle.disk_calls.specs.declared.images.ReadUndo.TheVariants as undo_read
use Rattle.disk_calls.specs.declared.writes.Written.TheVariants as written
use Rattle.wire_net.specs.declared.message.UndoImage.TheVariants as undo_image
use Rattle.disk_steps.specs.declared.installs.Installed.TheVariants as installed
use Rattle.disk_steps.specs.declared.undo_asks.AskedUndo.TheVariants as asked_for
use Rattle.rebuild_steps.specs.declared.recovers.Recovered.TheVariants as recovered
use Rattle.inst_node.specs.declared.actions.BlockStep.TheVariants as block
use Rattle.inst_node.specs.declared.actions.DeadStep.TheVariants as dead
use Rattle.inst_node.specs.declared.actions.InstStep.TheVariants as inst
use Rattle.inst_node.specs.declared.actions.LineStep.TheVariants as line
use Rattle.inst_node.specs.declared.actions.PlainStep.TheVariants as plain
use Rattle.inst_node.specs.declared.actions.SessionStep.TheVariants as session
use Rattle.inst_node.specs.declared.hows.How.TheVariants as how
use Rattle.recovery.specs.declared.members.Phase.TheVariants as phase

-- An instance that makes redo may, and its thread has room.
pub record CanRecord (n : Inst) : Type 0 where
  pub may : MayRecord n
  pub room : end_of n.thread < 2 ^ 62

-- The record that a step makes, if it makes one, can be written, and its maker may make it.
abbrev pub MayMakeRedo : Inst → Action → Type 0
MayMakeRedo n action = (redo : Redo) → record_made n action ≡ Some redo → CanRecord n × IsRedo redo

-- a session's line

change_keeps : (n : Inst) (z : ℕ) (core now : Core) (old new : State) (o : Option Decision) → ((redo : Redo) → record_in o ≡ Some redo → CanRecord n × IsRedo redo)
    → shared_of now ≡ shared_of core → Untouched old new → Keeps n (changed_as n z o) core now old new
change_keeps n z core now old new (Some (Do redo)) may shared u =
    let m = may redo refl in records n (row_changed n z redo) core now old new redo refl (applying_more n (block_at n z) redo) m.0.may m.1 m.0.room shared u
change_keeps n z core now old new (Some (Refuse cause)) may shared u = rests n (line_refused n z) core now old new refl shared u
change_keeps n z core now old new (Some (Restart end)) may shared u = rests n (line_restarted n z end) core now old new refl shared u
change_keeps n z core now old new (Some AlreadyMine) may shared u = rests n (lock_found n z) core now old new refl shared u
change_keeps n z core now old new _ may shared u = rests n n core now old new refl shared u

mark_keeps : (n : Inst) (z : ℕ) (core now : Core) (old new : State) (o : Option Redo) → ((redo : Redo) → o ≡ Some redo → CanRecord n × IsRedo redo)
    → shared_of now ≡ shared_of core → Untouched old new → Keeps n (marked_by n z o) core now old new
mark_keeps n z core now old new (Some redo) may shared u =
    let m = may redo refl in
    let k = end_made n z redo (commits (end_kind n z)) in records n k core now old new redo refl (marking_more n k redo refl refl) m.0.may m.1 m.0.room shared u
mark_keeps n z core now old new None may shared u = rests n n core now old new refl shared u

back_keeps : (n : Inst) (z : ℕ) (core now : Core) (old new : State) (o : Option Redo) → ((redo : Redo) → o ≡ Some redo → CanRecord n × IsRedo redo)
    → shared_of now ≡ shared_of core → Untouched old new → Keeps n (stepped_by n z o) core now old new
back_keeps n z core now old new (Some redo) may shared u =
    let m = may redo refl in
    records n (with_session (applying n (block_at n z) redo) z (one_less (session_at n z))) core now old new redo refl (applying_more n (block_at n z) redo) m.0.may m.1 m.0.room shared u
back_keeps n z core now old new None may shared u = rests n n core now old new refl shared u

ended_own : (n : Inst) (z : ℕ) (o : Option Answer) → own_of (ended_by n z o) ≡ own_of n
ended_own n z None = refl
ended_own n z (Some answer) = refl

told_own : (n : Inst) (epoch z : ℕ) (o : Option Ending) → own_of (with_told n epoch z o) ≡ own_of n
told_own n epoch z None = refl
told_own n epoch z (Some ending) = refl

acked_own : (n : Inst) (z : ℕ) (o : Option Ending) → own_of (with_acked n z o) ≡ own_of n
acked_own n z None = refl
acked_own n z (Some ending) = refl

-- an instance that ends by itself
stop : (n : Inst) (core : Core) (bad : Bool) (old new : State) → Untouched old new → Keeps n (lost n) core (lost_core n core (loss.Ended bad) (Some 0)) old new
stop n core bad old new u = stops n (lost n) core (lost_core n core (loss.Ended bad) (Some 0)) old new (lost_is n) (lost_shared n core (loss.Ended bad) (Some 0)) u

-- AskUndo

head_untouched : (place : Place) (result : Result HeaderContent LoadError) (old new : State) → ReadsHead place result old new → Untouched old new
head_untouched place result old new it = untouched_kept old new it.loads.told

undo_untouched : (place : Place) (result : Result UndoContent LoadError) (old new : State) → ReadsBlock place result old new → Untouched old new
undo_untouched place result old new it = untouched_kept old new it.loads.told

err_untouched : (place : Place) (head : Bool) (why : LoadError) (old new : State) → ErrAs place head why old new → Untouched old new
err_untouched place true why old new it = head_untouched place (Err why) old new it
err_untouched place false why old new it = undo_untouched place (Err why) old new it

gave_untouched : (place : Place) (how : ReadUndo) (old new : State) → UndoGaveAs place how old new → Untouched old new
gave_untouched place (undo_read.Head head) old new it = head_untouched place (Ok head.value) old new it
gave_untouched place (undo_read.Block block) old new it = undo_untouched place (Ok block.value) old new it
gave_untouched place undo_read.Bad old new it = err_untouched place place.head (error.Bad it.0 it.1) old new it.2
gave_untouched place undo_read.Failed old new it = err_untouched place place.head error.Failed old new it

read_untouched : (place : Place) (how : AskedUndo) (old new : State) → ReadsUndoAs place how old new → Untouched old new
read_untouched place (asked_for.Read how) old new it = gave_untouched place how old new it
read_untouched place asked_for.Calm old new it = absurd it

where_untouched : (live : Bool) (place : Place) (how : AskedUndo) (old new : State) → AsksWhere live place how old new → Untouched old new
where_untouched true place how old new e = untouched_same old new e
where_untouched false place how old new it = read_untouched place how old new it

asks_untouched : (layout : Layout) (core : Core) (o : Option Lacking) (how : AskedUndo) (old new : State) → AsksBy layout core o how old new → Untouched old new
asks_untouched layout core None how old new e = untouched_same old new e
asks_untouched layout core (Some Sense) how old new e = untouched_same old new e
asks_untouched layout core (Some (Undo what)) how old new it = by (place_of layout what) it
  where
    by : (o : Option Place) → AsksAt core o how old new → Untouched old new
    by None e = untouched_same old new e
    by (Some place) it = where_untouched (is_live core place.seg) place how old new it

ask_read : (n : Inst) (core : Core) (z : ℕ) (it : AskedUndo) (old new : State) → Untouched old new → Keeps n (read_undo n z it) core (undo_read_core n core it) old new
ask_read n core z (asked_for.Read (undo_read.Head head)) old new u = rests n (handed_in n z (undo_image.Head head.value)) core core old new refl refl u
ask_read n core z (asked_for.Read (undo_read.Block block)) old new u = rests n (handed_in n z (undo_image.Block block.value)) core core old new refl refl u
ask_read n core z (asked_for.Read undo_read.Failed) old new u = stop n core false old new u
ask_read n core z (asked_for.Read undo_read.Bad) old new u = stop n core true old new u
ask_read n core z asked_for.Calm old new u = stop n core true old new u

ask_where : (n : Inst) (core : Core) (z : ℕ) (place : Place) (live : Bool) (it : AskedUndo) (old new : State) → Untouched old new
    → Keeps n (if live then undo_asked n z else read_undo n z it) core (if live then sends n core place.seg (NeedUndo place.block z) else undo_read_core n core it) old new
ask_where n core z place true it old new u = rests n (undo_asked n z) core (sends n core place.seg (NeedUndo place.block z)) old new refl refl u
ask_where n core z place false it old new u = ask_read n core z it old new u

ask_at : (n : Inst) (core : Core) (z : ℕ) (o : Option Place) (it : AskedUndo) (old new : State) → Untouched old new
    → Keeps n (asked_at n core z o it) core (asked_core n core z o it) old new
ask_at n core z None it old new u = stop n core true old new u
ask_at n core z (Some place) it old new u = ask_where n core z place (is_live core place.seg) it old new u

ask_by : (n : Inst) (core : Core) (z : ℕ) (o : Option Lacking) (it : AskedUndo) (old new : State) → Untouched old new
    → Keeps n (asked_by n core z o it) core (asked_by_core n core z o it) old new
ask_by n core z None it old new u = rests n n core core old new refl refl u
ask_by n core z (Some (Undo what)) it old new u = ask_at n core z (place_of n.plan.layout what) it old new u
ask_by n core z (Some Sense) it old new u = stop n core true old new u

pub session_keeps : (n : Inst) (core : Core) (kind : SessionStep) (z : ℕ) (it : How) (old new : State) → MayMakeRedo n (Session kind z) → SessionDisk n core kind z it old new
    → Keeps n (session_part n core kind z it) core (session_core n core kind z it) old new
unfolding session_part session_core SessionDisk
session_keeps n core session.StartStmt z it old new may u = rests n (started n z) core (telling core (start_tells n z ∷ [])) old new refl refl (untouched_same old new u)
session_keeps n core session.Visit z it old new may u = eases n (visited n z) core (telling core (visit_tells n z)) old new (visited_eases n z) refl (untouched_same old new u)
session_keeps n core session.Change z it old new may u =
    change_keeps n z core (telling core (change_tells n z)) old new (change_decided n z) may refl (untouched_same old new u)
session_keeps n core session.Mark z it old new may u =
    mark_keeps n z core (telling core (mark_tells n z)) old new (end_decided n z) may refl (untouched_same old new u)
session_keeps n core session.StepBack z it old new may u =
    back_keeps n z core (telling core (back_tells n z)) old new (record_of (back_decided n z)) may refl (untouched_same old new u)
session_keeps n core session.EndStmt z it old new may u =
    rests n (ended n z) core (telling core (end_tells n z)) old new (ended_own n z (answer_at n z)) refl (untouched_same old new u)
session_keeps n core session.AskUndo z it old new may u =
    ask_by n core z (lacking n z) (asked_undo_of it) old new (asks_untouched n.plan.layout core (lacking n z) (asked_undo_of it) old new u)
session_keeps n core session.Broadcast z it old new may u =
    rests n (broadcast n core z) core (broadcast_core n core z) old new (told_own n core.members.epoch z (durable_ending n z)) (broadcast_shared n core (durable_ending n z)) (untouched_same old new u)
session_keeps n core session.Ack z it old new may u =
    rests n (acked n z) core (acked_core n core z) old new (acked_own n z (durable_ending n z)) (ack_shared core (stmt_at n z) (durable_ending n z)) (untouched_same old new u)

-- the dead transaction

length_set : (l : List SegmentState) (i : ℕ) (o : Option SegmentState) → length (segment_with l i o) ≡ length l
length_set l i None = refl
length_set l i (Some x) = length-set l i x

applied_count : (n : Inst) (redo : Redo) (o : Option ℕ) → length (adopted_applied n.leading.adopted o redo (end_of n.thread)) ≡ length n.leading.adopted
applied_count n redo None = refl
applied_count n redo (Some place) =
    length_set n.leading.adopted place (option_map (λ segment. applied segment redo (end_of n.thread)) (slice_get n.leading.adopted place))

-- what an instance has with one record more, of a segment that it has adopted
dead_own : (n : Inst) (redo : Redo) (m : Inst) → own_of m ≡ record (own_of n) { thread = appended n.thread redo; places = places_of m; adopts = length (adopted_applied n.leading.adopted (dead_place n) redo (end_of n.thread)) }
    → own_of m ≡ record (own_of n) { thread = appended n.thread redo; places = places_of m }
dead_own n redo m e = e ∙ ap (λ (k : ℕ). record (own_of n) { thread = appended n.thread redo; places = places_of m; adopts = k }) (applied_count n redo (dead_place n))

dead_mark_keeps : (n : Inst) (core now : Core) (old new : State) (o : Option Redo) → ((redo : Redo) → o ≡ Some redo → CanRecord n × IsRedo redo)
    → shared_of now ≡ shared_of core → Untouched old new → Keeps n (dead_marked_by n o) core now old new
dead_mark_keeps n core now old new (Some redo) may shared u =
    let m = may redo refl in records n (dead_end_made n redo) core now old new redo (dead_own n redo (dead_end_made n redo) refl) (λ P one a. a) m.0.may m.1 m.0.room shared u
dead_mark_keeps n core now old new None may shared u = rests n n core now old new refl shared u

dead_back_keeps : (n : Inst) (core now : Core) (old new : State) (o : Option Redo) → ((redo : Redo) → o ≡ Some redo → CanRecord n × IsRedo redo)
    → shared_of now ≡ shared_of core → Untouched old new → Keeps n (dead_stepped_by n o) core now old new
dead_back_keeps n core now old new (Some redo) may shared u =
    let m = may redo refl in
    let k = applying_dead n (block_or_zero (dead_needed n)) redo in
    records n k core now old new redo (dead_own n redo k refl) (dead_more n (block_or_zero (dead_needed n)) redo) m.0.may m.1 m.0.room shared u
dead_back_keeps n core now old new None may shared u = rests n n core now old new refl shared u

pub dead_keeps : (n : Inst) (core : Core) (kind : DeadStep) (job : ℕ) (old new : State) → MayMakeRedo n (Dead kind job) → new ≡ old
    → Keeps n (dead_part n kind) core (dead_core n core kind) old new
unfolding dead_part dead_core
dead_keeps n core dead.Mark job old new may u = dead_mark_keeps n core (telling core (dead_mark_tells n)) old new (dead_end_decided n) may refl (untouched_same old new u)
dead_keeps n core dead.StepBack job old new may u =
    dead_back_keeps n core (telling core (dead_back_tells n)) old new (record_of (dead_back_decided n)) may refl (untouched_same old new u)
dead_keeps n core dead.AskUndo job old new may u = stop n core true old new (untouched_same old new u)

-- blocks

write_keeps : (n : Inst) (core : Core) (block : ℕ) (it : Written) (old new : State) → Untouched old new
    → Keeps n (block_written n block it) core (write_told n core block it) old new
write_keeps n core block written.Done old new u =
    eases n (written_as n block (target n block)) core (write_told_as n core block (target n block)) old new (written_eases n block (target n block)) (write_shared n core block (target n block)) u
write_keeps n core block written.Failed old new u = stop n core false old new u

made_untouched : (block : ℕ) (made : Option Image) (how : Written) (old new : State) → WritesMade block made how old new → Untouched old new
made_untouched block made how old new it = untouched_block block (bytes_of it.image) (result_of how) old new it.writes

writes_untouched : (block : ℕ) (made : Option Image) (stood : Image) (how : Recovered) (old new : State) → WritesAs block made stood how old new → Untouched old new
writes_untouched block made stood (recovered.Done it version) old new p = made_untouched block made written.Done old new p.2
writes_untouched block made stood (recovered.Unwritten it) old new p = made_untouched block made written.Failed old new p.1
writes_untouched block made stood (recovered.Unrolled it) old new p = untouched_same old new p.2
writes_untouched block made stood recovered.Bad old new p = absurd p
writes_untouched block made stood recovered.Unread old new p = absurd p

image_untouched : (layout : Layout) (block : ℕ) (result : Result Image LoadError) (old new : State) → LoadsImage layout block result old new → Untouched old new
image_untouched layout block result old new it = untouched_kept old new it.told

rewrites_untouched : (layout : Layout) (block : ℕ) (redo : List Tagged) (past : Option BlockContent) (stood : Image) (how : Recovered) (old new : State)
    → Rewrites layout block redo past stood how old new → Untouched old new
rewrites_untouched layout block redo past stood how old new it =
    untouched_then old it.mid new (image_untouched layout block (Ok stood) old it.mid it.reads) (writes_untouched block (rolled_from redo past stood) stood how it.mid new it.writes)

rebuilds_untouched : (layout : Layout) (block : ℕ) (redo : List Tagged) (past : Option BlockContent) (how : Recovered) (old new : State)
    → RebuildsAs layout block redo past how old new → Untouched old new
rebuilds_untouched layout block redo past (recovered.Done stood version) old new it = rewrites_untouched layout block redo past stood.value (recovered.Done stood version) old new it
rebuilds_untouched layout block redo past (recovered.Unwritten stood) old new it = rewrites_untouched layout block redo past stood.value (recovered.Unwritten stood) old new it
rebuilds_untouched layout block redo past (recovered.Unrolled stood) old new it = rewrites_untouched layout block redo past stood.value (recovered.Unrolled stood) old new it
rebuilds_untouched layout block redo past recovered.Bad old new it = image_untouched layout block (Err (error.Bad it.number it.field)) old new it.reads
rebuilds_untouched layout block redo past recovered.Unread old new it = image_untouched layout block (Err error.Failed) old new it

-- a step after which the leader has read this
pub reading : (n m : Inst) (core now : Core) (old new : State) (rs : List ReadThread)
    → own_of m ≡ record (own_of n) { epoch = core.members.epoch; reads = rs } → shared_of now ≡ shared_of core → Untouched old new
    → ((f : Files) (owns : List OwnPart) → Logs (shared_of core) owns f → AllByRecursion (ReadOf (shared_of core) f) (if n.leading.recovering.epoch == core.members.epoch then n.leading.recovering.threads else [])
    → AllByRecursion (ReadOf (shared_of core) f) rs) → Keeps n m core now old new
reading n m core now old new rs own shared untouched all owns i at small holds =
    held n m core now old new owns i untouched holds (λ f logs. (
    let here = logs.each i (own_of n) at in
    let o : OwnPart = record (own_of n) { epoch = core.members.epoch; reads = rs } in
    subst (λ (p : OwnPart). Logs (shared_of now) (slice_set owns i p) f) (sym own)
    (subst (λ (s : Shared). Logs s (slice_set owns i o) f) (sym shared)
    (own_moved (shared_of core) f owns i o logs
    (own_kept (shared_of core) f i (own_of n) o here refl refl (λ P a. a) (λ cl. ((here.idle cl).up, (here.idle cl).none)) (omega arith)
    (λ e. all f owns logs (read_before f here)))))))
  where
    read_before : (f : Files) → AtOwn (shared_of core) f i (own_of n)
        → AllByRecursion (ReadOf (shared_of core) f) (if n.leading.recovering.epoch == core.members.epoch then n.leading.recovering.threads else [])
    read_before f here = by (n.leading.recovering.epoch == core.members.epoch) refl
      where
        by : (b : Bool) → (n.leading.recovering.epoch == core.members.epoch) ≡ b
            → AllByRecursion (ReadOf (shared_of core) f) (if b then n.leading.recovering.threads else [])
        by true e = here.reads (eqb-true n.leading.recovering.epoch core.members.epoch e)
        by false e = tt

recover_keeps : (n : Inst) (core : Core) (block : ℕ) (it : Recovered) (old new : State) → Untouched old new
    → Keeps n (recover n core block it) core (recovered_core n core block it) old new
recover_keeps n core block (recovered.Done stood version) old new u =
    reading n (noted n core block) core (noted_core core block version) old new
    (if n.leading.recovering.epoch == core.members.epoch then n.leading.recovering.threads else []) refl refl u (λ f owns logs before. before)
recover_keeps n core block (recovered.Unwritten stood) old new u = stop n core false old new u
recover_keeps n core block (recovered.Unrolled stood) old new u = stop n core true old new u
recover_keeps n core block recovered.Bad old new u = stop n core true old new u
recover_keeps n core block recovered.Unread old new u = stop n core false old new u

recover_by : (n : Inst) (core : Core) (block : ℕ) (it : How) (old new : State) → RecoveredAs n core block it old new
    → Keeps n (recovered_by n core block it) core (recovered_core_by n core block it) old new
recover_by n core block (how.Recovered it) old new disk =
    recover_keeps n core block it old new (rebuilds_untouched core.layout block (redo_read n core) (given_of core block) it old new disk)
recover_by n core block _ old new disk = absurd disk

pub block_keeps : (n : Inst) (core : Core) (kind : BlockStep) (number : ℕ) (it : How) (old new : State) → BlockDisk n core kind number it old new
    → Keeps n (block_part n core kind number it) core (block_core n core kind number it) old new
unfolding block_part block_core BlockDisk
block_keeps n core block.Ask number it old new u =
    eases n (asked n number) core (ask_sent n core number) old new (asked_eases n number (lacked n number)) (sent_shared n core number (lacked n number)) (untouched_same old new u)
block_keeps n core block.Evict number it old new u =
    eases n (evicted n number) core (evict_sent n core number) old new (evicted_eases n number) (gave_shared n core number (clean_grant (place_at n.cache number).current)) (untouched_same old new u)
block_keeps n core block.WriteBlock number it old new u =
    write_keeps n core number (written_of it) old new (untouched_block number (bytes_to_write n number) (result_of (written_of it)) old new u)
block_keeps n core block.AskWrite number it old new u =
    eases n (write_asked n number) core (write_plea_sent n core number) old new (plea_eases n number) (plea_shared n core number (past_version n number)) (untouched_same old new u)
block_keeps n core block.GivePast number it old new u = rests n n core (given n core number) old new refl refl (untouched_same old new u)
block_keeps n core block.RecoverBlock number it old new u = recover_by n core number it old new u

-- an Install

data_untouched : (block : ℕ) (how : ReadData) (old new : State) → GaveAs block how old new → Untouched old new
data_untouched block (data_read.Image image) old new it = untouched_kept old new it.loads.told
data_untouched block data_read.Bad old new it = untouched_kept old new it.2.loads.told
data_untouched block data_read.Failed old new it = untouched_kept old new it.loads.told

-- an instance that ends after it has heard a message
stop_heard : (n k : Inst) (core c : Core) (bad : Bool) (old new : State) → own_of k ≡ own_of n → shared_of c ≡ shared_of core → Untouched old new
    → Keeps n (lost k) core (lost_core k c (loss.Ended bad) (Some 0)) old new
stop_heard n k core c bad old new own shared u =
    stops n (lost k) core (lost_core k c (loss.Ended bad) (Some 0)) old new (lost_is k ∙ ap lost_own own)
    (lost_shared k c (loss.Ended bad) (Some 0) ∙ ap (λ (s : Shared). left_shared s k.plan.me) shared ∙ ap (λ (o : OwnPart). left_shared (shared_of core) o.me) own) u

read_image : (n k : Inst) (core c : Core) (block grant : ℕ) (mode : Mode) (it : Installed) (old new : State) → own_of k ≡ own_of n → shared_of c ≡ shared_of core
    → InstallsAs (Some (Grant block grant mode true)) it old new
    → Keeps n (granted k block grant mode true it) core (granted_core k c block grant mode it) old new
read_image n k core c block grant mode (installed.Read (data_read.Image image)) old new own shared it =
    let m = with_image k block (Some (read_from_disk grant mode image.value)) in
    eases n m core (granted_core k c block grant mode (installed.Read (data_read.Image image))) old new (eased_then n k m (eased_where_same n k own) (read_eases k block grant mode image.value)) shared
    (data_untouched block (data_read.Image image) old new it)
read_image n k core c block grant mode (installed.Read data_read.Failed) old new own shared it = stop_heard n k core c false old new own shared (data_untouched block data_read.Failed old new it)
read_image n k core c block grant mode (installed.Read data_read.Bad) old new own shared it = stop_heard n k core c true old new own shared (data_untouched block data_read.Bad old new it)
read_image n k core c block grant mode installed.Calm old new own shared it = stop_heard n k core c true old new own shared (untouched_same old new it.1)

bring : (n k : Inst) (core c : Core) (o : Option Message) (it : Installed) (old new : State) → own_of k ≡ own_of n → shared_of c ≡ shared_of core → InstallsAs o it old new
    → Keeps n (brought k o it) core (brought_core k c o it) old new
bring n k core c (Some (Grant block grant mode true)) it old new own shared made = read_image n k core c block grant mode it old new own shared made
bring n k core c (Some (Grant block grant mode false)) it old new own shared made =
    let m = brought k (Some (Grant block grant mode false)) it in
    eases n m core (brought_core k c (Some (Grant block grant mode false)) it) old new (eased_then n k m (eased_where_same n k own) (upgraded_eases k block grant)) shared (untouched_same old new made)
bring n k core c (Some (Shipped shipment)) it old new own shared made =
    let m = brought k (Some (Shipped shipment)) it in
    eases n m core (brought_core k c (Some (Shipped shipment)) it) old new (eased_then n k m (eased_where_same n k own) (shipped_eases k shipment)) shared (untouched_same old new made)
bring n k core c o it old new own shared made = rests n k core c old new own shared (untouched_same old new made)

-- what an instance has of what it heard

-- an instance that has taken what is first on a link
hears_then : (n m : Inst) (core : Core) (from : ℕ) (lane : Lane) → Eased (hears n core from lane) m → Eased n m
hears_then n m core from lane eased = eased_then n (hears n core from lane) m (eased_where_same n (hears n core from lane) refl) eased

hearing_own : (n : Inst) (epoch from : ℕ) (message : Message) → own_of (hearing n epoch from message) ≡ own_of n
hearing_own n epoch from (Commit c) = refl
hearing_own n epoch from (Heard c) = refl
hearing_own n epoch from _ = refl

heard_own : (n : Inst) (epoch from : ℕ) (o : Option Packet) → own_of (hearing_packet n epoch from o) ≡ own_of n
heard_own n epoch from None = refl
heard_own n epoch from (Some packet) = hearing_own (record n { clock = raised n.clock packet.scn }) epoch from packet.message

bucket_own : (n : Inst) (message : Message) → own_of (taking_bucket n message) ≡ own_of n
bucket_own n (Bucket bucket entries) = refl
bucket_own n _ = refl

taken_own : (n : Inst) (o : Option Packet) → own_of (taking_packet n o) ≡ own_of n
taken_own n None = refl
taken_own n (Some packet) = bucket_own (record n { clock = raised n.clock packet.scn }) packet.message

moved_own : (n : Inst) (o : Option BucketMove) → own_of (with_moved n o) ≡ own_of n
moved_own n None = refl
moved_own n (Some it) = refl

-- What a step with a thread asks.
abbrev pub ThreadMay : Inst → Core → InstStep → ℕ → Type 0
ThreadMay n core inst.ReadThread thread = (thread < 8) × (open_in (shared_of core) thread ≡ false)
ThreadMay n core inst.CloseThread thread = (thread < 8) × (open_in (shared_of core) thread ≡ false) × (n.leading.recovering.epoch ≡ core.members.epoch)
ThreadMay n core _ thread = Unit {0}

pub inst_keeps : (n : Inst) (core : Core) (kind : InstStep) (from : ℕ) (it : How) (old new : State) → ThreadMay n core kind from → InstDisk n core kind from it old new
    → Keeps n (inst_part n core kind from it) core (inst_core n core kind from it) old new
unfolding inst_part inst_core InstDisk
inst_keeps n core inst.MasterTake from it old new may u =
    rests n (master_taken n core from) core (master_sent n core from) old new refl (master_shared (hears n core from Main) (heard n core from Main) (first_message n core from Main)) (untouched_same old new u)
inst_keeps n core inst.Invalidate from it old new may u =
    eases n (invalidated n core from) core (invalidate_sent n core from) old new
    (hears_then n (invalidated n core from) core from Main (without_eases (hears n core from Main) (first_to_go n core from)))
    (gone_shared (hears n core from Main) (heard n core from Main) (first_to_go n core from)) (untouched_same old new u)
inst_keeps n core inst.Ship from it old new may u =
    eases n (ship_part n core from) core (ship_sent n core from) old new
    (hears_then n (ship_part n core from) core from Main (followed_eases (hears n core from Main) (first_order n core from)))
    (ship_shared n (hears n core from Main) (heard n core from Main) (first_order n core from)) (untouched_same old new u)
inst_keeps n core inst.ServeCopy from it old new may u =
    rests n (hears n core from Main) core (copy_sent n core from) old new refl (copy_shared (hears n core from Main) (heard n core from Main) (first_copy_order n core from)) (untouched_same old new u)
inst_keeps n core inst.DropPast from it old new may u =
    eases n (past_dropped n core from) core (past_sent n core from) old new (past_eases n core from) (past_shared (hears n core from Main) (heard n core from Main) (first_past_order n core from)) (untouched_same old new u)
inst_keeps n core inst.Install from it old new may u =
    bring n (hears n core from Main) core (heard n core from Main) (first_message n core from Main) (installed_of it) old new refl refl u
inst_keeps n core inst.TakeCopy from it old new may u =
    eases n (copy_taken n core from Main) core (heard n core from Main) old new
    (hears_then n (copy_taken n core from Main) core from Main (came_eases (hears n core from Main) (first_message n core from Main))) refl (untouched_same old new u)
inst_keeps n core inst.TakeUndo from it old new may u =
    eases n (copy_taken n core from UndoLane) core (heard n core from UndoLane) old new
    (hears_then n (copy_taken n core from UndoLane) core from UndoLane (came_eases (hears n core from UndoLane) (first_message n core from UndoLane))) refl (untouched_same old new u)
inst_keeps n core inst.ServeUndo from it old new may u =
    rests n (hears n core from UndoLane) core (undo_sent n core from) old new refl (undo_shared (hears n core from UndoLane) (heard n core from UndoLane) from (first_undo_order n core from)) (untouched_same old new u)
inst_keeps n core inst.Heard from it old new may u =
    rests n (news_heard n core from) core (heard_core n core from) old new (heard_own n core.members.epoch from (first_from core from n.plan.me Main))
    (hear_shared (without_first core from n.plan.me Main) n.plan.me (news_heard n core from).clock.scn from (first_from core from n.plan.me Main)) (untouched_same old new u)
inst_keeps n core inst.TakeBucket from it old new may u =
    rests n (bucket_taken n core from) core (bucket_taken_core n core from) old new (taken_own n (first_from core from n.plan.me Main))
    (note_shared (without_first core from n.plan.me Main) n.plan.me (first_from core from n.plan.me Main)) (untouched_same old new u)
inst_keeps n core inst.ReadThread thread it old new may u = read_keeps n core thread (found_of it) old new may.0 may.1 u
inst_keeps n core inst.CloseThread thread it old new may u = close_keeps n core thread (closing_of it) old new may.0 may.1 may.2 u

-- control lines

-- What a step for a control line asks.
abbrev pub LineMay : Inst → Core → LineStep → Type 0
LineMay n core line.Crash = is_live core n.plan.me ≡ true
LineMay n core line.Checkpoint = (is_live core n.plan.me ≡ true) × (core.members.phase ≡ phase.Running)
LineMay n core line.Join = JoinMay n core
LineMay n core _ = Unit {0}

join_by : (n : Inst) (core : Core) (number : ℕ) (it : How) (old new : State) → JoinMay n core → JoinedAs (begun n core number) core it old new
    → Keeps n (joined_by n core number it) core (joined_core_by n core number it) old new
join_by n core number (how.Joined it) old new may made = join_keeps n core number it old new may made
join_by n core number _ old new may made = absurd made

pub line_keeps : (n : Inst) (core : Core) (kind : LineStep) (number : ℕ) (it : How) (old new : State) → LineMay n core kind → LineDisk n core kind number it old new
    → Keeps n (line_part n core kind number it) core (line_core n core kind number it) old new
unfolding line_part line_core LineDisk
line_keeps n core line.Crash number it old new may u = crash_keeps n core (open_control core number) (crashed_of it) old new may u
line_keeps n core line.SendBucket number it old new may u =
    rests n (bucket_sent n core number) core (bucket_sent_core n core number) old new (moved_own n (moved_by core number)) (send_shared n core (moved_by core number)) (untouched_same old new u)
line_keeps n core line.KeepBucket number it old new may u = rests n n core (bucket_kept core number) old new refl (move_shared core (open_control core number)) (untouched_same old new u)
line_keeps n core line.Checkpoint number it old new may u = check_keeps n core number (written_of it) old new may.0 may.1 u
line_keeps n core line.Skip number it old new may u = rests n n core (skipped core number) old new refl (skip_shared core (open_control core number)) (untouched_same old new u)
line_keeps n core line.Join number it old new may u = join_by n core number it old new may u

-- an instance alone

-- What a step about an instance alone asks.
abbrev pub PlainMay : Inst → Core → PlainStep → Type 0
PlainMay n core plain.Force = is_live core n.plan.me ≡ true
PlainMay n core plain.Thaw = ThawMay n core
PlainMay n core plain.Reopen = (core.members.phase ≡ phase.Thawed) × (list_all is_done n.leading.adopted ≡ true)
PlainMay n core plain.Resume = (is_live core n.plan.me ≡ true) × (core.members.phase ≡ phase.Running)
PlainMay n core _ = Unit {0}

reopen_keeps : (n : Inst) (core : Core) (old new : State) → core.members.phase ≡ phase.Thawed → list_all is_done n.leading.adopted ≡ true → Untouched old new → Keeps n (reopened n) core (reopened_core core) old new
reopen_keeps n core old new thawed done u owns i at small holds =
    held n (reopened n) core (reopened_core core) old new owns i u holds (λ f logs. (
    let s : Shared = record (shared_of core) { phase = phase.Running } in
    let again = reopened_again (shared_of core) f owns logs thawed in
    let here = again.each i (own_of n) at in
    let p : OwnPart = record (own_of n) { places = places_of (reopened n); adopts = 0 } in
    own_moved s f owns i p again (own_kept s f i (own_of n) p here refl refl (reopened_fewer n done) (λ cl. ((here.idle cl).up, refl)) here.epoch here.reads)))

resume_keeps : (n : Inst) (core : Core) (old new : State) → is_live core n.plan.me ≡ true → core.members.phase ≡ phase.Running → Untouched old new
    → Keeps n (resumed n core) core (resumed_core n core) old new
resume_keeps n core old new live running u owns i at small holds =
    held n (resumed n core) core (resumed_core n core) old new owns i u holds (λ f logs. (
    let s = shared_of core in
    let here = logs.each i (own_of n) at in
    let me = here.names.0 in
    let none = no_former s logs.members (λ e. (let no : phase.Running ≡ phase.Frozen = sym running ∙ e in absurd (cc))) i in
    let lives : has s.live i ≡ true = ap (has s.live) (sym me) ∙ live in
    let opens : open_in s i ≡ true = (λ k. lives k && not (none k)) in
    own_moved s f owns i (own_of (resumed n core)) logs
    (own_kept s f i (own_of n) (own_of (resumed n core)) here refl refl (taken_fewer n core) (λ cl. absurd (no_way (open_in s i) opens cl)) here.epoch here.reads)))

thaw_by : (n : Inst) (core : Core) (it : How) (old new : State) → ThawMay n core → ThawedAs n core it old new → Keeps n (thawed_by n core it) core (thawed_core_by n core it) old new
thaw_by n core (how.Thawed it) old new may made = thaw_keeps n core it old new may made
thaw_by n core _ old new may made = absurd made

pub plain_keeps : (n : Inst) (core : Core) (kind : PlainStep) (it : How) (old new : State) → PlainMay n core kind → PlainDisk n core kind it old new
    → Keeps n (plain_part n core kind it) core (plain_core n core kind it) old new
unfolding plain_part plain_core PlainDisk
plain_keeps n core plain.Enter it old new may u = rests n (entered n core) core (entered_core n core) old new refl refl (untouched_same old new u)
plain_keeps n core plain.Force it old new may u = force_keeps n core (forced_of it) old new may u
plain_keeps n core plain.Report it old new may u = eases n (reported n) core (reported_core n core) old new (reported_eases n) refl (untouched_same old new u)
plain_keeps n core plain.Thaw it old new may u = thaw_by n core it old new may u
plain_keeps n core plain.Reopen it old new may u = reopen_keeps n core old new may.0 may.1 (untouched_same old new u)
plain_keeps n core plain.Resume it old new may u = resume_keeps n core old new may.0 may.1 (untouched_same old new u)
plain_keeps n core plain.Leave it old new may u = rests n n core (left n core) old new refl refl (untouched_same old new u)
plain_keeps n core plain.Wave it old new may u = rests n n core (risen core) old new refl refl (untouched_same old new u)
