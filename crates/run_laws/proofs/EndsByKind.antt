-- Each step tells of one end at most, and only after a fault that was counted, or of what no run leaves on the disk.
use Rattle.std.proofs.Common.{◌≡◌, ℕ, Bool, true, false, List, [], ◌∷◌, refl, Option, None, Some}
use Rattle.std.specs.Prelude.{◌==◌, if◌then◌else◌}
use Rattle.base_types.specs.declared.names.RowNo.{RowNo}
use Rattle.base_types.specs.declared.value.Value.{Value}
use Rattle.redo_types.specs.declared.redo.Redo.{Redo}
use Rattle.redo_types.specs.declared.redo.RedoKind.{RedoKind}
use Rattle.redo_types.specs.declared.redo.RedoKind.TheVariants as kind
use Rattle.rac_disk.specs.State.{State}
use Rattle.journal.specs.declared.entry.Entry.{Entry}
use Rattle.journal.specs.declared.entry.Entry.TheVariants as entry
use Rattle.inst_set.specs.declared.set.InstSet.{InstSet}
use Rattle.inst_set.specs.Sets.{is_empty}
use Rattle.wire_net.specs.declared.message.Lane.TheVariants.{Main}
use Rattle.wire_net.specs.declared.message.Message.{Message}
use Rattle.wire_net.specs.declared.message.Message.TheVariants.{Bucket}
use Rattle.wire_net.specs.declared.message.Packet.{Packet}
use Rattle.txn_engine.specs.declared.ask.Decision.{Decision}
use Rattle.txn_engine.specs.declared.ask.Decision.TheVariants as decision
use Rattle.cr_copy.specs.declared.made.Made.{Made}
use Rattle.cr_copy.specs.declared.made.Made.TheVariants as made
use Rattle.inst_state.specs.declared.control.Control.{Control}
use Rattle.inst_state.specs.declared.inst.Inst.{Inst}
use Rattle.inst_state.specs.declared.inst.Life.{Life}
use Rattle.inst_state.specs.declared.inst.Life.TheVariants.{Joining}
use Rattle.inst_state.specs.declared.plan.Opening.{Opening}
use Rattle.inst_state.specs.declared.session.Ending.{Ending}
use Rattle.inst_state.specs.declared.session.Session.{Session as SessionState}
use Rattle.inst_state.specs.declared.shared.Core.{Core}
use Rattle.inst_state.specs.Sending.{first_from, without_first}
use Rattle.inst_state.specs.Shared.{open_control}
use Rattle.inst_state.specs.State.{asks_at, session_at, stmt_at}
use Rattle.stmt_steps.specs.declared.answers.Answer.{Answer}
use Rattle.stmt_steps.specs.declared.answers.Answer.TheVariants as answer
use Rattle.stmt_steps.specs.declared.visits.RowRange.{RowRange}
use Rattle.stmt_steps.specs.Back.{back_decided, back_tells, dead_back_decided, record_of, undone}
use Rattle.stmt_steps.specs.Change.{change_decided, change_tells, decision_tells, record_tells, row_of}
use Rattle.stmt_steps.specs.End.{answer_at, tells_if}
use Rattle.stmt_steps.specs.Mark.{commits, dead_end_decided, dead_tells_by, end_decided, end_kind, end_tells, mark_tells, tells_by}
use Rattle.stmt_steps.specs.Visit.{is_last, range_of, read_made, rows_so_far, rows_told, told_by, visit_tells}
use Rattle.image_steps.specs.Hear.{first_message, hears}
use Rattle.disk_steps.specs.AskUndo.{lacking}
use Rattle.disk_steps.specs.Checkpoint.{bytes_of_entry, entry_now}
use Rattle.disk_steps.specs.Crash.{bytes_if}
use Rattle.disk_steps.specs.Write.{bytes_to_write}
use Rattle.wave_steps.specs.Buckets.{first_move}
use Rattle.wave_steps.specs.Enter.{told_if, with_openings_told}
use Rattle.wave_steps.specs.News.{durable_ending}
use Rattle.report_steps.specs.Reopen.{bits_of, recovery_told, up_told}
use Rattle.thread_steps.specs.Close.{closed_entry, read_of}
use Rattle.inst_node.specs.declared.actions.Action.{Action}
use Rattle.inst_node.specs.declared.actions.Action.TheVariants.{Block, Dead, Inst as OfInst, Line, Plain, Session}
use Rattle.inst_node.specs.declared.actions.BlockStep.{BlockStep}
use Rattle.inst_node.specs.declared.actions.BlockStep.TheVariants as block
use Rattle.inst_node.specs.declared.actions.DeadStep.{DeadStep}
use Rattle.inst_node.specs.declared.actions.DeadStep.TheVariants as dead
use Rattle.inst_node.specs.declared.actions.InstStep.{InstStep}
use Rattle.inst_node.specs.declared.actions.InstStep.TheVariants as inst
use Rattle.inst_node.specs.declared.actions.LineStep.{LineStep}
use Rattle.inst_node.specs.declared.actions.LineStep.TheVariants as line
use Rattle.inst_node.specs.declared.actions.PlainStep.{PlainStep}
use Rattle.inst_node.specs.declared.actions.PlainStep.TheVariants as plain
use Rattle.inst_node.specs.declared.actions.SessionStep.{SessionStep}
use Rattle.inst_node.specs.declared.actions.SessionStep.TheVariants as session
use Rattle.inst_node.specs.declared.hows.How.{How}
use Rattle.inst_node.specs.Moves.{BlockDisk, DiskAfter, DiskOf, InstDisk, LineDisk, PlainDisk, SessionDisk, asked_undo_of, closing_of, counted, crashed_of, forced_of, found_of, installed_of, prepared, written_of}
use Rattle.run_laws.specs.Ends.{IsEndCounted, ends_in}
use Rattle.run_laws.specs.Tells.{acked_tells, block_tells, bucket_tells, dead_tells, inst_tells, line_tells, move_tells, packet_tells, plain_tells, session_tells, skip_tells, take_bucket_tells, tells, tells_of}
use Rattle.run_laws.proofs.Counts.{same_later}
use Rattle.run_laws.proofs.EndLists.{bad_stop, fold_ends, unless_ends, where_ends}
use Rattle.run_laws.proofs.EndSteps.{ask_ends, checkpoint_ends, close_ends, crash_ends_by, force_ends, install_ends, join_ends, read_ends, recover_ends, still, thaw_ends, write_ends}

-- what tells of no end

rows_ends : (stmt : ℕ) (range : RowRange) (values : List Value) (s : SessionState) → ends_in (rows_told stmt range values s) ≡ 0
rows_ends stmt range values s = where_ends (is_last range s) (entry.Rows stmt (rows_so_far range values s)) [] refl

read_ends_by : (stmt : ℕ) (range : RowRange) (it : Option Made) (s : SessionState) → ends_in (told_by stmt range it s) ≡ 0
read_ends_by stmt range (Some (made.Rows values)) s = rows_ends stmt range values s
read_ends_by stmt range (Some (made.TooOld why)) s = refl
read_ends_by stmt range _ s = refl

visit_ends : (n : Inst) (z : ℕ) → ends_in (visit_tells n z) ≡ 0
visit_ends n z = read_ends_by (stmt_at n z) (range_of (asks_at n z)) (read_made n z) (session_at n z)

record_ends : (stmt : ℕ) (row : RowNo) (redo : Redo) (is : RedoKind) → ends_in (record_tells stmt row redo is ∷ []) ≡ 0
record_ends stmt row redo kind.Lock = refl
record_ends stmt row redo _ = refl

decision_ends : (n : Inst) (z : ℕ) (it : Option Decision) → ends_in (decision_tells n z it) ≡ 0
decision_ends n z (Some (decision.Do redo)) = record_ends (stmt_at n z) (row_of (asks_at n z)) redo redo.kind
decision_ends n z (Some (decision.Refuse cause)) = refl
decision_ends n z (Some (decision.Restart end)) = refl
decision_ends n z (Some decision.AlreadyMine) = refl
decision_ends n z _ = refl

change_ends : (n : Inst) (z : ℕ) → ends_in (change_tells n z) ≡ 0
change_ends n z = decision_ends n z (change_decided n z)

mark_ends_as : (stmt : ℕ) (redo : Redo) (commits : Bool) → ends_in (end_tells stmt redo commits ∷ []) ≡ 0
mark_ends_as stmt redo true = refl
mark_ends_as stmt redo false = refl

mark_ends_by : (n : Inst) (z : ℕ) (it : Option Redo) → ends_in (tells_by n z it) ≡ 0
mark_ends_by n z None = refl
mark_ends_by n z (Some redo) = mark_ends_as (stmt_at n z) redo (commits (end_kind n z))

mark_ends : (n : Inst) (z : ℕ) → ends_in (mark_tells n z) ≡ 0
mark_ends n z = mark_ends_by n z (end_decided n z)

undone_ends : (it : Option Redo) (left : ℕ) → ends_in (undone it left) ≡ 0
undone_ends None left = refl
undone_ends (Some redo) left = refl

back_ends : (n : Inst) (z : ℕ) → ends_in (back_tells n z) ≡ 0
back_ends n z = undone_ends (record_of (back_decided n z)) _

answer_ends : (stmt : ℕ) (it : Option Answer) → ends_in (tells_if stmt it) ≡ 0
answer_ends stmt None = refl
answer_ends stmt (Some answer.Plain) = refl
answer_ends stmt (Some answer.NoSavepoint) = refl
answer_ends stmt (Some answer.NotConnected) = refl

dead_mark_ends_by : (it : Option Redo) → ends_in (dead_tells_by it) ≡ 0
dead_mark_ends_by None = refl
dead_mark_ends_by (Some redo) = refl

ack_ends_as : (stmt : ℕ) (ending : Ending) (commit : Bool) → ends_in ((if commit then entry.Acked stmt ending.xid ending.scn else entry.Plain stmt) ∷ []) ≡ 0
ack_ends_as stmt ending true = refl
ack_ends_as stmt ending false = refl

ack_ends : (stmt : ℕ) (ending : Option Ending) → ends_in (acked_tells stmt ending) ≡ 0
ack_ends stmt None = refl
ack_ends stmt (Some ending) = ack_ends_as stmt ending ending.commit

move_ends : (control : Option Control) → ends_in (move_tells control) ≡ 0
move_ends None = refl
move_ends (Some control) = refl

bucket_ends : (core : Core) (me : ℕ) (message : Message) → ends_in (bucket_tells core me message) ≡ 0
bucket_ends core me (Bucket bucket entries) = move_ends (first_move core bucket me)
bucket_ends core me _ = refl

packet_ends : (core : Core) (me : ℕ) (packet : Option Packet) → ends_in (packet_tells core me packet) ≡ 0
packet_ends core me None = refl
packet_ends core me (Some packet) = bucket_ends core me packet.message

take_bucket_ends : (n : Inst) (core : Core) (from : ℕ) → ends_in (take_bucket_tells n core from) ≡ 0
take_bucket_ends n core from = packet_ends (without_first core from n.plan.me Main) n.plan.me (first_from core from n.plan.me Main)

skip_ends : (control : Option Control) → ends_in (skip_tells control) ≡ 0
skip_ends None = refl
skip_ends (Some control) = refl

opening_ends : (me wave : ℕ) (es : List Entry) (opening : Opening) → ends_in (told_if me wave es opening) ≡ ends_in es
opening_ends me wave es opening = where_ends (opening.wave == wave) (entry.Opened opening.session me) es refl

enter_ends : (n : Inst) (wave : ℕ) → ends_in (with_openings_told n wave []) ≡ 0
enter_ends n wave = fold_ends (told_if n.plan.me wave) (opening_ends n.plan.me wave) n.plan.openings []

reopen_ends : (closed : InstSet) → ends_in (recovery_told closed []) ≡ 0
reopen_ends closed = unless_ends (is_empty closed) (entry.Recovered (bits_of closed)) [] refl

up_ends : (me : ℕ) (life : Life) → ends_in (up_told me life []) ≡ 0
up_ends me (Joining line) = refl
up_ends me _ = refl

-- by kind

session_ends : (n : Inst) (core : Core) (kind : SessionStep) (z : ℕ) (it : How) (old new : State) → SessionDisk n core kind z it old new
    → IsEndCounted (session_tells n core kind z it) old new
unfolding SessionDisk session_tells
session_ends n core session.StartStmt z it old new d = still _ old new d refl
session_ends n core session.Visit z it old new d = still _ old new d (visit_ends n z)
session_ends n core session.Change z it old new d = still _ old new d (change_ends n z)
session_ends n core session.Mark z it old new d = still _ old new d (mark_ends n z)
session_ends n core session.StepBack z it old new d = still _ old new d (back_ends n z)
session_ends n core session.EndStmt z it old new d = still _ old new d (answer_ends (stmt_at n z) (answer_at n z))
session_ends n core session.AskUndo z it old new d = ask_ends n core (lacking n z) (asked_undo_of it) old new d
session_ends n core session.Broadcast z it old new d = still [] old new d refl
session_ends n core session.Ack z it old new d = still _ old new d (ack_ends (stmt_at n z) (durable_ending n z))

dead_ends : (n : Inst) (kind : DeadStep) (old new : State) → new ≡ old → IsEndCounted (dead_tells n kind) old new
unfolding dead_tells
dead_ends n dead.Mark old new d = still _ old new d (dead_mark_ends_by (dead_end_decided n))
dead_ends n dead.StepBack old new d = still _ old new d (undone_ends (record_of (dead_back_decided n)) 0)
dead_ends n dead.AskUndo old new d = bad_stop n (Some 0) old new (same_later old new d)

block_ends : (n : Inst) (core : Core) (kind : BlockStep) (number : ℕ) (it : How) (old new : State) → BlockDisk n core kind number it old new
    → IsEndCounted (block_tells n kind it) old new
unfolding BlockDisk block_tells
block_ends n core block.WriteBlock number it old new d = write_ends n number (bytes_to_write n number) (written_of it) old new d
block_ends n core block.RecoverBlock number it old new d = recover_ends n core number it old new d
block_ends n core _ number it old new d = still [] old new d refl

inst_ends : (n : Inst) (core : Core) (kind : InstStep) (from : ℕ) (it : How) (old new : State) → InstDisk n core kind from it old new
    → IsEndCounted (inst_tells n core kind from it) old new
unfolding InstDisk inst_tells
inst_ends n core inst.Install from it old new d =
    install_ends (hears n core from Main) (first_message n core from Main) (installed_of it) old new d
inst_ends n core inst.TakeBucket from it old new d = still _ old new d (take_bucket_ends n core from)
inst_ends n core inst.ReadThread from it old new d = read_ends n core core.layout from (found_of it) old new d
inst_ends n core inst.CloseThread from it old new d = close_ends n from (closed_entry (read_of n from)) (closing_of it) old new d
inst_ends n core _ from it old new d = still [] old new d refl

line_ends : (n : Inst) (core : Core) (kind : LineStep) (number : ℕ) (it : How) (old new : State) → LineDisk n core kind number it old new
    → IsEndCounted (line_tells n core kind number it) old new
unfolding LineDisk line_tells
line_ends n core line.Crash number it old new d =
    crash_ends_by n (open_control core number) n.plan.me (bytes_if n (open_control core number)) (crashed_of it) old new d
line_ends n core line.SendBucket number it old new d = still [] old new d refl
line_ends n core line.KeepBucket number it old new d = still _ old new d (move_ends (open_control core number))
line_ends n core line.Checkpoint number it old new d =
    checkpoint_ends n number n.plan.me (bytes_of_entry (entry_now n)) (written_of it) old new d
line_ends n core line.Skip number it old new d = still _ old new d (skip_ends (open_control core number))
line_ends n core line.Join number it old new d = join_ends n core number it old new d

plain_ends : (n : Inst) (core : Core) (kind : PlainStep) (it : How) (old new : State) → PlainDisk n core kind it old new
    → IsEndCounted (plain_tells n core kind it) old new
unfolding PlainDisk plain_tells
plain_ends n core plain.Enter it old new d = still _ old new d (enter_ends n core.waves.wave)
plain_ends n core plain.Force it old new d = force_ends n n.thread n.plan.me (forced_of it) old new d
plain_ends n core plain.Thaw it old new d = thaw_ends n core it old new d
plain_ends n core plain.Reopen it old new d = still _ old new d (reopen_ends core.recovery.closed_since)
plain_ends n core plain.Resume it old new d = still _ old new d (up_ends n.plan.me n.life)
plain_ends n core _ it old new d = still [] old new d refl

ends_of : (n : Inst) (core : Core) (action : Action) (it : How) (old new : State) → DiskOf n core action it old new
    → IsEndCounted (tells_of n core action it) old new
ends_of n core (Session kind z) it old new d = session_ends n core kind z it old new d
ends_of n core (Dead kind job) it old new d = dead_ends n kind old new d
ends_of n core (Block kind number) it old new d = block_ends n core kind number it old new d
ends_of n core (OfInst kind from) it old new d = inst_ends n core kind from it old new d
ends_of n core (Line kind number) it old new d = line_ends n core kind number it old new d
ends_of n core (Plain kind) it old new d = plain_ends n core kind it old new d

-- what a step tells of ends
pub step_ends : (n : Inst) (core : Core) (action : Action) (it : How) (old new : State) → DiskAfter n core action it old new
    → IsEndCounted (tells n core action it) old new
step_ends n core action it old new d = ends_of (prepared n core action) (counted core n.plan.me action) action it old new d
