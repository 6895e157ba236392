-- What the journal is after each step that tells something.
use Rattle.std.proofs.Common.{◌≡◌, ℕ, ◌+◌, Bool, true, false, List, [], ◌∷◌, ◌++◌, ◌∙◌, refl, ap, sym, append_assoc, Option, None, Some}
use Rattle.std.specs.Prelude.{◌==◌, if◌then◌else◌}
use Rattle.journal.specs.declared.entry.Entry.{Entry}
use Rattle.journal.specs.declared.entry.Entry.TheVariants as entry
use Rattle.inst_set.specs.declared.set.InstSet.{InstSet}
use Rattle.inst_set.specs.Sets.{is_empty}
use Rattle.redo_types.specs.declared.redo.Redo.{Redo}
use Rattle.redo_record.specs.Redo.{length_of}
use Rattle.wire_net.specs.declared.message.Lane.TheVariants.{Main}
use Rattle.wire_net.specs.declared.message.Message.{Message}
use Rattle.wire_net.specs.declared.message.Message.TheVariants.{Bucket, Grant, NeedUndo, Shipped}
use Rattle.wire_net.specs.declared.message.Mode.{Mode}
use Rattle.wire_net.specs.declared.message.Packet.{Packet}
use Rattle.inst_state.specs.declared.control.Control.{Control}
use Rattle.inst_state.specs.declared.inst.Inst.{Inst}
use Rattle.inst_state.specs.declared.inst.Life.{Life}
use Rattle.inst_state.specs.declared.inst.Life.TheVariants.{Joining}
use Rattle.inst_state.specs.declared.inst.WaitingEnd.{WaitingEnd}
use Rattle.inst_state.specs.declared.plan.Opening.{Opening}
use Rattle.inst_state.specs.declared.session.Ending.{Ending}
use Rattle.inst_state.specs.declared.shared.Core.{Core}
use Rattle.inst_state.specs.Sending.{first_from, without_first}
use Rattle.inst_state.specs.Shared.{answering, is_live, open_control}
use Rattle.inst_state.specs.State.{stmt_at}
use Rattle.image_steps.specs.Hear.{first_message, heard, hears}
use Rattle.image_steps.specs.Sends.{sends}
use Rattle.inst_loss.specs.declared.ends.Loss.TheVariants as loss
use Rattle.disk_calls.specs.declared.appends.Appended.{Appended}
use Rattle.disk_calls.specs.declared.appends.Appended.TheVariants.{Cut, Whole}
use Rattle.disk_calls.specs.declared.images.ReadData.TheVariants as data_read
use Rattle.disk_calls.specs.declared.images.ReadUndo.TheVariants as undo_read
use Rattle.disk_calls.specs.declared.writes.Written.{Written}
use Rattle.disk_calls.specs.declared.writes.Written.TheVariants as written
use Rattle.disk_steps.specs.AskUndo.{asked_by_core, asked_core, lacking, place_of, undo_ask_told, undo_read_core}
use Rattle.disk_steps.specs.Checkpoint.{checkpoint_told}
use Rattle.disk_steps.specs.Crash.{crash_told, crash_told_by, crash_told_if, kept_to}
use Rattle.disk_steps.specs.Force.{commit_told, force_told}
use Rattle.disk_steps.specs.Install.{brought_core, granted_core, install_told}
use Rattle.disk_steps.specs.Write.{target, write_told}
use Rattle.disk_steps.specs.declared.crashes.Kept.{Kept}
use Rattle.disk_steps.specs.declared.crashes.Kept.TheVariants.{Bytes, Nothing}
use Rattle.disk_steps.specs.declared.installs.Installed.{Installed}
use Rattle.disk_steps.specs.declared.installs.Installed.TheVariants as installed
use Rattle.disk_steps.specs.declared.undo_asks.AskedUndo.{AskedUndo}
use Rattle.disk_steps.specs.declared.undo_asks.AskedUndo.TheVariants as asked_for
use Rattle.disk_steps.specs.declared.undo_asks.Lacking.{Lacking}
use Rattle.disk_steps.specs.declared.undo_asks.Lacking.TheVariants.{Sense, Undo}
use Rattle.disk_steps.specs.declared.undo_asks.Place.{Place}
use Rattle.wave_steps.specs.Answers.{ack_told, acked_core}
use Rattle.wave_steps.specs.Buckets.{bucket_kept, bucket_taken_core, first_move, move_told, naming, noting_bucket, noting_packet}
use Rattle.wave_steps.specs.Enter.{entered_core, told_if, with_openings_told}
use Rattle.wave_steps.specs.News.{durable_ending}
use Rattle.wave_steps.specs.WaveEnd.{skipped, skipped_line}
use Rattle.report_steps.specs.Reopen.{bits_of, recovery_told, reopened_core, resumed_core, up_told}
use Rattle.thread_steps.specs.Close.{closed_core_as, closed_entry, read_of, thread_closed_core}
use Rattle.thread_steps.specs.Read.{is_news, log_entered, record_entered, records_entered, thread_read_core}
use Rattle.thread_steps.specs.declared.closes.Closing.{Closing}
use Rattle.thread_steps.specs.declared.closes.Closing.TheVariants as closing
use Rattle.thread_steps.specs.declared.found.Found.{Found}
use Rattle.thread_steps.specs.declared.found.Found.TheVariants as found
use Rattle.thread_steps.specs.declared.found.FoundLog.{FoundLog}
use Rattle.scn_clock.specs.declared.clock.Clock.{Clock}
use Rattle.undo_segment.specs.Segment.{SegmentState}
use Rattle.control_image.specs.declared.entry.ControlEntry.{ControlEntry}
use Rattle.rebuild_steps.specs.Ends.{ended}
use Rattle.rebuild_steps.specs.Join.{begun, came_in_core, read_in_core, with_segment}
use Rattle.rebuild_steps.specs.Open.{is_open, opened_core, scns_of}
use Rattle.rebuild_steps.specs.Recover.{recovered_core}
use Rattle.rebuild_steps.specs.Thaw.{dealt_core, opened_core_if, opened_part, opened_shared, thaw_core, thawed_core}
use Rattle.rebuild_steps.specs.Bound.{bound_of}
use Rattle.rebuild_steps.specs.declared.joins.Joined.{Joined}
use Rattle.rebuild_steps.specs.declared.joins.Joined.TheVariants as joined
use Rattle.rebuild_steps.specs.declared.opens.Opened.{Opened}
use Rattle.rebuild_steps.specs.declared.opens.Opened.TheVariants as thread
use Rattle.rebuild_steps.specs.declared.recovers.Recovered.{Recovered}
use Rattle.rebuild_steps.specs.declared.recovers.Recovered.TheVariants as recovered
use Rattle.rebuild_steps.specs.declared.thaws.Thawed.{Thawed}
use Rattle.rebuild_steps.specs.declared.thaws.Thawed.TheVariants as thawed
use Rattle.inst_node.specs.declared.hows.How.{How}
use Rattle.inst_node.specs.declared.hows.How.TheVariants as how
use Rattle.inst_node.specs.Moves.{joined_core_by, recovered_core_by, thawed_core_by}
use Rattle.run_laws.specs.Tells.{acked_tells, ask_at_tells, ask_tells, ask_tells_by, bucket_tells, checkpoint_tells, close_tells, crash_tells, crash_tells_by, force_tells, image_read_tells, install_tells, install_tells_by, join_tells, join_tells_by, log_tells, move_tells, packet_tells, read_tells, recover_tells, recover_tells_by, skip_tells, stop_tells, take_bucket_tells, thaw_tells, thaw_tells_by, undo_read_tells, write_tells}
use Rattle.run_laws.proofs.Folds.{fold_front, told_unless, told_where}
use Rattle.run_laws.proofs.Losses.{lost_journal}
use Rattle.run_laws.proofs.Sent.{written_quiet}

-- undo is asked for

undo_read_journal : (n : Inst) (core : Core) (it : AskedUndo) → (undo_read_core n core it).journal ≡ undo_read_tells n it ++ core.journal
undo_read_journal n core (asked_for.Read (undo_read.Head head)) = refl
undo_read_journal n core (asked_for.Read (undo_read.Block block)) = refl
undo_read_journal n core (asked_for.Read undo_read.Failed) = lost_journal n core (loss.Ended false) (Some 0)
undo_read_journal n core _ = lost_journal n core (loss.Ended true) (Some 0)

live_or_read : (live : Bool) (n : Inst) (core asked : Core) (it : AskedUndo) → asked.journal ≡ core.journal
    → (if live then asked else undo_read_core n core it).journal ≡ (if live then [] else undo_read_tells n it) ++ core.journal
live_or_read true n core asked it same = same
live_or_read false n core asked it same = undo_read_journal n core it

ask_at_journal : (n : Inst) (core : Core) (z : ℕ) (place : Option Place) (it : AskedUndo)
    → (asked_core n core z place it).journal ≡ ask_at_tells n core place it ++ core.journal
ask_at_journal n core z None it = lost_journal n core (loss.Ended true) (Some 0)
ask_at_journal n core z (Some place) it =
    live_or_read (is_live core place.seg) n core (sends n core place.seg (NeedUndo place.block z)) it refl

ask_by_journal : (n : Inst) (core : Core) (z : ℕ) (lack : Option Lacking) (it : AskedUndo)
    → (asked_by_core n core z lack it).journal ≡ ask_tells_by n core lack it ++ core.journal
ask_by_journal n core z None it = refl
ask_by_journal n core z (Some (Undo what)) it = ask_at_journal n core z (place_of n.plan.layout what) it
ask_by_journal n core z (Some Sense) it = lost_journal n core (loss.Ended true) (Some 0)

pub ask_journal : (n : Inst) (core : Core) (z : ℕ) (it : AskedUndo) → (undo_ask_told n core z it).journal ≡ ask_tells n core z it ++ core.journal
ask_journal n core z it = ask_by_journal n core z (lacking n z) it

-- an end is answered

ack_by_journal : (core : Core) (stmt : ℕ) (ending : Option Ending) → (ack_told core stmt ending).journal ≡ acked_tells stmt ending ++ core.journal
ack_by_journal core stmt None = refl
ack_by_journal core stmt (Some ending) = refl

pub ack_journal : (n : Inst) (core : Core) (z : ℕ) → (acked_core n core z).journal ≡ acked_tells (stmt_at n z) (durable_ending n z) ++ core.journal
ack_journal n core z = ack_by_journal core (stmt_at n z) (durable_ending n z)

-- a block is written, or rebuilt

pub write_journal : (n : Inst) (core : Core) (block : ℕ) (it : Written) → (write_told n core block it).journal ≡ write_tells n it ++ core.journal
write_journal n core block written.Done = written_quiet n core block (target n block)
write_journal n core block written.Failed = lost_journal n core (loss.Ended false) (Some 0)

recover_journal : (n : Inst) (core : Core) (block : ℕ) (it : Recovered) → (recovered_core n core block it).journal ≡ recover_tells n it ++ core.journal
recover_journal n core block (recovered.Done stood version) = refl
recover_journal n core block (recovered.Unwritten stood) = lost_journal n core (loss.Ended false) (Some 0)
recover_journal n core block (recovered.Unrolled stood) = lost_journal n core (loss.Ended true) (Some 0)
recover_journal n core block recovered.Bad = lost_journal n core (loss.Ended true) (Some 0)
recover_journal n core block recovered.Unread = lost_journal n core (loss.Ended false) (Some 0)

pub recover_by_journal : (n : Inst) (core : Core) (block : ℕ) (it : How) → (recovered_core_by n core block it).journal ≡ recover_tells_by n it ++ core.journal
recover_by_journal n core block (how.Recovered it) = recover_journal n core block it
recover_by_journal n core block _ = refl

-- an image is installed

image_read_journal : (n : Inst) (core : Core) (block grant : ℕ) (mode : Mode) (it : Installed)
    → (granted_core n core block grant mode it).journal ≡ image_read_tells n it ++ core.journal
image_read_journal n core block grant mode (installed.Read (data_read.Image image)) = refl
image_read_journal n core block grant mode (installed.Read data_read.Failed) = lost_journal n core (loss.Ended false) (Some 0)
image_read_journal n core block grant mode _ = lost_journal n core (loss.Ended true) (Some 0)

brought_journal : (n : Inst) (core : Core) (message : Option Message) (it : Installed)
    → (brought_core n core message it).journal ≡ install_tells_by n message it ++ core.journal
brought_journal n core (Some (Shipped shipment)) it = refl
brought_journal n core (Some (Grant block grant mode true)) it = image_read_journal n core block grant mode it
brought_journal n core (Some (Grant block grant mode false)) it = refl
brought_journal n core _ it = refl

pub install_journal : (n : Inst) (core : Core) (from : ℕ) (it : Installed) → (install_told n core from it).journal ≡ install_tells n core from it ++ core.journal
install_journal n core from it = brought_journal (hears n core from Main) (heard n core from Main) (first_message n core from Main) it

-- a bucket moves

move_journal : (core : Core) (control : Option Control) → (move_told core control).journal ≡ move_tells control ++ core.journal
move_journal core None = refl
move_journal core (Some control) = refl

bucket_journal : (core : Core) (me : ℕ) (message : Message) → (noting_bucket core me message).journal ≡ bucket_tells core me message ++ core.journal
bucket_journal core me (Bucket bucket entries) = move_journal (naming core bucket me) (first_move core bucket me)
bucket_journal core me _ = refl

packet_journal : (core : Core) (me : ℕ) (packet : Option Packet) → (noting_packet core me packet).journal ≡ packet_tells core me packet ++ core.journal
packet_journal core me None = refl
packet_journal core me (Some packet) = bucket_journal core me packet.message

pub bucket_taken_journal : (n : Inst) (core : Core) (from : ℕ) → (bucket_taken_core n core from).journal ≡ take_bucket_tells n core from ++ core.journal
bucket_taken_journal n core from =
    packet_journal (without_first core from n.plan.me Main) n.plan.me (first_from core from n.plan.me Main)

pub bucket_kept_journal : (core : Core) (line : ℕ) → (bucket_kept core line).journal ≡ move_tells (open_control core line) ++ core.journal
bucket_kept_journal core line = move_journal core (open_control core line)

-- a dead thread is read and closed

records_front : (thread at : ℕ) (records : List Redo) (core : Core) (es js : List Entry)
    → (records_entered thread at records (record core { journal = es ++ js })).journal
    ≡ (records_entered thread at records (record core { journal = es })).journal ++ js
records_front thread at [] core es js = refl
records_front thread at (redo ∷ records) core es js =
    let behind = at + length_of redo.kind in
    let news = is_news core thread behind redo in
    let enters : Entry = entry.Committed redo.xid redo.scn thread in
    let entered = record_entered thread behind redo core in
    ap (λ (it : List Entry). (records_entered thread behind records (record entered { journal = it })).journal) (told_where news enters es js)
    ∙ records_front thread behind records entered (if news then enters ∷ es else es) js

log_journal : (core : Core) (thread : ℕ) (log : FoundLog) → (log_entered core thread log).journal ≡ log_tells core thread log ++ core.journal
log_journal core thread log = records_front thread log.position log.read.records core [] core.journal

pub read_journal : (n : Inst) (core : Core) (thread : ℕ) (it : Found) → (thread_read_core n core thread it).journal ≡ read_tells n core thread it ++ core.journal
read_journal n core thread (found.Closed scns) = refl
read_journal n core thread (found.Unread bad) = lost_journal n core (loss.Ended bad) (Some 0)
read_journal n core thread (found.Stopped log bad) =
    lost_journal n (log_entered core thread log) (loss.Ended bad) (Some 0)
    ∙ ap (λ (js : List Entry). stop_tells n bad ++ js) (log_journal core thread log)
    ∙ sym (append_assoc (stop_tells n bad) (log_tells core thread log) core.journal)
read_journal n core thread (found.Whole log versions) = log_journal core thread log

closed_journal : (n : Inst) (core : Core) (thread : ℕ) (it : ControlEntry) (how : Closing) → (closed_core_as n core thread it how).journal ≡ close_tells n how ++ core.journal
closed_journal n core thread it closing.Done = refl
closed_journal n core thread it _ = lost_journal n core (loss.Ended false) (Some 0)

pub close_journal : (n : Inst) (core : Core) (thread : ℕ) (how : Closing) → (thread_closed_core n core thread how).journal ≡ close_tells n how ++ core.journal
close_journal n core thread how = closed_journal n core thread (closed_entry (read_of n thread)) how

-- an instance crashes

crash_by_journal : (n : Inst) (core : Core) (control : Control) (it : Kept) → (crash_told_by n core control it).journal ≡ crash_tells_by n control it ++ core.journal
crash_by_journal n core control Nothing = lost_journal n core (loss.Crashed control.line) (Some n.thread.durable)
crash_by_journal n core control (Bytes Whole) = lost_journal n core (loss.Crashed control.line) (Some (kept_to n control))
crash_by_journal n core control (Bytes (Cut kept)) = lost_journal n (answering core control.line) (loss.Ended false) kept

crash_if_journal : (n : Inst) (core : Core) (control : Option Control) (it : Kept) → (crash_told_if n core control it).journal ≡ crash_tells n control it ++ core.journal
crash_if_journal n core None it = refl
crash_if_journal n core (Some control) it = crash_by_journal n core control it

pub crash_journal : (n : Inst) (core : Core) (line : ℕ) (it : Kept) → (crash_told n core line it).journal ≡ crash_tells n (open_control core line) it ++ core.journal
crash_journal n core line it = crash_if_journal n core (open_control core line) it

-- a checkpoint ends, or a line finds nothing to do

pub checkpoint_journal : (n : Inst) (core : Core) (line : ℕ) (it : Written) → (checkpoint_told n core line it).journal ≡ checkpoint_tells n line it ++ core.journal
checkpoint_journal n core line written.Done = refl
checkpoint_journal n core line written.Failed = lost_journal n core (loss.Ended false) (Some 0)

skip_by_journal : (core : Core) (control : Option Control) → (skipped_line core control).journal ≡ skip_tells control ++ core.journal
skip_by_journal core None = refl
skip_by_journal core (Some control) = refl

pub skip_journal : (core : Core) (line : ℕ) → (skipped core line).journal ≡ skip_tells (open_control core line) ++ core.journal
skip_journal core line = skip_by_journal core (open_control core line)

-- an instance joins

read_in_journal : (n : Inst) (core : Core) (own : SegmentState) (scns : Clock) (it : Opened)
    → (read_in_core n core own scns it).journal ≡ (if is_open it then [] else stop_tells (with_segment n own scns it) false) ++ core.journal
read_in_journal n core own scns (thread.Running length) = refl
read_in_journal n core own scns (thread.Unwritten length) =
    lost_journal (with_segment n own scns (thread.Unwritten length)) (opened_core core n.plan.me (thread.Unwritten length)) (loss.Ended false) (Some 0)
read_in_journal n core own scns thread.Untold =
    lost_journal (with_segment n own scns thread.Untold) (opened_core core n.plan.me thread.Untold) (loss.Ended false) (Some 0)

join_journal : (n : Inst) (core : Core) (it : Joined) → (came_in_core n core it).journal ≡ join_tells n core it ++ core.journal
join_journal n core joined.Dark = refl
join_journal n core (joined.Read own it) = read_in_journal n core own.value (scns_of n core) it
join_journal n core joined.Bad = lost_journal n core (loss.Ended true) (Some 0)
join_journal n core joined.Unread = lost_journal n core (loss.Ended false) (Some 0)

pub join_by_journal : (n : Inst) (core : Core) (line : ℕ) (it : How) → (joined_core_by n core line it).journal ≡ join_tells_by n core line it ++ core.journal
join_by_journal n core line (how.Joined it) = join_journal (begun n core line) core it
join_by_journal n core line _ = refl

-- an instance enters a wave

opening_front : (me wave : ℕ) (es js : List Entry) (opening : Opening) → told_if me wave (es ++ js) opening ≡ told_if me wave es opening ++ js
opening_front me wave es js opening = told_where (opening.wave == wave) (entry.Opened opening.session me) es js

pub enter_journal : (n : Inst) (core : Core) → (entered_core n core).journal ≡ with_openings_told n core.waves.wave [] ++ core.journal
enter_journal n core =
    fold_front (told_if n.plan.me core.waves.wave) (opening_front n.plan.me core.waves.wave) n.plan.openings [] core.journal

-- redo is forced

commit_front : (me : ℕ) (es js : List Entry) (end : WaitingEnd) → commit_told me (es ++ js) end ≡ commit_told me es end ++ js
commit_front me es js end = told_where end.commit (entry.Committed end.xid end.scn me) es js

pub force_journal : (n : Inst) (core : Core) (it : Appended) → (force_told n core it).journal ≡ force_tells n it ++ core.journal
force_journal n core Whole = fold_front (commit_told n.plan.me) (commit_front n.plan.me) n.ends [] core.journal
force_journal n core (Cut kept) = lost_journal n core (loss.Ended false) kept

-- the cluster thaws

opened_journal : (core : Core) (me : ℕ) (it : Opened) → (opened_core core me it).journal ≡ core.journal
opened_journal core me thread.Untold = refl
opened_journal core me _ = refl

opened_if_journal : (core : Core) (me : ℕ) (it : Option Opened) → (opened_core_if core me it).journal ≡ core.journal
opened_if_journal core me None = refl
opened_if_journal core me (Some it) = opened_journal core me it

dealt_journal : (core : Core) (me : ℕ) (bound : Clock) → (dealt_core core me bound).journal ≡ core.journal
unfolding dealt_core
dealt_journal core me bound = refl

thaw_core_journal : (n : Inst) (core : Core) → (thaw_core n core).journal ≡ core.journal
thaw_core_journal n core = dealt_journal core n.plan.me (bound_of n core)

stopped_journal : (n : Inst) (core : Core) (opening : Option Opened) (bad : Bool)
    → (ended (opened_part n core opening) (opened_shared n core opening) bad).journal ≡ stop_tells (opened_part n core opening) bad ++ core.journal
stopped_journal n core opening bad =
    lost_journal (opened_part n core opening) (opened_shared n core opening) (loss.Ended bad) (Some 0)
    ∙ ap (λ (js : List Entry). stop_tells (opened_part n core opening) bad ++ js) (opened_if_journal core n.plan.me opening)

thaw_journal : (n : Inst) (core : Core) (it : Thawed) → (thawed_core n core it).journal ≡ thaw_tells n core it ++ core.journal
thaw_journal n core (thawed.Done opening owns) =
    thaw_core_journal (opened_part n core opening) (opened_shared n core opening) ∙ opened_if_journal core n.plan.me opening
thaw_journal n core (thawed.Unopened opening) = stopped_journal n core opening false
thaw_journal n core (thawed.Bad opening) = stopped_journal n core opening true
thaw_journal n core (thawed.Unread opening) = stopped_journal n core opening false

pub thaw_by_journal : (n : Inst) (core : Core) (it : How) → (thawed_core_by n core it).journal ≡ thaw_tells_by n core it ++ core.journal
thaw_by_journal n core (how.Thawed it) = thaw_journal n core it
thaw_by_journal n core _ = refl

-- the cluster runs again, and an instance goes on

recovery_front : (closed : InstSet) (js : List Entry) → recovery_told closed js ≡ recovery_told closed [] ++ js
recovery_front closed js = told_unless (is_empty closed) (entry.Recovered (bits_of closed)) [] js

pub reopen_journal : (core : Core) → (reopened_core core).journal ≡ recovery_told core.recovery.closed_since [] ++ core.journal
reopen_journal core = recovery_front core.recovery.closed_since core.journal

up_front : (me : ℕ) (life : Life) (js : List Entry) → up_told me life js ≡ up_told me life [] ++ js
up_front me (Joining line) js = refl
up_front me _ js = refl

pub resume_journal : (n : Inst) (core : Core) → (resumed_core n core).journal ≡ up_told n.plan.me n.life [] ++ core.journal
resume_journal n core = up_front n.plan.me n.life core.journal
