-- What a step tells, by its kind: the entries that it adds to the journal, the newest first.
use Rattle.std.specs.Prelude.{ℕ, if◌then◌else◌, true, false, Bool, List, [], ◌∷◌, ◌++◌, fold, Option, None, Some}
use Rattle.journal.specs.declared.entry.Entry.{Entry}
use Rattle.journal.specs.declared.entry.Entry.TheVariants as entry
use Rattle.wire_net.specs.declared.message.Lane.TheVariants.{Main}
use Rattle.wire_net.specs.declared.message.Message.{Message}
use Rattle.wire_net.specs.declared.message.Message.TheVariants.{Bucket, Grant}
use Rattle.wire_net.specs.declared.message.Packet.{Packet}
use Rattle.inst_state.specs.declared.control.Control.{Control}
use Rattle.inst_state.specs.declared.inst.Inst.{Inst}
use Rattle.inst_state.specs.declared.session.Ending.{Ending}
use Rattle.inst_state.specs.declared.shared.Core.{Core}
use Rattle.inst_state.specs.Sending.{first_from, without_first}
use Rattle.inst_state.specs.Shared.{is_live, open_control}
use Rattle.inst_state.specs.State.{stmt_at}
use Rattle.stmt_steps.specs.Back.{back_tells, dead_back_tells}
use Rattle.stmt_steps.specs.Change.{change_tells}
use Rattle.stmt_steps.specs.End.{end_tells}
use Rattle.stmt_steps.specs.Mark.{dead_mark_tells, mark_tells}
use Rattle.stmt_steps.specs.Start.{start_tells}
use Rattle.stmt_steps.specs.Visit.{visit_tells}
use Rattle.image_steps.specs.Hear.{first_message, hears}
use Rattle.inst_loss.specs.LostCore.{with_commit, with_refusal}
use Rattle.inst_loss.specs.declared.ends.Loss.{Loss}
use Rattle.inst_loss.specs.declared.ends.Loss.TheVariants as loss
use Rattle.disk_calls.specs.declared.appends.Appended.{Appended}
use Rattle.disk_calls.specs.declared.appends.Appended.TheVariants.{Cut, Whole}
use Rattle.disk_calls.specs.declared.images.ReadData.TheVariants as data_read
use Rattle.disk_calls.specs.declared.images.ReadUndo.TheVariants as undo_read
use Rattle.disk_calls.specs.declared.writes.Written.{Written}
use Rattle.disk_calls.specs.declared.writes.Written.TheVariants as written
use Rattle.disk_steps.specs.AskUndo.{lacking, place_of}
use Rattle.disk_steps.specs.Crash.{kept_to}
use Rattle.disk_steps.specs.Force.{commit_told}
use Rattle.disk_steps.specs.declared.crashes.Kept.{Kept}
use Rattle.disk_steps.specs.declared.crashes.Kept.TheVariants.{Bytes, Nothing}
use Rattle.disk_steps.specs.declared.installs.Installed.{Installed}
use Rattle.disk_steps.specs.declared.installs.Installed.TheVariants as installed
use Rattle.disk_steps.specs.declared.undo_asks.AskedUndo.{AskedUndo}
use Rattle.disk_steps.specs.declared.undo_asks.AskedUndo.TheVariants as asked_for
use Rattle.disk_steps.specs.declared.undo_asks.Lacking.{Lacking}
use Rattle.disk_steps.specs.declared.undo_asks.Lacking.TheVariants.{Sense, Undo}
use Rattle.disk_steps.specs.declared.undo_asks.Place.{Place}
use Rattle.wave_steps.specs.Answers.{ack_tells}
use Rattle.wave_steps.specs.Buckets.{first_move}
use Rattle.wave_steps.specs.Enter.{with_openings_told}
use Rattle.wave_steps.specs.News.{durable_ending}
use Rattle.report_steps.specs.Reopen.{recovery_told, up_told}
use Rattle.thread_steps.specs.Read.{log_entered}
use Rattle.thread_steps.specs.declared.closes.Closing.{Closing}
use Rattle.thread_steps.specs.declared.closes.Closing.TheVariants as closing
use Rattle.thread_steps.specs.declared.found.Found.{Found}
use Rattle.thread_steps.specs.declared.found.Found.TheVariants as found
use Rattle.thread_steps.specs.declared.found.FoundLog.{FoundLog}
use Rattle.rebuild_steps.specs.Join.{begun, with_segment}
use Rattle.rebuild_steps.specs.Open.{is_open, scns_of}
use Rattle.rebuild_steps.specs.Thaw.{opened_part}
use Rattle.rebuild_steps.specs.declared.joins.Joined.{Joined}
use Rattle.rebuild_steps.specs.declared.joins.Joined.TheVariants as joined
use Rattle.rebuild_steps.specs.declared.recovers.Recovered.{Recovered}
use Rattle.rebuild_steps.specs.declared.recovers.Recovered.TheVariants as recovered
use Rattle.rebuild_steps.specs.declared.thaws.Thawed.{Thawed}
use Rattle.rebuild_steps.specs.declared.thaws.Thawed.TheVariants as thawed
use Rattle.inst_node.specs.declared.actions.Action.{Action}
use Rattle.inst_node.specs.declared.actions.Action.TheVariants.{Block, Dead, Inst as OfInst, Line, Plain, Session}
use Rattle.inst_node.specs.declared.actions.BlockStep.{BlockStep}
use Rattle.inst_node.specs.declared.actions.BlockStep.TheVariants as block
use Rattle.inst_node.specs.declared.actions.DeadStep.{DeadStep}
use Rattle.inst_node.specs.declared.actions.DeadStep.TheVariants as dead
use Rattle.inst_node.specs.declared.actions.InstStep.{InstStep}
use Rattle.inst_node.specs.declared.actions.InstStep.TheVariants as inst
use Rattle.inst_node.specs.declared.actions.LineStep.{LineStep}
use Rattle.inst_node.specs.declared.actions.LineStep.TheVariants as line
use Rattle.inst_node.specs.declared.actions.PlainStep.{PlainStep}
use Rattle.inst_node.specs.declared.actions.PlainStep.TheVariants as plain
use Rattle.inst_node.specs.declared.actions.SessionStep.{SessionStep}
use Rattle.inst_node.specs.declared.actions.SessionStep.TheVariants as session
use Rattle.inst_node.specs.declared.hows.How.{How}
use Rattle.inst_node.specs.declared.hows.How.TheVariants as how
use Rattle.inst_node.specs.Moves.{asked_undo_of, closing_of, counted, crashed_of, forced_of, found_of, installed_of, prepared, written_of}

-- the commits of an instance that enter as it ends, where the length of its log is told
abbrev pub kept_tells : Inst → Option ℕ → List Entry
kept_tells n None = []
kept_tells n (Some kept) = fold (with_commit n.plan.me kept) [] n.ends

-- how an instance ended
abbrev pub loss_entry : Inst → Loss → Entry
loss_entry n (loss.Crashed line) = entry.Crashed line n.plan.me
loss_entry n (loss.Ended bad) = entry.Ended n.plan.me bad

-- what the loss of an instance tells: its commits that enter, how it ended, and its lines that are refused
abbrev pub lost_tells : Inst → Loss → Option ℕ → List Entry
lost_tells n it kept = fold (with_refusal n) [] n.plan.mine ++ loss_entry n it ∷ kept_tells n kept

-- what the end of an instance tells by a fault of the disk, or by content that no run leaves (`bad`)
abbrev pub stop_tells : Inst → Bool → List Entry
stop_tells n bad = lost_tells n (loss.Ended bad) (Some 0)

-- what the read of undo from the disk tells: nothing, unless the instance ends
abbrev pub undo_read_tells : Inst → AskedUndo → List Entry
undo_read_tells n (asked_for.Read (undo_read.Head head)) = []
undo_read_tells n (asked_for.Read (undo_read.Block block)) = []
undo_read_tells n (asked_for.Read undo_read.Failed) = stop_tells n false
undo_read_tells n _ = stop_tells n true

-- what an ask for undo at a place tells
abbrev pub ask_at_tells : Inst → Core → Option Place → AskedUndo → List Entry
ask_at_tells n core None it = stop_tells n true
ask_at_tells n core (Some place) it = if is_live core place.seg then [] else undo_read_tells n it

-- what an ask for undo tells, by what is lacking
abbrev pub ask_tells_by : Inst → Core → Option Lacking → AskedUndo → List Entry
ask_tells_by n core None it = []
ask_tells_by n core (Some (Undo what)) it = ask_at_tells n core (place_of n.plan.layout what) it
ask_tells_by n core (Some Sense) it = stop_tells n true

-- what an ask for undo tells
abbrev pub ask_tells : Inst → Core → ℕ → AskedUndo → List Entry
ask_tells n core z it = ask_tells_by n core (lacking n z) it

-- what the answer to an end, if there is one, tells
abbrev pub acked_tells : ℕ → Option Ending → List Entry
acked_tells stmt None = []
acked_tells stmt (Some ending) = ack_tells stmt ending ∷ []

-- what the end of a write tells: nothing, unless the instance ends
abbrev pub write_tells : Inst → Written → List Entry
write_tells n written.Done = []
write_tells n written.Failed = stop_tells n false

-- what the rebuild of a block tells: nothing, unless the leader ends
abbrev pub recover_tells : Inst → Recovered → List Entry
recover_tells n (recovered.Done stood version) = []
recover_tells n (recovered.Unwritten stood) = stop_tells n false
recover_tells n (recovered.Unrolled stood) = stop_tells n true
recover_tells n recovered.Bad = stop_tells n true
recover_tells n recovered.Unread = stop_tells n false

-- what the rebuild of a block tells, as its calls went
abbrev pub recover_tells_by : Inst → How → List Entry
recover_tells_by n (how.Recovered it) = recover_tells n it
recover_tells_by n _ = []

-- what the read of an image from the disk tells: nothing, unless the instance ends
abbrev pub image_read_tells : Inst → Installed → List Entry
image_read_tells n (installed.Read (data_read.Image image)) = []
image_read_tells n (installed.Read data_read.Failed) = stop_tells n false
image_read_tells n _ = stop_tells n true

-- what a message tells that brings or grants an image: nothing, unless the image is read from the disk
abbrev pub install_tells_by : Inst → Option Message → Installed → List Entry
install_tells_by n (Some (Grant block grant mode true)) it = image_read_tells n it
install_tells_by n _ it = []

-- what an Install tells
abbrev pub install_tells : Inst → Core → ℕ → Installed → List Entry
install_tells n core from it = install_tells_by (hears n core from Main) (first_message n core from Main) it

-- what the answer to a line, if there is one, tells whose bucket has its new master
abbrev pub move_tells : Option Control → List Entry
move_tells None = []
move_tells (Some control) = entry.Moved control.line ∷ []

-- what a message tells that brings a bucket
abbrev pub bucket_tells : Core → ℕ → Message → List Entry
bucket_tells core me (Bucket bucket entries) = move_tells (first_move core bucket me)
bucket_tells core me _ = []

-- what a packet, if there is one, tells that brings a bucket
abbrev pub packet_tells : Core → ℕ → Option Packet → List Entry
packet_tells core me None = []
packet_tells core me (Some packet) = bucket_tells core me packet.message

-- what a TakeBucket tells
abbrev pub take_bucket_tells : Inst → Core → ℕ → List Entry
take_bucket_tells n core from =
    packet_tells (without_first core from n.plan.me Main) n.plan.me (first_from core from n.plan.me Main)

-- the commits that enter as a log is read
abbrev pub log_tells : Core → ℕ → FoundLog → List Entry
log_tells core thread log = (log_entered (record core { journal = [] }) thread log).journal

-- what the read of a dead thread tells
abbrev pub read_tells : Inst → Core → ℕ → Found → List Entry
read_tells n core thread (found.Closed scns) = []
read_tells n core thread (found.Unread bad) = stop_tells n bad
read_tells n core thread (found.Stopped log bad) = stop_tells n bad ++ log_tells core thread log
read_tells n core thread (found.Whole log versions) = log_tells core thread log

-- what the close of a dead thread tells: nothing, unless the leader ends
abbrev pub close_tells : Inst → Closing → List Entry
close_tells n closing.Done = []
close_tells n _ = stop_tells n false

-- what a crash by a line tells
abbrev pub crash_tells_by : Inst → Control → Kept → List Entry
crash_tells_by n control Nothing = lost_tells n (loss.Crashed control.line) (Some n.thread.durable)
crash_tells_by n control (Bytes Whole) = lost_tells n (loss.Crashed control.line) (Some (kept_to n control))
crash_tells_by n control (Bytes (Cut kept)) = lost_tells n (loss.Ended false) kept

-- what a crash tells, if a line asks for it
abbrev pub crash_tells : Inst → Option Control → Kept → List Entry
crash_tells n None it = []
crash_tells n (Some control) it = crash_tells_by n control it

-- what a checkpoint tells
abbrev pub checkpoint_tells : Inst → ℕ → Written → List Entry
checkpoint_tells n line written.Done = entry.Checkpointed line ∷ []
checkpoint_tells n line written.Failed = stop_tells n false

-- what a control line, if there is one, tells that found nothing to do
abbrev pub skip_tells : Option Control → List Entry
skip_tells None = []
skip_tells (Some control) = entry.NotDone control.line ∷ []

-- what a Join tells: nothing, unless the instance ends
abbrev pub join_tells : Inst → Core → Joined → List Entry
join_tells n core joined.Dark = []
join_tells n core (joined.Read own it) =
    if is_open it then [] else stop_tells (with_segment n own.value (scns_of n core) it) false
join_tells n core joined.Bad = stop_tells n true
join_tells n core joined.Unread = stop_tells n false

-- what a Join tells, as its calls went
abbrev pub join_tells_by : Inst → Core → ℕ → How → List Entry
join_tells_by n core number (how.Joined it) = join_tells (begun n core number) core it
join_tells_by n core number _ = []

-- what a force tells: the commits that enter, or the end of the instance
abbrev pub force_tells : Inst → Appended → List Entry
force_tells n Whole = fold (commit_told n.plan.me) [] n.ends
force_tells n (Cut kept) = lost_tells n (loss.Ended false) kept

-- what a Thaw tells: nothing, unless the leader ends
abbrev pub thaw_tells : Inst → Core → Thawed → List Entry
thaw_tells n core (thawed.Done opening owns) = []
thaw_tells n core (thawed.Unopened opening) = stop_tells (opened_part n core opening) false
thaw_tells n core (thawed.Bad opening) = stop_tells (opened_part n core opening) true
thaw_tells n core (thawed.Unread opening) = stop_tells (opened_part n core opening) false

-- what a Thaw tells, as its calls went
abbrev pub thaw_tells_by : Inst → Core → How → List Entry
thaw_tells_by n core (how.Thawed it) = thaw_tells n core it
thaw_tells_by n core _ = []

-- what a step for a session's line tells
unfoldable pub session_tells : Inst → Core → SessionStep → ℕ → How → List Entry
session_tells n core session.StartStmt z it = start_tells n z ∷ []
session_tells n core session.Visit z it = visit_tells n z
session_tells n core session.Change z it = change_tells n z
session_tells n core session.Mark z it = mark_tells n z
session_tells n core session.StepBack z it = back_tells n z
session_tells n core session.EndStmt z it = end_tells n z
session_tells n core session.AskUndo z it = ask_tells n core z (asked_undo_of it)
session_tells n core session.Broadcast z it = []
session_tells n core session.Ack z it = acked_tells (stmt_at n z) (durable_ending n z)

-- what a step for the dead transaction tells
unfoldable pub dead_tells : Inst → DeadStep → List Entry
dead_tells n dead.Mark = dead_mark_tells n
dead_tells n dead.StepBack = dead_back_tells n
dead_tells n dead.AskUndo = stop_tells n true

-- what a step with a block tells
unfoldable pub block_tells : Inst → BlockStep → How → List Entry
block_tells n block.WriteBlock it = write_tells n (written_of it)
block_tells n block.RecoverBlock it = recover_tells_by n it
block_tells n _ it = []

-- what a step with what came from an instance, or with its thread, tells
unfoldable pub inst_tells : Inst → Core → InstStep → ℕ → How → List Entry
inst_tells n core inst.Install from it = install_tells n core from (installed_of it)
inst_tells n core inst.TakeBucket from it = take_bucket_tells n core from
inst_tells n core inst.ReadThread thread it = read_tells n core thread (found_of it)
inst_tells n core inst.CloseThread thread it = close_tells n (closing_of it)
inst_tells n core _ from it = []

-- what a step for a control line tells
unfoldable pub line_tells : Inst → Core → LineStep → ℕ → How → List Entry
line_tells n core line.Crash number it = crash_tells n (open_control core number) (crashed_of it)
line_tells n core line.SendBucket number it = []
line_tells n core line.KeepBucket number it = move_tells (open_control core number)
line_tells n core line.Checkpoint number it = checkpoint_tells n number (written_of it)
line_tells n core line.Skip number it = skip_tells (open_control core number)
line_tells n core line.Join number it = join_tells_by n core number it

-- what a step about an instance alone tells
unfoldable pub plain_tells : Inst → Core → PlainStep → How → List Entry
plain_tells n core plain.Enter it = with_openings_told n core.waves.wave []
plain_tells n core plain.Force it = force_tells n (forced_of it)
plain_tells n core plain.Thaw it = thaw_tells_by n core it
plain_tells n core plain.Reopen it = recovery_told core.recovery.closed_since []
plain_tells n core plain.Resume it = up_told n.plan.me n.life []
plain_tells n core _ it = []

-- what a step tells, by what it is about
abbrev pub tells_of : Inst → Core → Action → How → List Entry
tells_of n core (Session kind z) it = session_tells n core kind z it
tells_of n core (Dead kind job) it = dead_tells n kind
tells_of n core (Block kind number) it = block_tells n kind it
tells_of n core (OfInst kind from) it = inst_tells n core kind from it
tells_of n core (Line kind number) it = line_tells n core kind number it
tells_of n core (Plain kind) it = plain_tells n core kind it

-- what a step tells: the entries that it adds to the journal, the newest first
abbrev pub tells : Inst → Core → Action → How → List Entry
tells n core action it = tells_of (prepared n core action) (counted core n.plan.me action) action it
