-- The wave that an instance has entered last changes only as it enters the next one.
use Rattle.std.proofs.Common.{◌≡◌, ℕ, ◌≤◌, arith, Bool, true, false, List, ◌∙◌, refl, Option, None, Some}
use Rattle.std.specs.Prelude.{◌||◌, if◌then◌else◌, is_none}
use Rattle.inst_state.specs.declared.inst.OwnWave.{OwnWave}
use Rattle.buffer_cache.specs.Cache.{place_at}
use Rattle.image_steps.specs.Frames.{wave_without}
use Rattle.image_steps.specs.Invalidate.{has_granted}
use Rattle.disk_steps.specs.Write.{undo_left}
use Rattle.image_steps.specs.ServeUndo.{place_in}
use Rattle.redo_types.specs.declared.redo.Redo.{Redo}
use Rattle.scn_clock.specs.declared.clock.Clock.{Clock}
use Rattle.scn_clock.specs.Clock.{raised}
use Rattle.undo_segment.specs.Segment.{SegmentState}
use Rattle.txn_engine.specs.declared.ask.Decision.{Decision}
use Rattle.txn_engine.specs.declared.ask.Decision.TheVariants as decision
use Rattle.wire_net.specs.declared.message.Lane.TheVariants.{Main, Undo}
use Rattle.wire_net.specs.declared.message.Message.{Message}
use Rattle.wire_net.specs.declared.message.Message.TheVariants.{Bucket, Commit, Copy, Grant, Heard, Shipped, UndoIs}
use Rattle.wire_net.specs.declared.message.Mode.{Mode}
use Rattle.wire_net.specs.declared.message.Packet.{Packet}
use Rattle.inst_state.specs.declared.control.Control.{Control}
use Rattle.inst_state.specs.declared.inst.Inst.{Inst}
use Rattle.inst_state.specs.declared.session.Ending.{Ending}
use Rattle.inst_state.specs.declared.shared.Core.{Core}
use Rattle.inst_state.specs.Sending.{first_from}
use Rattle.inst_state.specs.Shared.{is_live, is_thawed, open_control}
use Rattle.stmt_steps.specs.declared.answers.Answer.{Answer}
use Rattle.stmt_steps.specs.Back.{back_decided, dead_back_decided, dead_stepped_by, record_of, stepped_by}
use Rattle.stmt_steps.specs.Change.{change_decided, changed_as}
use Rattle.stmt_steps.specs.End.{answer_at, ended_by}
use Rattle.stmt_steps.specs.Mark.{dead_end_decided, dead_marked_by, end_decided, marked_by}
use Rattle.image_steps.specs.declared.invalidating.Granted.{Granted}
use Rattle.image_steps.specs.declared.shipping.Order.{Order}
use Rattle.image_steps.specs.Ask.{asked_in, lacked}
use Rattle.image_steps.specs.Hear.{first_message, hears}
use Rattle.image_steps.specs.Invalidate.{first_to_go, without_image}
use Rattle.image_steps.specs.Ship.{first_order, followed}
use Rattle.image_steps.specs.TakeCopy.{came_by}
use Rattle.disk_calls.specs.declared.appends.Appended.{Appended}
use Rattle.disk_calls.specs.declared.appends.Appended.TheVariants.{Cut, Whole}
use Rattle.disk_calls.specs.declared.images.ReadData.TheVariants as data_read
use Rattle.disk_calls.specs.declared.images.ReadUndo.TheVariants as undo_read
use Rattle.disk_calls.specs.declared.writes.Written.{Written}
use Rattle.disk_calls.specs.declared.writes.Written.TheVariants as written
use Rattle.disk_steps.specs.AskUndo.{asked_at, asked_by, lacking, place_of, undo_asked, undo_read}
use Rattle.disk_steps.specs.Checkpoint.{checkpointed}
use Rattle.disk_steps.specs.Crash.{crashed_by}
use Rattle.disk_steps.specs.Force.{forced_as}
use Rattle.disk_steps.specs.Install.{brought, granted_from_disk}
use Rattle.disk_steps.specs.Write.{block_written, target, written_as}
use Rattle.disk_steps.specs.declared.installs.Installed.{Installed}
use Rattle.disk_steps.specs.declared.installs.Installed.TheVariants as installed
use Rattle.disk_steps.specs.declared.undo_asks.AskedUndo.{AskedUndo}
use Rattle.disk_steps.specs.declared.undo_asks.AskedUndo.TheVariants as asked_for
use Rattle.disk_steps.specs.declared.undo_asks.Lacking.{Lacking}
use Rattle.disk_steps.specs.declared.undo_asks.Lacking.TheVariants.{Sense, Undo as Lacks}
use Rattle.disk_steps.specs.declared.undo_asks.Place.{Place}
use Rattle.disk_steps.specs.declared.writing.Target.{Target}
use Rattle.disk_steps.specs.declared.writing.Target.TheVariants.{Adopted, Data, Own}
use Rattle.wave_steps.specs.Answers.{with_acked}
use Rattle.wave_steps.specs.Buckets.{moved_by, taking_bucket, taking_packet, with_moved}
use Rattle.wave_steps.specs.declared.buckets.BucketMove.{BucketMove}
use Rattle.wave_steps.specs.News.{durable_ending, hearing, hearing_packet, with_told}
use Rattle.thread_steps.specs.Close.{thread_closed}
use Rattle.thread_steps.specs.Read.{thread_read}
use Rattle.thread_steps.specs.declared.closes.Closing.{Closing}
use Rattle.thread_steps.specs.declared.closes.Closing.TheVariants as closing
use Rattle.thread_steps.specs.declared.found.Found.{Found}
use Rattle.thread_steps.specs.declared.found.Found.TheVariants as found
use Rattle.rebuild_steps.specs.Join.{begun, came_in, read_in}
use Rattle.rebuild_steps.specs.Open.{opened, scns_of}
use Rattle.rebuild_steps.specs.Recover.{recovered}
use Rattle.rebuild_steps.specs.Thaw.{led, opened_if, opened_part, opened_shared, thaw_core, thawed}
use Rattle.rebuild_steps.specs.declared.joins.Joined.{Joined}
use Rattle.rebuild_steps.specs.declared.joins.Joined.TheVariants as join
use Rattle.rebuild_steps.specs.declared.opens.Opened.{Opened}
use Rattle.rebuild_steps.specs.declared.opens.Opened.TheVariants as thread
use Rattle.rebuild_steps.specs.declared.recovers.Recovered.{Recovered}
use Rattle.rebuild_steps.specs.declared.recovers.Recovered.TheVariants as recover
use Rattle.rebuild_steps.specs.declared.thaws.Thawed.{Thawed}
use Rattle.rebuild_steps.specs.declared.thaws.Thawed.TheVariants as thaw
use Rattle.inst_node.specs.declared.actions.Action.{Action}
use Rattle.inst_node.specs.declared.actions.Action.TheVariants.{Block, Dead, Inst as OfInst, Line, Plain, Session}
use Rattle.inst_node.specs.declared.actions.BlockStep.{BlockStep}
use Rattle.inst_node.specs.declared.actions.BlockStep.TheVariants as block
use Rattle.inst_node.specs.declared.actions.DeadStep.{DeadStep}
use Rattle.inst_node.specs.declared.actions.DeadStep.TheVariants as dead
use Rattle.inst_node.specs.declared.actions.InstStep.{InstStep}
use Rattle.inst_node.specs.declared.actions.InstStep.TheVariants as inst
use Rattle.inst_node.specs.declared.actions.LineStep.{LineStep}
use Rattle.inst_node.specs.declared.actions.LineStep.TheVariants as line
use Rattle.inst_node.specs.declared.actions.PlainStep.{PlainStep}
use Rattle.inst_node.specs.declared.actions.PlainStep.TheVariants as plain
use Rattle.inst_node.specs.declared.actions.SessionStep.{SessionStep}
use Rattle.inst_node.specs.declared.actions.SessionStep.TheVariants as session
use Rattle.inst_node.specs.declared.hows.How.{How}
use Rattle.inst_node.specs.declared.hows.How.TheVariants as how
use Rattle.inst_node.specs.Allowed.{kind_class}
use Rattle.inst_node.specs.Moves.{asked_undo_of, block_part, closing_of, comes_after_thaw, counted, dead_part, forced_of, found_of, inst_part, installed_of, joined_by, line_part, part_after, part_of, plain_part, prepared, prepared_if, recovered_by, session_part, thawed_by, written_of}

-- either of two instances in the same wave
either_wave : (b : Bool) (x y : Inst) (wave : ℕ) → x.wave.entered ≡ wave → y.wave.entered ≡ wave → (if b then x else y).wave.entered ≡ wave
either_wave true x y wave first second = first
either_wave false x y wave first second = second

-- a session's line

change_wave : (n : Inst) (z : ℕ) (it : Option Decision) → (changed_as n z it).wave.entered ≡ n.wave.entered
change_wave n z (Some (decision.Do redo)) = refl
change_wave n z (Some (decision.Refuse cause)) = refl
change_wave n z (Some (decision.Restart end)) = refl
change_wave n z (Some decision.AlreadyMine) = refl
change_wave n z _ = refl

mark_wave : (n : Inst) (z : ℕ) (it : Option Redo) → (marked_by n z it).wave.entered ≡ n.wave.entered
mark_wave n z None = refl
mark_wave n z (Some redo) = refl

back_wave : (n : Inst) (z : ℕ) (it : Option Redo) → (stepped_by n z it).wave.entered ≡ n.wave.entered
back_wave n z None = refl
back_wave n z (Some redo) = refl

end_wave : (n : Inst) (z : ℕ) (it : Option Answer) → (ended_by n z it).wave.entered ≡ n.wave.entered
end_wave n z None = refl
end_wave n z (Some answer) = refl

undo_read_wave : (n : Inst) (z : ℕ) (it : AskedUndo) → (undo_read n z it).wave.entered ≡ n.wave.entered
undo_read_wave n z (asked_for.Read (undo_read.Head head)) = refl
undo_read_wave n z (asked_for.Read (undo_read.Block block)) = refl
undo_read_wave n z _ = refl

ask_at_wave : (n : Inst) (core : Core) (z : ℕ) (place : Option Place) (it : AskedUndo) → (asked_at n core z place it).wave.entered ≡ n.wave.entered
ask_at_wave n core z None it = refl
ask_at_wave n core z (Some place) it =
    either_wave (is_live core place.seg) (undo_asked n z) (undo_read n z it) n.wave.entered refl (undo_read_wave n z it)

ask_wave : (n : Inst) (core : Core) (z : ℕ) (lack : Option Lacking) (it : AskedUndo) → (asked_by n core z lack it).wave.entered ≡ n.wave.entered
ask_wave n core z None it = refl
ask_wave n core z (Some (Lacks what)) it = ask_at_wave n core z (place_of n.plan.layout what) it
ask_wave n core z (Some Sense) it = refl

told_wave : (n : Inst) (epoch z : ℕ) (ending : Option Ending) → (with_told n epoch z ending).wave.entered ≡ n.wave.entered
told_wave n epoch z None = refl
told_wave n epoch z (Some ending) = refl

ack_wave : (n : Inst) (z : ℕ) (ending : Option Ending) → (with_acked n z ending).wave.entered ≡ n.wave.entered
ack_wave n z None = refl
ack_wave n z (Some ending) = refl

session_wave : (n : Inst) (core : Core) (kind : SessionStep) (z : ℕ) (it : How) → (session_part n core kind z it).wave.entered ≡ n.wave.entered
unfolding session_part
session_wave n core session.StartStmt z it = refl
session_wave n core session.Visit z it = refl
session_wave n core session.Change z it = change_wave n z (change_decided n z)
session_wave n core session.Mark z it = mark_wave n z (end_decided n z)
session_wave n core session.StepBack z it = back_wave n z (record_of (back_decided n z))
session_wave n core session.EndStmt z it = end_wave n z (answer_at n z)
session_wave n core session.AskUndo z it = ask_wave n core z (lacking n z) (asked_undo_of it)
session_wave n core session.Broadcast z it = told_wave n core.members.epoch z (durable_ending n z)
session_wave n core session.Ack z it = ack_wave n z (durable_ending n z)

-- the dead transaction

dead_mark_wave : (n : Inst) (it : Option Redo) → (dead_marked_by n it).wave.entered ≡ n.wave.entered
dead_mark_wave n None = refl
dead_mark_wave n (Some redo) = refl

dead_back_wave : (n : Inst) (it : Option Redo) → (dead_stepped_by n it).wave.entered ≡ n.wave.entered
dead_back_wave n None = refl
dead_back_wave n (Some redo) = refl

dead_wave : (n : Inst) (kind : DeadStep) → (dead_part n kind).wave.entered ≡ n.wave.entered
unfolding dead_part
dead_wave n dead.Mark = dead_mark_wave n (dead_end_decided n)
dead_wave n dead.StepBack = dead_back_wave n (record_of (dead_back_decided n))
dead_wave n dead.AskUndo = refl

-- a block

asked_wave : (n : Inst) (block : ℕ) (mode : Option Mode) → (asked_in n block mode).wave.entered ≡ n.wave.entered
asked_wave n block None = refl
asked_wave n block (Some mode) = refl

left_wave : (wave : OwnWave) (o : Option ℕ) → (undo_left wave o).entered ≡ wave.entered
left_wave wave None = refl
left_wave wave (Some k) = refl

either_own : (b : Bool) (x y : OwnWave) (entered : ℕ) → x.entered ≡ entered → y.entered ≡ entered → (if b then x else y).entered ≡ entered
either_own true x y entered first second = first
either_own false x y entered first second = second

written_wave : (n : Inst) (block : ℕ) (what : Target) → (written_as n block what).wave.entered ≡ n.wave.entered
written_wave n block Data = refl
written_wave n block (Adopted at) = refl
written_wave n block Own = left_wave n.wave (place_in n.segment block)

write_wave : (n : Inst) (block : ℕ) (it : Written) → (block_written n block it).wave.entered ≡ n.wave.entered
write_wave n block written.Done = written_wave n block (target n block)
write_wave n block written.Failed = refl

recovered_wave : (n : Inst) (core : Core) (block : ℕ) (it : Recovered) → (recovered n core block it).wave.entered ≡ n.wave.entered
recovered_wave n core block (recover.Done stood version) = refl
recovered_wave n core block _ = refl

recover_wave : (n : Inst) (core : Core) (block : ℕ) (it : How) → (recovered_by n core block it).wave.entered ≡ n.wave.entered
recover_wave n core block (how.Recovered it) = recovered_wave n core block it
recover_wave n core block _ = refl

block_wave : (n : Inst) (core : Core) (kind : BlockStep) (number : ℕ) (it : How) → (block_part n core kind number it).wave.entered ≡ n.wave.entered
unfolding block_part
block_wave n core block.Ask number it = asked_wave n number (lacked n number)
block_wave n core block.Evict number it = refl
block_wave n core block.WriteBlock number it = write_wave n number (written_of it)
block_wave n core block.AskWrite number it = refl
block_wave n core block.GivePast number it = refl
block_wave n core block.RecoverBlock number it = recover_wave n core number it

-- what came from an instance

gone_wave : (n : Inst) (image : Option Granted) → (without_image n image).wave.entered ≡ n.wave.entered
gone_wave n None = refl
gone_wave n (Some image) = either_own (has_granted n image) (wave_without n.wave image.block) n.wave n.wave.entered refl refl

follow_wave : (n : Inst) (order : Option Order) → (followed n order).wave.entered ≡ n.wave.entered
follow_wave n None = refl
follow_wave n (Some order) =
    either_own (order.shared || is_none (place_at n.cache order.block).current) n.wave (wave_without n.wave order.block) n.wave.entered refl refl

from_disk_wave : (n : Inst) (block grant : ℕ) (mode : Mode) (it : Installed) → (granted_from_disk n block grant mode it).wave.entered ≡ n.wave.entered
from_disk_wave n block grant mode (installed.Read (data_read.Image image)) = refl
from_disk_wave n block grant mode _ = refl

install_wave : (n : Inst) (message : Option Message) (it : Installed) → (brought n message it).wave.entered ≡ n.wave.entered
install_wave n (Some (Shipped shipment)) it = refl
install_wave n (Some (Grant block grant mode true)) it = from_disk_wave n block grant mode it
install_wave n (Some (Grant block grant mode false)) it = refl
install_wave n _ it = refl

came_wave : (n : Inst) (message : Option Message) → (came_by n message).wave.entered ≡ n.wave.entered
came_wave n (Some (Copy image upto)) = refl
came_wave n (Some (UndoIs image job)) = refl
came_wave n _ = refl

hearing_wave : (n : Inst) (epoch from : ℕ) (message : Message) → (hearing n epoch from message).wave.entered ≡ n.wave.entered
hearing_wave n epoch from (Commit end) = refl
hearing_wave n epoch from (Heard end) = refl
hearing_wave n epoch from _ = refl

heard_wave : (n : Inst) (epoch from : ℕ) (packet : Option Packet) → (hearing_packet n epoch from packet).wave.entered ≡ n.wave.entered
heard_wave n epoch from None = refl
heard_wave n epoch from (Some packet) = hearing_wave (record n { clock = raised n.clock packet.scn }) epoch from packet.message

bucket_wave : (n : Inst) (message : Message) → (taking_bucket n message).wave.entered ≡ n.wave.entered
bucket_wave n (Bucket bucket entries) = refl
bucket_wave n _ = refl

packet_wave : (n : Inst) (packet : Option Packet) → (taking_packet n packet).wave.entered ≡ n.wave.entered
packet_wave n None = refl
packet_wave n (Some packet) = bucket_wave (record n { clock = raised n.clock packet.scn }) packet.message

read_wave : (n : Inst) (core : Core) (it : Found) → (thread_read n core it).wave.entered ≡ n.wave.entered
read_wave n core (found.Closed scns) = refl
read_wave n core (found.Unread bad) = refl
read_wave n core (found.Stopped log bad) = refl
read_wave n core (found.Whole log versions) = refl

close_wave : (n : Inst) (it : Closing) → (thread_closed n it).wave.entered ≡ n.wave.entered
close_wave n closing.Done = refl
close_wave n _ = refl

inst_wave : (n : Inst) (core : Core) (kind : InstStep) (from : ℕ) (it : How) → (inst_part n core kind from it).wave.entered ≡ n.wave.entered
unfolding inst_part
inst_wave n core inst.MasterTake from it = refl
inst_wave n core inst.Invalidate from it = gone_wave (hears n core from Main) (first_to_go n core from)
inst_wave n core inst.Ship from it = follow_wave (hears n core from Main) (first_order n core from)
inst_wave n core inst.ServeCopy from it = refl
inst_wave n core inst.DropPast from it = refl
inst_wave n core inst.Install from it = install_wave (hears n core from Main) (first_message n core from Main) (installed_of it)
inst_wave n core inst.TakeCopy from it = came_wave (hears n core from Main) (first_message n core from Main)
inst_wave n core inst.TakeUndo from it = came_wave (hears n core from Undo) (first_message n core from Undo)
inst_wave n core inst.ServeUndo from it = refl
inst_wave n core inst.Heard from it = heard_wave n core.members.epoch from (first_from core from n.plan.me Main)
inst_wave n core inst.TakeBucket from it = packet_wave n (first_from core from n.plan.me Main)
inst_wave n core inst.ReadThread from it = read_wave n core (found_of it)
inst_wave n core inst.CloseThread from it = close_wave n (closing_of it)

-- a control line

crash_wave : (n : Inst) (control : Option Control) → (crashed_by n control).wave.entered ≡ n.wave.entered
crash_wave n None = refl
crash_wave n (Some control) = refl

moved_wave : (n : Inst) (it : Option BucketMove) → (with_moved n it).wave.entered ≡ n.wave.entered
moved_wave n None = refl
moved_wave n (Some it) = refl

checkpoint_wave : (n : Inst) (line : ℕ) (it : Written) → (checkpointed n line it).wave.entered ≡ n.wave.entered
checkpoint_wave n line written.Done = refl
checkpoint_wave n line written.Failed = refl

read_in_wave : (n : Inst) (own : SegmentState) (scns : Clock) (it : Opened) → (read_in n own scns it).wave.entered ≡ n.wave.entered
read_in_wave n own scns (thread.Running length) = refl
read_in_wave n own scns (thread.Unwritten length) = refl
read_in_wave n own scns thread.Untold = refl

came_in_wave : (n : Inst) (core : Core) (it : Joined) → (came_in n core it).wave.entered ≡ n.wave.entered
came_in_wave n core join.Dark = refl
came_in_wave n core (join.Read own it) = read_in_wave n own.value (scns_of n core) it
came_in_wave n core _ = refl

join_wave : (n : Inst) (core : Core) (line : ℕ) (it : How) → (joined_by n core line it).wave.entered ≡ n.wave.entered
join_wave n core line (how.Joined it) = came_in_wave (begun n core line) core it
join_wave n core line _ = refl

line_wave : (n : Inst) (core : Core) (kind : LineStep) (number : ℕ) (it : How) → (line_part n core kind number it).wave.entered ≡ n.wave.entered
unfolding line_part
line_wave n core line.Crash number it = crash_wave n (open_control core number)
line_wave n core line.SendBucket number it = moved_wave n (moved_by core number)
line_wave n core line.KeepBucket number it = refl
line_wave n core line.Checkpoint number it = checkpoint_wave n number (written_of it)
line_wave n core line.Skip number it = refl
line_wave n core line.Join number it = join_wave n core number it

-- the instance alone

force_wave : (n : Inst) (it : Appended) → (forced_as n it).wave.entered ≡ n.wave.entered
force_wave n Whole = refl
force_wave n (Cut kept) = refl

opened_wave : (n : Inst) (scns : Clock) (it : Opened) → (opened n scns it).wave.entered ≡ n.wave.entered
opened_wave n scns (thread.Running length) = refl
opened_wave n scns _ = refl

opened_if_wave : (n : Inst) (scns : Clock) (it : Option Opened) → (opened_if n scns it).wave.entered ≡ n.wave.entered
opened_if_wave n scns None = refl
opened_if_wave n scns (Some it) = opened_wave n scns it

led_wave : (n : Inst) (core : Core) (owns : List SegmentState) → (led n core owns).wave.entered ≡ n.wave.entered
unfolding led
led_wave n core owns = refl

thawed_wave : (n : Inst) (core : Core) (it : Thawed) → (thawed n core it).wave.entered ≡ n.wave.entered
thawed_wave n core (thaw.Done opening owns) =
    led_wave (opened_part n core opening) (thaw_core (opened_part n core opening) (opened_shared n core opening)) owns.value.items
    ∙ opened_if_wave n (scns_of n core) opening
thawed_wave n core (thaw.Unopened opening) = opened_if_wave n (scns_of n core) opening
thawed_wave n core (thaw.Bad opening) = opened_if_wave n (scns_of n core) opening
thawed_wave n core (thaw.Unread opening) = opened_if_wave n (scns_of n core) opening

thaw_wave : (n : Inst) (core : Core) (it : How) → (thawed_by n core it).wave.entered ≡ n.wave.entered
thaw_wave n core (how.Thawed it) = thawed_wave n core it
thaw_wave n core _ = refl

-- the wave that an instance has entered last after a step
abbrev pub entered_after : Inst → Core → Action → ℕ
entered_after n core (Plain plain.Enter) = core.waves.wave
entered_after n core _ = n.wave.entered

plain_wave : (n : Inst) (core : Core) (kind : PlainStep) (it : How) → (plain_part n core kind it).wave.entered ≡ entered_after n core (Plain kind)
unfolding plain_part
plain_wave n core plain.Enter it = refl
plain_wave n core plain.Force it = force_wave n (forced_of it)
plain_wave n core plain.Report it = refl
plain_wave n core plain.Thaw it = thaw_wave n core it
plain_wave n core plain.Reopen it = refl
plain_wave n core plain.Resume it = refl
plain_wave n core plain.Leave it = refl
plain_wave n core plain.Wave it = refl

part_wave : (n : Inst) (core : Core) (action : Action) (it : How) → (part_of n core action it).wave.entered ≡ entered_after n core action
part_wave n core (Session kind z) it = session_wave n core kind z it
part_wave n core (Dead kind job) it = dead_wave n kind
part_wave n core (Block kind number) it = block_wave n core kind number it
part_wave n core (OfInst kind from) it = inst_wave n core kind from it
part_wave n core (Line kind number) it = line_wave n core kind number it
part_wave n core (Plain kind) it = plain_wave n core kind it

prepared_if_wave : (comes thawed : Bool) (n : Inst) (core : Core) → (prepared_if comes thawed n core).wave.entered ≡ n.wave.entered
prepared_if_wave false thawed n core = refl
prepared_if_wave true false n core = refl
prepared_if_wave true true n core = refl

pub prepared_wave : (n : Inst) (core : Core) (action : Action) → (prepared n core action).wave.entered ≡ n.wave.entered
unfolding prepared
prepared_wave n core action = prepared_if_wave (comes_after_thaw (kind_class action)) (is_thawed core.members.phase) n core

after_within : (n k : Inst) (core counted_core : Core) (action : Action) → k.wave.entered ≡ n.wave.entered → counted_core.waves.wave ≡ core.waves.wave
    → n.wave.entered ≤ core.waves.wave → entered_after k counted_core action ≤ core.waves.wave
after_within n k core counted_core (Plain plain.Enter) same wave le = omega (arith, wave)
after_within n k core counted_core _ same wave le = omega (arith, same, le)

counted_wave : (core : Core) (me : ℕ) (action : Action) → (counted core me action).waves.wave ≡ core.waves.wave
unfolding counted
counted_wave core me action = refl

-- An instance's wave is at most the current one.
pub entered_within : (n : Inst) (core : Core) (action : Action) (it : How) → n.wave.entered ≤ core.waves.wave → (part_after n core action it).wave.entered ≤ core.waves.wave
entered_within n core action it le =
    let after = part_wave (prepared n core action) (counted core n.plan.me action) action it in
    let within : entered_after (prepared n core action) (counted core n.plan.me action) action ≤ core.waves.wave =
    after_within n (prepared n core action) core (counted core n.plan.me action) action (prepared_wave n core action) (counted_wave core n.plan.me action) le in
    omega (arith, after, within)
