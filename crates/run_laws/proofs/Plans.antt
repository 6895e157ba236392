-- No step changes what the script lays down for an instance.
use Rattle.std.proofs.Common.{◌≡◌, ℕ, Bool, true, false, List, ◌∙◌, refl, Option, None, Some}
use Rattle.std.specs.Prelude.{if◌then◌else◌}
use Rattle.redo_types.specs.declared.redo.Redo.{Redo}
use Rattle.scn_clock.specs.declared.clock.Clock.{Clock}
use Rattle.scn_clock.specs.Clock.{raised}
use Rattle.undo_segment.specs.Segment.{SegmentState}
use Rattle.txn_engine.specs.declared.ask.Decision.{Decision}
use Rattle.txn_engine.specs.declared.ask.Decision.TheVariants as decision
use Rattle.wire_net.specs.declared.message.Lane.TheVariants.{Main, Undo}
use Rattle.wire_net.specs.declared.message.Message.{Message}
use Rattle.wire_net.specs.declared.message.Message.TheVariants.{Bucket, Commit, Copy, Grant, Heard, Shipped, UndoIs}
use Rattle.wire_net.specs.declared.message.Mode.{Mode}
use Rattle.wire_net.specs.declared.message.Packet.{Packet}
use Rattle.inst_state.specs.declared.control.Control.{Control}
use Rattle.inst_state.specs.declared.inst.Inst.{Inst}
use Rattle.inst_state.specs.declared.plan.Plan.{Plan}
use Rattle.inst_state.specs.declared.session.Ending.{Ending}
use Rattle.inst_state.specs.declared.shared.Core.{Core}
use Rattle.inst_state.specs.Sending.{first_from}
use Rattle.inst_state.specs.Shared.{is_live, is_thawed, open_control}
use Rattle.stmt_steps.specs.declared.answers.Answer.{Answer}
use Rattle.stmt_steps.specs.Back.{back_decided, dead_back_decided, dead_stepped_by, record_of, stepped_by}
use Rattle.stmt_steps.specs.Change.{change_decided, changed_as}
use Rattle.stmt_steps.specs.End.{answer_at, ended_by}
use Rattle.stmt_steps.specs.Mark.{dead_end_decided, dead_marked_by, end_decided, marked_by}
use Rattle.image_steps.specs.declared.invalidating.Granted.{Granted}
use Rattle.image_steps.specs.declared.shipping.Order.{Order}
use Rattle.image_steps.specs.Ask.{asked_in, lacked}
use Rattle.image_steps.specs.Hear.{first_message, hears}
use Rattle.image_steps.specs.Invalidate.{first_to_go, without_image}
use Rattle.image_steps.specs.Ship.{first_order, followed}
use Rattle.image_steps.specs.TakeCopy.{came_by}
use Rattle.disk_calls.specs.declared.appends.Appended.{Appended}
use Rattle.disk_calls.specs.declared.appends.Appended.TheVariants.{Cut, Whole}
use Rattle.disk_calls.specs.declared.images.ReadData.TheVariants as data_read
use Rattle.disk_calls.specs.declared.images.ReadUndo.TheVariants as undo_read
use Rattle.disk_calls.specs.declared.writes.Written.{Written}
use Rattle.disk_calls.specs.declared.writes.Written.TheVariants as written
use Rattle.disk_steps.specs.AskUndo.{asked_at, asked_by, lacking, place_of, undo_asked, undo_read}
use Rattle.disk_steps.specs.Checkpoint.{checkpointed}
use Rattle.disk_steps.specs.Crash.{crashed_by}
use Rattle.disk_steps.specs.Force.{forced_as}
use Rattle.disk_steps.specs.Install.{brought, granted_from_disk}
use Rattle.disk_steps.specs.Write.{block_written, target, written_as}
use Rattle.disk_steps.specs.declared.installs.Installed.{Installed}
use Rattle.disk_steps.specs.declared.installs.Installed.TheVariants as installed
use Rattle.disk_steps.specs.declared.undo_asks.AskedUndo.{AskedUndo}
use Rattle.disk_steps.specs.declared.undo_asks.AskedUndo.TheVariants as asked_for
use Rattle.disk_steps.specs.declared.undo_asks.Lacking.{Lacking}
use Rattle.disk_steps.specs.declared.undo_asks.Lacking.TheVariants.{Sense, Undo as Lacks}
use Rattle.disk_steps.specs.declared.undo_asks.Place.{Place}
use Rattle.disk_steps.specs.declared.writing.Target.{Target}
use Rattle.disk_steps.specs.declared.writing.Target.TheVariants.{Adopted, Data, Own}
use Rattle.wave_steps.specs.Answers.{with_acked}
use Rattle.wave_steps.specs.Buckets.{moved_by, taking_bucket, taking_packet, with_moved}
use Rattle.wave_steps.specs.declared.buckets.BucketMove.{BucketMove}
use Rattle.wave_steps.specs.News.{durable_ending, hearing, hearing_packet, with_told}
use Rattle.thread_steps.specs.Close.{thread_closed}
use Rattle.thread_steps.specs.Read.{thread_read}
use Rattle.thread_steps.specs.declared.closes.Closing.{Closing}
use Rattle.thread_steps.specs.declared.closes.Closing.TheVariants as closing
use Rattle.thread_steps.specs.declared.found.Found.{Found}
use Rattle.thread_steps.specs.declared.found.Found.TheVariants as found
use Rattle.rebuild_steps.specs.Join.{begun, came_in, read_in}
use Rattle.rebuild_steps.specs.Open.{opened, scns_of}
use Rattle.rebuild_steps.specs.Recover.{recovered}
use Rattle.rebuild_steps.specs.Thaw.{led, opened_if, opened_part, opened_shared, thaw_core, thawed}
use Rattle.rebuild_steps.specs.declared.joins.Joined.{Joined}
use Rattle.rebuild_steps.specs.declared.joins.Joined.TheVariants as join
use Rattle.rebuild_steps.specs.declared.opens.Opened.{Opened}
use Rattle.rebuild_steps.specs.declared.opens.Opened.TheVariants as thread
use Rattle.rebuild_steps.specs.declared.recovers.Recovered.{Recovered}
use Rattle.rebuild_steps.specs.declared.recovers.Recovered.TheVariants as recover
use Rattle.rebuild_steps.specs.declared.thaws.Thawed.{Thawed}
use Rattle.rebuild_steps.specs.declared.thaws.Thawed.TheVariants as thaw
use Rattle.inst_node.specs.declared.actions.Action.{Action}
use Rattle.inst_node.specs.declared.actions.Action.TheVariants.{Block, Dead, Inst as OfInst, Line, Plain, Session}
use Rattle.inst_node.specs.declared.actions.BlockStep.{BlockStep}
use Rattle.inst_node.specs.declared.actions.BlockStep.TheVariants as block
use Rattle.inst_node.specs.declared.actions.DeadStep.{DeadStep}
use Rattle.inst_node.specs.declared.actions.DeadStep.TheVariants as dead
use Rattle.inst_node.specs.declared.actions.InstStep.{InstStep}
use Rattle.inst_node.specs.declared.actions.InstStep.TheVariants as inst
use Rattle.inst_node.specs.declared.actions.LineStep.{LineStep}
use Rattle.inst_node.specs.declared.actions.LineStep.TheVariants as line
use Rattle.inst_node.specs.declared.actions.PlainStep.{PlainStep}
use Rattle.inst_node.specs.declared.actions.PlainStep.TheVariants as plain
use Rattle.inst_node.specs.declared.actions.SessionStep.{SessionStep}
use Rattle.inst_node.specs.declared.actions.SessionStep.TheVariants as session
use Rattle.inst_node.specs.declared.hows.How.{How}
use Rattle.inst_node.specs.declared.hows.How.TheVariants as how
use Rattle.inst_node.specs.Allowed.{kind_class}
use Rattle.inst_node.specs.Moves.{asked_undo_of, block_part, closing_of, comes_after_thaw, counted, dead_part, forced_of, found_of, inst_part, installed_of, joined_by, line_part, part_after, part_of, plain_part, prepared, prepared_if, recovered_by, session_part, thawed_by, written_of}

-- either of two instances with the same plan
either_plan : (b : Bool) (x y : Inst) (plan : Plan) → x.plan ≡ plan → y.plan ≡ plan → (if b then x else y).plan ≡ plan
either_plan true x y plan first second = first
either_plan false x y plan first second = second

-- a session's line

change_plan : (n : Inst) (z : ℕ) (it : Option Decision) → (changed_as n z it).plan ≡ n.plan
change_plan n z (Some (decision.Do redo)) = refl
change_plan n z (Some (decision.Refuse cause)) = refl
change_plan n z (Some (decision.Restart end)) = refl
change_plan n z (Some decision.AlreadyMine) = refl
change_plan n z _ = refl

mark_plan : (n : Inst) (z : ℕ) (it : Option Redo) → (marked_by n z it).plan ≡ n.plan
mark_plan n z None = refl
mark_plan n z (Some redo) = refl

back_plan : (n : Inst) (z : ℕ) (it : Option Redo) → (stepped_by n z it).plan ≡ n.plan
back_plan n z None = refl
back_plan n z (Some redo) = refl

end_plan : (n : Inst) (z : ℕ) (it : Option Answer) → (ended_by n z it).plan ≡ n.plan
end_plan n z None = refl
end_plan n z (Some answer) = refl

undo_read_plan : (n : Inst) (z : ℕ) (it : AskedUndo) → (undo_read n z it).plan ≡ n.plan
undo_read_plan n z (asked_for.Read (undo_read.Head head)) = refl
undo_read_plan n z (asked_for.Read (undo_read.Block block)) = refl
undo_read_plan n z _ = refl

ask_at_plan : (n : Inst) (core : Core) (z : ℕ) (place : Option Place) (it : AskedUndo) → (asked_at n core z place it).plan ≡ n.plan
ask_at_plan n core z None it = refl
ask_at_plan n core z (Some place) it =
    either_plan (is_live core place.seg) (undo_asked n z) (undo_read n z it) n.plan refl (undo_read_plan n z it)

ask_plan : (n : Inst) (core : Core) (z : ℕ) (lack : Option Lacking) (it : AskedUndo) → (asked_by n core z lack it).plan ≡ n.plan
ask_plan n core z None it = refl
ask_plan n core z (Some (Lacks what)) it = ask_at_plan n core z (place_of n.plan.layout what) it
ask_plan n core z (Some Sense) it = refl

told_plan : (n : Inst) (epoch z : ℕ) (ending : Option Ending) → (with_told n epoch z ending).plan ≡ n.plan
told_plan n epoch z None = refl
told_plan n epoch z (Some ending) = refl

ack_plan : (n : Inst) (z : ℕ) (ending : Option Ending) → (with_acked n z ending).plan ≡ n.plan
ack_plan n z None = refl
ack_plan n z (Some ending) = refl

session_plan : (n : Inst) (core : Core) (kind : SessionStep) (z : ℕ) (it : How) → (session_part n core kind z it).plan ≡ n.plan
unfolding session_part
session_plan n core session.StartStmt z it = refl
session_plan n core session.Visit z it = refl
session_plan n core session.Change z it = change_plan n z (change_decided n z)
session_plan n core session.Mark z it = mark_plan n z (end_decided n z)
session_plan n core session.StepBack z it = back_plan n z (record_of (back_decided n z))
session_plan n core session.EndStmt z it = end_plan n z (answer_at n z)
session_plan n core session.AskUndo z it = ask_plan n core z (lacking n z) (asked_undo_of it)
session_plan n core session.Broadcast z it = told_plan n core.members.epoch z (durable_ending n z)
session_plan n core session.Ack z it = ack_plan n z (durable_ending n z)

-- the dead transaction

dead_mark_plan : (n : Inst) (it : Option Redo) → (dead_marked_by n it).plan ≡ n.plan
dead_mark_plan n None = refl
dead_mark_plan n (Some redo) = refl

dead_back_plan : (n : Inst) (it : Option Redo) → (dead_stepped_by n it).plan ≡ n.plan
dead_back_plan n None = refl
dead_back_plan n (Some redo) = refl

dead_plan : (n : Inst) (kind : DeadStep) → (dead_part n kind).plan ≡ n.plan
unfolding dead_part
dead_plan n dead.Mark = dead_mark_plan n (dead_end_decided n)
dead_plan n dead.StepBack = dead_back_plan n (record_of (dead_back_decided n))
dead_plan n dead.AskUndo = refl

-- a block

asked_plan : (n : Inst) (block : ℕ) (mode : Option Mode) → (asked_in n block mode).plan ≡ n.plan
asked_plan n block None = refl
asked_plan n block (Some mode) = refl

written_plan : (n : Inst) (block : ℕ) (what : Target) → (written_as n block what).plan ≡ n.plan
written_plan n block Data = refl
written_plan n block (Adopted at) = refl
written_plan n block Own = refl

write_plan : (n : Inst) (block : ℕ) (it : Written) → (block_written n block it).plan ≡ n.plan
write_plan n block written.Done = written_plan n block (target n block)
write_plan n block written.Failed = refl

recovered_plan : (n : Inst) (core : Core) (block : ℕ) (it : Recovered) → (recovered n core block it).plan ≡ n.plan
recovered_plan n core block (recover.Done stood version) = refl
recovered_plan n core block _ = refl

recover_plan : (n : Inst) (core : Core) (block : ℕ) (it : How) → (recovered_by n core block it).plan ≡ n.plan
recover_plan n core block (how.Recovered it) = recovered_plan n core block it
recover_plan n core block _ = refl

block_plan : (n : Inst) (core : Core) (kind : BlockStep) (number : ℕ) (it : How) → (block_part n core kind number it).plan ≡ n.plan
unfolding block_part
block_plan n core block.Ask number it = asked_plan n number (lacked n number)
block_plan n core block.Evict number it = refl
block_plan n core block.WriteBlock number it = write_plan n number (written_of it)
block_plan n core block.AskWrite number it = refl
block_plan n core block.GivePast number it = refl
block_plan n core block.RecoverBlock number it = recover_plan n core number it

-- what came from an instance

gone_plan : (n : Inst) (image : Option Granted) → (without_image n image).plan ≡ n.plan
gone_plan n None = refl
gone_plan n (Some image) = refl

follow_plan : (n : Inst) (order : Option Order) → (followed n order).plan ≡ n.plan
follow_plan n None = refl
follow_plan n (Some order) = refl

from_disk_plan : (n : Inst) (block grant : ℕ) (mode : Mode) (it : Installed) → (granted_from_disk n block grant mode it).plan ≡ n.plan
from_disk_plan n block grant mode (installed.Read (data_read.Image image)) = refl
from_disk_plan n block grant mode _ = refl

install_plan : (n : Inst) (message : Option Message) (it : Installed) → (brought n message it).plan ≡ n.plan
install_plan n (Some (Shipped shipment)) it = refl
install_plan n (Some (Grant block grant mode true)) it = from_disk_plan n block grant mode it
install_plan n (Some (Grant block grant mode false)) it = refl
install_plan n _ it = refl

came_plan : (n : Inst) (message : Option Message) → (came_by n message).plan ≡ n.plan
came_plan n (Some (Copy image upto)) = refl
came_plan n (Some (UndoIs image job)) = refl
came_plan n _ = refl

hearing_plan : (n : Inst) (epoch from : ℕ) (message : Message) → (hearing n epoch from message).plan ≡ n.plan
hearing_plan n epoch from (Commit end) = refl
hearing_plan n epoch from (Heard end) = refl
hearing_plan n epoch from _ = refl

heard_plan : (n : Inst) (epoch from : ℕ) (packet : Option Packet) → (hearing_packet n epoch from packet).plan ≡ n.plan
heard_plan n epoch from None = refl
heard_plan n epoch from (Some packet) = hearing_plan (record n { clock = raised n.clock packet.scn }) epoch from packet.message

bucket_plan : (n : Inst) (message : Message) → (taking_bucket n message).plan ≡ n.plan
bucket_plan n (Bucket bucket entries) = refl
bucket_plan n _ = refl

packet_plan : (n : Inst) (packet : Option Packet) → (taking_packet n packet).plan ≡ n.plan
packet_plan n None = refl
packet_plan n (Some packet) = bucket_plan (record n { clock = raised n.clock packet.scn }) packet.message

read_plan : (n : Inst) (core : Core) (it : Found) → (thread_read n core it).plan ≡ n.plan
read_plan n core (found.Closed scns) = refl
read_plan n core (found.Unread bad) = refl
read_plan n core (found.Stopped log bad) = refl
read_plan n core (found.Whole log versions) = refl

close_plan : (n : Inst) (it : Closing) → (thread_closed n it).plan ≡ n.plan
close_plan n closing.Done = refl
close_plan n _ = refl

inst_plan : (n : Inst) (core : Core) (kind : InstStep) (from : ℕ) (it : How) → (inst_part n core kind from it).plan ≡ n.plan
unfolding inst_part
inst_plan n core inst.MasterTake from it = refl
inst_plan n core inst.Invalidate from it = gone_plan (hears n core from Main) (first_to_go n core from)
inst_plan n core inst.Ship from it = follow_plan (hears n core from Main) (first_order n core from)
inst_plan n core inst.ServeCopy from it = refl
inst_plan n core inst.DropPast from it = refl
inst_plan n core inst.Install from it = install_plan (hears n core from Main) (first_message n core from Main) (installed_of it)
inst_plan n core inst.TakeCopy from it = came_plan (hears n core from Main) (first_message n core from Main)
inst_plan n core inst.TakeUndo from it = came_plan (hears n core from Undo) (first_message n core from Undo)
inst_plan n core inst.ServeUndo from it = refl
inst_plan n core inst.Heard from it = heard_plan n core.members.epoch from (first_from core from n.plan.me Main)
inst_plan n core inst.TakeBucket from it = packet_plan n (first_from core from n.plan.me Main)
inst_plan n core inst.ReadThread from it = read_plan n core (found_of it)
inst_plan n core inst.CloseThread from it = close_plan n (closing_of it)

-- a control line

crash_plan : (n : Inst) (control : Option Control) → (crashed_by n control).plan ≡ n.plan
crash_plan n None = refl
crash_plan n (Some control) = refl

moved_plan : (n : Inst) (it : Option BucketMove) → (with_moved n it).plan ≡ n.plan
moved_plan n None = refl
moved_plan n (Some it) = refl

checkpoint_plan : (n : Inst) (line : ℕ) (it : Written) → (checkpointed n line it).plan ≡ n.plan
checkpoint_plan n line written.Done = refl
checkpoint_plan n line written.Failed = refl

read_in_plan : (n : Inst) (own : SegmentState) (scns : Clock) (it : Opened) → (read_in n own scns it).plan ≡ n.plan
read_in_plan n own scns (thread.Running length) = refl
read_in_plan n own scns (thread.Unwritten length) = refl
read_in_plan n own scns thread.Untold = refl

came_in_plan : (n : Inst) (core : Core) (it : Joined) → (came_in n core it).plan ≡ n.plan
came_in_plan n core join.Dark = refl
came_in_plan n core (join.Read own it) = read_in_plan n own.value (scns_of n core) it
came_in_plan n core _ = refl

join_plan : (n : Inst) (core : Core) (line : ℕ) (it : How) → (joined_by n core line it).plan ≡ n.plan
join_plan n core line (how.Joined it) = came_in_plan (begun n core line) core it
join_plan n core line _ = refl

line_plan : (n : Inst) (core : Core) (kind : LineStep) (number : ℕ) (it : How) → (line_part n core kind number it).plan ≡ n.plan
unfolding line_part
line_plan n core line.Crash number it = crash_plan n (open_control core number)
line_plan n core line.SendBucket number it = moved_plan n (moved_by core number)
line_plan n core line.KeepBucket number it = refl
line_plan n core line.Checkpoint number it = checkpoint_plan n number (written_of it)
line_plan n core line.Skip number it = refl
line_plan n core line.Join number it = join_plan n core number it

-- the instance alone

force_plan : (n : Inst) (it : Appended) → (forced_as n it).plan ≡ n.plan
force_plan n Whole = refl
force_plan n (Cut kept) = refl

opened_plan : (n : Inst) (scns : Clock) (it : Opened) → (opened n scns it).plan ≡ n.plan
opened_plan n scns (thread.Running length) = refl
opened_plan n scns _ = refl

opened_if_plan : (n : Inst) (scns : Clock) (it : Option Opened) → (opened_if n scns it).plan ≡ n.plan
opened_if_plan n scns None = refl
opened_if_plan n scns (Some it) = opened_plan n scns it

led_plan : (n : Inst) (core : Core) (owns : List SegmentState) → (led n core owns).plan ≡ n.plan
unfolding led
led_plan n core owns = refl

thawed_plan : (n : Inst) (core : Core) (it : Thawed) → (thawed n core it).plan ≡ n.plan
thawed_plan n core (thaw.Done opening owns) =
    led_plan (opened_part n core opening) (thaw_core (opened_part n core opening) (opened_shared n core opening)) owns.value.items
    ∙ opened_if_plan n (scns_of n core) opening
thawed_plan n core (thaw.Unopened opening) = opened_if_plan n (scns_of n core) opening
thawed_plan n core (thaw.Bad opening) = opened_if_plan n (scns_of n core) opening
thawed_plan n core (thaw.Unread opening) = opened_if_plan n (scns_of n core) opening

thaw_plan : (n : Inst) (core : Core) (it : How) → (thawed_by n core it).plan ≡ n.plan
thaw_plan n core (how.Thawed it) = thawed_plan n core it
thaw_plan n core _ = refl

plain_plan : (n : Inst) (core : Core) (kind : PlainStep) (it : How) → (plain_part n core kind it).plan ≡ n.plan
unfolding plain_part
plain_plan n core plain.Enter it = refl
plain_plan n core plain.Force it = force_plan n (forced_of it)
plain_plan n core plain.Report it = refl
plain_plan n core plain.Thaw it = thaw_plan n core it
plain_plan n core plain.Reopen it = refl
plain_plan n core plain.Resume it = refl
plain_plan n core plain.Leave it = refl
plain_plan n core plain.Wave it = refl

part_plan : (n : Inst) (core : Core) (action : Action) (it : How) → (part_of n core action it).plan ≡ n.plan
part_plan n core (Session kind z) it = session_plan n core kind z it
part_plan n core (Dead kind job) it = dead_plan n kind
part_plan n core (Block kind number) it = block_plan n core kind number it
part_plan n core (OfInst kind from) it = inst_plan n core kind from it
part_plan n core (Line kind number) it = line_plan n core kind number it
part_plan n core (Plain kind) it = plain_plan n core kind it

prepared_if_plan : (comes thawed : Bool) (n : Inst) (core : Core) → (prepared_if comes thawed n core).plan ≡ n.plan
prepared_if_plan false thawed n core = refl
prepared_if_plan true false n core = refl
prepared_if_plan true true n core = refl

pub prepared_plan : (n : Inst) (core : Core) (action : Action) → (prepared n core action).plan ≡ n.plan
unfolding prepared
prepared_plan n core action = prepared_if_plan (comes_after_thaw (kind_class action)) (is_thawed core.members.phase) n core

-- No step changes what the script lays down for an instance.
pub plan_kept : (n : Inst) (core : Core) (action : Action) (it : How) → (part_after n core action it).plan ≡ n.plan
plan_kept n core action it = part_plan (prepared n core action) (counted core n.plan.me action) action it ∙ prepared_plan n core action
