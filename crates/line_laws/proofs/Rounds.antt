-- Which steps leave the waves of the script as they are.
use Rattle.std.proofs.Common.{◌≡◌, ℕ, ◌+◌, Bool, true, false, List, [], ◌∷◌, Option, Some, None, if◌then◌else◌, refl, ◌∙◌}
use Rattle.std.specs.List.{fold}
use Rattle.base_types.specs.declared.layout.Layout.{Layout}
use Rattle.base_types.specs.declared.names.Scn.{Scn}
use Rattle.block_image.specs.Block.{BlockContent}
use Rattle.redo_types.specs.declared.redo.Redo.{Redo}
use Rattle.redo_record.specs.Redo.{length_of}
use Rattle.inst_set.specs.declared.set.InstSet.{InstSet}
use Rattle.inst_set.specs.Sets.{all_insts}
use Rattle.scn_clock.specs.declared.clock.Clock.{Clock}
use Rattle.wire_net.specs.declared.message.UndoImage.{UndoImage}
use Rattle.wire_net.specs.declared.message.Shipment.{Shipment}
use Rattle.wire_net.specs.declared.entry.Entry.{Entry as DirEntry}
use Rattle.buffer_cache.specs.Cache.{place_at}
use Rattle.buffer_cache.specs.Place.{clean_grant}
use Rattle.wire_net.specs.declared.message.Lane.TheVariants.{Main, Undo as UndoLane}
use Rattle.wire_net.specs.declared.message.Message.{Message}
use Rattle.wire_net.specs.declared.message.Message.TheVariants.{Bucket, Commit, Grant, NeedUndo, Shipped, Wrote}
use Rattle.wire_net.specs.declared.message.Mode.{Mode}
use Rattle.wire_net.specs.declared.message.Packet.{Packet}
use Rattle.buffer_cache.specs.declared.place.Current.{Current}
use Rattle.inst_state.specs.declared.control.Control.{Control}
use Rattle.inst_state.specs.declared.inst.Inst.{Inst}
use Rattle.inst_state.specs.declared.inst.Life.{Life}
use Rattle.inst_state.specs.declared.inst.Life.TheVariants.{Joining}
use Rattle.inst_state.specs.declared.session.Ending.{Ending}
use Rattle.inst_state.specs.declared.shared.Core.{Core}
use Rattle.inst_state.specs.declared.shared.Waves.{Waves}
use Rattle.inst_state.specs.Shared.{answering, is_live, open_control}
use Rattle.inst_state.specs.Hand.{current_image}
use Rattle.inst_state.specs.Sending.{first_from, sending, without_first}
use Rattle.inst_state.specs.State.{stmt_at}
use Rattle.inst_loss.specs.declared.ends.Loss.{Loss}
use Rattle.inst_loss.specs.declared.ends.Loss.TheVariants as loss
use Rattle.inst_loss.specs.LostCore.{kept_told, loss_told, lost_core, start_answered}
use Rattle.disk_calls.specs.declared.appends.Appended.{Appended}
use Rattle.disk_calls.specs.declared.appends.Appended.TheVariants.{Cut, Whole}
use Rattle.disk_calls.specs.declared.images.ReadData.TheVariants as data_read
use Rattle.disk_calls.specs.declared.images.ReadUndo.TheVariants as undo_read
use Rattle.disk_calls.specs.declared.writes.Written.{Written}
use Rattle.disk_calls.specs.declared.writes.Written.TheVariants as written
use Rattle.disk_steps.specs.AskUndo.{asked_by_core, asked_core, lacking, place_of, undo_read_core}
use Rattle.disk_steps.specs.Checkpoint.{checkpoint_told}
use Rattle.disk_steps.specs.Crash.{crash_told_by, crash_told_if, kept_to}
use Rattle.disk_steps.specs.Force.{force_told}
use Rattle.disk_steps.specs.Install.{brought_core, granted_core}
use Rattle.disk_steps.specs.Write.{target, tells_of, write_told, write_told_as, wrote_sent}
use Rattle.disk_steps.specs.declared.crashes.Kept.{Kept}
use Rattle.disk_steps.specs.declared.crashes.Kept.TheVariants.{Bytes, Nothing}
use Rattle.disk_steps.specs.declared.installs.Installed.{Installed}
use Rattle.disk_steps.specs.declared.installs.Installed.TheVariants as installed
use Rattle.disk_steps.specs.declared.undo_asks.AskedUndo.{AskedUndo}
use Rattle.disk_steps.specs.declared.undo_asks.AskedUndo.TheVariants as asked_for
use Rattle.disk_steps.specs.declared.undo_asks.Lacking.{Lacking}
use Rattle.disk_steps.specs.declared.undo_asks.Lacking.TheVariants.{Sense, Undo}
use Rattle.disk_steps.specs.declared.undo_asks.Place.{Place}
use Rattle.disk_steps.specs.declared.writing.Target.{Target}
use Rattle.disk_steps.specs.declared.writing.Target.TheVariants.{Data}
use Rattle.image_steps.specs.Ask.{ask_sent_in, lacked}
use Rattle.image_steps.specs.AskWrite.{past_version, plea_sent}
use Rattle.image_steps.specs.DropPast.{first_past_order, past_order_sent, plea_answered}
use Rattle.image_steps.specs.declared.pasts.PastOrder.{PastOrder}
use Rattle.image_steps.specs.declared.pasts.PastOrder.TheVariants.{Drop, Write}
use Rattle.image_steps.specs.Evict.{gave_up}
use Rattle.image_steps.specs.Hear.{first_message, heard, hears}
use Rattle.image_steps.specs.Invalidate.{first_to_go, gone_sent}
use Rattle.image_steps.specs.declared.invalidating.Granted.{Granted}
use Rattle.image_steps.specs.MasterTake.{is_master, master_block, master_sends, master_sends_at, next_master, sends_all}
use Rattle.image_steps.specs.Sends.{sends, sends_to_master}
use Rattle.image_steps.specs.ServeCopy.{copy_sent_by, copy_sent_of, first_copy_order}
use Rattle.image_steps.specs.declared.copying.CopyOrder.{CopyOrder}
use Rattle.image_steps.specs.ServeUndo.{first_undo_order, undo_image, undo_sent_by, undo_sent_of}
use Rattle.image_steps.specs.declared.undo_serving.UndoOrder.{UndoOrder}
use Rattle.image_steps.specs.Ship.{first_order, follow_sent, sent_for, shipment}
use Rattle.image_steps.specs.declared.shipping.Order.{Order}
use Rattle.resource_dir.specs.Directory.{bucket_of, directory_takes}
use Rattle.wave_steps.specs.Answers.{ack_told}
use Rattle.wave_steps.specs.Buckets.{first_move, move_told, moved_by, naming, noting_bucket, noting_packet, sending_bucket, sending_move}
use Rattle.wave_steps.specs.declared.buckets.BucketMove.{BucketMove}
use Rattle.wave_steps.specs.News.{heard as news_heard, answering_news, answering_packet, durable_ending, is_other_live, sent_if, sent_to_others, with_news}
use Rattle.wave_steps.specs.WaveEnd.{left, risen, skipped_line}
use Rattle.report_steps.specs.Reopen.{joined_by}
use Rattle.thread_steps.specs.Close.{closed_core_as, closed_entry, read_of}
use Rattle.thread_steps.specs.Read.{record_entered, records_entered, thread_read_core}
use Rattle.thread_steps.specs.declared.closes.Closing.{Closing}
use Rattle.thread_steps.specs.declared.closes.Closing.TheVariants as closing
use Rattle.thread_steps.specs.declared.found.Found.{Found}
use Rattle.thread_steps.specs.declared.found.Found.TheVariants as found
use Rattle.rebuild_steps.specs.Join.{begun, came_in_core, entered_core, with_segment}
use Rattle.rebuild_steps.specs.Ends.{ended as stop_core}
use Rattle.rebuild_steps.specs.Bound.{bound_of}
use Rattle.rebuild_steps.specs.Open.{is_open, opened_core, scns_of}
use Rattle.rebuild_steps.specs.Thaw.{dealt_core, opened_core_if, opened_part, opened_shared, thawed_core}
use Rattle.rebuild_steps.specs.declared.opens.Opened.{Opened}
use Rattle.rebuild_steps.specs.declared.opens.Opened.TheVariants as thread
use Rattle.rebuild_steps.specs.declared.joins.Joined.{Joined}
use Rattle.rebuild_steps.specs.declared.joins.Joined.TheVariants as joined
use Rattle.rebuild_steps.specs.declared.recovers.Recovered.TheVariants as recovered
use Rattle.rebuild_steps.specs.declared.thaws.Thawed.{Thawed}
use Rattle.rebuild_steps.specs.declared.thaws.Thawed.TheVariants as thawed
use Rattle.inst_node.specs.declared.actions.Action.{Action}
use Rattle.inst_node.specs.declared.actions.Action.TheVariants.{Block, Dead, Inst as OfInst, Line, Plain, Session}
use Rattle.inst_node.specs.declared.actions.BlockStep.{BlockStep}
use Rattle.inst_node.specs.declared.actions.BlockStep.TheVariants as block
use Rattle.inst_node.specs.declared.actions.DeadStep.{DeadStep}
use Rattle.inst_node.specs.declared.actions.DeadStep.TheVariants as dead
use Rattle.inst_node.specs.declared.actions.InstStep.{InstStep}
use Rattle.inst_node.specs.declared.actions.InstStep.TheVariants as inst
use Rattle.inst_node.specs.declared.actions.LineStep.{LineStep}
use Rattle.inst_node.specs.declared.actions.LineStep.TheVariants as line
use Rattle.inst_node.specs.declared.actions.PlainStep.{PlainStep}
use Rattle.inst_node.specs.declared.actions.PlainStep.TheVariants as plain
use Rattle.inst_node.specs.declared.actions.SessionStep.{SessionStep}
use Rattle.inst_node.specs.declared.actions.SessionStep.TheVariants as session
use Rattle.inst_node.specs.declared.hows.How.{How}
use Rattle.inst_node.specs.declared.hows.How.TheVariants as how
use Rattle.inst_node.specs.Moves.{asked_undo_of, block_core, closing_of, core_of, crashed_of, dead_core, forced_of, found_of, inst_core, installed_of, joined_core_by, line_core, plain_core, recovered_core_by, session_core, thawed_core_by, written_of}

-- how far the waves of a script have come, and how the disk is laid out
pub record Round : Type 0 where
  pub layout : Layout
  pub wave : ℕ
  pub count : ℕ
  pub over : Bool
  pub left : InstSet

abbrev pub round_of : Core → Round
round_of core = record {
  layout = core.layout;
  wave = core.waves.wave;
  count = core.waves.count;
  over = core.waves.over;
  left = core.waves.left;
}

kept_round : (n : Inst) (core : Core) (o : Option ℕ) → round_of (kept_told n core o) ≡ round_of core
kept_round n core None = refl
kept_round n core (Some kept) = refl

start_round : (life : Life) (core : Core) → round_of (start_answered life core) ≡ round_of core
start_round (Joining number) core = refl
start_round _ core = refl

loss_round : (n : Inst) (core : Core) (it : Loss) → round_of (loss_told n core it) ≡ round_of core
loss_round n core (loss.Crashed number) = refl
loss_round n core (loss.Ended bad) = start_round n.life core

pub lost_round : (n : Inst) (core : Core) (it : Loss) (kept : Option ℕ) → round_of (lost_core n core it kept) ≡ round_of core
lost_round n core it kept = loss_round n (kept_told n core kept) it ∙ kept_round n core kept

stop_round : (n : Inst) (core : Core) (bad : Bool) → round_of (lost_core n core (loss.Ended bad) (Some 0)) ≡ round_of core
stop_round n core bad = lost_round n core (loss.Ended bad) (Some 0)

if_round : (b : Bool) (core x y : Core) → round_of x ≡ round_of core → round_of y ≡ round_of core → round_of (if b then x else y) ≡ round_of core
if_round true core x y e f = e
if_round false core x y e f = f

undo_read_round : (n : Inst) (core : Core) (it : AskedUndo) → round_of (undo_read_core n core it) ≡ round_of core
undo_read_round n core (asked_for.Read (undo_read.Head head)) = refl
undo_read_round n core (asked_for.Read (undo_read.Block block)) = refl
undo_read_round n core (asked_for.Read undo_read.Failed) = stop_round n core false
undo_read_round n core _ = stop_round n core true

ask_at_round : (n : Inst) (core : Core) (z : ℕ) (o : Option Place) (it : AskedUndo) → round_of (asked_core n core z o it) ≡ round_of core
ask_at_round n core z None it = stop_round n core true
ask_at_round n core z (Some place) it = if_round (is_live core place.seg) core (sends n core place.seg (NeedUndo place.block z)) (undo_read_core n core it) refl (undo_read_round n core it)

ask_by_round : (n : Inst) (core : Core) (z : ℕ) (o : Option Lacking) (it : AskedUndo) → round_of (asked_by_core n core z o it) ≡ round_of core
ask_by_round n core z None it = refl
ask_by_round n core z (Some (Undo what)) it = ask_at_round n core z (place_of n.plan.layout what) it
ask_by_round n core z (Some Sense) it = stop_round n core true

news_round : (me : ℕ) (scn end : Scn) (core : Core) (tos : List ℕ) → round_of (fold (sent_if me scn end) core tos) ≡ round_of core
news_round me scn end core [] = refl
news_round me scn end core (to ∷ tos) =
    news_round me scn end (sent_if me scn end core to) tos ∙ if_round (is_other_live core me to) core (sending core me scn to (Commit end)) core refl refl

others_round : (me : ℕ) (scn end : Scn) (core : Core) → round_of (sent_to_others me scn end core) ≡ round_of core
unfolding sent_to_others
others_round me scn end core = news_round me scn end core all_insts

broadcast_round : (n : Inst) (core : Core) (o : Option Ending) → round_of (with_news n core o) ≡ round_of core
broadcast_round n core None = refl
broadcast_round n core (Some ending) = others_round n.plan.me n.clock.scn ending.scn core

ack_round : (core : Core) (stmt : ℕ) (o : Option Ending) → round_of (ack_told core stmt o) ≡ round_of core
ack_round core stmt None = refl
ack_round core stmt (Some ending) = refl

session_round : (n : Inst) (core : Core) (kind : SessionStep) (z : ℕ) (it : How) → round_of (session_core n core kind z it) ≡ round_of core
unfolding session_core
session_round n core session.AskUndo z it = ask_by_round n core z (lacking n z) (asked_undo_of it)
session_round n core session.Broadcast z it = broadcast_round n core (durable_ending n z)
session_round n core session.Ack z it = ack_round core (stmt_at n z) (durable_ending n z)
session_round n core _ z it = refl

dead_round : (n : Inst) (core : Core) (kind : DeadStep) → round_of (dead_core n core kind) ≡ round_of core
unfolding dead_core
dead_round n core dead.AskUndo = stop_round n core true
dead_round n core _ = refl

sent_round : (n : Inst) (core : Core) (block : ℕ) (o : Option Mode) → round_of (ask_sent_in n core block o) ≡ round_of core
sent_round n core block None = refl
sent_round n core block (Some mode) = refl

gave_round : (n : Inst) (core : Core) (block : ℕ) (o : Option ℕ) → round_of (gave_up n core block o) ≡ round_of core
gave_round n core block None = refl
gave_round n core block (Some grant) = refl

plea_round : (n : Inst) (core : Core) (block : ℕ) (o : Option ℕ) → round_of (plea_sent n core block o) ≡ round_of core
plea_round n core block None = refl
plea_round n core block (Some version) = refl

wrote_round : (n : Inst) (core : Core) (block : ℕ) (o : Option BlockContent) → round_of (wrote_sent n core block o) ≡ round_of core
wrote_round n core block None = refl
wrote_round n core block (Some image) = if_round (tells_of n core block) core (sends_to_master n core block (Wrote block image.front.version)) core refl refl

write_round : (n : Inst) (core : Core) (block : ℕ) (it : Written) → round_of (write_told n core block it) ≡ round_of core
write_round n core block written.Done = by (target n block)
  where
    by : (what : Target) → round_of (write_told_as n core block what) ≡ round_of core
    by Data = wrote_round n core block (current_image n block)
    by _ = refl
write_round n core block written.Failed = stop_round n core false

recover_round : (n : Inst) (core : Core) (block : ℕ) (it : How) → round_of (recovered_core_by n core block it) ≡ round_of core
recover_round n core block (how.Recovered (recovered.Done stood version)) = refl
recover_round n core block (how.Recovered (recovered.Unwritten stood)) = stop_round n core false
recover_round n core block (how.Recovered (recovered.Unrolled stood)) = stop_round n core true
recover_round n core block (how.Recovered recovered.Bad) = stop_round n core true
recover_round n core block (how.Recovered recovered.Unread) = stop_round n core false
recover_round n core block _ = refl

block_round : (n : Inst) (core : Core) (kind : BlockStep) (number : ℕ) (it : How) → round_of (block_core n core kind number it) ≡ round_of core
unfolding block_core
block_round n core block.Ask number it = sent_round n core number (lacked n number)
block_round n core block.Evict number it = gave_round n core number (clean_grant (place_at n.cache number).current)
block_round n core block.WriteBlock number it = write_round n core number (written_of it)
block_round n core block.AskWrite number it = plea_round n core number (past_version n number)
block_round n core block.GivePast number it = refl
block_round n core block.RecoverBlock number it = recover_round n core number it

all_round : (n : Inst) (core : Core) (messages : List (ℕ × Message)) → round_of (sends_all n core messages) ≡ round_of core
all_round n core [] = refl
all_round n core (it ∷ messages) = all_round n (sends n core it.0 it.1) messages

master_at_round : (n : Inst) (core : Core) (message : Message) (o : Option ℕ) → round_of (master_sends_at n core message o) ≡ round_of core
master_at_round n core message None = refl
master_at_round n core message (Some block) =
    if_round (is_master n block) core (sends_all n core (directory_takes n.mastering.directory block message).sends)
    (sends n core (next_master n core block) message) (all_round n core (directory_takes n.mastering.directory block message).sends) refl

master_round : (n : Inst) (core : Core) (o : Option Message) → round_of (master_sends n core o) ≡ round_of core
master_round n core None = refl
master_round n core (Some message) = master_at_round n core message (master_block message)

gone_round : (n : Inst) (core : Core) (o : Option Granted) → round_of (gone_sent n core o) ≡ round_of core
gone_round n core None = refl
gone_round n core (Some image) = refl

ship_round : (n k : Inst) (core : Core) (o : Option Order) → round_of (follow_sent k core o) ≡ round_of core
ship_round n k core None = refl
ship_round n k core (Some order) = by (shipment k order)
  where
    by : (o : Option Shipment) → round_of (sent_for k core order o) ≡ round_of core
    by None = refl
    by (Some shipment) = refl

copy_round : (n : Inst) (core : Core) (o : Option CopyOrder) → round_of (copy_sent_by n core o) ≡ round_of core
copy_round n core None = refl
copy_round n core (Some order) = by (current_image n order.block)
  where
    by : (o : Option BlockContent) → round_of (copy_sent_of n core order o) ≡ round_of core
    by None = refl
    by (Some image) = refl

undo_round : (n : Inst) (core : Core) (to : ℕ) (o : Option UndoOrder) → round_of (undo_sent_by n core to o) ≡ round_of core
undo_round n core to None = refl
undo_round n core to (Some order) = by (undo_image n.segment order.block)
  where
    by : (o : Option UndoImage) → round_of (undo_sent_of n core to order.job o) ≡ round_of core
    by None = refl
    by (Some image) = refl

past_round : (n : Inst) (core : Core) (o : Option PastOrder) → round_of (past_order_sent n core o) ≡ round_of core
past_round n core None = refl
past_round n core (Some (Drop block version)) = refl
past_round n core (Some (Write plea)) = by (place_at n.cache plea.block).current
  where
    by : (o : Option Current) → round_of (plea_answered n core plea o) ≡ round_of core
    by None = refl
    by (Some now) = if_round now.dirty core core (sends_to_master n core plea.block (Wrote plea.block now.image.front.version)) refl refl

grant_round : (n : Inst) (core : Core) (block grant : ℕ) (mode : Mode) (it : Installed) → round_of (granted_core n core block grant mode it) ≡ round_of core
grant_round n core block grant mode (installed.Read (data_read.Image image)) = refl
grant_round n core block grant mode (installed.Read data_read.Failed) = stop_round n core false
grant_round n core block grant mode _ = stop_round n core true

bring_round : (n : Inst) (core : Core) (o : Option Message) (it : Installed) → round_of (brought_core n core o it) ≡ round_of core
bring_round n core (Some (Shipped shipment)) it = refl
bring_round n core (Some (Grant block grant mode true)) it = grant_round n core block grant mode it
bring_round n core (Some (Grant block grant mode false)) it = refl
bring_round n core _ it = refl

hear_round : (core : Core) (me : ℕ) (scn : Scn) (from : ℕ) (o : Option Packet) → round_of (answering_packet core me scn from o) ≡ round_of core
hear_round core me scn from None = refl
hear_round core me scn from (Some packet) = by packet.message
  where
    by : (message : Message) → round_of (answering_news core me scn from message) ≡ round_of core
    by (Commit c) = refl
    by _ = refl

move_round : (core : Core) (o : Option Control) → round_of (move_told core o) ≡ round_of core
move_round core None = refl
move_round core (Some control) = refl

note_round : (core : Core) (me : ℕ) (o : Option Packet) → round_of (noting_packet core me o) ≡ round_of core
note_round core me None = refl
note_round core me (Some packet) = by packet.message
  where
    by : (message : Message) → round_of (noting_bucket core me message) ≡ round_of core
    by (Bucket bucket entries) = move_round (naming core bucket me) (first_move core bucket me)
    by _ = refl

records_round : (thread at : ℕ) (records : List Redo) (core : Core) → round_of (records_entered thread at records core) ≡ round_of core
records_round thread at [] core = refl
records_round thread at (redo ∷ records) core =
    let behind = at + length_of redo.kind in records_round thread behind records (record_entered thread behind redo core)

read_round : (n : Inst) (core : Core) (thread : ℕ) (it : Found) → round_of (thread_read_core n core thread it) ≡ round_of core
read_round n core thread (found.Closed scns) = refl
read_round n core thread (found.Unread bad) = stop_round n core bad
read_round n core thread (found.Stopped log bad) =
    stop_round n (records_entered thread log.position log.read.records core) bad ∙ records_round thread log.position log.read.records core
read_round n core thread (found.Whole log versions) = records_round thread log.position log.read.records core

close_round : (n : Inst) (core : Core) (thread : ℕ) (it : Closing) → round_of (closed_core_as n core thread (closed_entry (read_of n thread)) it) ≡ round_of core
close_round n core thread closing.Done = refl
close_round n core thread _ = stop_round n core false

inst_round : (n : Inst) (core : Core) (kind : InstStep) (from : ℕ) (it : How) → round_of (inst_core n core kind from it) ≡ round_of core
unfolding inst_core
inst_round n core inst.MasterTake from it = master_round (hears n core from Main) (heard n core from Main) (first_message n core from Main)
inst_round n core inst.Invalidate from it = gone_round (hears n core from Main) (heard n core from Main) (first_to_go n core from)
inst_round n core inst.Ship from it = ship_round n (hears n core from Main) (heard n core from Main) (first_order n core from)
inst_round n core inst.ServeCopy from it = copy_round (hears n core from Main) (heard n core from Main) (first_copy_order n core from)
inst_round n core inst.DropPast from it = past_round (hears n core from Main) (heard n core from Main) (first_past_order n core from)
inst_round n core inst.Install from it = bring_round (hears n core from Main) (heard n core from Main) (first_message n core from Main) (installed_of it)
inst_round n core inst.TakeCopy from it = refl
inst_round n core inst.TakeUndo from it = refl
inst_round n core inst.ServeUndo from it = undo_round (hears n core from UndoLane) (heard n core from UndoLane) from (first_undo_order n core from)
inst_round n core inst.Heard from it = hear_round (without_first core from n.plan.me Main) n.plan.me (news_heard n core from).clock.scn from (first_from core from n.plan.me Main)
inst_round n core inst.TakeBucket from it = note_round (without_first core from n.plan.me Main) n.plan.me (first_from core from n.plan.me Main)
inst_round n core inst.ReadThread thread it = read_round n core thread (found_of it)
inst_round n core inst.CloseThread thread it = close_round n core thread (closing_of it)

crash_as_round : (n : Inst) (core : Core) (control : Control) (it : Kept) → round_of (crash_told_by n core control it) ≡ round_of core
crash_as_round n core control Nothing = lost_round n core (loss.Crashed control.line) (Some n.thread.durable)
crash_as_round n core control (Bytes Whole) = lost_round n core (loss.Crashed control.line) (Some (kept_to n control))
crash_as_round n core control (Bytes (Cut kept)) = lost_round n (answering core control.line) (loss.Ended false) kept

crash_round : (n : Inst) (core : Core) (o : Option Control) (it : Kept) → round_of (crash_told_if n core o it) ≡ round_of core
crash_round n core None it = refl
crash_round n core (Some control) it = crash_as_round n core control it

send_round : (n : Inst) (core : Core) (o : Option BucketMove) → round_of (sending_move n core o) ≡ round_of core
send_round n core None = refl
send_round n core (Some it) = by (bucket_of n.mastering.directory it.bucket)
  where
    by : (o : Option (List DirEntry)) → round_of (sending_bucket core n.plan.me n.clock.scn it o) ≡ round_of core
    by None = refl
    by (Some entries) = refl

check_round : (n : Inst) (core : Core) (number : ℕ) (it : Written) → round_of (checkpoint_told n core number it) ≡ round_of core
check_round n core number written.Done = refl
check_round n core number written.Failed = stop_round n core false

skip_round : (core : Core) (o : Option Control) → round_of (skipped_line core o) ≡ round_of core
skip_round core None = refl
skip_round core (Some control) = refl

open_round : (core : Core) (me : ℕ) (it : Opened) → round_of (opened_core core me it) ≡ round_of core
open_round core me thread.Untold = refl
open_round core me _ = refl

join_round : (n : Inst) (core : Core) (it : Joined) → round_of (came_in_core n core it) ≡ round_of core
join_round n core joined.Dark = refl
join_round n core (joined.Read own it) =
    if_round (is_open it) core (entered_core (opened_core core n.plan.me it) n.plan.me) (stop_core (with_segment n own.value (scns_of n core) it) (opened_core core n.plan.me it) false) (open_round core n.plan.me it)
    (stop_round (with_segment n own.value (scns_of n core) it) (opened_core core n.plan.me it) false ∙ open_round core n.plan.me it)
join_round n core joined.Bad = stop_round n core true
join_round n core joined.Unread = stop_round n core false

join_by_round : (n : Inst) (core : Core) (number : ℕ) (it : How) → round_of (joined_core_by n core number it) ≡ round_of core
join_by_round n core number (how.Joined it) = join_round (begun n core number) core it
join_by_round n core number _ = refl

line_round : (n : Inst) (core : Core) (kind : LineStep) (number : ℕ) (it : How) → round_of (line_core n core kind number it) ≡ round_of core
unfolding line_core
line_round n core line.Crash number it = crash_round n core (open_control core number) (crashed_of it)
line_round n core line.SendBucket number it = send_round n core (moved_by core number)
line_round n core line.KeepBucket number it = move_round core (open_control core number)
line_round n core line.Checkpoint number it = check_round n core number (written_of it)
line_round n core line.Skip number it = skip_round core (open_control core number)
line_round n core line.Join number it = join_by_round n core number it

force_round : (n : Inst) (core : Core) (it : Appended) → round_of (force_told n core it) ≡ round_of core
force_round n core Whole = refl
force_round n core (Cut kept) = lost_round n core (loss.Ended false) kept

open_if_round : (core : Core) (me : ℕ) (o : Option Opened) → round_of (opened_core_if core me o) ≡ round_of core
open_if_round core me None = refl
open_if_round core me (Some it) = open_round core me it

dealt_round : (core : Core) (me : ℕ) (bound : Clock) → round_of (dealt_core core me bound) ≡ round_of core
unfolding dealt_core
dealt_round core me bound = refl

thaw_round : (n : Inst) (core : Core) (it : Thawed) → round_of (thawed_core n core it) ≡ round_of core
thaw_round n core (thawed.Done opening owns) =
    dealt_round (opened_shared n core opening) (opened_part n core opening).plan.me (bound_of (opened_part n core opening) (opened_shared n core opening)) ∙ open_if_round core n.plan.me opening
thaw_round n core (thawed.Unopened opening) =
    stop_round (opened_part n core opening) (opened_shared n core opening) false ∙ open_if_round core n.plan.me opening
thaw_round n core (thawed.Bad opening) =
    stop_round (opened_part n core opening) (opened_shared n core opening) true ∙ open_if_round core n.plan.me opening
thaw_round n core (thawed.Unread opening) =
    stop_round (opened_part n core opening) (opened_shared n core opening) false ∙ open_if_round core n.plan.me opening

thaw_by_round : (n : Inst) (core : Core) (it : How) → round_of (thawed_core_by n core it) ≡ round_of core
thaw_by_round n core (how.Thawed it) = thaw_round n core it
thaw_by_round n core _ = refl

resume_round : (n : Inst) (core : Core) (life : Life) (waves : Waves)
    → round_of (record core { waves = joined_by life waves }) ≡ round_of (record core { waves = waves })
resume_round n core (Joining number) waves = refl
resume_round n core _ waves = refl

-- the waves after a step: as they were, but after an instance has left the wave or the next one has risen
abbrev pub round_after : Inst → Core → Action → Round
round_after n core (Plain plain.Leave) = round_of (left n core)
round_after n core (Plain plain.Wave) = round_of (risen core)
round_after n core _ = round_of core

plain_round : (n : Inst) (core : Core) (kind : PlainStep) (it : How) → round_of (plain_core n core kind it) ≡ round_after n core (Plain kind)
unfolding plain_core
plain_round n core plain.Enter it = refl
plain_round n core plain.Force it = force_round n core (forced_of it)
plain_round n core plain.Report it = refl
plain_round n core plain.Thaw it = thaw_by_round n core it
plain_round n core plain.Reopen it = refl
plain_round n core plain.Resume it = resume_round n core n.life core.waves
plain_round n core plain.Leave it = refl
plain_round n core plain.Wave it = refl

-- a step leaves the waves so
pub round_by : (n : Inst) (core : Core) (action : Action) (it : How) → round_of (core_of n core action it) ≡ round_after n core action
round_by n core (Session kind z) it = session_round n core kind z it
round_by n core (Dead kind job) it = dead_round n core kind
round_by n core (Block kind number) it = block_round n core kind number it
round_by n core (OfInst kind from) it = inst_round n core kind from it
round_by n core (Line kind number) it = line_round n core kind number it
round_by n core (Plain kind) it = plain_round n core kind it
