-- Which steps leave the membership as it is.
use Rattle.std.proofs.Common.{◌≡◌, ℕ, ◌+◌, Bool, true, false, List, [], ◌∷◌, Option, Some, None, if◌then◌else◌, refl, ◌∙◌, ◌⊎◌, inl, inr}
use Rattle.std.specs.List.{fold}
use Rattle.base_types.specs.declared.names.Scn.{Scn}
use Rattle.block_image.specs.Block.{BlockContent}
use Rattle.redo_types.specs.declared.redo.Redo.{Redo}
use Rattle.redo_record.specs.Redo.{length_of}
use Rattle.inst_set.specs.Sets.{all_insts}
use Rattle.wire_net.specs.declared.message.UndoImage.{UndoImage}
use Rattle.wire_net.specs.declared.message.Shipment.{Shipment}
use Rattle.wire_net.specs.declared.entry.Entry.{Entry as DirEntry}
use Rattle.buffer_cache.specs.Cache.{place_at}
use Rattle.buffer_cache.specs.Place.{clean_grant}
use Rattle.wire_net.specs.declared.message.Lane.TheVariants.{Main, Undo as UndoLane}
use Rattle.wire_net.specs.declared.message.Message.{Message}
use Rattle.wire_net.specs.declared.message.Message.TheVariants.{Bucket, Commit, Grant, NeedUndo, Shipped, Wrote}
use Rattle.wire_net.specs.declared.message.Mode.{Mode}
use Rattle.wire_net.specs.declared.message.Packet.{Packet}
use Rattle.buffer_cache.specs.declared.place.Current.{Current}
use Rattle.inst_state.specs.declared.control.Control.{Control}
use Rattle.inst_state.specs.declared.inst.Inst.{Inst}
use Rattle.inst_state.specs.declared.session.Ending.{Ending}
use Rattle.inst_state.specs.declared.shared.Core.{Core}
use Rattle.inst_state.specs.Shared.{answering, is_live, open_control}
use Rattle.inst_state.specs.Hand.{current_image}
use Rattle.inst_state.specs.Sending.{first_from, sending, without_first}
use Rattle.inst_state.specs.State.{session_at, stmt_at}
use Rattle.inst_loss.specs.declared.ends.Loss.{Loss}
use Rattle.inst_loss.specs.declared.ends.Loss.TheVariants as loss
use Rattle.inst_loss.specs.LostCore.{kept_told, loss_told, lost_core, with_refusal}
use Rattle.disk_calls.specs.declared.appends.Appended.{Appended}
use Rattle.disk_calls.specs.declared.appends.Appended.TheVariants.{Cut, Whole}
use Rattle.disk_calls.specs.declared.images.ReadData.TheVariants as data_read
use Rattle.disk_calls.specs.declared.images.ReadUndo.TheVariants as undo_read
use Rattle.disk_calls.specs.declared.writes.Written.{Written}
use Rattle.disk_calls.specs.declared.writes.Written.TheVariants as written
use Rattle.disk_steps.specs.AskUndo.{asked_by_core, asked_core, lacking, place_of, undo_read_core}
use Rattle.disk_steps.specs.Checkpoint.{checkpoint_told}
use Rattle.disk_steps.specs.Crash.{crash_told_by, crash_told_if, kept_to}
use Rattle.disk_steps.specs.Force.{force_told}
use Rattle.disk_steps.specs.Install.{brought_core, granted_core}
use Rattle.disk_steps.specs.Write.{target, tells_of, write_told, write_told_as, wrote_sent}
use Rattle.disk_steps.specs.declared.crashes.Kept.{Kept}
use Rattle.disk_steps.specs.declared.crashes.Kept.TheVariants.{Bytes, Nothing}
use Rattle.disk_steps.specs.declared.installs.Installed.{Installed}
use Rattle.disk_steps.specs.declared.installs.Installed.TheVariants as installed
use Rattle.disk_steps.specs.declared.undo_asks.AskedUndo.{AskedUndo}
use Rattle.disk_steps.specs.declared.undo_asks.AskedUndo.TheVariants as asked_for
use Rattle.disk_steps.specs.declared.undo_asks.Lacking.{Lacking}
use Rattle.disk_steps.specs.declared.undo_asks.Lacking.TheVariants.{Sense, Undo}
use Rattle.disk_steps.specs.declared.undo_asks.Place.{Place}
use Rattle.disk_steps.specs.declared.writing.Target.{Target}
use Rattle.disk_steps.specs.declared.writing.Target.TheVariants.{Data}
use Rattle.image_steps.specs.Ask.{ask_sent_in, lacked}
use Rattle.image_steps.specs.AskWrite.{past_version, plea_sent}
use Rattle.image_steps.specs.DropPast.{first_past_order, past_order_sent, plea_answered}
use Rattle.image_steps.specs.declared.pasts.PastOrder.{PastOrder}
use Rattle.image_steps.specs.declared.pasts.PastOrder.TheVariants.{Drop, Write}
use Rattle.image_steps.specs.Evict.{gave_up}
use Rattle.image_steps.specs.Hear.{first_message, heard, hears}
use Rattle.image_steps.specs.Invalidate.{first_to_go, gone_sent}
use Rattle.image_steps.specs.declared.invalidating.Granted.{Granted}
use Rattle.image_steps.specs.MasterTake.{is_master, master_block, master_sends, master_sends_at, next_master, sends_all}
use Rattle.image_steps.specs.Sends.{sends, sends_to_master}
use Rattle.image_steps.specs.ServeCopy.{copy_sent_by, copy_sent_of, first_copy_order}
use Rattle.image_steps.specs.declared.copying.CopyOrder.{CopyOrder}
use Rattle.image_steps.specs.ServeUndo.{first_undo_order, undo_image, undo_sent_by, undo_sent_of}
use Rattle.image_steps.specs.declared.undo_serving.UndoOrder.{UndoOrder}
use Rattle.image_steps.specs.Ship.{first_order, follow_sent, sent_for, shipment}
use Rattle.image_steps.specs.declared.shipping.Order.{Order}
use Rattle.resource_dir.specs.Directory.{bucket_of, directory_takes}
use Rattle.wave_steps.specs.Answers.{ack_told}
use Rattle.wave_steps.specs.Buckets.{first_move, move_told, moved_by, naming, noting_bucket, noting_packet, sending_bucket, sending_move}
use Rattle.wave_steps.specs.declared.buckets.BucketMove.{BucketMove}
use Rattle.wave_steps.specs.News.{heard as news_heard, answering_news, answering_packet, durable_ending, is_other_live, sent_if, sent_to_others, with_news}
use Rattle.wave_steps.specs.WaveEnd.{skipped_line}
use Rattle.thread_steps.specs.Close.{closed_core_as, closed_entry, read_of}
use Rattle.thread_steps.specs.Read.{record_entered, records_entered, thread_read_core}
use Rattle.thread_steps.specs.declared.closes.Closing.{Closing}
use Rattle.thread_steps.specs.declared.closes.Closing.TheVariants as closing
use Rattle.thread_steps.specs.declared.found.Found.{Found}
use Rattle.thread_steps.specs.declared.found.Found.TheVariants as found
use Rattle.rebuild_steps.specs.declared.recovers.Recovered.TheVariants as recovered
use Rattle.inst_node.specs.declared.actions.Action.{Action}
use Rattle.inst_node.specs.declared.actions.Action.TheVariants.{Block, Dead, Inst as OfInst, Line, Plain, Session}
use Rattle.inst_node.specs.declared.actions.BlockStep.{BlockStep}
use Rattle.inst_node.specs.declared.actions.BlockStep.TheVariants as block
use Rattle.inst_node.specs.declared.actions.DeadStep.{DeadStep}
use Rattle.inst_node.specs.declared.actions.DeadStep.TheVariants as dead
use Rattle.inst_node.specs.declared.actions.InstStep.{InstStep}
use Rattle.inst_node.specs.declared.actions.InstStep.TheVariants as inst
use Rattle.inst_node.specs.declared.actions.LineStep.{LineStep}
use Rattle.inst_node.specs.declared.actions.LineStep.TheVariants as line
use Rattle.inst_node.specs.declared.actions.PlainStep.{PlainStep}
use Rattle.inst_node.specs.declared.actions.PlainStep.TheVariants as plain
use Rattle.inst_node.specs.declared.actions.SessionStep.{SessionStep}
use Rattle.inst_node.specs.declared.actions.SessionStep.TheVariants as session
use Rattle.inst_node.specs.declared.hows.How.{How}
use Rattle.inst_node.specs.declared.hows.How.TheVariants as how
use Rattle.inst_node.specs.Moves.{asked_undo_of, block_core, closing_of, core_of, crashed_of, dead_core, forced_of, found_of, inst_core, installed_of, line_core, plain_core, recovered_core_by, session_core, written_of}
use Rattle.recovery.specs.declared.members.Membership.{Membership}
use Rattle.journal.specs.declared.cause.Cause.TheVariants as cause
use Rattle.journal.specs.declared.entry.Entry.TheVariants as entry
use Rattle.journal.specs.Past.{Past}
use Rattle.journal.specs.Stood.{stood}
use Rattle.inst_state.specs.Sessions.{is_idle}
use Rattle.end_laws.specs.Calm.{is_loss}
use Rattle.end_laws.proofs.ByKind.{IfMade}
use Rattle.end_laws.proofs.Did.{IsUnrest}

abbrev members_of : Core → Membership
members_of core = core.members

-- The membership is as it was, or a loss was told.
pub data Steady (core now : Core) : Type 0 where
  same : now.members ≡ core.members → Steady core now
  lossy : stood is_loss now.journal ≡ true → Steady core now

-- So it is, or the step is one of a recovery.
abbrev pub Calmly : Inst → Core → Core → Type 0
Calmly n core now = Steady core now ⊎ IsUnrest core n.plan.me

refusals_lossy : (n : Inst) (zs : List ℕ) (js : Past) → stood is_loss js ≡ true → stood is_loss (fold (with_refusal n) js zs) ≡ true
refusals_lossy n [] js is = is
refusals_lossy n (z ∷ zs) js is = refusals_lossy n zs (with_refusal n js z) (by (is_idle (session_at n z).doing))
  where
    by : (b : Bool) → stood is_loss (if b then js else entry.Refused (stmt_at n z) cause.Lost ∷ js) ≡ true
    by true = is
    by false = is

lost_told : (n : Inst) (core : Core) (it : Loss) (kept : Option ℕ) → stood is_loss (lost_core n core it kept).journal ≡ true
lost_told n core (loss.Crashed line) kept =
    refusals_lossy n n.plan.mine (entry.Crashed line n.plan.me ∷ (kept_told n core kept).journal) refl
lost_told n core (loss.Ended bad) kept =
    refusals_lossy n n.plan.mine (loss_told n (kept_told n core kept) (loss.Ended bad)).journal refl

stop_told : (n : Inst) (core : Core) (bad : Bool) → stood is_loss (lost_core n core (loss.Ended bad) (Some 0)).journal ≡ true
stop_told n core bad = lost_told n core (loss.Ended bad) (Some 0)

if_members : (b : Bool) (core x y : Core) → members_of x ≡ members_of core → members_of y ≡ members_of core → members_of (if b then x else y) ≡ members_of core
if_members true core x y e f = e
if_members false core x y e f = f

if_steady : (b : Bool) (core x y : Core) → Steady core x → Steady core y → Steady core (if b then x else y)
if_steady true core x y e f = e
if_steady false core x y e f = f

-- what leaves the membership after a step that does
steady_by : (core mid now : Core) → mid.members ≡ core.members → Steady mid now → Steady core now
steady_by core mid now e (same f) = same (f ∙ e)
steady_by core mid now e (lossy is) = lossy is

undo_read_members : (n : Inst) (core : Core) (it : AskedUndo) → Steady core (undo_read_core n core it)
undo_read_members n core (asked_for.Read (undo_read.Head head)) = same refl
undo_read_members n core (asked_for.Read (undo_read.Block block)) = same refl
undo_read_members n core (asked_for.Read undo_read.Failed) = lossy (stop_told n core false)
undo_read_members n core _ = lossy (stop_told n core true)

ask_at_members : (n : Inst) (core : Core) (z : ℕ) (o : Option Place) (it : AskedUndo) → Steady core (asked_core n core z o it)
ask_at_members n core z None it = lossy (stop_told n core true)
ask_at_members n core z (Some place) it =
    if_steady (is_live core place.seg) core (sends n core place.seg (NeedUndo place.block z)) (undo_read_core n core it) (same refl) (undo_read_members n core it)

ask_by_members : (n : Inst) (core : Core) (z : ℕ) (o : Option Lacking) (it : AskedUndo) → Steady core (asked_by_core n core z o it)
ask_by_members n core z None it = same refl
ask_by_members n core z (Some (Undo what)) it = ask_at_members n core z (place_of n.plan.layout what) it
ask_by_members n core z (Some Sense) it = lossy (stop_told n core true)

news_members : (me : ℕ) (scn end : Scn) (core : Core) (tos : List ℕ) → members_of (fold (sent_if me scn end) core tos) ≡ members_of core
news_members me scn end core [] = refl
news_members me scn end core (to ∷ tos) =
    news_members me scn end (sent_if me scn end core to) tos ∙ if_members (is_other_live core me to) core (sending core me scn to (Commit end)) core refl refl

others_members : (me : ℕ) (scn end : Scn) (core : Core) → members_of (sent_to_others me scn end core) ≡ members_of core
unfolding sent_to_others
others_members me scn end core = news_members me scn end core all_insts

broadcast_members : (n : Inst) (core : Core) (o : Option Ending) → members_of (with_news n core o) ≡ members_of core
broadcast_members n core None = refl
broadcast_members n core (Some ending) = others_members n.plan.me n.clock.scn ending.scn core

ack_members : (core : Core) (stmt : ℕ) (o : Option Ending) → members_of (ack_told core stmt o) ≡ members_of core
ack_members core stmt None = refl
ack_members core stmt (Some ending) = refl

session_members : (n : Inst) (core : Core) (kind : SessionStep) (z : ℕ) (it : How) → Steady core (session_core n core kind z it)
unfolding session_core
session_members n core session.AskUndo z it = ask_by_members n core z (lacking n z) (asked_undo_of it)
session_members n core session.Broadcast z it = same (broadcast_members n core (durable_ending n z))
session_members n core session.Ack z it = same (ack_members core (stmt_at n z) (durable_ending n z))
session_members n core _ z it = same refl

dead_members : (n : Inst) (core : Core) (kind : DeadStep) → Steady core (dead_core n core kind)
unfolding dead_core
dead_members n core dead.AskUndo = lossy (stop_told n core true)
dead_members n core _ = same refl

sent_members : (n : Inst) (core : Core) (block : ℕ) (o : Option Mode) → members_of (ask_sent_in n core block o) ≡ members_of core
sent_members n core block None = refl
sent_members n core block (Some mode) = refl

gave_members : (n : Inst) (core : Core) (block : ℕ) (o : Option ℕ) → members_of (gave_up n core block o) ≡ members_of core
gave_members n core block None = refl
gave_members n core block (Some grant) = refl

plea_members : (n : Inst) (core : Core) (block : ℕ) (o : Option ℕ) → members_of (plea_sent n core block o) ≡ members_of core
plea_members n core block None = refl
plea_members n core block (Some version) = refl

wrote_members : (n : Inst) (core : Core) (block : ℕ) (o : Option BlockContent) → members_of (wrote_sent n core block o) ≡ members_of core
wrote_members n core block None = refl
wrote_members n core block (Some image) = if_members (tells_of n core block) core (sends_to_master n core block (Wrote block image.front.version)) core refl refl

write_members : (n : Inst) (core : Core) (block : ℕ) (it : Written) → Steady core (write_told n core block it)
write_members n core block written.Done = by (target n block)
  where
    by : (what : Target) → Steady core (write_told_as n core block what)
    by Data = same (wrote_members n core block (current_image n block))
    by _ = same refl
write_members n core block written.Failed = lossy (stop_told n core false)

recover_members : (n : Inst) (core : Core) (block : ℕ) (it : How) → Steady core (recovered_core_by n core block it)
recover_members n core block (how.Recovered (recovered.Done stood version)) = same refl
recover_members n core block (how.Recovered (recovered.Unwritten stood)) = lossy (stop_told n core false)
recover_members n core block (how.Recovered (recovered.Unrolled stood)) = lossy (stop_told n core true)
recover_members n core block (how.Recovered recovered.Bad) = lossy (stop_told n core true)
recover_members n core block (how.Recovered recovered.Unread) = lossy (stop_told n core false)
recover_members n core block _ = same refl

block_members : (n : Inst) (core : Core) (kind : BlockStep) (number : ℕ) (it : How) → Steady core (block_core n core kind number it)
unfolding block_core
block_members n core block.Ask number it = same (sent_members n core number (lacked n number))
block_members n core block.Evict number it = same (gave_members n core number (clean_grant (place_at n.cache number).current))
block_members n core block.WriteBlock number it = write_members n core number (written_of it)
block_members n core block.AskWrite number it = same (plea_members n core number (past_version n number))
block_members n core block.GivePast number it = same refl
block_members n core block.RecoverBlock number it = recover_members n core number it

all_members : (n : Inst) (core : Core) (messages : List (ℕ × Message)) → members_of (sends_all n core messages) ≡ members_of core
all_members n core [] = refl
all_members n core (it ∷ messages) = all_members n (sends n core it.0 it.1) messages

master_at_members : (n : Inst) (core : Core) (message : Message) (o : Option ℕ) → members_of (master_sends_at n core message o) ≡ members_of core
master_at_members n core message None = refl
master_at_members n core message (Some block) =
    if_members (is_master n block) core (sends_all n core (directory_takes n.mastering.directory block message).sends)
    (sends n core (next_master n core block) message) (all_members n core (directory_takes n.mastering.directory block message).sends) refl

master_members : (n : Inst) (core : Core) (o : Option Message) → members_of (master_sends n core o) ≡ members_of core
master_members n core None = refl
master_members n core (Some message) = master_at_members n core message (master_block message)

gone_members : (n : Inst) (core : Core) (o : Option Granted) → members_of (gone_sent n core o) ≡ members_of core
gone_members n core None = refl
gone_members n core (Some image) = refl

ship_members : (n k : Inst) (core : Core) (o : Option Order) → members_of (follow_sent k core o) ≡ members_of core
ship_members n k core None = refl
ship_members n k core (Some order) = by (shipment k order)
  where
    by : (o : Option Shipment) → members_of (sent_for k core order o) ≡ members_of core
    by None = refl
    by (Some shipment) = refl

copy_members : (n : Inst) (core : Core) (o : Option CopyOrder) → members_of (copy_sent_by n core o) ≡ members_of core
copy_members n core None = refl
copy_members n core (Some order) = by (current_image n order.block)
  where
    by : (o : Option BlockContent) → members_of (copy_sent_of n core order o) ≡ members_of core
    by None = refl
    by (Some image) = refl

undo_members : (n : Inst) (core : Core) (to : ℕ) (o : Option UndoOrder) → members_of (undo_sent_by n core to o) ≡ members_of core
undo_members n core to None = refl
undo_members n core to (Some order) = by (undo_image n.segment order.block)
  where
    by : (o : Option UndoImage) → members_of (undo_sent_of n core to order.job o) ≡ members_of core
    by None = refl
    by (Some image) = refl

past_members : (n : Inst) (core : Core) (o : Option PastOrder) → members_of (past_order_sent n core o) ≡ members_of core
past_members n core None = refl
past_members n core (Some (Drop block version)) = refl
past_members n core (Some (Write plea)) = by (place_at n.cache plea.block).current
  where
    by : (o : Option Current) → members_of (plea_answered n core plea o) ≡ members_of core
    by None = refl
    by (Some now) = if_members now.dirty core core (sends_to_master n core plea.block (Wrote plea.block now.image.front.version)) refl refl

grant_members : (n : Inst) (core : Core) (block grant : ℕ) (mode : Mode) (it : Installed) → Steady core (granted_core n core block grant mode it)
grant_members n core block grant mode (installed.Read (data_read.Image image)) = same refl
grant_members n core block grant mode (installed.Read data_read.Failed) = lossy (stop_told n core false)
grant_members n core block grant mode _ = lossy (stop_told n core true)

bring_members : (n : Inst) (core : Core) (o : Option Message) (it : Installed) → Steady core (brought_core n core o it)
bring_members n core (Some (Shipped shipment)) it = same refl
bring_members n core (Some (Grant block grant mode true)) it = grant_members n core block grant mode it
bring_members n core (Some (Grant block grant mode false)) it = same refl
bring_members n core _ it = same refl

hear_members : (core : Core) (me : ℕ) (scn : Scn) (from : ℕ) (o : Option Packet) → members_of (answering_packet core me scn from o) ≡ members_of core
hear_members core me scn from None = refl
hear_members core me scn from (Some packet) = by packet.message
  where
    by : (message : Message) → members_of (answering_news core me scn from message) ≡ members_of core
    by (Commit c) = refl
    by _ = refl

move_members : (core : Core) (o : Option Control) → members_of (move_told core o) ≡ members_of core
move_members core None = refl
move_members core (Some control) = refl

note_members : (core : Core) (me : ℕ) (o : Option Packet) → members_of (noting_packet core me o) ≡ members_of core
note_members core me None = refl
note_members core me (Some packet) = by packet.message
  where
    by : (message : Message) → members_of (noting_bucket core me message) ≡ members_of core
    by (Bucket bucket entries) = move_members (naming core bucket me) (first_move core bucket me)
    by _ = refl

records_members : (thread at : ℕ) (records : List Redo) (core : Core) → members_of (records_entered thread at records core) ≡ members_of core
records_members thread at [] core = refl
records_members thread at (redo ∷ records) core =
    let behind = at + length_of redo.kind in records_members thread behind records (record_entered thread behind redo core)

read_members : (n : Inst) (core : Core) (thread : ℕ) (it : Found) → Steady core (thread_read_core n core thread it)
read_members n core thread (found.Closed scns) = same refl
read_members n core thread (found.Unread bad) = lossy (stop_told n core bad)
read_members n core thread (found.Stopped log bad) = lossy (stop_told n (records_entered thread log.position log.read.records core) bad)
read_members n core thread (found.Whole log versions) = same (records_members thread log.position log.read.records core)

close_members : (n : Inst) (core : Core) (thread : ℕ) (it : Closing) → Steady core (closed_core_as n core thread (closed_entry (read_of n thread)) it)
close_members n core thread closing.Done = same refl
close_members n core thread _ = lossy (stop_told n core false)

inst_members : (n : Inst) (core : Core) (kind : InstStep) (from : ℕ) (it : How) → Steady core (inst_core n core kind from it)
unfolding inst_core
inst_members n core inst.MasterTake from it = same (master_members (hears n core from Main) (heard n core from Main) (first_message n core from Main))
inst_members n core inst.Invalidate from it = same (gone_members (hears n core from Main) (heard n core from Main) (first_to_go n core from))
inst_members n core inst.Ship from it = same (ship_members n (hears n core from Main) (heard n core from Main) (first_order n core from))
inst_members n core inst.ServeCopy from it = same (copy_members (hears n core from Main) (heard n core from Main) (first_copy_order n core from))
inst_members n core inst.DropPast from it = same (past_members (hears n core from Main) (heard n core from Main) (first_past_order n core from))
inst_members n core inst.Install from it = steady_by core (heard n core from Main) _ refl (bring_members (hears n core from Main) (heard n core from Main) (first_message n core from Main) (installed_of it))
inst_members n core inst.TakeCopy from it = same refl
inst_members n core inst.TakeUndo from it = same refl
inst_members n core inst.ServeUndo from it = same (undo_members (hears n core from UndoLane) (heard n core from UndoLane) from (first_undo_order n core from))
inst_members n core inst.Heard from it = same (hear_members (without_first core from n.plan.me Main) n.plan.me (news_heard n core from).clock.scn from (first_from core from n.plan.me Main))
inst_members n core inst.TakeBucket from it = same (note_members (without_first core from n.plan.me Main) n.plan.me (first_from core from n.plan.me Main))
inst_members n core inst.ReadThread thread it = read_members n core thread (found_of it)
inst_members n core inst.CloseThread thread it = close_members n core thread (closing_of it)

crash_as_members : (n : Inst) (core : Core) (control : Control) (it : Kept) → Steady core (crash_told_by n core control it)
crash_as_members n core control Nothing = lossy (lost_told n core (loss.Crashed control.line) (Some n.thread.durable))
crash_as_members n core control (Bytes Whole) = lossy (lost_told n core (loss.Crashed control.line) (Some (kept_to n control)))
crash_as_members n core control (Bytes (Cut kept)) = lossy (lost_told n (answering core control.line) (loss.Ended false) kept)

crash_members : (n : Inst) (core : Core) (o : Option Control) (it : Kept) → Steady core (crash_told_if n core o it)
crash_members n core None it = same refl
crash_members n core (Some control) it = crash_as_members n core control it

send_members : (n : Inst) (core : Core) (o : Option BucketMove) → members_of (sending_move n core o) ≡ members_of core
send_members n core None = refl
send_members n core (Some it) = by (bucket_of n.mastering.directory it.bucket)
  where
    by : (o : Option (List DirEntry)) → members_of (sending_bucket core n.plan.me n.clock.scn it o) ≡ members_of core
    by None = refl
    by (Some entries) = refl

check_members : (n : Inst) (core : Core) (number : ℕ) (it : Written) → Steady core (checkpoint_told n core number it)
check_members n core number written.Done = same refl
check_members n core number written.Failed = lossy (stop_told n core false)

skip_members : (core : Core) (o : Option Control) → members_of (skipped_line core o) ≡ members_of core
skip_members core None = refl
skip_members core (Some control) = refl

line_members : (n : Inst) (core : Core) (kind : LineStep) (number : ℕ) (it : How) → IfMade (Line kind number) it n core → Calmly n core (line_core n core kind number it)
unfolding line_core
line_members n core line.Crash number it made = inl (crash_members n core (open_control core number) (crashed_of it))
line_members n core line.SendBucket number it made = inl (same (send_members n core (moved_by core number)))
line_members n core line.KeepBucket number it made = inl (same (move_members core (open_control core number)))
line_members n core line.Checkpoint number it made = inl (check_members n core number (written_of it))
line_members n core line.Skip number it made = inl (same (skip_members core (open_control core number)))
line_members n core line.Join number it made = inr made.0

force_members : (n : Inst) (core : Core) (it : Appended) → Steady core (force_told n core it)
force_members n core Whole = same refl
force_members n core (Cut kept) = lossy (lost_told n core (loss.Ended false) kept)

plain_members : (n : Inst) (core : Core) (kind : PlainStep) (it : How) → IfMade (Plain kind) it n core → Calmly n core (plain_core n core kind it)
unfolding plain_core
plain_members n core plain.Enter it made = inl (same refl)
plain_members n core plain.Force it made = inl (force_members n core (forced_of it))
plain_members n core plain.Report it made = inr made
plain_members n core plain.Thaw it made = inr made
plain_members n core plain.Reopen it made = inr made
plain_members n core plain.Resume it made = inl (same refl)
plain_members n core plain.Leave it made = inl (same refl)
plain_members n core plain.Wave it made = inl (same refl)

-- a step leaves the membership, or tells of a loss, or is one of a recovery
pub members_by : (n : Inst) (core : Core) (action : Action) (it : How) → IfMade action it n core → Calmly n core (core_of n core action it)
members_by n core (Session kind z) it made = inl (session_members n core kind z it)
members_by n core (Dead kind job) it made = inl (dead_members n core kind)
members_by n core (Block kind number) it made = inl (block_members n core kind number it)
members_by n core (OfInst kind from) it made = inl (inst_members n core kind from it)
members_by n core (Line kind number) it made = line_members n core kind number it made
members_by n core (Plain kind) it made = plain_members n core kind it made
