-- Which steps leave the membership and the threads as they are.
use Rattle.std.proofs.Common.{◌≡◌, ℕ, ◌+◌, Bool, true, false, List, [], ◌∷◌, Option, Some, None, if◌then◌else◌, refl, ap, ◌∙◌}
use Rattle.std.specs.List.{fold}
use Rattle.base_types.specs.declared.names.Scn.{Scn}
use Rattle.block_image.specs.Block.{BlockContent}
use Rattle.redo_types.specs.declared.redo.Redo.{Redo}
use Rattle.redo_record.specs.Redo.{length_of}
use Rattle.inst_set.specs.Sets.{all_insts}
use Rattle.wire_net.specs.declared.message.UndoImage.{UndoImage}
use Rattle.wire_net.specs.declared.message.Shipment.{Shipment}
use Rattle.wire_net.specs.declared.entry.Entry.{Entry as DirEntry}
use Rattle.buffer_cache.specs.Cache.{place_at}
use Rattle.wire_net.specs.declared.message.Message.{Message}
use Rattle.wire_net.specs.declared.message.Message.TheVariants.{Bucket, Commit, Wrote}
use Rattle.wire_net.specs.declared.message.Mode.{Mode}
use Rattle.wire_net.specs.declared.message.Packet.{Packet}
use Rattle.buffer_cache.specs.declared.place.Current.{Current}
use Rattle.inst_state.specs.declared.control.Control.{Control}
use Rattle.inst_state.specs.declared.inst.Inst.{Inst}
use Rattle.inst_state.specs.declared.inst.Life.{Life}
use Rattle.inst_state.specs.declared.inst.Life.TheVariants.{Joining}
use Rattle.inst_state.specs.declared.session.Ending.{Ending}
use Rattle.inst_state.specs.declared.shared.Core.{Core}
use Rattle.inst_state.specs.Hand.{current_image}
use Rattle.inst_state.specs.Sending.{sending}
use Rattle.inst_loss.specs.declared.ends.Loss.{Loss}
use Rattle.inst_loss.specs.declared.ends.Loss.TheVariants as loss
use Rattle.inst_loss.specs.LostCore.{kept_told, loss_told, lost_core, start_answered}
use Rattle.disk_steps.specs.Write.{tells_of, write_told_as, wrote_sent}
use Rattle.disk_steps.specs.declared.writing.Target.{Target}
use Rattle.disk_steps.specs.declared.writing.Target.TheVariants.{Data}
use Rattle.scn_clock.specs.declared.clock.Clock.{Clock}
use Rattle.inst_set.specs.Sets.{without_inst}
use Rattle.recovery.specs.declared.members.Phase.TheVariants as phase
use Rattle.rebuild_steps.specs.Thaw.{dealt_core}
use Rattle.image_steps.specs.Ask.{ask_sent_in}
use Rattle.image_steps.specs.AskWrite.{plea_sent}
use Rattle.image_steps.specs.DropPast.{past_order_sent, plea_answered}
use Rattle.image_steps.specs.declared.pasts.PastOrder.{PastOrder}
use Rattle.image_steps.specs.declared.pasts.PastOrder.TheVariants.{Drop, Write}
use Rattle.image_steps.specs.Evict.{gave_up}
use Rattle.image_steps.specs.Invalidate.{gone_sent}
use Rattle.image_steps.specs.declared.invalidating.Granted.{Granted}
use Rattle.image_steps.specs.MasterTake.{is_master, master_block, master_sends, master_sends_at, next_master, sends_all}
use Rattle.image_steps.specs.Sends.{sends, sends_to_master}
use Rattle.image_steps.specs.ServeCopy.{copy_sent_by, copy_sent_of}
use Rattle.image_steps.specs.declared.copying.CopyOrder.{CopyOrder}
use Rattle.image_steps.specs.ServeUndo.{undo_image, undo_sent_by, undo_sent_of}
use Rattle.image_steps.specs.declared.undo_serving.UndoOrder.{UndoOrder}
use Rattle.image_steps.specs.Ship.{follow_sent, sent_for, shipment}
use Rattle.image_steps.specs.declared.shipping.Order.{Order}
use Rattle.resource_dir.specs.Directory.{bucket_of, directory_takes}
use Rattle.wave_steps.specs.Answers.{ack_told}
use Rattle.wave_steps.specs.Buckets.{first_move, move_told, naming, noting_bucket, noting_packet, sending_bucket, sending_move}
use Rattle.wave_steps.specs.declared.buckets.BucketMove.{BucketMove}
use Rattle.wave_steps.specs.News.{answering_news, answering_packet, is_other_live, sent_if, sent_to_others, with_news}
use Rattle.wave_steps.specs.WaveEnd.{skipped_line}
use Rattle.thread_steps.specs.Read.{record_entered, records_entered}
use Rattle.log_laws.proofs.Cluster.{Shared, left as left_shared, shared_of}

pub if_shared : (b : Bool) (core x y : Core) → shared_of x ≡ shared_of core → shared_of y ≡ shared_of core → shared_of (if b then x else y) ≡ shared_of core
if_shared true core x y e f = e
if_shared false core x y e f = f

pub news_shared : (me : ℕ) (scn end : Scn) (core : Core) (tos : List ℕ) → shared_of (fold (sent_if me scn end) core tos) ≡ shared_of core
news_shared me scn end core [] = refl
news_shared me scn end core (to ∷ tos) =
    news_shared me scn end (sent_if me scn end core to) tos ∙ if_shared (is_other_live core me to) core (sending core me scn to (Commit end)) core refl refl

pub others_shared : (me : ℕ) (scn end : Scn) (core : Core) → shared_of (sent_to_others me scn end core) ≡ shared_of core
unfolding sent_to_others
others_shared me scn end core = news_shared me scn end core all_insts

pub broadcast_shared : (n : Inst) (core : Core) (o : Option Ending) → shared_of (with_news n core o) ≡ shared_of core
broadcast_shared n core None = refl
broadcast_shared n core (Some ending) = others_shared n.plan.me n.clock.scn ending.scn core

pub ack_shared : (core : Core) (stmt : ℕ) (o : Option Ending) → shared_of (ack_told core stmt o) ≡ shared_of core
ack_shared core stmt None = refl
ack_shared core stmt (Some ending) = refl

pub sent_shared : (n : Inst) (core : Core) (block : ℕ) (o : Option Mode) → shared_of (ask_sent_in n core block o) ≡ shared_of core
sent_shared n core block None = refl
sent_shared n core block (Some mode) = refl

pub gave_shared : (n : Inst) (core : Core) (block : ℕ) (o : Option ℕ) → shared_of (gave_up n core block o) ≡ shared_of core
gave_shared n core block None = refl
gave_shared n core block (Some grant) = refl

pub plea_shared : (n : Inst) (core : Core) (block : ℕ) (o : Option ℕ) → shared_of (plea_sent n core block o) ≡ shared_of core
plea_shared n core block None = refl
plea_shared n core block (Some version) = refl

pub wrote_shared : (n : Inst) (core : Core) (block : ℕ) (o : Option BlockContent) → shared_of (wrote_sent n core block o) ≡ shared_of core
wrote_shared n core block None = refl
wrote_shared n core block (Some image) = if_shared (tells_of n core block) core (sends_to_master n core block (Wrote block image.front.version)) core refl refl

pub all_shared : (n : Inst) (core : Core) (messages : List (ℕ × Message)) → shared_of (sends_all n core messages) ≡ shared_of core
all_shared n core [] = refl
all_shared n core (it ∷ messages) = all_shared n (sends n core it.0 it.1) messages

pub master_at_shared : (n : Inst) (core : Core) (message : Message) (o : Option ℕ) → shared_of (master_sends_at n core message o) ≡ shared_of core
master_at_shared n core message None = refl
master_at_shared n core message (Some block) =
    if_shared (is_master n block) core (sends_all n core (directory_takes n.mastering.directory block message).sends)
    (sends n core (next_master n core block) message) (all_shared n core (directory_takes n.mastering.directory block message).sends) refl

pub master_shared : (n : Inst) (core : Core) (o : Option Message) → shared_of (master_sends n core o) ≡ shared_of core
master_shared n core None = refl
master_shared n core (Some message) = master_at_shared n core message (master_block message)

pub gone_shared : (n : Inst) (core : Core) (o : Option Granted) → shared_of (gone_sent n core o) ≡ shared_of core
gone_shared n core None = refl
gone_shared n core (Some image) = refl

pub ship_shared : (n k : Inst) (core : Core) (o : Option Order) → shared_of (follow_sent k core o) ≡ shared_of core
ship_shared n k core None = refl
ship_shared n k core (Some order) = by (shipment k order)
  where
    by : (o : Option Shipment) → shared_of (sent_for k core order o) ≡ shared_of core
    by None = refl
    by (Some shipment) = refl

pub copy_shared : (n : Inst) (core : Core) (o : Option CopyOrder) → shared_of (copy_sent_by n core o) ≡ shared_of core
copy_shared n core None = refl
copy_shared n core (Some order) = by (current_image n order.block)
  where
    by : (o : Option BlockContent) → shared_of (copy_sent_of n core order o) ≡ shared_of core
    by None = refl
    by (Some image) = refl

pub undo_shared : (n : Inst) (core : Core) (to : ℕ) (o : Option UndoOrder) → shared_of (undo_sent_by n core to o) ≡ shared_of core
undo_shared n core to None = refl
undo_shared n core to (Some order) = by (undo_image n.segment order.block)
  where
    by : (o : Option UndoImage) → shared_of (undo_sent_of n core to order.job o) ≡ shared_of core
    by None = refl
    by (Some image) = refl

pub past_shared : (n : Inst) (core : Core) (o : Option PastOrder) → shared_of (past_order_sent n core o) ≡ shared_of core
past_shared n core None = refl
past_shared n core (Some (Drop block version)) = refl
past_shared n core (Some (Write plea)) = by (place_at n.cache plea.block).current
  where
    by : (o : Option Current) → shared_of (plea_answered n core plea o) ≡ shared_of core
    by None = refl
    by (Some now) = if_shared now.dirty core core (sends_to_master n core plea.block (Wrote plea.block now.image.front.version)) refl refl

pub hear_shared : (core : Core) (me : ℕ) (scn : Scn) (from : ℕ) (o : Option Packet) → shared_of (answering_packet core me scn from o) ≡ shared_of core
hear_shared core me scn from None = refl
hear_shared core me scn from (Some packet) = by packet.message
  where
    by : (message : Message) → shared_of (answering_news core me scn from message) ≡ shared_of core
    by (Commit c) = refl
    by _ = refl

pub move_shared : (core : Core) (o : Option Control) → shared_of (move_told core o) ≡ shared_of core
move_shared core None = refl
move_shared core (Some control) = refl

pub note_shared : (core : Core) (me : ℕ) (o : Option Packet) → shared_of (noting_packet core me o) ≡ shared_of core
note_shared core me None = refl
note_shared core me (Some packet) = by packet.message
  where
    by : (message : Message) → shared_of (noting_bucket core me message) ≡ shared_of core
    by (Bucket bucket entries) = move_shared (naming core bucket me) (first_move core bucket me)
    by _ = refl

pub records_shared : (thread at : ℕ) (records : List Redo) (core : Core) → shared_of (records_entered thread at records core) ≡ shared_of core
records_shared thread at [] core = refl
records_shared thread at (redo ∷ records) core =
    let behind = at + length_of redo.kind in records_shared thread behind records (record_entered thread behind redo core)

pub send_shared : (n : Inst) (core : Core) (o : Option BucketMove) → shared_of (sending_move n core o) ≡ shared_of core
send_shared n core None = refl
send_shared n core (Some it) = by (bucket_of n.mastering.directory it.bucket)
  where
    by : (o : Option (List DirEntry)) → shared_of (sending_bucket core n.plan.me n.clock.scn it o) ≡ shared_of core
    by None = refl
    by (Some entries) = refl

pub skip_shared : (core : Core) (o : Option Control) → shared_of (skipped_line core o) ≡ shared_of core
skip_shared core None = refl
skip_shared core (Some control) = refl

pub kept_shared : (n : Inst) (core : Core) (o : Option ℕ) → shared_of (kept_told n core o) ≡ shared_of core
kept_shared n core None = refl
kept_shared n core (Some kept) = refl

pub start_shared : (life : Life) (core : Core) → shared_of (start_answered life core) ≡ shared_of core
start_shared (Joining number) core = refl
start_shared _ core = refl

pub loss_shared : (n : Inst) (core : Core) (it : Loss) → shared_of (loss_told n core it) ≡ shared_of core
loss_shared n core (loss.Crashed number) = refl
loss_shared n core (loss.Ended bad) = start_shared n.life core

-- the membership after the loss of an instance
pub lost_shared : (n : Inst) (core : Core) (it : Loss) (kept : Option ℕ) → shared_of (lost_core n core it kept) ≡ left_shared (shared_of core) n.plan.me
lost_shared n core it kept = ap (λ (s : Shared). left_shared s n.plan.me) (loss_shared n (kept_told n core kept) it ∙ kept_shared n core kept)

pub write_shared : (n : Inst) (core : Core) (block : ℕ) (what : Target) → shared_of (write_told_as n core block what) ≡ shared_of core
write_shared n core block Data = wrote_shared n core block (current_image n block)
write_shared n core block _ = refl

pub dealt_shared : (core : Core) (me : ℕ) (bound : Clock) → shared_of (dealt_core core me bound) ≡ record (shared_of core) { phase = phase.Thawed; former = without_inst core.recovery.former me }
unfolding dealt_core
dealt_shared core me bound = refl
