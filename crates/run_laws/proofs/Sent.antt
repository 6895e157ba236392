-- Steps that send, and tell nothing.
use Rattle.std.proofs.Common.{◌≡◌, ℕ, refl, Option, None, Some}
use Rattle.block_image.specs.Block.{BlockContent}
use Rattle.inst_set.specs.Sets.{all_insts}
use Rattle.wire_net.specs.declared.message.Lane.TheVariants.{Main, Undo}
use Rattle.wire_net.specs.declared.message.Message.{Message}
use Rattle.wire_net.specs.declared.message.Message.TheVariants.{Commit, Wrote}
use Rattle.wire_net.specs.declared.message.Mode.{Mode}
use Rattle.wire_net.specs.declared.message.Packet.{Packet}
use Rattle.wire_net.specs.declared.message.Shipment.{Shipment}
use Rattle.wire_net.specs.declared.message.UndoImage.{UndoImage}
use Rattle.buffer_cache.specs.declared.place.Current.{Current}
use Rattle.buffer_cache.specs.Cache.{place_at}
use Rattle.buffer_cache.specs.Place.{clean_grant}
use Rattle.resource_dir.specs.Directory.{directory_takes}
use Rattle.inst_state.specs.declared.inst.Inst.{Inst}
use Rattle.inst_state.specs.declared.session.Ending.{Ending}
use Rattle.inst_state.specs.declared.shared.Core.{Core}
use Rattle.inst_state.specs.Hand.{current_image}
use Rattle.inst_state.specs.Sending.{first_from, sending, without_first}
use Rattle.image_steps.specs.declared.copying.CopyOrder.{CopyOrder}
use Rattle.image_steps.specs.declared.invalidating.Granted.{Granted}
use Rattle.image_steps.specs.declared.pasts.PastOrder.{PastOrder}
use Rattle.image_steps.specs.declared.pasts.PastOrder.TheVariants.{Drop, Write}
use Rattle.image_steps.specs.declared.pasts.Plea.{Plea}
use Rattle.image_steps.specs.declared.shipping.Order.{Order}
use Rattle.image_steps.specs.declared.undo_serving.UndoOrder.{UndoOrder}
use Rattle.image_steps.specs.Ask.{ask_sent, ask_sent_in, lacked}
use Rattle.image_steps.specs.AskWrite.{past_version, plea_sent, write_plea_sent}
use Rattle.image_steps.specs.DropPast.{first_past_order, past_order_sent, past_sent, plea_answered}
use Rattle.image_steps.specs.Evict.{evict_sent, gave_up}
use Rattle.image_steps.specs.Hear.{first_message, heard, hears}
use Rattle.image_steps.specs.Invalidate.{first_to_go, gone_sent, invalidate_sent}
use Rattle.image_steps.specs.MasterTake.{is_master, master_block, master_sends, master_sends_at, master_sent, next_master, sends_all}
use Rattle.image_steps.specs.Sends.{sends, sends_to_master}
use Rattle.image_steps.specs.ServeCopy.{copy_sent, copy_sent_by, copy_sent_of, first_copy_order}
use Rattle.image_steps.specs.ServeUndo.{first_undo_order, undo_image, undo_sent, undo_sent_by, undo_sent_of}
use Rattle.image_steps.specs.Ship.{first_order, follow_sent, sent_for, ship_sent, shipment}
use Rattle.wave_steps.specs.Buckets.{bucket_sent_core, moved_by, sending_bucket, sending_move}
use Rattle.wave_steps.specs.declared.buckets.BucketMove.{BucketMove}
use Rattle.wave_steps.specs.News.{answering_news, answering_packet, broadcast_core, durable_ending, heard_core, is_other_live, sent_if, sent_to_others, with_news}
use Rattle.wave_steps.specs.News.{heard as news_heard}
use Rattle.wire_net.specs.declared.entry.Entry.{Entry as DirEntry}
use Rattle.std.specs.Prelude.{List}
use Rattle.resource_dir.specs.Directory.{bucket_of}
use Rattle.disk_steps.specs.Write.{tells_of, write_told_as, wrote_sent}
use Rattle.disk_steps.specs.declared.writing.Target.{Target}
use Rattle.disk_steps.specs.declared.writing.Target.TheVariants.{Data}
use Rattle.run_laws.proofs.Folds.{either_quiet, fold_quiet}

-- a block is asked for

ask_in : (n : Inst) (core : Core) (block : ℕ) (mode : Option Mode) → (ask_sent_in n core block mode).journal ≡ core.journal
ask_in n core block None = refl
ask_in n core block (Some mode) = refl

pub ask_quiet : (n : Inst) (core : Core) (block : ℕ) → (ask_sent n core block).journal ≡ core.journal
ask_quiet n core block = ask_in n core block (lacked n block)

-- a clean image is dropped

gave_up_quiet : (n : Inst) (core : Core) (block : ℕ) (grant : Option ℕ) → (gave_up n core block grant).journal ≡ core.journal
gave_up_quiet n core block None = refl
gave_up_quiet n core block (Some grant) = refl

pub evict_quiet : (n : Inst) (core : Core) (block : ℕ) → (evict_sent n core block).journal ≡ core.journal
evict_quiet n core block = gave_up_quiet n core block (clean_grant (place_at n.cache block).current)

-- a write is asked for

plea_quiet : (n : Inst) (core : Core) (block : ℕ) (version : Option ℕ) → (plea_sent n core block version).journal ≡ core.journal
plea_quiet n core block None = refl
plea_quiet n core block (Some version) = refl

pub write_plea_quiet : (n : Inst) (core : Core) (block : ℕ) → (write_plea_sent n core block).journal ≡ core.journal
write_plea_quiet n core block = plea_quiet n core block (past_version n block)

-- a block was written

wrote_quiet : (n : Inst) (core : Core) (block : ℕ) (image : Option BlockContent) → (wrote_sent n core block image).journal ≡ core.journal
wrote_quiet n core block None = refl
wrote_quiet n core block (Some image) =
    either_quiet (tells_of n core block) (sends_to_master n core block (Wrote block image.front.version)) core core.journal refl refl

pub written_quiet : (n : Inst) (core : Core) (block : ℕ) (what : Target) → (write_told_as n core block what).journal ≡ core.journal
written_quiet n core block Data = wrote_quiet n core block (current_image n block)
written_quiet n core block _ = refl

-- a master takes a message

sends_all_quiet : (n : Inst) (core : Core) (messages : List (ℕ × Message)) → (sends_all n core messages).journal ≡ core.journal
sends_all_quiet n core messages =
    fold_quiet (λ (core : Core) (it : ℕ × Message). sends n core it.0 it.1) (λ core it. refl) messages core

master_at : (n : Inst) (core : Core) (message : Message) (block : Option ℕ) → (master_sends_at n core message block).journal ≡ core.journal
master_at n core message None = refl
master_at n core message (Some block) =
    either_quiet (is_master n block) (sends_all n core (directory_takes n.mastering.directory block message).sends)
    (sends n core (next_master n core block) message) core.journal
    (sends_all_quiet n core (directory_takes n.mastering.directory block message).sends) refl

master_by : (n : Inst) (core : Core) (message : Option Message) → (master_sends n core message).journal ≡ core.journal
master_by n core None = refl
master_by n core (Some message) = master_at n core message (master_block message)

pub master_quiet : (n : Inst) (core : Core) (from : ℕ) → (master_sent n core from).journal ≡ core.journal
master_quiet n core from = master_by (hears n core from Main) (heard n core from Main) (first_message n core from Main)

-- an image goes

gone_quiet : (n : Inst) (core : Core) (image : Option Granted) → (gone_sent n core image).journal ≡ core.journal
gone_quiet n core None = refl
gone_quiet n core (Some image) = refl

pub invalidate_quiet : (n : Inst) (core : Core) (from : ℕ) → (invalidate_sent n core from).journal ≡ core.journal
invalidate_quiet n core from = gone_quiet (hears n core from Main) (heard n core from Main) (first_to_go n core from)

-- an image is shipped

sent_for_quiet : (n : Inst) (core : Core) (order : Order) (what : Option Shipment) → (sent_for n core order what).journal ≡ core.journal
sent_for_quiet n core order None = refl
sent_for_quiet n core order (Some what) = refl

follow_quiet : (n : Inst) (core : Core) (order : Option Order) → (follow_sent n core order).journal ≡ core.journal
follow_quiet n core None = refl
follow_quiet n core (Some order) = sent_for_quiet n core order (shipment n order)

pub ship_quiet : (n : Inst) (core : Core) (from : ℕ) → (ship_sent n core from).journal ≡ core.journal
ship_quiet n core from = follow_quiet (hears n core from Main) (heard n core from Main) (first_order n core from)

-- a copy is served

copy_of_quiet : (n : Inst) (core : Core) (order : CopyOrder) (image : Option BlockContent) → (copy_sent_of n core order image).journal ≡ core.journal
copy_of_quiet n core order None = refl
copy_of_quiet n core order (Some image) = refl

copy_by_quiet : (n : Inst) (core : Core) (order : Option CopyOrder) → (copy_sent_by n core order).journal ≡ core.journal
copy_by_quiet n core None = refl
copy_by_quiet n core (Some order) = copy_of_quiet n core order (current_image n order.block)

pub copy_quiet : (n : Inst) (core : Core) (from : ℕ) → (copy_sent n core from).journal ≡ core.journal
copy_quiet n core from = copy_by_quiet (hears n core from Main) (heard n core from Main) (first_copy_order n core from)

-- past images go

pasts_answered : (n : Inst) (core : Core) (plea : Plea) (now : Option Current) → (plea_answered n core plea now).journal ≡ core.journal
pasts_answered n core plea None = refl
pasts_answered n core plea (Some now) =
    either_quiet now.dirty core (sends_to_master n core plea.block (Wrote plea.block now.image.front.version)) core.journal refl refl

past_order_quiet : (n : Inst) (core : Core) (order : Option PastOrder) → (past_order_sent n core order).journal ≡ core.journal
past_order_quiet n core None = refl
past_order_quiet n core (Some (Drop block version)) = refl
past_order_quiet n core (Some (Write plea)) = pasts_answered n core plea (place_at n.cache plea.block).current

pub past_quiet : (n : Inst) (core : Core) (from : ℕ) → (past_sent n core from).journal ≡ core.journal
past_quiet n core from = past_order_quiet (hears n core from Main) (heard n core from Main) (first_past_order n core from)

-- undo is served

undo_of_quiet : (n : Inst) (core : Core) (to job : ℕ) (image : Option UndoImage) → (undo_sent_of n core to job image).journal ≡ core.journal
undo_of_quiet n core to job None = refl
undo_of_quiet n core to job (Some image) = refl

undo_by_quiet : (n : Inst) (core : Core) (to : ℕ) (order : Option UndoOrder) → (undo_sent_by n core to order).journal ≡ core.journal
undo_by_quiet n core to None = refl
undo_by_quiet n core to (Some order) = undo_of_quiet n core to order.job (undo_image n.segment order.block)

pub undo_quiet : (n : Inst) (core : Core) (from : ℕ) → (undo_sent n core from).journal ≡ core.journal
undo_quiet n core from = undo_by_quiet (hears n core from Undo) (heard n core from Undo) from (first_undo_order n core from)

-- ends are told and heard

sent_if_quiet : (me scn end : ℕ) (core : Core) (to : ℕ) → (sent_if me scn end core to).journal ≡ core.journal
sent_if_quiet me scn end core to = either_quiet (is_other_live core me to) (sending core me scn to (Commit end)) core core.journal refl refl

others_quiet : (me scn end : ℕ) (core : Core) → (sent_to_others me scn end core).journal ≡ core.journal
unfolding sent_to_others
others_quiet me scn end core = fold_quiet (sent_if me scn end) (sent_if_quiet me scn end) all_insts core

news_quiet : (n : Inst) (core : Core) (ending : Option Ending) → (with_news n core ending).journal ≡ core.journal
news_quiet n core None = refl
news_quiet n core (Some ending) = others_quiet n.plan.me n.clock.scn ending.scn core

pub broadcast_quiet : (n : Inst) (core : Core) (z : ℕ) → (broadcast_core n core z).journal ≡ core.journal
broadcast_quiet n core z = news_quiet n core (durable_ending n z)

answer_quiet : (core : Core) (me scn from : ℕ) (message : Message) → (answering_news core me scn from message).journal ≡ core.journal
answer_quiet core me scn from (Commit end) = refl
answer_quiet core me scn from _ = refl

packet_quiet : (core : Core) (me scn from : ℕ) (packet : Option Packet) → (answering_packet core me scn from packet).journal ≡ core.journal
packet_quiet core me scn from None = refl
packet_quiet core me scn from (Some packet) = answer_quiet core me scn from packet.message

pub heard_quiet : (n : Inst) (core : Core) (from : ℕ) → (heard_core n core from).journal ≡ core.journal
heard_quiet n core from =
    packet_quiet (without_first core from n.plan.me Main) n.plan.me (news_heard n core from).clock.scn from (first_from core from n.plan.me Main)

-- a bucket is sent

bucket_quiet : (core : Core) (me scn : ℕ) (it : BucketMove) (entries : Option (List DirEntry)) → (sending_bucket core me scn it entries).journal ≡ core.journal
bucket_quiet core me scn it None = refl
bucket_quiet core me scn it (Some entries) = refl

move_quiet : (n : Inst) (core : Core) (it : Option BucketMove) → (sending_move n core it).journal ≡ core.journal
move_quiet n core None = refl
move_quiet n core (Some it) = bucket_quiet core n.plan.me n.clock.scn it (bucket_of n.mastering.directory it.bucket)

pub bucket_sent_quiet : (n : Inst) (core : Core) (line : ℕ) → (bucket_sent_core n core line).journal ≡ core.journal
bucket_sent_quiet n core line = move_quiet n core (moved_by core line)
