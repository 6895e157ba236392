-- What each kind of step does to the lines of an instance's sessions.
use Rattle.std.proofs.Common.{◌≡◌, ℕ, Bool, true, false, List, [], ◌∷◌, ◌++◌, Option, Some, None, if◌then◌else◌, refl, append_assoc}
use Rattle.std.specs.Prelude.{◌+◌}
use Rattle.std.specs.List.{fold}
use Rattle.std.proofs.lemmas.Bool.{and_parts}
use Rattle.redo_types.specs.declared.redo.Redo.{Redo}
use Rattle.journal.specs.declared.entry.Entry.{Entry}
use Rattle.journal.specs.declared.entry.Entry.TheVariants as entry
use Rattle.inst_set.specs.Sets.{is_empty}
use Rattle.wire_net.specs.declared.message.Lane.TheVariants.{Main, Undo as UndoLane}
use Rattle.wire_net.specs.declared.message.Message.{Message}
use Rattle.wire_net.specs.declared.message.Message.TheVariants.{Bucket, Grant, Shipped}
use Rattle.wire_net.specs.declared.message.Lane.{Lane}
use Rattle.wire_net.specs.declared.message.Mode.{Mode}
use Rattle.wire_net.specs.declared.message.Packet.{Packet}
use Rattle.inst_state.specs.declared.control.Control.{Control}
use Rattle.inst_state.specs.declared.inst.Inst.{Inst}
use Rattle.inst_state.specs.declared.inst.Life.{Life}
use Rattle.inst_state.specs.declared.inst.Life.TheVariants.{Joining}
use Rattle.inst_state.specs.declared.shared.Core.{Core}
use Rattle.inst_state.specs.Hand.{name_in_hand}
use Rattle.inst_state.specs.State.{session_at}
use Rattle.std.specs.Option.{option_map}
use Rattle.inst_state.specs.Sending.{first_from, without_first}
use Rattle.inst_state.specs.Shared.{is_live, open_control}
use Rattle.inst_loss.specs.Lost.{lost}
use Rattle.inst_loss.specs.LostCore.{is_kept_commit, with_commit, with_refusal}
use Rattle.inst_loss.specs.declared.ends.Loss.{Loss}
use Rattle.inst_loss.specs.declared.ends.Loss.TheVariants as loss
use Rattle.disk_calls.specs.declared.appends.Appended.{Appended}
use Rattle.disk_calls.specs.declared.appends.Appended.TheVariants.{Cut, Whole}
use Rattle.disk_calls.specs.declared.images.ReadData.TheVariants as data_read
use Rattle.disk_calls.specs.declared.images.ReadUndo.TheVariants as undo_read
use Rattle.disk_calls.specs.declared.writes.Written.{Written}
use Rattle.disk_calls.specs.declared.writes.Written.TheVariants as written
use Rattle.disk_steps.specs.AskUndo.{asked_at, asked_by, asked_for as asked_session, lacking, place_of, undo_asked, undo_read as read_undo}
use Rattle.disk_steps.specs.Checkpoint.{checkpointed}
use Rattle.disk_steps.specs.Crash.{crashed_by, kept_to}
use Rattle.disk_steps.specs.Force.{commit_told, forced_as}
use Rattle.disk_steps.specs.Install.{brought, granted, with_image}
use Rattle.buffer_cache.specs.Place.{read_from_disk, shipped, upgraded}
use Rattle.buffer_cache.specs.Cache.{place_at}
use Rattle.wire_net.specs.declared.message.UndoImage.TheVariants as undo_image
use Rattle.disk_steps.specs.Write.{block_written, target}
use Rattle.disk_steps.specs.declared.crashes.Kept.{Kept}
use Rattle.disk_steps.specs.declared.crashes.Kept.TheVariants.{Bytes, Nothing}
use Rattle.disk_steps.specs.declared.installs.Installed.{Installed}
use Rattle.disk_steps.specs.declared.installs.Installed.TheVariants as installed
use Rattle.disk_steps.specs.declared.undo_asks.AskedUndo.{AskedUndo}
use Rattle.disk_steps.specs.declared.undo_asks.AskedUndo.TheVariants as asked_for
use Rattle.disk_steps.specs.declared.undo_asks.Lacking.{Lacking}
use Rattle.disk_steps.specs.declared.undo_asks.Lacking.TheVariants.{Sense, Undo}
use Rattle.disk_steps.specs.declared.undo_asks.Place.{Place}
use Rattle.image_steps.specs.declared.invalidating.Granted.{Granted}
use Rattle.image_steps.specs.declared.shipping.Order.{Order}
use Rattle.wave_steps.specs.declared.buckets.BucketMove.{BucketMove}
use Rattle.image_steps.specs.Hear.{first_message, hears}
use Rattle.image_steps.specs.Invalidate.{first_to_go, without_image}
use Rattle.image_steps.specs.Ship.{first_order, followed}
use Rattle.image_steps.specs.TakeCopy.{copy_taken}
use Rattle.image_steps.specs.Ask.{lacked}
use Rattle.stmt_steps.specs.Back.{dead_back_decided, record_of, undone}
use Rattle.stmt_steps.specs.Mark.{dead_end_decided, dead_tells_by}
use Rattle.stmt_steps.specs.Start.{may_start}
use Rattle.wave_steps.specs.Buckets.{first_move, moved_by, with_moved}
use Rattle.report_steps.specs.Reopen.{bits_of, up_told}
use Rattle.thread_steps.specs.Close.{thread_closed}
use Rattle.thread_steps.specs.Read.{is_news, record_entered, records_entered, thread_read}
use Rattle.thread_steps.specs.declared.closes.Closing.{Closing}
use Rattle.thread_steps.specs.declared.closes.Closing.TheVariants as closing
use Rattle.thread_steps.specs.declared.found.Found.{Found}
use Rattle.thread_steps.specs.declared.found.Found.TheVariants as found
use Rattle.thread_steps.specs.declared.found.FoundLog.{FoundLog}
use Rattle.redo_record.specs.Redo.{length_of}
use Rattle.rebuild_steps.specs.Join.{begun, came_in, with_segment}
use Rattle.rebuild_steps.specs.Open.{is_open, scns_of}
use Rattle.rebuild_steps.specs.Thaw.{opened_part, opened_shared, thaw_part, thawed as thaw}
use Rattle.rebuild_steps.specs.declared.joins.Joined.{Joined}
use Rattle.rebuild_steps.specs.declared.joins.Joined.TheVariants as joined
use Rattle.rebuild_steps.specs.declared.recovers.Recovered.{Recovered}
use Rattle.rebuild_steps.specs.declared.recovers.Recovered.TheVariants as recovered
use Rattle.rebuild_steps.specs.Recover.{recovered as recover}
use Rattle.rebuild_steps.specs.declared.thaws.Thawed.{Thawed}
use Rattle.rebuild_steps.specs.declared.thaws.Thawed.TheVariants as thawed
use Rattle.inst_node.specs.declared.actions.Action.{Action}
use Rattle.inst_node.specs.declared.actions.Action.TheVariants.{Block, Dead, Inst as OfInst, Line, Plain, Session}
use Rattle.inst_node.specs.declared.actions.BlockStep.{BlockStep}
use Rattle.inst_node.specs.declared.actions.BlockStep.TheVariants as block
use Rattle.inst_node.specs.declared.actions.DeadStep.{DeadStep}
use Rattle.inst_node.specs.declared.actions.DeadStep.TheVariants as dead
use Rattle.inst_node.specs.declared.actions.InstStep.{InstStep}
use Rattle.inst_node.specs.declared.actions.InstStep.TheVariants as inst
use Rattle.inst_node.specs.declared.actions.LineStep.{LineStep}
use Rattle.inst_node.specs.declared.actions.LineStep.TheVariants as line
use Rattle.inst_node.specs.declared.actions.PlainStep.{PlainStep}
use Rattle.inst_node.specs.declared.actions.PlainStep.TheVariants as plain
use Rattle.inst_node.specs.declared.actions.SessionStep.{SessionStep}
use Rattle.inst_node.specs.declared.actions.SessionStep.TheVariants as session
use Rattle.inst_node.specs.declared.hows.How.{How}
use Rattle.inst_node.specs.declared.hows.How.TheVariants as how
use Rattle.inst_node.specs.Allowed.{is_allowed}
use Rattle.inst_node.specs.Moves.{asked_undo_of, block_part, closing_of, counted, crashed_of, dead_part, forced_of, found_of, inst_part, installed_of, joined_by, line_part, part_after, part_of, plain_part, prepared, recovered_by, session_part, thawed_by, written_of}
use Rattle.inst_node.specs.Needs.{needs, session_needs}
use Rattle.run_laws.specs.Tells.{ask_at_tells, ask_tells_by, block_tells, bucket_tells, checkpoint_tells, close_tells, crash_tells, crash_tells_by, dead_tells, force_tells, image_read_tells, inst_tells, install_tells_by, join_tells, join_tells_by, kept_tells, line_tells, log_tells, loss_entry, lost_tells, move_tells, packet_tells, plain_tells, read_tells, recover_tells, recover_tells_by, session_tells, skip_tells, stop_tells, tells, tells_of, thaw_tells, thaw_tells_by, undo_read_tells, write_tells}
use Rattle.line_laws.proofs.Entries.{is_silent, Silents}
use Rattle.line_laws.proofs.Moving.{took_ack, took_broadcast, took_change, took_end, took_mark, took_start, took_step_back, took_visit}
use Rattle.line_laws.proofs.Parts.{asked_stays, copy_stays, dead_marked_stays, dead_stepped_stays, entered_stays, forced_stays, handed_stays, heard_stays, image_stays, opened_stays, report_stays, segment_stays, taken_stays, thaw_stays, with_stays, written_stays}
use Rattle.line_laws.proofs.Took.{stays, Stays, stays_then, Took, loses, opens, rests}

-- what is told quietly

fold_quiet : {A : Type 0} (f : List Entry → A → List Entry) → ((es : List Entry) (x : A) → Silents es → Silents (f es x)) → (xs : List A) (es : List Entry)
    → Silents es → Silents (fold f es xs)
fold_quiet {A = A} f each [] es q = q
fold_quiet {A = A} f each (x ∷ xs) es q = fold_quiet f each xs (f es x) (each es x q)

quiet_if : (b : Bool) (e : Entry) (es : List Entry) → is_silent e ≡ true → Silents es → Silents (if b then e ∷ es else es)
quiet_if true e es is q = (is, q)
quiet_if false e es is q = q

quiets_append : (xs ys : List Entry) → Silents xs → Silents ys → Silents (xs ++ ys)
quiets_append [] ys a b = b
quiets_append (x ∷ xs) ys a b = (a.0, quiets_append xs ys a.1 b)

kept_quiet : (n : Inst) (kept : Option ℕ) → Silents (kept_tells n kept)
kept_quiet n None = tt
kept_quiet n (Some kept) =
    fold_quiet (with_commit n.plan.me kept) (λ es end q. quiet_if (is_kept_commit kept end) (entry.Committed end.xid end.scn n.plan.me) es refl q) n.ends [] tt

loss_quiet : (n : Inst) (it : Loss) → is_silent (loss_entry n it) ≡ true
loss_quiet n (loss.Crashed number) = refl
loss_quiet n (loss.Ended bad) = refl

records_quiet : (thread at : ℕ) (records : List Redo) (core : Core) → Silents core.journal → Silents (records_entered thread at records core).journal
records_quiet thread at [] core q = q
records_quiet thread at (redo ∷ records) core q =
    let behind = at + length_of redo.kind in
    records_quiet thread behind records (record_entered thread behind redo core)
    (quiet_if (is_news core thread behind redo) (entry.Committed redo.xid redo.scn thread) core.journal refl q)

log_quiet : (core : Core) (thread : ℕ) (log : FoundLog) → Silents (log_tells core thread log)
log_quiet core thread log = records_quiet thread log.position log.read.records (record core { journal = [] }) tt

recovery_quiet : (b : Bool) (e : Entry) → is_silent e ≡ true → Silents (if b then [] else e ∷ [])
recovery_quiet true e is = tt
recovery_quiet false e is = (is, tt)

up_quiet : (me : ℕ) (life : Life) → Silents (up_told me life [])
up_quiet me (Joining number) = (refl, tt)
up_quiet me _ = tt

move_quiet : (o : Option Control) → Silents (move_tells o)
move_quiet None = tt
move_quiet (Some control) = (refl, tt)

skip_quiet : (o : Option Control) → Silents (skip_tells o)
skip_quiet None = tt
skip_quiet (Some control) = (refl, tt)

packet_quiet : (core : Core) (me : ℕ) (o : Option Packet) → Silents (packet_tells core me o)
packet_quiet core me None = tt
packet_quiet core me (Some packet) = message_quiet packet.message
  where
    message_quiet : (message : Message) → Silents (bucket_tells core me message)
    message_quiet (Bucket bucket entries) = move_quiet (first_move core bucket me)
    message_quiet _ = tt

-- how an instance ends

losing : (n k : Inst) → Stays n k → (it : Loss) (kept : Option ℕ) → Took n (lost k) (lost_tells k it kept)
losing n k same it kept = loses k (loss_entry k it ∷ kept_tells k kept) same refl (loss_quiet k it, kept_quiet k kept) refl

stop : (n k : Inst) → Stays n k → (bad : Bool) → Took n (lost k) (stop_tells k bad)
stop n k same bad = losing n k same (loss.Ended bad) (Some 0)

-- AskUndo

ask_read : (n : Inst) (z : ℕ) (it : AskedUndo) → Took n (read_undo n z it) (undo_read_tells n it)
ask_read n z (asked_for.Read (undo_read.Head head)) = rests (handed_stays n z (undo_image.Head head.value)) tt
ask_read n z (asked_for.Read (undo_read.Block block)) = rests (handed_stays n z (undo_image.Block block.value)) tt
ask_read n z (asked_for.Read undo_read.Failed) = stop n n (stays n) false
ask_read n z _ = stop n n (stays n) true

ask_where : (n : Inst) (z : ℕ) (live : Bool) (it : AskedUndo)
    → Took n (if live then undo_asked n z else read_undo n z it) (if live then [] else undo_read_tells n it)
ask_where n z true it = rests (with_stays n z (asked_session (name_in_hand n z) (session_at n z)) refl) tt
ask_where n z false it = ask_read n z it

ask_at : (n : Inst) (core : Core) (z : ℕ) (o : Option Place) (it : AskedUndo) → Took n (asked_at n core z o it) (ask_at_tells n core o it)
ask_at n core z None it = stop n n (stays n) true
ask_at n core z (Some place) it = ask_where n z (is_live core place.seg) it

ask_by : (n : Inst) (core : Core) (z : ℕ) (o : Option Lacking) (it : AskedUndo) → Took n (asked_by n core z o it) (ask_tells_by n core o it)
ask_by n core z None it = rests (stays n) tt
ask_by n core z (Some (Undo what)) it = ask_at n core z (place_of n.plan.layout what) it
ask_by n core z (Some Sense) it = stop n n (stays n) true

-- an Install

read_image : (n k : Inst) → Stays n k → (block grant : ℕ) (mode : Mode) (it : Installed)
    → Took n (granted k block grant mode true it) (image_read_tells k it)
read_image n k same block grant mode (installed.Read (data_read.Image image)) =
    let c = Some (read_from_disk grant mode image.value) in rests (stays_then n k (with_image k block c) same (image_stays k block c)) tt
read_image n k same block grant mode (installed.Read data_read.Failed) = stop n k same false
read_image n k same block grant mode _ = stop n k same true

bring : (n k : Inst) → Stays n k → (o : Option Message) (it : Installed) → Took n (brought k o it) (install_tells_by k o it)
bring n k same (Some (Grant block grant mode true)) it = read_image n k same block grant mode it
bring n k same (Some (Grant block grant mode false)) it =
    let c = option_map (upgraded grant) (place_at k.cache block).current in rests (stays_then n k (with_image k block c) same (image_stays k block c)) tt
bring n k same (Some (Shipped shipment)) it =
    let c = Some (shipped shipment) in rests (stays_then n k (with_image k shipment.block c) same (image_stays k shipment.block c)) tt
bring n k same _ it = rests same tt

-- threads

read_took : (n : Inst) (core : Core) (thread : ℕ) (it : Found) → Took n (thread_read n core it) (read_tells n core thread it)
read_took n core thread (found.Closed scns) = rests (record { plan = refl; course = refl }) tt
read_took n core thread (found.Unread bad) = stop n n (stays n) bad
read_took n core thread (found.Stopped log bad) =
    loses n (loss_entry n (loss.Ended bad) ∷ kept_tells n (Some 0) ++ log_tells core thread log) (stays n) refl
    (refl, quiets_append (kept_tells n (Some 0)) (log_tells core thread log) (kept_quiet n (Some 0)) (log_quiet core thread log))
    (append_assoc (fold (with_refusal n) [] n.plan.mine) (loss_entry n (loss.Ended bad) ∷ kept_tells n (Some 0)) (log_tells core thread log))
read_took n core thread (found.Whole log versions) = rests (record { plan = refl; course = refl }) (log_quiet core thread log)

close_took : (n : Inst) (it : Closing) → Took n (thread_closed n it) (close_tells n it)
close_took n closing.Done = rests (stays n) tt
close_took n _ = stop n n (stays n) false

-- blocks

write_took : (n : Inst) (block : ℕ) (it : Written) → Took n (block_written n block it) (write_tells n it)
write_took n block written.Done = rests (written_stays n block (target n block)) tt
write_took n block written.Failed = stop n n (stays n) false

recover_took : (n : Inst) (core : Core) (block : ℕ) (it : Recovered) → Took n (recover n core block it) (recover_tells n it)
recover_took n core block (recovered.Done stood version) = rests (record { plan = refl; course = refl }) tt
recover_took n core block (recovered.Unwritten stood) = stop n n (stays n) false
recover_took n core block (recovered.Unrolled stood) = stop n n (stays n) true
recover_took n core block recovered.Bad = stop n n (stays n) true
recover_took n core block recovered.Unread = stop n n (stays n) false

recover_by : (n : Inst) (core : Core) (block : ℕ) (it : How) → Took n (recovered_by n core block it) (recover_tells_by n it)
recover_by n core block (how.Recovered it) = recover_took n core block it
recover_by n core block _ = rests (stays n) tt

-- control lines

crash_as : (n : Inst) (control : Control) (it : Kept) → Took n (lost n) (crash_tells_by n control it)
crash_as n control Nothing = losing n n (stays n) (loss.Crashed control.line) (Some n.thread.durable)
crash_as n control (Bytes Whole) = losing n n (stays n) (loss.Crashed control.line) (Some (kept_to n control))
crash_as n control (Bytes (Cut kept)) = losing n n (stays n) (loss.Ended false) kept

crash_by : (n : Inst) (o : Option Control) (it : Kept) → Took n (crashed_by n o) (crash_tells n o it)
crash_by n None it = rests (stays n) tt
crash_by n (Some control) it = crash_as n control it

check_took : (n : Inst) (number : ℕ) (it : Written) → Took n (checkpointed n number it) (checkpoint_tells n number it)
check_took n number written.Done = rests (record { plan = refl; course = refl }) (refl, tt)
check_took n number written.Failed = stop n n (stays n) false

join_read : (n k : Inst) → Stays n k → (runs : Bool) → Took n (if runs then k else lost k) (if runs then [] else stop_tells k false)
join_read n k same true = rests same tt
join_read n k same false = stop n k same false

join_took : (n k : Inst) (core : Core) → Stays n k → (it : Joined) → Took n (came_in k core it) (join_tells k core it)
join_took n k core same joined.Dark = rests same tt
join_took n k core same (joined.Read own it) =
    join_read n (with_segment k own.value (scns_of k core) it) (stays_then n k (with_segment k own.value (scns_of k core) it) same (segment_stays k own.value (scns_of k core) it)) (is_open it)
join_took n k core same joined.Bad = stop n k same true
join_took n k core same joined.Unread = stop n k same false

join_by : (n : Inst) (core : Core) (number : ℕ) (it : How) → Took n (joined_by n core number it) (join_tells_by n core number it)
join_by n core number (how.Joined it) = join_took n (begun n core number) core (record { plan = refl; course = refl }) it
join_by n core number _ = rests (stays n) tt

-- an instance alone

force_took : (n : Inst) (it : Appended) → Took n (forced_as n it) (force_tells n it)
force_took n Whole =
    rests (forced_stays n) (fold_quiet (commit_told n.plan.me) (λ es end q. quiet_if end.commit (entry.Committed end.xid end.scn n.plan.me) es refl q) n.ends [] tt)
force_took n (Cut kept) = losing n n (stays n) (loss.Ended false) kept

thaw_took : (n : Inst) (core : Core) (it : Thawed) → Took n (thaw n core it) (thaw_tells n core it)
thaw_took n core (thawed.Done opening owns) =
    let k = opened_part n core opening in
    rests (stays_then n k (thaw_part k (opened_shared n core opening) owns.value.items) (opened_stays n core opening) (thaw_stays k (opened_shared n core opening) owns.value.items)) tt
thaw_took n core (thawed.Unopened opening) = stop n (opened_part n core opening) (opened_stays n core opening) false
thaw_took n core (thawed.Bad opening) = stop n (opened_part n core opening) (opened_stays n core opening) true
thaw_took n core (thawed.Unread opening) = stop n (opened_part n core opening) (opened_stays n core opening) false

thaw_by : (n : Inst) (core : Core) (it : How) → Took n (thawed_by n core it) (thaw_tells_by n core it)
thaw_by n core (how.Thawed it) = thaw_took n core it
thaw_by n core _ = rests (stays n) tt

-- A start of a line may be made.
abbrev IfStarts : Action → Inst → Type 0
IfStarts (Session session.StartStmt z) n = may_start n z ≡ true
IfStarts _ n = Unit {0}

-- each family of kinds

session_took : (n : Inst) (core : Core) (kind : SessionStep) (z : ℕ) (it : How) → IfStarts (Session kind z) n
    → Took n (session_part n core kind z it) (session_tells n core kind z it)
unfolding session_part session_tells
session_took n core session.StartStmt z it may = took_start n z may
session_took n core session.Visit z it may = took_visit n z
session_took n core session.Change z it may = took_change n z
session_took n core session.Mark z it may = took_mark n z
session_took n core session.StepBack z it may = took_step_back n z
session_took n core session.EndStmt z it may = took_end n z
session_took n core session.AskUndo z it may = ask_by n core z (lacking n z) (asked_undo_of it)
session_took n core session.Broadcast z it may = took_broadcast n core z
session_took n core session.Ack z it may = took_ack n z

dead_took : (n : Inst) (kind : DeadStep) → Took n (dead_part n kind) (dead_tells n kind)
unfolding dead_part dead_tells
dead_took n dead.Mark = rests (dead_marked_stays n (dead_end_decided n)) (quiet (dead_end_decided n))
  where
    quiet : (o : Option Redo) → Silents (dead_tells_by o)
    quiet None = tt
    quiet (Some redo) = (refl, tt)
dead_took n dead.StepBack = rests (dead_stepped_stays n (record_of (dead_back_decided n))) (quiet (record_of (dead_back_decided n)))
  where
    quiet : (o : Option Redo) → Silents (undone o 0)
    quiet None = tt
    quiet (Some redo) = (refl, tt)
dead_took n dead.AskUndo = stop n n (stays n) true

block_took : (n : Inst) (core : Core) (kind : BlockStep) (number : ℕ) (it : How) → Took n (block_part n core kind number it) (block_tells n kind it)
unfolding block_part block_tells
block_took n core block.Ask number it = rests (asked_stays n number (lacked n number)) tt
block_took n core block.Evict number it = rests (record { plan = refl; course = refl }) tt
block_took n core block.WriteBlock number it = write_took n number (written_of it)
block_took n core block.AskWrite number it = rests (record { plan = refl; course = refl }) tt
block_took n core block.GivePast number it = rests (stays n) tt
block_took n core block.RecoverBlock number it = recover_by n core number it

without_image_stays : (n k : Inst) → Stays n k → (o : Option Granted) → Stays n (without_image k o)
without_image_stays n k same None = same
without_image_stays n k same (Some image) = record { plan = same.plan; course = same.course }

copy_from : (n : Inst) (core : Core) (from : ℕ) (lane : Lane) → Stays n (copy_taken n core from lane)
copy_from n core from lane =
    let k = hears n core from lane in
    stays_then n k (copy_taken n core from lane) (record { plan = refl; course = refl }) (copy_stays k (first_message n core from lane))

moved_stays : (n : Inst) (o : Option BucketMove) → Stays n (with_moved n o)
moved_stays n None = stays n
moved_stays n (Some it) = record { plan = refl; course = refl }

followed_stays : (n k : Inst) → Stays n k → (o : Option Order) → Stays n (followed k o)
followed_stays n k same None = same
followed_stays n k same (Some order) = record { plan = same.plan; course = same.course }

inst_took : (n : Inst) (core : Core) (kind : InstStep) (from : ℕ) (it : How) → Took n (inst_part n core kind from it) (inst_tells n core kind from it)
unfolding inst_part inst_tells
inst_took n core inst.MasterTake from it = rests (record { plan = refl; course = refl }) tt
inst_took n core inst.Invalidate from it =
    rests (without_image_stays n (hears n core from Main) (record { plan = refl; course = refl }) (first_to_go n core from)) tt
inst_took n core inst.Ship from it =
    rests (followed_stays n (hears n core from Main) (record { plan = refl; course = refl }) (first_order n core from)) tt
inst_took n core inst.ServeCopy from it = rests (record { plan = refl; course = refl }) tt
inst_took n core inst.DropPast from it = rests (record { plan = refl; course = refl }) tt
inst_took n core inst.Install from it =
    bring n (hears n core from Main) (record { plan = refl; course = refl }) (first_message n core from Main) (installed_of it)
inst_took n core inst.TakeCopy from it = rests (copy_from n core from Main) tt
inst_took n core inst.TakeUndo from it = rests (copy_from n core from UndoLane) tt
inst_took n core inst.ServeUndo from it = rests (record { plan = refl; course = refl }) tt
inst_took n core inst.Heard from it = rests (heard_stays n core.members.epoch from (first_from core from n.plan.me Main)) tt
inst_took n core inst.TakeBucket from it =
    rests (taken_stays n (first_from core from n.plan.me Main))
    (packet_quiet (without_first core from n.plan.me Main) n.plan.me (first_from core from n.plan.me Main))
inst_took n core inst.ReadThread thread it = read_took n core thread (found_of it)
inst_took n core inst.CloseThread thread it = close_took n (closing_of it)

line_took : (n : Inst) (core : Core) (kind : LineStep) (number : ℕ) (it : How) → Took n (line_part n core kind number it) (line_tells n core kind number it)
unfolding line_part line_tells
line_took n core line.Crash number it = crash_by n (open_control core number) (crashed_of it)
line_took n core line.SendBucket number it = rests (moved_stays n (moved_by core number)) tt
line_took n core line.KeepBucket number it = rests (stays n) (move_quiet (open_control core number))
line_took n core line.Checkpoint number it = check_took n number (written_of it)
line_took n core line.Skip number it = rests (stays n) (skip_quiet (open_control core number))
line_took n core line.Join number it = join_by n core number it

plain_took : (n : Inst) (core : Core) (kind : PlainStep) (it : How) → Took n (plain_part n core kind it) (plain_tells n core kind it)
unfolding plain_part plain_tells
plain_took n core plain.Enter it = opens (entered_stays n core) refl
plain_took n core plain.Force it = force_took n (forced_of it)
plain_took n core plain.Report it = rests (report_stays n) tt
plain_took n core plain.Thaw it = thaw_by n core it
plain_took n core plain.Reopen it = rests (record { plan = refl; course = refl }) (recovery_quiet (is_empty core.recovery.closed_since) (entry.Recovered (bits_of core.recovery.closed_since)) refl)
plain_took n core plain.Resume it = rests (record { plan = refl; course = refl }) (up_quiet n.plan.me n.life)
plain_took n core plain.Leave it = rests (stays n) tt
plain_took n core plain.Wave it = rests (stays n) tt

took_of : (n : Inst) (core : Core) (action : Action) (it : How) → IfStarts action n → Took n (part_of n core action it) (tells_of n core action it)
took_of n core (Session kind z) it may = session_took n core kind z it may
took_of n core (Dead kind job) it may = dead_took n kind
took_of n core (Block kind number) it may = block_took n core kind number it
took_of n core (OfInst kind from) it may = inst_took n core kind from it
took_of n core (Line kind number) it may = line_took n core kind number it
took_of n core (Plain kind) it may = plain_took n core kind it

start_may : (n : Inst) (core : Core) (action : Action) → needs n core action ≡ true → IfStarts action (prepared n core action)
unfolding prepared session_needs
start_may n core (Session session.StartStmt z) may =
    (and_parts (is_allowed n core (Session session.StartStmt z)) (may_start n z) may).1
start_may n core _ may = tt

-- what a step does to the lines of an instance that is ready for it
pub took : (n : Inst) (core : Core) (action : Action) (it : How) → needs n core action ≡ true
    → Took (prepared n core action) (part_after n core action it) (tells n core action it)
took n core action it may =
    took_of (prepared n core action) (counted core n.plan.me action) action it (start_may n core action may)
