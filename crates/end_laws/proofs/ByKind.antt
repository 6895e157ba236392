-- What each kind of step does to the transactions of an instance.
use Rattle.std.proofs.Common.{◌≡◌, ℕ, Bool, true, false, List, [], ◌∷◌, Option, Some, None, if◌then◌else◌, ◌≤◌, max, refl, sym, ap, subst, ◌∙◌, inl, inr}
use Rattle.std.specs.Prelude.{◌==◌}
use Rattle.std.specs.List.{fold}
use Rattle.redo_types.specs.declared.redo.Redo.{Redo}
use Rattle.journal.specs.declared.entry.Entry.{Entry}
use Rattle.journal.specs.declared.entry.Entry.TheVariants as entry
use Rattle.inst_set.specs.Sets.{is_empty}
use Rattle.wire_net.specs.declared.message.Lane.TheVariants.{Main, Undo as UndoLane}
use Rattle.wire_net.specs.declared.message.Message.{Message}
use Rattle.wire_net.specs.declared.message.Message.TheVariants.{Bucket, Grant, Shipped}
use Rattle.wire_net.specs.declared.message.Lane.{Lane}
use Rattle.wire_net.specs.declared.message.Mode.{Mode}
use Rattle.wire_net.specs.declared.message.Packet.{Packet}
use Rattle.inst_state.specs.declared.control.Control.{Control}
use Rattle.inst_state.specs.declared.inst.Inst.{Inst}
use Rattle.inst_state.specs.declared.inst.Life.{Life}
use Rattle.inst_state.specs.declared.inst.Life.TheVariants.{Joining}
use Rattle.inst_state.specs.declared.shared.Core.{Core}
use Rattle.inst_state.specs.Hand.{name_in_hand}
use Rattle.inst_state.specs.State.{session_at}
use Rattle.std.specs.Option.{option_map}
use Rattle.inst_state.specs.Sending.{first_from, without_first}
use Rattle.inst_state.specs.Shared.{is_live, open_control}
use Rattle.inst_loss.specs.Lost.{lost}
use Rattle.inst_loss.specs.declared.ends.Loss.{Loss}
use Rattle.inst_loss.specs.declared.ends.Loss.TheVariants as loss
use Rattle.disk_calls.specs.declared.appends.Appended.{Appended}
use Rattle.disk_calls.specs.declared.appends.Appended.TheVariants.{Cut, Whole}
use Rattle.disk_calls.specs.declared.images.ReadData.TheVariants as data_read
use Rattle.disk_calls.specs.declared.images.ReadUndo.TheVariants as undo_read
use Rattle.disk_calls.specs.declared.writes.Written.{Written}
use Rattle.disk_calls.specs.declared.writes.Written.TheVariants as written
use Rattle.disk_steps.specs.AskUndo.{asked_at, asked_by, asked_for as asked_session, lacking, place_of, undo_asked, undo_read as read_undo}
use Rattle.disk_steps.specs.Checkpoint.{checkpointed}
use Rattle.disk_steps.specs.Crash.{crashed_by, kept_to}
use Rattle.disk_steps.specs.Force.{forced_as}
use Rattle.disk_steps.specs.Install.{brought, granted, with_image}
use Rattle.buffer_cache.specs.Place.{read_from_disk, shipped, upgraded}
use Rattle.buffer_cache.specs.Cache.{place_at}
use Rattle.wire_net.specs.declared.message.UndoImage.TheVariants as undo_image
use Rattle.disk_steps.specs.Write.{block_written, target}
use Rattle.disk_steps.specs.declared.crashes.Kept.{Kept}
use Rattle.disk_steps.specs.declared.crashes.Kept.TheVariants.{Bytes, Nothing}
use Rattle.disk_steps.specs.declared.installs.Installed.{Installed}
use Rattle.disk_steps.specs.declared.installs.Installed.TheVariants as installed
use Rattle.disk_steps.specs.declared.undo_asks.AskedUndo.{AskedUndo}
use Rattle.disk_steps.specs.declared.undo_asks.AskedUndo.TheVariants as asked_for
use Rattle.disk_steps.specs.declared.undo_asks.Lacking.{Lacking}
use Rattle.disk_steps.specs.declared.undo_asks.Lacking.TheVariants.{Sense, Undo}
use Rattle.disk_steps.specs.declared.undo_asks.Place.{Place}
use Rattle.image_steps.specs.declared.invalidating.Granted.{Granted}
use Rattle.image_steps.specs.declared.shipping.Order.{Order}
use Rattle.wave_steps.specs.declared.buckets.BucketMove.{BucketMove}
use Rattle.image_steps.specs.Hear.{first_message, hears}
use Rattle.image_steps.specs.Invalidate.{first_to_go, without_image}
use Rattle.image_steps.specs.Ship.{first_order, followed}
use Rattle.image_steps.specs.TakeCopy.{copy_taken}
use Rattle.image_steps.specs.Ask.{lacked}
use Rattle.stmt_steps.specs.Back.{dead_back_decided, record_of, undone}
use Rattle.stmt_steps.specs.Mark.{dead_end_decided, dead_tells_by}
use Rattle.stmt_steps.specs.Start.{may_start}
use Rattle.wave_steps.specs.Buckets.{first_move, moved_by, with_moved}
use Rattle.report_steps.specs.Reopen.{bits_of, up_told}
use Rattle.thread_steps.specs.Close.{thread_closed}
use Rattle.thread_steps.specs.Read.{thread_read}
use Rattle.thread_steps.specs.declared.closes.Closing.{Closing}
use Rattle.thread_steps.specs.declared.closes.Closing.TheVariants as closing
use Rattle.thread_steps.specs.declared.found.Found.{Found}
use Rattle.thread_steps.specs.declared.found.Found.TheVariants as found
use Rattle.rebuild_steps.specs.Join.{begun, came_in, with_segment}
use Rattle.rebuild_steps.specs.Open.{is_open, scns_of}
use Rattle.rebuild_steps.specs.Thaw.{opened_part, opened_shared, thaw_part, thawed as thaw}
use Rattle.rebuild_steps.specs.declared.joins.Joined.{Joined}
use Rattle.rebuild_steps.specs.declared.joins.Joined.TheVariants as joined
use Rattle.rebuild_steps.specs.declared.recovers.Recovered.{Recovered}
use Rattle.rebuild_steps.specs.declared.recovers.Recovered.TheVariants as recovered
use Rattle.rebuild_steps.specs.Recover.{recovered as recover}
use Rattle.rebuild_steps.specs.declared.thaws.Thawed.{Thawed}
use Rattle.rebuild_steps.specs.declared.thaws.Thawed.TheVariants as thawed
use Rattle.inst_node.specs.declared.actions.Action.{Action}
use Rattle.inst_node.specs.declared.actions.Action.TheVariants.{Block, Dead, Inst as OfInst, Line, Plain, Session}
use Rattle.inst_node.specs.declared.actions.BlockStep.{BlockStep}
use Rattle.inst_node.specs.declared.actions.BlockStep.TheVariants as block
use Rattle.inst_node.specs.declared.actions.DeadStep.{DeadStep}
use Rattle.inst_node.specs.declared.actions.DeadStep.TheVariants as dead
use Rattle.inst_node.specs.declared.actions.InstStep.{InstStep}
use Rattle.inst_node.specs.declared.actions.InstStep.TheVariants as inst
use Rattle.inst_node.specs.declared.actions.LineStep.{LineStep}
use Rattle.inst_node.specs.declared.actions.LineStep.TheVariants as line
use Rattle.inst_node.specs.declared.actions.PlainStep.{PlainStep}
use Rattle.inst_node.specs.declared.actions.PlainStep.TheVariants as plain
use Rattle.inst_node.specs.declared.actions.SessionStep.{SessionStep}
use Rattle.inst_node.specs.declared.actions.SessionStep.TheVariants as session
use Rattle.inst_node.specs.declared.hows.How.{How}
use Rattle.inst_node.specs.declared.hows.How.TheVariants as how
use Rattle.inst_node.specs.Moves.{asked_undo_of, block_part, closing_of, crashed_of, dead_part, forced_of, found_of, inst_part, installed_of, joined_by, line_part, part_of, plain_part, recovered_by, session_part, thawed_by, written_of}
use Rattle.run_laws.specs.Tells.{ask_at_tells, ask_tells_by, block_tells, bucket_tells, checkpoint_tells, close_tells, crash_tells, crash_tells_by, dead_tells, force_tells, image_read_tells, inst_tells, install_tells_by, join_tells, join_tells_by, line_tells, log_tells, lost_tells, move_tells, packet_tells, plain_tells, read_tells, recover_tells, recover_tells_by, session_tells, skip_tells, stop_tells, tells_of, thaw_tells, thaw_tells_by, undo_read_tells, write_tells}
use Rattle.std.proofs.Math.Nat.{le-max_left, le_refl, le_trans}
use Rattle.std.proofs.lemmas.List.{append-nil}
use Rattle.std.proofs.lemmas.Option.{none-some}
use Rattle.base_types.specs.declared.names.Xid.{Xid}
use Rattle.scn_clock.specs.declared.clock.Clock.{Clock}
use Rattle.inst_state.specs.declared.plan.Opening.{Opening}
use Rattle.inst_state.specs.declared.plan.Plan.{Plan}
use Rattle.inst_state.specs.Needs.{dead_needed, dead_segment, dead_txn, txn_of}
use Rattle.recovery.specs.Dead.{next_back}
use Rattle.recovery.specs.declared.dead.NextBack.TheVariants as lost_back
use Rattle.stmt_steps.specs.Back.{dead_back_on, dead_stepped_by, needed_image}
use Rattle.stmt_steps.specs.Mark.{dead_end_of, dead_marked_by, waiting_end}
use Rattle.wave_steps.specs.Enter.{told_if}
use Rattle.report_steps.specs.Reopen.{risen}
use Rattle.end_laws.specs.Marked.{is_log_read}
use Rattle.end_laws.proofs.Did.{Did, IsUnrest, Keeps, Restores, Stills, forces, keeps, keeps_then, leads, loses, reads, restored, restores, rests}
use Rattle.end_laws.proofs.Parts.{asked_keeps, copy_keeps, entered_keeps, handed_keeps, heard_keeps, hears_keeps, image_keeps, opened_restores, own_seg, report_restores, segment_restores, taken_keeps, thaw_restores, with_keeps, written_keeps}
use Rattle.end_laws.proofs.SessionSteps.{did_ack, did_broadcast, did_change, did_end, did_mark, did_start, did_step_back, did_visit}
use Rattle.end_laws.proofs.Stakes.{Ledger, ledger}

-- what names no transaction

still_opens : (me wave : ℕ) (openings : List Opening) (es : List Entry) → Stills es → Stills (fold (told_if me wave) es openings)
still_opens me wave [] es q = q
still_opens me wave (opening ∷ openings) es q = still_opens me wave openings (told_if me wave es opening) (by (opening.wave == wave))
  where
    by : (b : Bool) → Stills (if b then entry.Opened opening.session me ∷ es else es)
    by true = (refl, q)
    by false = q

still_recovery : (b : Bool) (bits : ℕ) → Stills (if b then [] else entry.Recovered bits ∷ [])
still_recovery true bits = tt
still_recovery false bits = (refl, tt)

still_up : (me : ℕ) (life : Life) → Stills (up_told me life [])
still_up me (Joining number) = (refl, tt)
still_up me _ = tt

still_move : (o : Option Control) → Stills (move_tells o)
still_move None = tt
still_move (Some control) = (refl, tt)

still_skip : (o : Option Control) → Stills (skip_tells o)
still_skip None = tt
still_skip (Some control) = (refl, tt)

still_packet : (core : Core) (me : ℕ) (o : Option Packet) → Stills (packet_tells core me o)
still_packet core me None = tt
still_packet core me (Some packet) = by packet.message
  where
    by : (message : Message) → Stills (bucket_tells core me message)
    by (Bucket bucket entries) = still_move (first_move core bucket me)
    by _ = tt

-- how an instance ends

-- an instance as it ends has the ends and the segment of before, or a segment that was read as its own
losing : (n k : Inst) (core : Core) (reading : Bool) → Restores n k → (it : Loss) (kept : Option ℕ) → Did n core reading (lost k) (lost_tells k it kept)
losing n k core reading same it kept =
    loses k it kept [] refl same.plan same.ends same.seg (inl refl) (sym (append-nil (lost_tells k it kept)))

stop : (n k : Inst) (core : Core) → Restores n k → (bad : Bool) → Did n core false (lost k) (stop_tells k bad)
stop n k core same bad = losing n k core false same (loss.Ended bad) (Some 0)

-- AskUndo

ask_read : (n : Inst) (core : Core) (z : ℕ) (it : AskedUndo) → Did n core false (read_undo n z it) (undo_read_tells n it)
ask_read n core z (asked_for.Read (undo_read.Head head)) = rests (handed_keeps n z (undo_image.Head head.value)) tt
ask_read n core z (asked_for.Read (undo_read.Block block)) = rests (handed_keeps n z (undo_image.Block block.value)) tt
ask_read n core z (asked_for.Read undo_read.Failed) = stop n n core (restored n) false
ask_read n core z _ = stop n n core (restored n) true

ask_where : (n : Inst) (core : Core) (z : ℕ) (live : Bool) (it : AskedUndo)
    → Did n core false (if live then undo_asked n z else read_undo n z it) (if live then [] else undo_read_tells n it)
ask_where n core z true it = rests (with_keeps n z (asked_session (name_in_hand n z) (session_at n z)) refl) tt
ask_where n core z false it = ask_read n core z it

ask_at : (n : Inst) (core : Core) (z : ℕ) (o : Option Place) (it : AskedUndo) → Did n core false (asked_at n core z o it) (ask_at_tells n core o it)
ask_at n core z None it = stop n n core (restored n) true
ask_at n core z (Some place) it = ask_where n core z (is_live core place.seg) it

ask_by : (n : Inst) (core : Core) (z : ℕ) (o : Option Lacking) (it : AskedUndo) → Did n core false (asked_by n core z o it) (ask_tells_by n core o it)
ask_by n core z None it = rests (keeps n) tt
ask_by n core z (Some (Undo what)) it = ask_at n core z (place_of n.plan.layout what) it
ask_by n core z (Some Sense) it = stop n n core (restored n) true

-- an Install

-- what is kept is restored
pub kept_restores : (n m : Inst) → Keeps n m → Restores n m
kept_restores n m same = record {
  plan = ap (λ (l : Ledger). l.plan) same.same;
  ends = ap (λ (l : Ledger). l.ends) same.same;
  stakes = ap (λ (l : Ledger). l.stakes) same.same;
  seg = λ is. ap (λ (l : Ledger). l.head.front.seg) same.same ∙ is;
}

read_image : (n k : Inst) (core : Core) → Keeps n k → (block grant : ℕ) (mode : Mode) (it : Installed)
    → Did n core false (granted k block grant mode true it) (image_read_tells k it)
read_image n k core same block grant mode (installed.Read (data_read.Image image)) =
    let c = Some (read_from_disk grant mode image.value) in rests (keeps_then n k (with_image k block c) same (image_keeps k block c)) tt
read_image n k core same block grant mode (installed.Read data_read.Failed) = stop n k core (kept_restores n k same) false
read_image n k core same block grant mode _ = stop n k core (kept_restores n k same) true

bring : (n k : Inst) (core : Core) → Keeps n k → (o : Option Message) (it : Installed) → Did n core false (brought k o it) (install_tells_by k o it)
bring n k core same (Some (Grant block grant mode true)) it = read_image n k core same block grant mode it
bring n k core same (Some (Grant block grant mode false)) it =
    let c = option_map (upgraded grant) (place_at k.cache block).current in rests (keeps_then n k (with_image k block c) same (image_keeps k block c)) tt
bring n k core same (Some (Shipped shipment)) it =
    let c = Some (shipped shipment) in rests (keeps_then n k (with_image k shipment.block c) same (image_keeps k shipment.block c)) tt
bring n k core same _ it = rests same tt

-- threads

read_did : (n : Inst) (core : Core) (thread : ℕ) (it : Found) → IsUnrest core n.plan.me → Did n core true (thread_read n core it) (read_tells n core thread it)
read_did n core thread (found.Closed scns) unrest = rests (record { same = refl; clock = le_refl n.clock.scn }) tt
read_did n core thread (found.Unread bad) unrest = losing n n core true (restored n) (loss.Ended bad) (Some 0)
read_did n core thread (found.Stopped log bad) unrest =
    loses n (loss.Ended bad) (Some 0) (log_tells core thread log) refl refl refl (λ is. is) (inr (refl, thread, log, refl)) refl
read_did n core thread (found.Whole log versions) unrest = reads thread log refl unrest (record { same = refl; clock = le_refl n.clock.scn }) refl

close_did : (n : Inst) (core : Core) (it : Closing) → Did n core false (thread_closed n it) (close_tells n it)
close_did n core closing.Done = rests (keeps n) tt
close_did n core _ = stop n n core (restored n) false

-- blocks

write_did : (n : Inst) (core : Core) (block : ℕ) (it : Written) → Did n core false (block_written n block it) (write_tells n it)
write_did n core block written.Done = rests (written_keeps n block (target n block)) tt
write_did n core block written.Failed = stop n n core (restored n) false

recover_did : (n : Inst) (core : Core) (block : ℕ) (it : Recovered) → Did n core false (recover n core block it) (recover_tells n it)
recover_did n core block (recovered.Done stood version) = rests (record { same = refl; clock = le_refl n.clock.scn }) tt
recover_did n core block (recovered.Unwritten stood) = stop n n core (restored n) false
recover_did n core block (recovered.Unrolled stood) = stop n n core (restored n) true
recover_did n core block recovered.Bad = stop n n core (restored n) true
recover_did n core block recovered.Unread = stop n n core (restored n) false

recover_by : (n : Inst) (core : Core) (block : ℕ) (it : How) → Did n core false (recovered_by n core block it) (recover_tells_by n it)
recover_by n core block (how.Recovered it) = recover_did n core block it
recover_by n core block _ = rests (keeps n) tt

-- control lines

crash_as : (n : Inst) (core : Core) (control : Control) (it : Kept) → Did n core false (lost n) (crash_tells_by n control it)
crash_as n core control Nothing = losing n n core false (restored n) (loss.Crashed control.line) (Some n.thread.durable)
crash_as n core control (Bytes Whole) = losing n n core false (restored n) (loss.Crashed control.line) (Some (kept_to n control))
crash_as n core control (Bytes (Cut kept)) = losing n n core false (restored n) (loss.Ended false) kept

crash_by : (n : Inst) (core : Core) (o : Option Control) (it : Kept) → Did n core false (crashed_by n o) (crash_tells n o it)
crash_by n core None it = rests (keeps n) tt
crash_by n core (Some control) it = crash_as n core control it

check_did : (n : Inst) (core : Core) (number : ℕ) (it : Written) → Did n core false (checkpointed n number it) (checkpoint_tells n number it)
check_did n core number written.Done = rests (record { same = refl; clock = le_refl n.clock.scn }) (refl, tt)
check_did n core number written.Failed = stop n n core (restored n) false

-- A segment that a Join has read is the instance's own.
abbrev pub JoinFits : Inst → Joined → Type 0
JoinFits n (joined.Read own it) = own.value.head.front.seg ≡ n.plan.me
JoinFits n _ = Unit {0}

abbrev pub JoinsFit : Inst → How → Type 0
JoinsFit n (how.Joined it) = JoinFits n it
JoinsFit n _ = Unit {0}

join_read : (n k : Inst) (core : Core) → Restores n k → IsUnrest core n.plan.me → (runs : Bool)
    → Did n core false (if runs then k else lost k) (if runs then [] else stop_tells k false)
join_read n k core same unrest true = restores unrest same tt
join_read n k core same unrest false = stop n k core same false

join_did : (n : Inst) (core : Core) (number : ℕ) (it : Joined) → IsUnrest core n.plan.me → JoinFits n it
    → Did n core false (came_in (begun n core number) core it) (join_tells (begun n core number) core it)
join_did n core number joined.Dark unrest fits = restores unrest (record { plan = refl; ends = refl; stakes = refl; seg = λ is. is }) tt
join_did n core number (joined.Read own it) unrest fits =
    let k = begun n core number in
    let same = segment_restores k own.value (scns_of k core) it fits in
    join_read n (with_segment k own.value (scns_of k core) it) core
    (record { plan = same.plan; ends = same.ends; stakes = same.stakes; seg = λ is. same.seg is }) unrest (is_open it)
join_did n core number joined.Bad unrest fits = stop n (begun n core number) core (record { plan = refl; ends = refl; stakes = refl; seg = λ is. is }) true
join_did n core number joined.Unread unrest fits = stop n (begun n core number) core (record { plan = refl; ends = refl; stakes = refl; seg = λ is. is }) false

join_by : (n : Inst) (core : Core) (number : ℕ) (it : How) → IsUnrest core n.plan.me → JoinsFit n it
    → Did n core false (joined_by n core number it) (join_tells_by n core number it)
join_by n core number (how.Joined it) unrest fits = join_did n core number it unrest fits
join_by n core number _ unrest fits = rests (keeps n) tt

-- an instance alone

force_did : (n : Inst) (core : Core) (it : Appended) → Did n core false (forced_as n it) (force_tells n it)
force_did n core Whole = forces refl refl
force_did n core (Cut kept) = losing n n core false (restored n) (loss.Ended false) kept

restores_then : (a b c : Inst) → Restores a b → Restores b c → Restores a c
restores_then a b c first later = record {
  plan = later.plan ∙ first.plan;
  ends = later.ends ∙ first.ends;
  stakes = later.stakes ∙ first.stakes;
  seg = λ is. (
      let mine : b.segment.head.front.seg ≡ b.plan.me = first.seg is ∙ sym (ap (λ (p : Plan). p.me) first.plan) in
      later.seg mine ∙ ap (λ (p : Plan). p.me) first.plan);
}

thaw_did : (n : Inst) (core : Core) (it : Thawed) → IsUnrest core n.plan.me → Did n core false (thaw n core it) (thaw_tells n core it)
thaw_did n core (thawed.Done opening owns) unrest =
    let k = opened_part n core opening in
    restores unrest (restores_then n k (thaw_part k (opened_shared n core opening) owns.value.items) (opened_restores n core opening)
    (thaw_restores k (opened_shared n core opening) owns.value.items)) tt
thaw_did n core (thawed.Unopened opening) unrest = stop n (opened_part n core opening) core (opened_restores n core opening) false
thaw_did n core (thawed.Bad opening) unrest = stop n (opened_part n core opening) core (opened_restores n core opening) true
thaw_did n core (thawed.Unread opening) unrest = stop n (opened_part n core opening) core (opened_restores n core opening) false

thaw_by : (n : Inst) (core : Core) (it : How) → IsUnrest core n.plan.me → Did n core false (thawed_by n core it) (thaw_tells_by n core it)
thaw_by n core (how.Thawed it) unrest = thaw_did n core it unrest
thaw_by n core _ unrest = rests (keeps n) tt

-- the dead transaction, if there is one, is rolled back by an instance that leads
dead_leads : (n : Inst) (leads : Bool) (x : Xid) → txn_of (if leads then next_back n.leading.adopted else lost_back.Nothing) ≡ Some x → leads ≡ true
dead_leads n true x e = refl
dead_leads n false x e = absurd (none-some x e)

marks_dead : (n : Inst) (o : Option Xid) (redo : Redo) → dead_txn n ≡ o → dead_end_of n o (dead_segment n) ≡ Some redo → n.leading.leads ≡ true
marks_dead n None redo is e = absurd (none-some redo e)
marks_dead n (Some x) redo is e = dead_leads n n.leading.leads x is

steps_dead : (n : Inst) (o : Option Xid) (redo : Redo) → dead_txn n ≡ o
    → record_of (dead_back_on n o (dead_segment n) (needed_image n (dead_needed n))) ≡ Some redo → n.leading.leads ≡ true
steps_dead n None redo is e = absurd (none-some redo e)
steps_dead n (Some x) redo is e = dead_leads n n.leading.leads x is

dead_mark_did : (n : Inst) (core : Core) (o : Option Redo) → dead_end_decided n ≡ o → Did n core false (dead_marked_by n o) (dead_tells_by o)
dead_mark_did n core None is = rests (keeps n) tt
dead_mark_did n core (Some redo) is = leads (entry.Rolled redo.xid) (record {
  leads = marks_dead n (dead_txn n) redo refl is;
  plan = refl;
  ends = inr (waiting_end n redo false None, record { commit = refl; session = refl }, refl);
  stakes = refl;
  head = refl;
}) refl refl

dead_step_did : (n : Inst) (core : Core) (o : Option Redo) → record_of (dead_back_decided n) ≡ o → Did n core false (dead_stepped_by n o) (undone o 0)
dead_step_did n core None is = rests (keeps n) tt
dead_step_did n core (Some redo) is = leads (entry.Undone redo.xid 0) (record {
  leads = steps_dead n (dead_txn n) redo refl is;
  plan = refl;
  ends = inl refl;
  stakes = refl;
  head = refl;
}) refl refl

-- What is known where a step is made: of a start, that it may be; of the steps of a recovery, that the cluster doesn't run, or
-- the instance isn't live; and whose segment a Join has read.
abbrev pub IfMade : Action → How → Inst → Core → Type 0
IfMade (Session session.StartStmt z) it n core = may_start n z ≡ true
IfMade (OfInst inst.ReadThread thread) it n core = IsUnrest core n.plan.me
IfMade (Line line.Join number) it n core = IsUnrest core n.plan.me × JoinsFit n it
IfMade (Plain plain.Report) it n core = IsUnrest core n.plan.me
IfMade (Plain plain.Thaw) it n core = IsUnrest core n.plan.me
IfMade (Plain plain.Reopen) it n core = IsUnrest core n.plan.me
IfMade _ it n core = Unit {0}

-- each family of kinds

session_did : (n : Inst) (core : Core) (kind : SessionStep) (z : ℕ) (it : How) → IfMade (Session kind z) it n core
    → Did n core false (session_part n core kind z it) (session_tells n core kind z it)
unfolding session_part session_tells
session_did n core session.StartStmt z it made = did_start n core z made
session_did n core session.Visit z it made = did_visit n core z
session_did n core session.Change z it made = did_change n core z
session_did n core session.Mark z it made = did_mark n core z
session_did n core session.StepBack z it made = did_step_back n core z
session_did n core session.EndStmt z it made = did_end n core z
session_did n core session.AskUndo z it made = ask_by n core z (lacking n z) (asked_undo_of it)
session_did n core session.Broadcast z it made = did_broadcast n core z
session_did n core session.Ack z it made = did_ack n core z

dead_did : (n : Inst) (core : Core) (kind : DeadStep) → Did n core false (dead_part n kind) (dead_tells n kind)
unfolding dead_part dead_tells
dead_did n core dead.Mark = dead_mark_did n core (dead_end_decided n) refl
dead_did n core dead.StepBack = dead_step_did n core (record_of (dead_back_decided n)) refl
dead_did n core dead.AskUndo = stop n n core (restored n) true

block_did : (n : Inst) (core : Core) (kind : BlockStep) (number : ℕ) (it : How) → Did n core false (block_part n core kind number it) (block_tells n kind it)
unfolding block_part block_tells
block_did n core block.Ask number it = rests (asked_keeps n number (lacked n number)) tt
block_did n core block.Evict number it = rests (record { same = refl; clock = le_refl n.clock.scn }) tt
block_did n core block.WriteBlock number it = write_did n core number (written_of it)
block_did n core block.AskWrite number it = rests (record { same = refl; clock = le_refl n.clock.scn }) tt
block_did n core block.GivePast number it = rests (keeps n) tt
block_did n core block.RecoverBlock number it = recover_by n core number it

without_image_keeps : (n k : Inst) → Keeps n k → (o : Option Granted) → Keeps n (without_image k o)
without_image_keeps n k same None = same
without_image_keeps n k same (Some image) = record { same = same.same; clock = same.clock }

copy_from : (n : Inst) (core : Core) (from : ℕ) (lane : Lane) → Keeps n (copy_taken n core from lane)
copy_from n core from lane =
    let k = hears n core from lane in
    keeps_then n k (copy_taken n core from lane) (hears_keeps n core from lane) (copy_keeps k (first_message n core from lane))

moved_keeps : (n : Inst) (o : Option BucketMove) → Keeps n (with_moved n o)
moved_keeps n None = keeps n
moved_keeps n (Some it) = record { same = refl; clock = le_refl n.clock.scn }

followed_keeps : (n k : Inst) → Keeps n k → (o : Option Order) → Keeps n (followed k o)
followed_keeps n k same None = same
followed_keeps n k same (Some order) = record { same = same.same; clock = same.clock }

-- an instance that has heard a packet, and done what leaves its transactions
heard_then : (n : Inst) (core : Core) (from : ℕ) (lane : Lane) (m : Inst) → ledger m ≡ ledger n → m.clock ≡ (hears n core from lane).clock → Keeps n m
heard_then n core from lane m same clock =
    record { same = same; clock = subst (λ (c : Clock). n.clock.scn ≤ c.scn) (sym clock) (hears_keeps n core from lane).clock }

inst_did : (n : Inst) (core : Core) (kind : InstStep) (from : ℕ) (it : How) → IfMade (OfInst kind from) it n core
    → Did n core (is_log_read (OfInst kind from)) (inst_part n core kind from it) (inst_tells n core kind from it)
unfolding inst_part inst_tells
inst_did n core inst.MasterTake from it made = rests (heard_then n core from Main _ refl refl) tt
inst_did n core inst.Invalidate from it made =
    rests (without_image_keeps n (hears n core from Main) (hears_keeps n core from Main) (first_to_go n core from)) tt
inst_did n core inst.Ship from it made =
    rests (followed_keeps n (hears n core from Main) (hears_keeps n core from Main) (first_order n core from)) tt
inst_did n core inst.ServeCopy from it made = rests (hears_keeps n core from Main) tt
inst_did n core inst.DropPast from it made = rests (heard_then n core from Main _ refl refl) tt
inst_did n core inst.Install from it made =
    bring n (hears n core from Main) core (hears_keeps n core from Main) (first_message n core from Main) (installed_of it)
inst_did n core inst.TakeCopy from it made = rests (copy_from n core from Main) tt
inst_did n core inst.TakeUndo from it made = rests (copy_from n core from UndoLane) tt
inst_did n core inst.ServeUndo from it made = rests (hears_keeps n core from UndoLane) tt
inst_did n core inst.Heard from it made = rests (heard_keeps n core.members.epoch from (first_from core from n.plan.me Main)) tt
inst_did n core inst.TakeBucket from it made =
    rests (taken_keeps n (first_from core from n.plan.me Main))
    (still_packet (without_first core from n.plan.me Main) n.plan.me (first_from core from n.plan.me Main))
inst_did n core inst.ReadThread thread it made = read_did n core thread (found_of it) made
inst_did n core inst.CloseThread thread it made = close_did n core (closing_of it)

line_did : (n : Inst) (core : Core) (kind : LineStep) (number : ℕ) (it : How) → IfMade (Line kind number) it n core
    → Did n core false (line_part n core kind number it) (line_tells n core kind number it)
unfolding line_part line_tells
line_did n core line.Crash number it made = crash_by n core (open_control core number) (crashed_of it)
line_did n core line.SendBucket number it made = rests (moved_keeps n (moved_by core number)) tt
line_did n core line.KeepBucket number it made = rests (keeps n) (still_move (open_control core number))
line_did n core line.Checkpoint number it made = check_did n core number (written_of it)
line_did n core line.Skip number it made = rests (keeps n) (still_skip (open_control core number))
line_did n core line.Join number it made = join_by n core number it made.0 made.1

risen_up : (clock bound : Clock) → clock.scn ≤ (risen clock bound).scn
risen_up clock bound = le_trans (le-max_left clock.scn bound.scn) (le-max_left (max clock.scn bound.scn) bound.known)

plain_did : (n : Inst) (core : Core) (kind : PlainStep) (it : How) → IfMade (Plain kind) it n core
    → Did n core false (plain_part n core kind it) (plain_tells n core kind it)
unfolding plain_part plain_tells
plain_did n core plain.Enter it made = rests (entered_keeps n core) (still_opens n.plan.me core.waves.wave n.plan.openings [] tt)
plain_did n core plain.Force it made = force_did n core (forced_of it)
plain_did n core plain.Report it made = restores made (report_restores n) tt
plain_did n core plain.Thaw it made = thaw_by n core it made
plain_did n core plain.Reopen it made = restores made (record { plan = refl; ends = refl; stakes = refl; seg = own_seg n }) (still_recovery (is_empty core.recovery.closed_since) (bits_of core.recovery.closed_since))
plain_did n core plain.Resume it made = rests (record { same = refl; clock = risen_up n.clock core.recovery.bound }) (still_up n.plan.me n.life)
plain_did n core plain.Leave it made = rests (keeps n) tt
plain_did n core plain.Wave it made = rests (keeps n) tt

pub did_of : (n : Inst) (core : Core) (action : Action) (it : How) → IfMade action it n core → Did n core (is_log_read action) (part_of n core action it) (tells_of n core action it)
did_of n core (Session kind z) it made = session_did n core kind z it made
did_of n core (Dead kind job) it made = dead_did n core kind
did_of n core (Block kind number) it made = block_did n core kind number it
did_of n core (OfInst kind from) it made = inst_did n core kind from it made
did_of n core (Line kind number) it made = line_did n core kind number it made
did_of n core (Plain kind) it made = plain_did n core kind it made
