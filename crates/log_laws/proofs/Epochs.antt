-- The membership changes at most once a step.
use Rattle.std.proofs.Common.{◌≡◌, ℕ, ◌+◌, ◌-◌, ◌^◌, ◌≤◌, Bool, true, false, Option, None, Some, if◌then◌else◌, refl, ap, ◌∙◌, arith}
use Rattle.buffer_cache.specs.Cache.{place_at}
use Rattle.buffer_cache.specs.Place.{clean_grant}
use Rattle.disk_calls.specs.declared.appends.Appended.{Appended}
use Rattle.disk_calls.specs.declared.appends.Appended.TheVariants.{Cut, Whole}
use Rattle.disk_calls.specs.declared.writes.Written.{Written}
use Rattle.disk_steps.specs.AskUndo.{asked_by_core, asked_core, lacking, place_of, undo_read_core}
use Rattle.disk_steps.specs.Checkpoint.{checkpoint_told}
use Rattle.disk_steps.specs.Crash.{crash_told_if, kept_to}
use Rattle.disk_steps.specs.Force.{all_told, force_told}
use Rattle.disk_steps.specs.Install.{brought_core, granted_core}
use Rattle.disk_steps.specs.Write.{target, write_told, write_told_as}
use Rattle.disk_steps.specs.declared.crashes.Kept.{Kept}
use Rattle.disk_steps.specs.declared.crashes.Kept.TheVariants.{Bytes, Nothing}
use Rattle.disk_steps.specs.declared.installs.Installed.{Installed}
use Rattle.disk_steps.specs.declared.undo_asks.AskedUndo.{AskedUndo}
use Rattle.disk_steps.specs.declared.undo_asks.Lacking.{Lacking}
use Rattle.disk_steps.specs.declared.undo_asks.Lacking.TheVariants.{Sense, Undo}
use Rattle.disk_steps.specs.declared.undo_asks.Place.{Place}
use Rattle.image_steps.specs.Ask.{ask_sent, lacked}
use Rattle.image_steps.specs.AskWrite.{past_version, write_plea_sent}
use Rattle.image_steps.specs.DropPast.{first_past_order, past_sent}
use Rattle.image_steps.specs.Evict.{evict_sent}
use Rattle.image_steps.specs.Hear.{first_message, heard, hears}
use Rattle.image_steps.specs.Invalidate.{first_to_go, invalidate_sent}
use Rattle.image_steps.specs.MasterTake.{master_sent}
use Rattle.image_steps.specs.Sends.{sends}
use Rattle.image_steps.specs.ServeCopy.{copy_sent, first_copy_order}
use Rattle.image_steps.specs.ServeUndo.{first_undo_order, undo_sent}
use Rattle.image_steps.specs.Ship.{first_order, ship_sent, shipment}
use Rattle.inst_loss.specs.LostCore.{lost_core}
use Rattle.inst_loss.specs.declared.ends.Loss.{Loss}
use Rattle.inst_node.specs.Moves.{asked_undo_of, block_core, closing_of, core_after, counted, crashed_of, dead_core, forced_of, found_of, inst_core, installed_of, joined_core_by, line_core, plain_core, prepared, recovered_core_by, session_core, thawed_core_by, written_of}
use Rattle.inst_node.specs.declared.actions.Action.{Action}
use Rattle.inst_node.specs.declared.actions.Action.TheVariants.{Block, Dead, Inst as OfInst, Line, Plain, Session}
use Rattle.inst_node.specs.declared.actions.BlockStep.{BlockStep}
use Rattle.inst_node.specs.declared.actions.DeadStep.{DeadStep}
use Rattle.inst_node.specs.declared.actions.InstStep.{InstStep}
use Rattle.inst_node.specs.declared.actions.LineStep.{LineStep}
use Rattle.inst_node.specs.declared.actions.PlainStep.{PlainStep}
use Rattle.inst_node.specs.declared.actions.SessionStep.{SessionStep}
use Rattle.inst_node.specs.declared.hows.How.{How}
use Rattle.inst_state.specs.Sending.{first_from, without_first}
use Rattle.inst_state.specs.Shared.{answering, is_live, open_control, with_closed}
use Rattle.inst_state.specs.State.{stmt_at}
use Rattle.inst_state.specs.declared.control.Control.{Control}
use Rattle.inst_state.specs.declared.inst.Inst.{Inst}
use Rattle.inst_state.specs.declared.shared.Core.{Core}
use Rattle.log_laws.proofs.Cluster.{Shared, shared_of}
use Rattle.log_laws.proofs.Quiet.{ack_shared, broadcast_shared, copy_shared, dealt_shared, gave_shared, gone_shared, hear_shared, lost_shared, master_shared, move_shared, note_shared, past_shared, plea_shared, records_shared, send_shared, sent_shared, ship_shared, skip_shared, undo_shared, write_shared}
use Rattle.rebuild_steps.specs.Bound.{bound_of}
use Rattle.rebuild_steps.specs.Ends.{ended as stop_core}
use Rattle.rebuild_steps.specs.Join.{begun, joined_core, with_segment}
use Rattle.rebuild_steps.specs.declared.joins.Joined.TheVariants as joined
use Rattle.rebuild_steps.specs.Open.{scns_of}
use Rattle.rebuild_steps.specs.Thaw.{opened_core_if, opened_part, opened_shared, thawed_core}
use Rattle.rebuild_steps.specs.declared.joins.Joined.{Joined}
use Rattle.rebuild_steps.specs.declared.opens.Opened.{Opened}
use Rattle.rebuild_steps.specs.declared.thaws.Thawed.{Thawed}
use Rattle.recovery.specs.Members.{next_epoch}
use Rattle.std.proofs.Math.Nat.{min-le_left}
use Rattle.thread_steps.specs.Close.{thread_closed_core}
use Rattle.thread_steps.specs.Read.{records_entered, thread_read_core}
use Rattle.thread_steps.specs.declared.closes.Closing.{Closing}
use Rattle.thread_steps.specs.declared.found.Found.{Found}
use Rattle.wave_steps.specs.Answers.{acked_core}
use Rattle.wave_steps.specs.Buckets.{bucket_kept, bucket_sent_core, bucket_taken_core, moved_by}
use Rattle.wave_steps.specs.News.{broadcast_core, durable_ending, heard as news_heard, heard_core}
use Rattle.wave_steps.specs.WaveEnd.{skipped}
use Rattle.wire_net.specs.declared.message.Lane.TheVariants.{Main, Undo as UndoLane}
use Rattle.wire_net.specs.declared.message.Message.{Message}
use Rattle.wire_net.specs.declared.message.Message.TheVariants.{Grant, NeedUndo, Shipped}
use Rattle.wire_net.specs.declared.message.Mode.{Mode}
use Rattle.disk_calls.specs.declared.images.ReadData.TheVariants as data_read
use Rattle.disk_calls.specs.declared.images.ReadUndo.TheVariants as undo_read
use Rattle.disk_calls.specs.declared.writes.Written.TheVariants as written
use Rattle.disk_steps.specs.declared.installs.Installed.TheVariants as installed
use Rattle.disk_steps.specs.declared.undo_asks.AskedUndo.TheVariants as asked_for
use Rattle.inst_loss.specs.declared.ends.Loss.TheVariants as loss
use Rattle.inst_node.specs.declared.actions.BlockStep.TheVariants as block
use Rattle.inst_node.specs.declared.actions.DeadStep.TheVariants as dead
use Rattle.inst_node.specs.declared.actions.InstStep.TheVariants as inst
use Rattle.inst_node.specs.declared.actions.LineStep.TheVariants as line
use Rattle.inst_node.specs.declared.actions.PlainStep.TheVariants as plain
use Rattle.inst_node.specs.declared.actions.SessionStep.TheVariants as session
use Rattle.inst_node.specs.declared.hows.How.TheVariants as how
use Rattle.rebuild_steps.specs.declared.opens.Opened.TheVariants as thread
use Rattle.rebuild_steps.specs.declared.recovers.Recovered.TheVariants as recovered
use Rattle.rebuild_steps.specs.declared.thaws.Thawed.TheVariants as thawed
use Rattle.thread_steps.specs.declared.closes.Closing.TheVariants as closing
use Rattle.thread_steps.specs.declared.found.Found.TheVariants as found

-- The count of changes of membership is one higher at most.
abbrev pub IsSlow : Core → Core → Type 0
IsSlow core now = now.members.epoch ≤ core.members.epoch + 1

slow_same : (core now : Core) → shared_of now ≡ shared_of core → IsSlow core now
slow_same core now same = let e = ap (λ (s : Shared). s.epoch) same in omega (arith, e)

slow_next : (core now : Core) → now.members.epoch ≡ next_epoch core.members.epoch → IsSlow core now
slow_next core now e = let least = min-le_left (core.members.epoch + 1) (2 ^ 32 - 1) in omega (arith, e, least)

slow_then : (n : Inst) (core c : Core) (it : Loss) (kept : Option ℕ) → shared_of c ≡ shared_of core → IsSlow core (lost_core n c it kept)
slow_then n core c it kept same =
    slow_next core (lost_core n c it kept) (ap (λ (s : Shared). s.epoch) (lost_shared n c it kept) ∙ ap (λ (s : Shared). next_epoch s.epoch) same)

slow_stop : (n : Inst) (core : Core) (it : Loss) (kept : Option ℕ) → IsSlow core (lost_core n core it kept)
slow_stop n core it kept = slow_then n core core it kept refl

-- a session's line

read_slow : (n : Inst) (core : Core) (it : AskedUndo) → IsSlow core (undo_read_core n core it)
read_slow n core (asked_for.Read (undo_read.Head head)) = slow_same core core refl
read_slow n core (asked_for.Read (undo_read.Block block)) = slow_same core core refl
read_slow n core (asked_for.Read undo_read.Failed) = slow_stop n core (loss.Ended false) (Some 0)
read_slow n core (asked_for.Read undo_read.Bad) = slow_stop n core (loss.Ended true) (Some 0)
read_slow n core asked_for.Calm = slow_stop n core (loss.Ended true) (Some 0)

asked_slow : (n : Inst) (core : Core) (z : ℕ) (o : Option Place) (it : AskedUndo) → IsSlow core (asked_core n core z o it)
asked_slow n core z None it = slow_stop n core (loss.Ended true) (Some 0)
asked_slow n core z (Some place) it = by (is_live core place.seg)
  where
    by : (live : Bool) → IsSlow core (if live then sends n core place.seg (NeedUndo place.block z) else undo_read_core n core it)
    by true = slow_same core (sends n core place.seg (NeedUndo place.block z)) refl
    by false = read_slow n core it

lacking_slow : (n : Inst) (core : Core) (z : ℕ) (o : Option Lacking) (it : AskedUndo) → IsSlow core (asked_by_core n core z o it)
lacking_slow n core z None it = slow_same core core refl
lacking_slow n core z (Some (Undo what)) it = asked_slow n core z (place_of n.plan.layout what) it
lacking_slow n core z (Some Sense) it = slow_stop n core (loss.Ended true) (Some 0)

session_slow : (n : Inst) (core : Core) (kind : SessionStep) (z : ℕ) (it : How) → IsSlow core (session_core n core kind z it)
unfolding session_core
session_slow n core session.AskUndo z it = lacking_slow n core z (lacking n z) (asked_undo_of it)
session_slow n core session.Broadcast z it = slow_same core (broadcast_core n core z) (broadcast_shared n core (durable_ending n z))
session_slow n core session.Ack z it = slow_same core (acked_core n core z) (ack_shared core (stmt_at n z) (durable_ending n z))
session_slow n core session.StartStmt z it = omega arith
session_slow n core session.Visit z it = omega arith
session_slow n core session.Change z it = omega arith
session_slow n core session.Mark z it = omega arith
session_slow n core session.StepBack z it = omega arith
session_slow n core session.EndStmt z it = omega arith

-- the dead transaction

dead_slow : (n : Inst) (core : Core) (kind : DeadStep) → IsSlow core (dead_core n core kind)
unfolding dead_core
dead_slow n core dead.Mark = omega arith
dead_slow n core dead.StepBack = omega arith
dead_slow n core dead.AskUndo = slow_stop n core (loss.Ended true) (Some 0)

-- blocks

recover_slow : (n : Inst) (core : Core) (block : ℕ) (it : How) → IsSlow core (recovered_core_by n core block it)
recover_slow n core block (how.Recovered (recovered.Done stood version)) = omega arith
recover_slow n core block (how.Recovered (recovered.Unwritten stood)) = slow_stop n core (loss.Ended false) (Some 0)
recover_slow n core block (how.Recovered (recovered.Unrolled stood)) = slow_stop n core (loss.Ended true) (Some 0)
recover_slow n core block (how.Recovered recovered.Bad) = slow_stop n core (loss.Ended true) (Some 0)
recover_slow n core block (how.Recovered recovered.Unread) = slow_stop n core (loss.Ended false) (Some 0)
recover_slow n core block _ = omega arith

write_slow : (n : Inst) (core : Core) (block : ℕ) (it : Written) → IsSlow core (write_told n core block it)
write_slow n core block written.Done = slow_same core (write_told_as n core block (target n block)) (write_shared n core block (target n block))
write_slow n core block written.Failed = slow_stop n core (loss.Ended false) (Some 0)

block_slow : (n : Inst) (core : Core) (kind : BlockStep) (number : ℕ) (it : How) → IsSlow core (block_core n core kind number it)
unfolding block_core
block_slow n core block.Ask number it = slow_same core (ask_sent n core number) (sent_shared n core number (lacked n number))
block_slow n core block.Evict number it = slow_same core (evict_sent n core number) (gave_shared n core number (clean_grant (place_at n.cache number).current))
block_slow n core block.WriteBlock number it = write_slow n core number (written_of it)
block_slow n core block.AskWrite number it = slow_same core (write_plea_sent n core number) (plea_shared n core number (past_version n number))
block_slow n core block.GivePast number it = omega arith
block_slow n core block.RecoverBlock number it = recover_slow n core number it

-- what came from an instance

granted_slow : (k : Inst) (core c : Core) (block grant : ℕ) (mode : Mode) (it : Installed) → shared_of c ≡ shared_of core → IsSlow core (granted_core k c block grant mode it)
granted_slow k core c block grant mode (installed.Read (data_read.Image image)) same =
    slow_same core (granted_core k c block grant mode (installed.Read (data_read.Image image))) same
granted_slow k core c block grant mode (installed.Read data_read.Failed) same = slow_then k core c (loss.Ended false) (Some 0) same
granted_slow k core c block grant mode (installed.Read data_read.Bad) same = slow_then k core c (loss.Ended true) (Some 0) same
granted_slow k core c block grant mode installed.Calm same = slow_then k core c (loss.Ended true) (Some 0) same

brought_slow : (k : Inst) (core c : Core) (o : Option Message) (it : Installed) → shared_of c ≡ shared_of core → IsSlow core (brought_core k c o it)
brought_slow k core c (Some (Grant block grant mode true)) it same = granted_slow k core c block grant mode it same
brought_slow k core c (Some (Grant block grant mode false)) it same = slow_same core (brought_core k c (Some (Grant block grant mode false)) it) same
brought_slow k core c (Some (Shipped shipment)) it same = slow_same core (brought_core k c (Some (Shipped shipment)) it) same
brought_slow k core c o it same = slow_same core c same

read_thread_slow : (n : Inst) (core : Core) (thread : ℕ) (it : Found) → IsSlow core (thread_read_core n core thread it)
read_thread_slow n core thread (found.Closed scns) = omega arith
read_thread_slow n core thread (found.Whole log versions) =
    slow_same core (thread_read_core n core thread (found.Whole log versions)) (records_shared thread log.position log.read.records core)
read_thread_slow n core thread (found.Unread bad) = slow_stop n core (loss.Ended bad) (Some 0)
read_thread_slow n core thread (found.Stopped log bad) =
    slow_then n core (records_entered thread log.position log.read.records core) (loss.Ended bad) (Some 0) (records_shared thread log.position log.read.records core)

close_slow : (n : Inst) (core : Core) (thread : ℕ) (it : Closing) → IsSlow core (thread_closed_core n core thread it)
close_slow n core thread closing.Done = omega arith
close_slow n core thread closing.Uncut = slow_stop n core (loss.Ended false) (Some 0)
close_slow n core thread closing.Unwritten = slow_stop n core (loss.Ended false) (Some 0)

inst_slow : (n : Inst) (core : Core) (kind : InstStep) (from : ℕ) (it : How) → IsSlow core (inst_core n core kind from it)
unfolding inst_core
inst_slow n core inst.MasterTake from it = slow_same core (master_sent n core from) (master_shared (hears n core from Main) (heard n core from Main) (first_message n core from Main))
inst_slow n core inst.Invalidate from it = slow_same core (invalidate_sent n core from) (gone_shared (hears n core from Main) (heard n core from Main) (first_to_go n core from))
inst_slow n core inst.Ship from it = slow_same core (ship_sent n core from) (ship_shared n (hears n core from Main) (heard n core from Main) (first_order n core from))
inst_slow n core inst.ServeCopy from it = slow_same core (copy_sent n core from) (copy_shared (hears n core from Main) (heard n core from Main) (first_copy_order n core from))
inst_slow n core inst.DropPast from it = slow_same core (past_sent n core from) (past_shared (hears n core from Main) (heard n core from Main) (first_past_order n core from))
inst_slow n core inst.Install from it = brought_slow (hears n core from Main) core (heard n core from Main) (first_message n core from Main) (installed_of it) refl
inst_slow n core inst.TakeCopy from it = omega arith
inst_slow n core inst.TakeUndo from it = omega arith
inst_slow n core inst.ServeUndo from it =
    slow_same core (undo_sent n core from) (undo_shared (hears n core from UndoLane) (heard n core from UndoLane) from (first_undo_order n core from))
inst_slow n core inst.Heard from it =
    slow_same core (heard_core n core from) (hear_shared (without_first core from n.plan.me Main) n.plan.me (news_heard n core from).clock.scn from (first_from core from n.plan.me Main))
inst_slow n core inst.TakeBucket from it =
    slow_same core (bucket_taken_core n core from) (note_shared (without_first core from n.plan.me Main) n.plan.me (first_from core from n.plan.me Main))
inst_slow n core inst.ReadThread thread it = read_thread_slow n core thread (found_of it)
inst_slow n core inst.CloseThread thread it = close_slow n core thread (closing_of it)

-- control lines

crash_slow : (n : Inst) (core : Core) (o : Option Control) (it : Kept) → IsSlow core (crash_told_if n core o it)
crash_slow n core None it = omega arith
crash_slow n core (Some control) Nothing = slow_stop n core (loss.Crashed control.line) (Some n.thread.durable)
crash_slow n core (Some control) (Bytes Whole) = slow_stop n core (loss.Crashed control.line) (Some (kept_to n control))
crash_slow n core (Some control) (Bytes (Cut kept)) = slow_then n core (answering core control.line) (loss.Ended false) kept refl

check_slow : (n : Inst) (core : Core) (number : ℕ) (it : Written) → IsSlow core (checkpoint_told n core number it)
check_slow n core number written.Done = omega arith
check_slow n core number written.Failed = slow_stop n core (loss.Ended false) (Some 0)

join_slow : (n : Inst) (core : Core) (number : ℕ) (it : Joined) → IsSlow core (joined_core n core number it)
join_slow n core number joined.Dark = slow_next core (joined_core n core number joined.Dark) refl
join_slow n core number (joined.Read own (thread.Running len)) = slow_next core (joined_core n core number (joined.Read own (thread.Running len))) refl
join_slow n core number (joined.Read own (thread.Unwritten len)) =
    let k = with_segment (begun n core number) own.value (scns_of n core) (thread.Unwritten len) in
    slow_next core (joined_core n core number (joined.Read own (thread.Unwritten len)))
    (ap (λ (s : Shared). s.epoch) (lost_shared k (with_closed core n.plan.me None) (loss.Ended false) (Some 0)))
join_slow n core number (joined.Read own thread.Untold) = slow_stop (with_segment (begun n core number) own.value (scns_of n core) thread.Untold) core (loss.Ended false) (Some 0)
join_slow n core number joined.Bad = slow_stop (begun n core number) core (loss.Ended true) (Some 0)
join_slow n core number joined.Unread = slow_stop (begun n core number) core (loss.Ended false) (Some 0)

join_by_slow : (n : Inst) (core : Core) (number : ℕ) (it : How) → IsSlow core (joined_core_by n core number it)
join_by_slow n core number (how.Joined it) = join_slow n core number it
join_by_slow n core number _ = omega arith

line_slow : (n : Inst) (core : Core) (kind : LineStep) (number : ℕ) (it : How) → IsSlow core (line_core n core kind number it)
unfolding line_core
line_slow n core line.Crash number it = crash_slow n core (open_control core number) (crashed_of it)
line_slow n core line.SendBucket number it = slow_same core (bucket_sent_core n core number) (send_shared n core (moved_by core number))
line_slow n core line.KeepBucket number it = slow_same core (bucket_kept core number) (move_shared core (open_control core number))
line_slow n core line.Checkpoint number it = check_slow n core number (written_of it)
line_slow n core line.Skip number it = slow_same core (skipped core number) (skip_shared core (open_control core number))
line_slow n core line.Join number it = join_by_slow n core number it

-- an instance alone

force_slow : (n : Inst) (core : Core) (it : Appended) → IsSlow core (force_told n core it)
force_slow n core Whole = slow_same core (all_told n core) refl
force_slow n core (Cut kept) = slow_stop n core (loss.Ended false) kept

opened_same : (core : Core) (me : ℕ) (opening : Option Opened) → (opened_core_if core me opening).members.epoch ≡ core.members.epoch
opened_same core me None = refl
opened_same core me (Some (thread.Running len)) = refl
opened_same core me (Some (thread.Unwritten len)) = refl
opened_same core me (Some thread.Untold) = refl

unthawed_slow : (n : Inst) (core : Core) (opening : Option Opened) (bad : Bool) → IsSlow core (stop_core (opened_part n core opening) (opened_shared n core opening) bad)
unthawed_slow n core opening bad =
    let k = opened_part n core opening in
    let c = opened_shared n core opening in
    slow_next core (stop_core k c bad)
    (ap (λ (s : Shared). s.epoch) (lost_shared k c (loss.Ended bad) (Some 0)) ∙ ap next_epoch (opened_same core n.plan.me opening))

thaw_slow : (n : Inst) (core : Core) (it : Thawed) → IsSlow core (thawed_core n core it)
thaw_slow n core (thawed.Done opening owns) =
    let k = opened_part n core opening in
    let c = opened_shared n core opening in
    let e = ap (λ (s : Shared). s.epoch) (dealt_shared c k.plan.me (bound_of k c)) ∙ opened_same core n.plan.me opening in
    omega (arith, e)
thaw_slow n core (thawed.Unopened opening) = unthawed_slow n core opening false
thaw_slow n core (thawed.Bad opening) = unthawed_slow n core opening true
thaw_slow n core (thawed.Unread opening) = unthawed_slow n core opening false

thaw_by_slow : (n : Inst) (core : Core) (it : How) → IsSlow core (thawed_core_by n core it)
thaw_by_slow n core (how.Thawed it) = thaw_slow n core it
thaw_by_slow n core _ = omega arith

plain_slow : (n : Inst) (core : Core) (kind : PlainStep) (it : How) → IsSlow core (plain_core n core kind it)
unfolding plain_core
plain_slow n core plain.Enter it = omega arith
plain_slow n core plain.Force it = force_slow n core (forced_of it)
plain_slow n core plain.Report it = omega arith
plain_slow n core plain.Thaw it = thaw_by_slow n core it
plain_slow n core plain.Reopen it = omega arith
plain_slow n core plain.Resume it = omega arith
plain_slow n core plain.Leave it = omega arith
plain_slow n core plain.Wave it = omega arith

-- a step

pub step_slow : (n : Inst) (core : Core) (action : Action) (it : How) → IsSlow core (core_after n core action it)
unfolding counted
step_slow n core (Session kind z) it = session_slow (prepared n core (Session kind z)) (counted core n.plan.me (Session kind z)) kind z it
step_slow n core (Dead kind job) it = dead_slow (prepared n core (Dead kind job)) (counted core n.plan.me (Dead kind job)) kind
step_slow n core (Block kind number) it = block_slow (prepared n core (Block kind number)) (counted core n.plan.me (Block kind number)) kind number it
step_slow n core (OfInst kind from) it = inst_slow (prepared n core (OfInst kind from)) (counted core n.plan.me (OfInst kind from)) kind from it
step_slow n core (Line kind number) it = line_slow (prepared n core (Line kind number)) (counted core n.plan.me (Line kind number)) kind number it
step_slow n core (Plain kind) it = plain_slow (prepared n core (Plain kind)) (counted core n.plan.me (Plain kind)) kind it
