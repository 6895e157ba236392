-- What each kind of step does to the control lines of the wave.
use Rattle.std.proofs.Common.{◌≡◌, ℕ, Bool, true, false, List, [], ◌∷◌, ◌++◌, Option, Some, None, if◌then◌else◌, refl, append_assoc, ◌+◌, ◌∙◌}
use Rattle.std.specs.Prelude.{◌||◌, is_none}
use Rattle.std.specs.List.{fold}
use Rattle.std.proofs.lemmas.Bool.{and_parts}
use Rattle.redo_types.specs.declared.redo.Redo.{Redo}
use Rattle.journal.specs.declared.entry.Entry.{Entry}
use Rattle.journal.specs.declared.entry.Entry.TheVariants as entry
use Rattle.inst_set.specs.Sets.{is_empty, all_insts}
use Rattle.wire_net.specs.declared.message.Lane.TheVariants.{Main, Undo as UndoLane}
use Rattle.wire_net.specs.declared.message.Message.{Message}
use Rattle.wire_net.specs.declared.message.Message.TheVariants.{Bucket, Grant, Shipped, Commit, NeedUndo, Wrote, Copy, Heard, UndoIs}
use Rattle.wire_net.specs.declared.message.Mode.{Mode}
use Rattle.wire_net.specs.declared.message.Packet.{Packet}
use Rattle.inst_state.specs.declared.control.Control.{Control}
use Rattle.inst_state.specs.declared.inst.Inst.{Inst}
use Rattle.inst_state.specs.declared.inst.Life.{Life}
use Rattle.inst_state.specs.declared.inst.Life.TheVariants.{Joining}
use Rattle.inst_state.specs.declared.shared.Core.{Core}
use Rattle.inst_state.specs.Hand.{current_image}
use Rattle.inst_state.specs.State.{session_at, stmt_at}
use Rattle.inst_state.specs.Sending.{first_from, without_first, sending}
use Rattle.inst_state.specs.Shared.{is_live, open_control, answering, is_thawed}
use Rattle.inst_loss.specs.Lost.{lost}
use Rattle.inst_loss.specs.LostCore.{is_kept_commit, with_commit, with_refusal, kept_told, loss_told, lost_core, start_answered}
use Rattle.inst_loss.specs.declared.ends.Loss.{Loss}
use Rattle.inst_loss.specs.declared.ends.Loss.TheVariants as loss
use Rattle.disk_calls.specs.declared.appends.Appended.{Appended}
use Rattle.disk_calls.specs.declared.appends.Appended.TheVariants.{Cut, Whole}
use Rattle.disk_calls.specs.declared.images.ReadData.TheVariants as data_read
use Rattle.disk_calls.specs.declared.images.ReadUndo.TheVariants as undo_read
use Rattle.disk_calls.specs.declared.writes.Written.{Written}
use Rattle.disk_calls.specs.declared.writes.Written.TheVariants as written
use Rattle.disk_steps.specs.AskUndo.{asked_at, asked_by, lacking, place_of, undo_asked, undo_read as read_undo, asked_by_core, asked_core, undo_read_core}
use Rattle.disk_steps.specs.Checkpoint.{checkpointed, checkpoint_told}
use Rattle.disk_steps.specs.Crash.{crashed_by, kept_to, crash_told_by, crash_told_if}
use Rattle.disk_steps.specs.Force.{commit_told, forced_as, force_told}
use Rattle.disk_steps.specs.Install.{brought, granted, brought_core, granted_core}
use Rattle.buffer_cache.specs.Place.{clean_grant}
use Rattle.buffer_cache.specs.Cache.{place_at}
use Rattle.disk_steps.specs.Write.{block_written, target, write_told, write_told_as, wrote_sent, undo_left, written_as}
use Rattle.disk_steps.specs.declared.crashes.Kept.{Kept}
use Rattle.disk_steps.specs.declared.crashes.Kept.TheVariants.{Bytes, Nothing}
use Rattle.disk_steps.specs.declared.installs.Installed.{Installed}
use Rattle.disk_steps.specs.declared.installs.Installed.TheVariants as installed
use Rattle.disk_steps.specs.declared.undo_asks.AskedUndo.{AskedUndo}
use Rattle.disk_steps.specs.declared.undo_asks.AskedUndo.TheVariants as asked_for
use Rattle.disk_steps.specs.declared.undo_asks.Lacking.{Lacking}
use Rattle.disk_steps.specs.declared.undo_asks.Lacking.TheVariants.{Sense, Undo}
use Rattle.disk_steps.specs.declared.undo_asks.Place.{Place}
use Rattle.image_steps.specs.declared.invalidating.Granted.{Granted}
use Rattle.image_steps.specs.declared.shipping.Order.{Order}
use Rattle.wave_steps.specs.declared.buckets.BucketMove.{BucketMove}
use Rattle.image_steps.specs.Hear.{first_message, hears, heard}
use Rattle.image_steps.specs.Invalidate.{first_to_go, without_image, gone_sent, has_granted}
use Rattle.image_steps.specs.Ship.{first_order, followed, follow_sent, sent_for, shipment}
use Rattle.image_steps.specs.TakeCopy.{came_by}
use Rattle.image_steps.specs.Ask.{lacked, ask_sent_in, asked_in}
use Rattle.stmt_steps.specs.Back.{dead_back_decided, record_of, undone, back_decided, dead_stepped_by, stepped_by}
use Rattle.stmt_steps.specs.Mark.{dead_end_decided, dead_tells_by, dead_marked_by, end_decided, marked_by}
use Rattle.wave_steps.specs.Buckets.{first_move, moved_by, with_moved, move_told, naming, noting_bucket, noting_packet, sending_bucket, sending_move, taking_bucket, taking_packet}
use Rattle.report_steps.specs.Reopen.{bits_of, up_told}
use Rattle.thread_steps.specs.Close.{thread_closed, closed_core_as, closed_entry, read_of}
use Rattle.thread_steps.specs.Read.{is_news, record_entered, records_entered, thread_read, thread_read_core}
use Rattle.thread_steps.specs.declared.closes.Closing.{Closing}
use Rattle.thread_steps.specs.declared.closes.Closing.TheVariants as closing
use Rattle.thread_steps.specs.declared.found.Found.{Found}
use Rattle.thread_steps.specs.declared.found.Found.TheVariants as found
use Rattle.thread_steps.specs.declared.found.FoundLog.{FoundLog}
use Rattle.redo_record.specs.Redo.{length_of}
use Rattle.rebuild_steps.specs.Join.{came_in, with_segment, came_in_core, entered_core, read_in}
use Rattle.rebuild_steps.specs.Open.{is_open, scns_of, opened_core, opened}
use Rattle.rebuild_steps.specs.Thaw.{opened_part, opened_shared, thawed as thaw, dealt_core, opened_core_if, thawed_core, led, opened_if, thaw_core}
use Rattle.rebuild_steps.specs.declared.joins.Joined.{Joined}
use Rattle.rebuild_steps.specs.declared.joins.Joined.TheVariants as joined
use Rattle.rebuild_steps.specs.declared.recovers.Recovered.{Recovered}
use Rattle.rebuild_steps.specs.declared.recovers.Recovered.TheVariants as recovered
use Rattle.rebuild_steps.specs.Recover.{recovered as recover}
use Rattle.rebuild_steps.specs.declared.thaws.Thawed.{Thawed}
use Rattle.rebuild_steps.specs.declared.thaws.Thawed.TheVariants as thawed
use Rattle.inst_node.specs.declared.actions.Action.{Action}
use Rattle.inst_node.specs.declared.actions.Action.TheVariants.{Block, Dead, Inst as OfInst, Line, Plain, Session}
use Rattle.inst_node.specs.declared.actions.BlockStep.{BlockStep}
use Rattle.inst_node.specs.declared.actions.BlockStep.TheVariants as block
use Rattle.inst_node.specs.declared.actions.DeadStep.{DeadStep}
use Rattle.inst_node.specs.declared.actions.DeadStep.TheVariants as dead
use Rattle.inst_node.specs.declared.actions.InstStep.{InstStep}
use Rattle.inst_node.specs.declared.actions.InstStep.TheVariants as inst
use Rattle.inst_node.specs.declared.actions.LineStep.{LineStep}
use Rattle.inst_node.specs.declared.actions.LineStep.TheVariants as line
use Rattle.inst_node.specs.declared.actions.PlainStep.{PlainStep}
use Rattle.inst_node.specs.declared.actions.PlainStep.TheVariants as plain
use Rattle.inst_node.specs.declared.actions.SessionStep.{SessionStep}
use Rattle.inst_node.specs.declared.actions.SessionStep.TheVariants as session
use Rattle.inst_node.specs.declared.hows.How.{How}
use Rattle.inst_node.specs.declared.hows.How.TheVariants as how
use Rattle.inst_node.specs.Allowed.{is_allowed, kind_class}
use Rattle.inst_node.specs.Moves.{asked_undo_of, block_part, closing_of, counted, crashed_of, dead_part, forced_of, found_of, inst_part, installed_of, line_part, part_after, part_of, plain_part, prepared, recovered_by, session_part, thawed_by, written_of, block_core, core_of, dead_core, inst_core, joined_core_by, line_core, plain_core, recovered_core_by, session_core, thawed_core_by, comes_after_thaw, prepared_if}
use Rattle.inst_node.specs.Needs.{needs}
use Rattle.run_laws.specs.Tells.{ask_at_tells, ask_tells_by, block_tells, bucket_tells, checkpoint_tells, close_tells, crash_tells, crash_tells_by, dead_tells, force_tells, image_read_tells, inst_tells, install_tells_by, join_tells, join_tells_by, kept_tells, line_tells, log_tells, loss_entry, lost_tells, move_tells, packet_tells, plain_tells, read_tells, recover_tells, recover_tells_by, session_tells, skip_tells, stop_tells, tells, thaw_tells, thaw_tells_by, undo_read_tells, write_tells}
use Rattle.base_types.specs.declared.names.Scn.{Scn}
use Rattle.block_image.specs.Block.{BlockContent}
use Rattle.inst_set.specs.declared.set.InstSet.{InstSet}
use Rattle.scn_clock.specs.declared.clock.Clock.{Clock}
use Rattle.wire_net.specs.declared.message.UndoImage.{UndoImage}
use Rattle.wire_net.specs.declared.message.Shipment.{Shipment}
use Rattle.wire_net.specs.declared.entry.Entry.{Entry as DirEntry}
use Rattle.buffer_cache.specs.declared.place.Current.{Current}
use Rattle.inst_state.specs.declared.session.Ending.{Ending}
use Rattle.disk_steps.specs.declared.writing.Target.{Target}
use Rattle.disk_steps.specs.declared.writing.Target.TheVariants.{Data, Adopted, Own}
use Rattle.image_steps.specs.AskWrite.{past_version, plea_sent}
use Rattle.image_steps.specs.DropPast.{first_past_order, past_order_sent, plea_answered}
use Rattle.image_steps.specs.declared.pasts.PastOrder.{PastOrder}
use Rattle.image_steps.specs.declared.pasts.PastOrder.TheVariants.{Drop, Write}
use Rattle.image_steps.specs.Evict.{gave_up}
use Rattle.image_steps.specs.MasterTake.{is_master, master_block, master_sends, master_sends_at, next_master, sends_all}
use Rattle.image_steps.specs.Sends.{sends, sends_to_master}
use Rattle.image_steps.specs.ServeCopy.{copy_sent_by, copy_sent_of, first_copy_order}
use Rattle.image_steps.specs.declared.copying.CopyOrder.{CopyOrder}
use Rattle.image_steps.specs.ServeUndo.{first_undo_order, undo_sent_by, undo_sent_of, place_in}
use Rattle.image_steps.specs.declared.undo_serving.UndoOrder.{UndoOrder}
use Rattle.resource_dir.specs.Directory.{bucket_of, directory_takes}
use Rattle.wave_steps.specs.Answers.{ack_told, with_acked}
use Rattle.wave_steps.specs.News.{heard as news_heard, answering_news, answering_packet, durable_ending, is_other_live, sent_if, sent_to_others, with_news, hearing, hearing_packet, with_told}
use Rattle.wave_steps.specs.WaveEnd.{left, skipped_line}
use Rattle.rebuild_steps.specs.Ends.{ended as stop_core}
use Rattle.rebuild_steps.specs.Bound.{bound_of}
use Rattle.rebuild_steps.specs.declared.opens.Opened.{Opened}
use Rattle.rebuild_steps.specs.declared.opens.Opened.TheVariants as thread
use Rattle.inst_state.specs.declared.inst.OwnWave.{OwnWave}
use Rattle.image_steps.specs.Frames.{wave_without}
use Rattle.scn_clock.specs.Clock.{raised}
use Rattle.undo_segment.specs.Segment.{SegmentState}
use Rattle.txn_engine.specs.declared.ask.Decision.{Decision}
use Rattle.txn_engine.specs.declared.ask.Decision.TheVariants as decision
use Rattle.stmt_steps.specs.declared.answers.Answer.{Answer}
use Rattle.stmt_steps.specs.Change.{change_decided, changed_as}
use Rattle.stmt_steps.specs.End.{answer_at, ended_by}
use Rattle.std.specs.Prelude.{◌-◌, ◌==◌, find, filter, not, is_some, ◌&&◌}
use Rattle.std.proofs.Common.{map, ap, sym, subst, inl, inr}
use Rattle.cr_copy.specs.declared.made.Made.{Made}
use Rattle.cr_copy.specs.declared.made.Made.TheVariants as made
use Rattle.redo_types.specs.declared.redo.RedoKind.TheVariants as kind
use Rattle.rebuild_steps.specs.Recover.{recovered_core}
use Rattle.image_steps.specs.ServeUndo.{undo_image}
use Rattle.std.proofs.lemmas.Bool.{eqb-true}
use Rattle.std.proofs.lemmas.Option.{none-some, same_Some}
use Rattle.std.specs.Option.{option_and_then}
use Rattle.journal.specs.declared.cause.Cause.TheVariants as cause
use Rattle.inst_set.specs.Sets.{without_inst}
use Rattle.inst_state.specs.declared.inst.Begun.{Begun}
use Rattle.inst_state.specs.declared.inst.Life.TheVariants.{Down, Up}
use Rattle.inst_state.specs.declared.control.Wanted.{Wanted}
use Rattle.inst_state.specs.declared.control.Wanted.TheVariants.{Checkpoint, Crash, Move, Start}
use Rattle.inst_state.specs.declared.control.When.{When}
use Rattle.script_text.specs.declared.item.Keep.{Keep}
use Rattle.inst_state.specs.declared.plan.Opening.{Opening}
use Rattle.inst_state.specs.Controls.{is_move_of, maker}
use Rattle.inst_state.specs.Sessions.{is_idle}
use Rattle.inst_state.specs.Shared.{are_answered, due_crash, is_due_at, wants_crash_now, wave_controls}
use Rattle.inst_state.specs.State.{asks_at}
use Rattle.inst_loss.specs.Lost.{idle_checkpoint}
use Rattle.stmt_steps.specs.declared.answers.Answer.TheVariants as answer
use Rattle.stmt_steps.specs.End.{answer_tells, tells_if}
use Rattle.stmt_steps.specs.Visit.{is_last, range_of, read_made, rows_so_far, told_by}
use Rattle.stmt_steps.specs.Change.{decision_tells, record_tells, row_of}
use Rattle.stmt_steps.specs.Mark.{commits, end_kind, end_tells as mark_entry, tells_by}
use Rattle.redo_types.specs.declared.redo.RedoKind.{RedoKind}
use Rattle.wave_steps.specs.Enter.{told_if}
use Rattle.wave_steps.specs.Buckets.{move_of, moves_nothing}
use Rattle.wave_steps.specs.WaveEnd.{finds_nothing, is_idle_line, may_skip}
use Rattle.image_steps.specs.Frames.{without_block}
use Rattle.image_steps.specs.declared.pasts.Plea.{Plea}
use Rattle.disk_steps.specs.Write.{tells_of as write_tells_of, without_undo}
use Rattle.disk_steps.specs.Checkpoint.{is_ready_if}
use Rattle.report_steps.specs.Reopen.{joined_by as start_joined, resumed, resumed_core, up_by}
use Rattle.rebuild_steps.specs.Join.{asks_start, is_start_of, joining, line_number}
use Rattle.inst_node.specs.Needs.{is_by_line}
use Rattle.inst_node.specs.Moves.{joined_by, telling}
use Rattle.run_laws.specs.Tells.{acked_tells, tells_of}
use Rattle.inst_set.specs.Sets.{count_below, has, member_at}
use Rattle.inst_node.specs.Allowed.{is_frozen_before_report, leads, runs}
use Rattle.inst_node.specs.Moves.{core_after}
use Rattle.inst_node.specs.Needs.{action_needs, block_needs, inst_needs, is_open as node_is_open, line_needs, plain_needs}
use Rattle.inst_state.specs.Shared.{all_left, is_frozen, is_inst, is_led_by}
use Rattle.recovery.specs.Members.{all_reported}
use Rattle.report_steps.specs.Recovering.{are_read, is_dead, is_read, is_rebuilt, is_to_rebuild, leads_recovery}
use Rattle.wire_net.specs.Links.{are_empty}
use Rattle.wave_steps.specs.WaveEnd.{is_settled}
use Rattle.disk_steps.specs.Checkpoint.{may_end_checkpoint}
use Rattle.rebuild_steps.specs.Join.{is_open_to_joins}
use Rattle.rebuild_steps.specs.Thaw.{is_restored}
use Rattle.thread_steps.specs.Close.{is_all_rebuilt}
use Rattle.rebuild_steps.specs.Recover.{is_given, is_on_disk}
use Rattle.std.specs.Prelude.{nat_lt}
use Rattle.wave_laws.proofs.Ruled.{answers, begun_lines, Calms, checks, closed, comes, crashes, cuts, enters, fails, is_calm, IsDue, IsIn, IsOf, IsOpen, keeps, Keeps, keeps_then, loses, Loses, moves, rests, rises, Rule, rule_of, Ruled, skips, start_closed, stays_out, turns}

-- lists of checkpoints

same_lines : (f : Begun → Begun) → ((begun : Begun) → (f begun).line ≡ begun.line) → (xs : List Begun)
    → map (λ (begun : Begun). begun.line) (map f xs) ≡ map (λ (begun : Begun). begun.line) xs
same_lines f same [] = refl
same_lines f same (x ∷ xs) = λ i. same x i ∷ same_lines f same xs i

lost_lines : (n : Inst) → begun_lines (lost n) ≡ begun_lines n
lost_lines n = same_lines idle_checkpoint (λ begun. refl) n.wave.checkpoints

without_lines : (n : Inst) (number : ℕ) → map (λ (begun : Begun). begun.line) (wave_without n.wave number).checkpoints ≡ begun_lines n
without_lines n number = same_lines (without_block number) (λ begun. refl) n.wave.checkpoints

-- what is told of no control line

fold_calm : {A : Type 0} (f : List Entry → A → List Entry) → ((es : List Entry) (x : A) → Calms es → Calms (f es x)) → (xs : List A) (es : List Entry)
    → Calms es → Calms (fold f es xs)
fold_calm {A = A} f each [] es q = q
fold_calm {A = A} f each (x ∷ xs) es q = fold_calm f each xs (f es x) (each es x q)

calm_if : (b : Bool) (e : Entry) (es : List Entry) → is_calm e ≡ true → Calms es → Calms (if b then e ∷ es else es)
calm_if true e es is q = (is, q)
calm_if false e es is q = q

calm_unless : (b : Bool) (e : Entry) (es : List Entry) → is_calm e ≡ true → Calms es → Calms (if b then es else e ∷ es)
calm_unless true e es is q = q
calm_unless false e es is q = (is, q)

calms_append : (xs ys : List Entry) → Calms xs → Calms ys → Calms (xs ++ ys)
calms_append [] ys a b = b
calms_append (x ∷ xs) ys a b = (a.0, calms_append xs ys a.1 b)

kept_calm : (n : Inst) (kept : Option ℕ) → Calms (kept_tells n kept)
kept_calm n None = tt
kept_calm n (Some kept) =
    fold_calm (with_commit n.plan.me kept) (λ es end q. calm_if (is_kept_commit kept end) (entry.Committed end.xid end.scn n.plan.me) es refl q) n.ends [] tt

refusals_calm : (n : Inst) → Calms (fold (with_refusal n) [] n.plan.mine)
refusals_calm n =
    fold_calm (with_refusal n) (λ es z q. calm_unless (is_idle (session_at n z).doing) (entry.Refused (stmt_at n z) cause.Lost) es refl q) n.plan.mine [] tt

records_calm : (thread at : ℕ) (records : List Redo) (core : Core) → Calms core.journal → Calms (records_entered thread at records core).journal
records_calm thread at [] core q = q
records_calm thread at (redo ∷ records) core q =
    let behind = at + length_of redo.kind in
    records_calm thread behind records (record_entered thread behind redo core)
    (calm_if (is_news core thread behind redo) (entry.Committed redo.xid redo.scn thread) core.journal refl q)

log_calm : (core : Core) (thread : ℕ) (log : FoundLog) → Calms (log_tells core thread log)
log_calm core thread log = records_calm thread log.position log.read.records (record core { journal = [] }) tt

openings_calm : (me wave : ℕ) (openings : List Opening) (es : List Entry) → Calms es → Calms (fold (told_if me wave) es openings)
openings_calm me wave openings es q =
    fold_calm (told_if me wave) (λ es opening q. calm_if (opening.wave == wave) (entry.Opened opening.session me) es refl q) openings es q

-- what is shared

if_rule : (b : Bool) (core x y : Core) → rule_of x ≡ rule_of core → rule_of y ≡ rule_of core → rule_of (if b then x else y) ≡ rule_of core
if_rule true core x y e f = e
if_rule false core x y e f = f

news_rule : (me : ℕ) (scn end : Scn) (core : Core) (tos : List ℕ) → rule_of (fold (sent_if me scn end) core tos) ≡ rule_of core
news_rule me scn end core [] = refl
news_rule me scn end core (to ∷ tos) =
    news_rule me scn end (sent_if me scn end core to) tos ∙ if_rule (is_other_live core me to) core (sending core me scn to (Commit end)) core refl refl

others_rule : (me : ℕ) (scn end : Scn) (core : Core) → rule_of (sent_to_others me scn end core) ≡ rule_of core
unfolding sent_to_others
others_rule me scn end core = news_rule me scn end core all_insts

records_rule : (thread at : ℕ) (records : List Redo) (core : Core) → rule_of (records_entered thread at records core) ≡ rule_of core
records_rule thread at [] core = refl
records_rule thread at (redo ∷ records) core =
    let behind = at + length_of redo.kind in records_rule thread behind records (record_entered thread behind redo core)

all_rule : (n : Inst) (core : Core) (messages : List (ℕ × Message)) → rule_of (sends_all n core messages) ≡ rule_of core
all_rule n core [] = refl
all_rule n core (it ∷ messages) = all_rule n (sends n core it.0 it.1) messages

-- how an instance ends

-- what is so of the control lines once it is told how an instance ended
abbrev loss_rule : Inst → Core → Loss → Rule
loss_rule n core (loss.Crashed number) = closed (rule_of core) number
loss_rule n core (loss.Ended bad) = start_closed n.life (rule_of core)

kept_rule : (n : Inst) (core : Core) (o : Option ℕ) → rule_of (kept_told n core o) ≡ rule_of core
kept_rule n core None = refl
kept_rule n core (Some kept) = refl

start_rule : (life : Life) (core : Core) → rule_of (start_answered life core) ≡ start_closed life (rule_of core)
start_rule (Joining number) core = refl
start_rule Up core = refl
start_rule Down core = refl

loss_is : (n : Inst) (core : Core) (it : Loss) → rule_of (loss_told n core it) ≡ loss_rule n core it
loss_is n core (loss.Crashed number) = refl
loss_is n core (loss.Ended bad) = start_rule n.life core

start_wave : (life : Life) (rule : Rule) → (start_closed life rule).wave ≡ rule.wave
start_wave (Joining number) rule = refl
start_wave Up rule = refl
start_wave Down rule = refl

start_live : (life : Life) (rule : Rule) → (start_closed life rule).live ≡ rule.live
start_live (Joining number) rule = refl
start_live Up rule = refl
start_live Down rule = refl

loss_wave : (n : Inst) (core : Core) (it : Loss) → (loss_rule n core it).wave ≡ core.waves.wave
loss_wave n core (loss.Crashed number) = refl
loss_wave n core (loss.Ended bad) = start_wave n.life (rule_of core)

loss_live : (n : Inst) (core : Core) (it : Loss) → (loss_rule n core it).live ≡ core.members.live
loss_live n core (loss.Crashed number) = refl
loss_live n core (loss.Ended bad) = start_live n.life (rule_of core)

-- the same of a part and a shared part that follow from the first ones
loss_same : (n k : Inst) (core core1 : Core) → Keeps n k → rule_of core1 ≡ rule_of core → (it : Loss) → loss_rule k core1 it ≡ loss_rule n core it
loss_same n k core core1 same rule (loss.Crashed number) = ap (λ (r : Rule). closed r number) rule
loss_same n k core core1 same rule (loss.Ended bad) =
    ap (λ (l : Life). start_closed l (rule_of core1)) same.life ∙ ap (λ (r : Rule). start_closed n.life r) rule

lost_rule : (n : Inst) (core : Core) (it : Loss) (kept : Option ℕ) → rule_of (loss_told n (kept_told n core kept) it) ≡ loss_rule n core it
lost_rule n core it kept =
    loss_is n (kept_told n core kept) it ∙ loss_same n n core (kept_told n core kept) (keeps n) (kept_rule n core kept) it

losing : (n k : Inst) (core core1 : Core) → Keeps n k → rule_of core1 ≡ rule_of core → (it : Loss) (kept : Option ℕ) (more : List Entry) → Calms more
    → Loses n core (loss_rule n core it).controls (loss_entry k it)
    → Ruled n core (lost k) (lost_core k core1 it kept) (lost_tells k it kept ++ more)
losing n k core core1 same rule it kept more q how_ =
    let is : rule_of (loss_told k (kept_told k core1 kept) it) ≡ loss_rule n core it = lost_rule k core1 it kept ∙ loss_same n k core core1 same rule it in
    loses same.entered (loss_entry k it) (fold (with_refusal k) [] k.plan.mine) (kept_tells k kept ++ more) refl (lost_lines k ∙ same.lines)
    (subst (λ (c : List (List Control)). Loses n core c (loss_entry k it)) (sym (ap (λ (r : Rule). r.controls) is)) how_)
    (ap (λ (r : Rule). r.wave) is ∙ loss_wave n core it)
    (ap (λ (r : Rule). without_inst r.live k.plan.me) is ∙ ap (λ (l : InstSet). without_inst l k.plan.me) (loss_live n core it)
    ∙ ap (λ (me : ℕ). without_inst core.members.live me) same.me)
    (refusals_calm k) (calms_append (kept_tells k kept) more (kept_calm k kept) q)
    (append_assoc (fold (with_refusal k) [] k.plan.mine) (loss_entry k it ∷ kept_tells k kept) more)

ended_entry : (n k : Inst) (bad : Bool) → Keeps n k → loss_entry k (loss.Ended bad) ≡ entry.Ended n.plan.me bad
ended_entry n k bad same = ap (λ (me : ℕ). entry.Ended me bad) same.me

nothing_more : (es : List Entry) → es ++ [] ≡ es
nothing_more [] = refl
nothing_more (e ∷ es) = λ i. e ∷ nothing_more es i

stop : (n k : Inst) (core core1 : Core) → Keeps n k → rule_of core1 ≡ rule_of core → is_live core n.plan.me ≡ true → (bad : Bool) (kept : Option ℕ)
    → Ruled n core (lost k) (lost_core k core1 (loss.Ended bad) kept) (lost_tells k (loss.Ended bad) kept)
stop n k core core1 same rule live bad kept =
    subst (λ (es : List Entry). Ruled n core (lost k) (lost_core k core1 (loss.Ended bad) kept) es) (nothing_more (lost_tells k (loss.Ended bad) kept))
    (losing n k core core1 same rule (loss.Ended bad) kept [] tt (fails bad live refl (ended_entry n k bad same)))

stop_here : (n : Inst) (core : Core) → is_live core n.plan.me ≡ true → (bad : Bool)
    → Ruled n core (lost n) (lost_core n core (loss.Ended bad) (Some 0)) (stop_tells n bad)
stop_here n core live bad = stop n n core core (keeps n) refl live bad (Some 0)

-- the lines of sessions

same_part : (n : Inst) (core now : Core) (es : List Entry) → rule_of now ≡ rule_of core → Calms es → Ruled n core n now es
same_part n core now es rule q = rests (keeps n) rule q

rows_calm : (stmt : ℕ) (o : Option Made) (n : Inst) (z : ℕ) → Calms (told_by stmt (range_of (asks_at n z)) o (session_at n z))
rows_calm stmt (Some (made.Rows values)) n z =
    calm_if (is_last (range_of (asks_at n z)) (session_at n z)) (entry.Rows stmt (rows_so_far (range_of (asks_at n z)) values (session_at n z))) [] refl tt
rows_calm stmt (Some (made.TooOld it)) n z = (refl, tt)
rows_calm stmt _ n z = tt

kind_calm : (stmt row : ℕ) (redo : Redo) (kind : RedoKind) → is_calm (record_tells stmt row redo kind) ≡ true
kind_calm stmt row redo kind.Lock = refl
kind_calm stmt row redo _ = refl

change_ruled : (n : Inst) (core : Core) (z : ℕ) (o : Option Decision) → Ruled n core (changed_as n z o) (telling core (decision_tells n z o)) (decision_tells n z o)
change_ruled n core z (Some (decision.Do redo)) =
    rests (record { life = refl; lines = refl; me = refl; entered = refl }) refl (kind_calm (stmt_at n z) (row_of (asks_at n z)) redo redo.kind, tt)
change_ruled n core z (Some (decision.Refuse it)) = rests (record { life = refl; lines = refl; me = refl; entered = refl }) refl (refl, tt)
change_ruled n core z (Some (decision.Restart end)) = rests (record { life = refl; lines = refl; me = refl; entered = refl }) refl (refl, tt)
change_ruled n core z (Some decision.AlreadyMine) = rests (record { life = refl; lines = refl; me = refl; entered = refl }) refl (refl, tt)
change_ruled n core z _ = rests (keeps n) refl tt

end_calm : (stmt : ℕ) (redo : Redo) (commit : Bool) → is_calm (mark_entry stmt redo commit) ≡ true
end_calm stmt redo true = refl
end_calm stmt redo false = refl

mark_ruled : (n : Inst) (core : Core) (z : ℕ) (o : Option Redo) → Ruled n core (marked_by n z o) (telling core (tells_by n z o)) (tells_by n z o)
mark_ruled n core z None = rests (keeps n) refl tt
mark_ruled n core z (Some redo) =
    rests (record { life = refl; lines = refl; me = refl; entered = refl }) refl (end_calm (stmt_at n z) redo (commits (end_kind n z)), tt)

back_ruled : (n : Inst) (core : Core) (z left : ℕ) (o : Option Redo) → Ruled n core (stepped_by n z o) (telling core (undone o left)) (undone o left)
back_ruled n core z left None = rests (keeps n) refl tt
back_ruled n core z left (Some redo) = rests (record { life = refl; lines = refl; me = refl; entered = refl }) refl (refl, tt)

answer_calm : (stmt : ℕ) (a : Answer) → is_calm (answer_tells stmt a) ≡ true
answer_calm stmt answer.Plain = refl
answer_calm stmt answer.NoSavepoint = refl
answer_calm stmt answer.NotConnected = refl

end_ruled : (n : Inst) (core : Core) (z : ℕ) (o : Option Answer)
    → Ruled n core (ended_by n z o) (telling core (tells_if (stmt_at n z) o)) (tells_if (stmt_at n z) o)
end_ruled n core z None = rests (keeps n) refl tt
end_ruled n core z (Some a) = rests (record { life = refl; lines = refl; me = refl; entered = refl }) refl (answer_calm (stmt_at n z) a, tt)

read_ruled : (n : Inst) (core : Core) (z : ℕ) (it : AskedUndo) → is_live core n.plan.me ≡ true
    → Ruled n core (read_undo n z it) (undo_read_core n core it) (undo_read_tells n it)
read_ruled n core z (asked_for.Read (undo_read.Head head)) live = rests (record { life = refl; lines = refl; me = refl; entered = refl }) refl tt
read_ruled n core z (asked_for.Read (undo_read.Block block)) live = rests (record { life = refl; lines = refl; me = refl; entered = refl }) refl tt
read_ruled n core z (asked_for.Read undo_read.Failed) live = stop_here n core live false
read_ruled n core z _ live = stop_here n core live true

ask_where : (n : Inst) (core : Core) (z : ℕ) (sent : Core) (there : Bool) (it : AskedUndo) → rule_of sent ≡ rule_of core → is_live core n.plan.me ≡ true
    → Ruled n core (if there then undo_asked n z else read_undo n z it) (if there then sent else undo_read_core n core it) (if there then [] else undo_read_tells n it)
ask_where n core z sent true it rule live = rests (record { life = refl; lines = refl; me = refl; entered = refl }) rule tt
ask_where n core z sent false it rule live = read_ruled n core z it live

ask_at : (n : Inst) (core : Core) (z : ℕ) (o : Option Place) (it : AskedUndo) → is_live core n.plan.me ≡ true
    → Ruled n core (asked_at n core z o it) (asked_core n core z o it) (ask_at_tells n core o it)
ask_at n core z None it live = stop_here n core live true
ask_at n core z (Some place) it live = ask_where n core z (sends n core place.seg (NeedUndo place.block z)) (is_live core place.seg) it refl live

ask_by : (n : Inst) (core : Core) (z : ℕ) (o : Option Lacking) (it : AskedUndo) → is_live core n.plan.me ≡ true
    → Ruled n core (asked_by n core z o it) (asked_by_core n core z o it) (ask_tells_by n core o it)
ask_by n core z None it live = rests (keeps n) refl tt
ask_by n core z (Some (Undo what)) it live = ask_at n core z (place_of n.plan.layout what) it live
ask_by n core z (Some Sense) it live = stop_here n core live true

told_ruled : (n : Inst) (core : Core) (epoch z : ℕ) (o : Option Ending) → Ruled n core (with_told n epoch z o) (with_news n core o) []
told_ruled n core epoch z None = rests (keeps n) refl tt
told_ruled n core epoch z (Some ending) =
    rests (record { life = refl; lines = refl; me = refl; entered = refl }) (others_rule n.plan.me n.clock.scn ending.scn core) tt

ack_calm : (stmt : ℕ) (commit : Bool) (ending : Ending) → is_calm (if commit then entry.Acked stmt ending.xid ending.scn else entry.Plain stmt) ≡ true
ack_calm stmt true ending = refl
ack_calm stmt false ending = refl

ack_ruled : (n : Inst) (core : Core) (z : ℕ) (o : Option Ending) → Ruled n core (with_acked n z o) (ack_told core (stmt_at n z) o) (acked_tells (stmt_at n z) o)
ack_ruled n core z None = rests (keeps n) refl tt
ack_ruled n core z (Some ending) =
    rests (record { life = refl; lines = refl; me = refl; entered = refl }) refl (ack_calm (stmt_at n z) ending.commit ending, tt)

-- the dead transaction

dead_mark_ruled : (n : Inst) (core : Core) (o : Option Redo) → Ruled n core (dead_marked_by n o) (telling core (dead_tells_by o)) (dead_tells_by o)
dead_mark_ruled n core None = rests (keeps n) refl tt
dead_mark_ruled n core (Some redo) = rests (record { life = refl; lines = refl; me = refl; entered = refl }) refl (refl, tt)

dead_back_ruled : (n : Inst) (core : Core) (o : Option Redo) → Ruled n core (dead_stepped_by n o) (telling core (undone o 0)) (undone o 0)
dead_back_ruled n core None = rests (keeps n) refl tt
dead_back_ruled n core (Some redo) = rests (record { life = refl; lines = refl; me = refl; entered = refl }) refl (refl, tt)

-- blocks

ask_block_ruled : (n : Inst) (core : Core) (number : ℕ) (o : Option Mode) → Ruled n core (asked_in n number o) (ask_sent_in n core number o) []
ask_block_ruled n core number None = rests (keeps n) refl tt
ask_block_ruled n core number (Some mode) = rests (record { life = refl; lines = refl; me = refl; entered = refl }) refl tt

gave_rule : (n : Inst) (core : Core) (number : ℕ) (o : Option ℕ) → rule_of (gave_up n core number o) ≡ rule_of core
gave_rule n core number None = refl
gave_rule n core number (Some grant) = refl

plea_rule : (n : Inst) (core : Core) (number : ℕ) (o : Option ℕ) → rule_of (plea_sent n core number o) ≡ rule_of core
plea_rule n core number None = refl
plea_rule n core number (Some version) = refl

wrote_rule : (n : Inst) (core : Core) (number : ℕ) (o : Option BlockContent) → rule_of (wrote_sent n core number o) ≡ rule_of core
wrote_rule n core number None = refl
wrote_rule n core number (Some image) = if_rule (write_tells_of n core number) core (sends_to_master n core number (Wrote number image.front.version)) core refl refl

undo_left_lines : (wave : OwnWave) (o : Option ℕ)
    → map (λ (begun : Begun). begun.line) (undo_left wave o).checkpoints ≡ map (λ (begun : Begun). begun.line) wave.checkpoints
undo_left_lines wave None = refl
undo_left_lines wave (Some k) = same_lines (without_undo k) (λ begun. refl) wave.checkpoints

undo_left_entered : (wave : OwnWave) (o : Option ℕ) → (undo_left wave o).entered ≡ wave.entered
undo_left_entered wave None = refl
undo_left_entered wave (Some k) = refl

written_ruled : (n : Inst) (core : Core) (number : ℕ) (what : Target) → Ruled n core (written_as n number what) (write_told_as n core number what) []
written_ruled n core number Data =
    rests (record { life = refl; lines = without_lines n number; me = refl; entered = refl }) (wrote_rule n core number (current_image n number)) tt
written_ruled n core number (Adopted at) = rests (record { life = refl; lines = refl; me = refl; entered = refl }) refl tt
written_ruled n core number Own =
    rests (record { life = refl; lines = undo_left_lines n.wave (place_in n.segment number); me = refl; entered = undo_left_entered n.wave (place_in n.segment number) }) refl tt

write_ruled : (n : Inst) (core : Core) (number : ℕ) (it : Written) → is_live core n.plan.me ≡ true
    → Ruled n core (block_written n number it) (write_told n core number it) (write_tells n it)
write_ruled n core number written.Done live = written_ruled n core number (target n number)
write_ruled n core number written.Failed live = stop_here n core live false

recover_ruled : (n : Inst) (core : Core) (number : ℕ) (it : Recovered) → is_live core n.plan.me ≡ true
    → Ruled n core (recover n core number it) (recovered_core n core number it) (recover_tells n it)
recover_ruled n core number (recovered.Done stood version) live = rests (record { life = refl; lines = refl; me = refl; entered = refl }) refl tt
recover_ruled n core number (recovered.Unwritten stood) live = stop_here n core live false
recover_ruled n core number (recovered.Unrolled stood) live = stop_here n core live true
recover_ruled n core number recovered.Bad live = stop_here n core live true
recover_ruled n core number recovered.Unread live = stop_here n core live false

recover_by : (n : Inst) (core : Core) (number : ℕ) (it : How) → is_live core n.plan.me ≡ true
    → Ruled n core (recovered_by n core number it) (recovered_core_by n core number it) (recover_tells_by n it)
recover_by n core number (how.Recovered it) live = recover_ruled n core number it live
recover_by n core number _ live = rests (keeps n) refl tt

-- what came from an instance

master_at_rule : (n : Inst) (core : Core) (message : Message) (o : Option ℕ) → rule_of (master_sends_at n core message o) ≡ rule_of core
master_at_rule n core message None = refl
master_at_rule n core message (Some number) =
    if_rule (is_master n number) core (sends_all n core (directory_takes n.mastering.directory number message).sends)
    (sends n core (next_master n core number) message) (all_rule n core (directory_takes n.mastering.directory number message).sends) refl

master_rule : (n : Inst) (core : Core) (o : Option Message) → rule_of (master_sends n core o) ≡ rule_of core
master_rule n core None = refl
master_rule n core (Some message) = master_at_rule n core message (master_block message)

either_lines : (b : Bool) (x y : OwnWave) (lines : List ℕ) → map (λ (begun : Begun). begun.line) x.checkpoints ≡ lines
    → map (λ (begun : Begun). begun.line) y.checkpoints ≡ lines → map (λ (begun : Begun). begun.line) (if b then x else y).checkpoints ≡ lines
either_lines true x y lines first second = first
either_lines false x y lines first second = second

either_entered : (b : Bool) (x y : OwnWave) (entered : ℕ) → x.entered ≡ entered → y.entered ≡ entered → (if b then x else y).entered ≡ entered
either_entered true x y entered first second = first
either_entered false x y entered first second = second

gone_ruled : (n k : Inst) (core core1 : Core) → Keeps n k → rule_of core1 ≡ rule_of core → (o : Option Granted)
    → Ruled n core (without_image k o) (gone_sent k core1 o) []
gone_ruled n k core core1 same rule None = rests same rule tt
gone_ruled n k core core1 same rule (Some image) =
    rests (record {
      life = same.life;
      lines = either_lines (has_granted k image) (wave_without k.wave image.block) k.wave (begun_lines n) (without_lines k image.block ∙ same.lines) same.lines;
      me = same.me;
      entered = either_entered (has_granted k image) (wave_without k.wave image.block) k.wave n.wave.entered same.entered same.entered;
    }) rule tt

sent_rule : (k : Inst) (core : Core) (order : Order) (o : Option Shipment) → rule_of (sent_for k core order o) ≡ rule_of core
sent_rule k core order None = refl
sent_rule k core order (Some shipment) = refl

ship_ruled : (n k : Inst) (core core1 : Core) → Keeps n k → rule_of core1 ≡ rule_of core → (o : Option Order)
    → Ruled n core (followed k o) (follow_sent k core1 o) []
ship_ruled n k core core1 same rule None = rests same rule tt
ship_ruled n k core core1 same rule (Some order) =
    rests (record {
      life = same.life;
      lines = either_lines (order.shared || is_none (place_at k.cache order.block).current) k.wave (wave_without k.wave order.block) (begun_lines n) same.lines
          (without_lines k order.block ∙ same.lines);
      me = same.me;
      entered = either_entered (order.shared || is_none (place_at k.cache order.block).current) k.wave (wave_without k.wave order.block) n.wave.entered same.entered same.entered;
    }) (sent_rule k core1 order (shipment k order) ∙ rule) tt

copy_of_rule : (n : Inst) (core : Core) (order : CopyOrder) (o : Option BlockContent) → rule_of (copy_sent_of n core order o) ≡ rule_of core
copy_of_rule n core order None = refl
copy_of_rule n core order (Some image) = refl

copy_rule : (n : Inst) (core : Core) (o : Option CopyOrder) → rule_of (copy_sent_by n core o) ≡ rule_of core
copy_rule n core None = refl
copy_rule n core (Some order) = copy_of_rule n core order (current_image n order.block)

undo_of_rule : (n : Inst) (core : Core) (to job : ℕ) (o : Option UndoImage) → rule_of (undo_sent_of n core to job o) ≡ rule_of core
undo_of_rule n core to job None = refl
undo_of_rule n core to job (Some image) = refl

undo_rule : (n : Inst) (core : Core) (to : ℕ) (o : Option UndoOrder) → rule_of (undo_sent_by n core to o) ≡ rule_of core
undo_rule n core to None = refl
undo_rule n core to (Some order) = undo_of_rule n core to order.job (undo_image n.segment order.block)

answered_rule : (n : Inst) (core : Core) (plea : Plea) (o : Option Current) → rule_of (plea_answered n core plea o) ≡ rule_of core
answered_rule n core plea None = refl
answered_rule n core plea (Some now) =
    if_rule now.dirty core core (sends_to_master n core plea.block (Wrote plea.block now.image.front.version)) refl refl

past_rule : (n : Inst) (core : Core) (o : Option PastOrder) → rule_of (past_order_sent n core o) ≡ rule_of core
past_rule n core None = refl
past_rule n core (Some (Drop block version)) = refl
past_rule n core (Some (Write plea)) = answered_rule n core plea (place_at n.cache plea.block).current

grant_ruled : (n k : Inst) (core core1 : Core) → Keeps n k → rule_of core1 ≡ rule_of core → is_live core n.plan.me ≡ true
    → (number grant : ℕ) (mode : Mode) (it : Installed)
    → Ruled n core (granted k number grant mode true it) (granted_core k core1 number grant mode it) (image_read_tells k it)
grant_ruled n k core core1 same rule live number grant mode (installed.Read (data_read.Image image)) =
    rests (record { life = same.life; lines = same.lines; me = same.me; entered = same.entered }) rule tt
grant_ruled n k core core1 same rule live number grant mode (installed.Read data_read.Failed) = stop n k core core1 same rule live false (Some 0)
grant_ruled n k core core1 same rule live number grant mode _ = stop n k core core1 same rule live true (Some 0)

bring_ruled : (n k : Inst) (core core1 : Core) → Keeps n k → rule_of core1 ≡ rule_of core → is_live core n.plan.me ≡ true → (o : Option Message) (it : Installed)
    → Ruled n core (brought k o it) (brought_core k core1 o it) (install_tells_by k o it)
bring_ruled n k core core1 same rule live (Some (Grant number grant mode true)) it = grant_ruled n k core core1 same rule live number grant mode it
bring_ruled n k core core1 same rule live (Some (Grant number grant mode false)) it =
    rests (record { life = same.life; lines = same.lines; me = same.me; entered = same.entered }) rule tt
bring_ruled n k core core1 same rule live (Some (Shipped shipment)) it =
    rests (record { life = same.life; lines = same.lines; me = same.me; entered = same.entered }) rule tt
bring_ruled n k core core1 same rule live _ it = rests same rule tt

came_keeps : (n k : Inst) → Keeps n k → (o : Option Message) → Keeps n (came_by k o)
came_keeps n k same (Some (Copy image upto)) = record { life = same.life; lines = same.lines; me = same.me; entered = same.entered }
came_keeps n k same (Some (UndoIs image job)) = record { life = same.life; lines = same.lines; me = same.me; entered = same.entered }
came_keeps n k same _ = same

hearing_keeps : (n : Inst) (epoch from : ℕ) (message : Message) → Keeps n (hearing n epoch from message)
hearing_keeps n epoch from (Commit end) = record { life = refl; lines = refl; me = refl; entered = refl }
hearing_keeps n epoch from (Heard end) = record { life = refl; lines = refl; me = refl; entered = refl }
hearing_keeps n epoch from _ = keeps n

heard_keeps : (n : Inst) (epoch from : ℕ) (o : Option Packet) → Keeps n (hearing_packet n epoch from o)
heard_keeps n epoch from None = keeps n
heard_keeps n epoch from (Some packet) =
    let k = record n { clock = raised n.clock packet.scn } in
    keeps_then n k (hearing k epoch from packet.message) (record { life = refl; lines = refl; me = refl; entered = refl }) (hearing_keeps k epoch from packet.message)

news_answer_rule : (core : Core) (me : ℕ) (scn : Scn) (from : ℕ) (message : Message) → rule_of (answering_news core me scn from message) ≡ rule_of core
news_answer_rule core me scn from (Commit c) = refl
news_answer_rule core me scn from _ = refl

packet_answer_rule : (core : Core) (me : ℕ) (scn : Scn) (from : ℕ) (o : Option Packet) → rule_of (answering_packet core me scn from o) ≡ rule_of core
packet_answer_rule core me scn from None = refl
packet_answer_rule core me scn from (Some packet) = news_answer_rule core me scn from packet.message

-- what is found among control lines

found_in : (p : Control → Bool) (xs : List Control) (c : Control) → find p xs ≡ Some c → IsIn c xs × (p c ≡ true)
found_in p [] c e = absurd (none-some c e)
found_in p (x ∷ xs) c e = by (p x) refl e (found_in p xs c)
  where
    by : (b : Bool) → p x ≡ b → (if b then Some x else find p xs) ≡ Some c → (find p xs ≡ Some c → IsIn c xs × (p c ≡ true)) → IsIn c (x ∷ xs) × (p c ≡ true)
    by true is e rest = let same = same_Some x c e in (inl same, subst (λ (y : Control). p y ≡ true) same is)
    by false is e rest = let later = rest e in (inr later.0, later.1)

not_true : (b : Bool) → not b ≡ true → b ≡ false
not_true true e = absurd (let no : false ≡ true = e in cc)
not_true false e = refl

-- the open line with a number is open, and has the number
opened_by : (core : Core) (number : ℕ) (c : Control) → open_control core number ≡ Some c → IsOpen core c × (c.line ≡ number)
opened_by core number c e =
    let at = found_in (λ (control : Control). control.line == number && not control.done) (wave_controls core.waves) c e in
    let b = and_parts (c.line == number) (not c.done) at.1 in
    (record { here = at.0; open_ = not_true c.done b.1 }, eqb-true c.line number b.0)

move_found : (core : Core) (number me : ℕ) (c : Control) → first_move core number me ≡ Some c
    → IsOpen core c × ((bucket : ℕ) × (to : ℕ) × (c.wanted ≡ Move bucket to))
move_found core number me c e =
    let at = found_in (λ (control : Control). not control.done && is_move_of number me control.wanted) (wave_controls core.waves) c e in
    let b = and_parts (not c.done) (is_move_of number me c.wanted) at.1 in
    (record { here = at.0; open_ = not_true c.done b.0 }, is_move c.wanted b.1)
  where
    is_move : (wanted : Wanted) → is_move_of number me wanted ≡ true → (bucket : ℕ) × (to : ℕ) × (wanted ≡ Move bucket to)
    is_move (Move bucket to) e = (bucket, to, refl)
    is_move (Crash inst when keep) e = absurd (let no : false ≡ true = e in cc)
    is_move (Start inst) e = absurd (let no : false ≡ true = e in cc)
    is_move (Checkpoint inst) e = absurd (let no : false ≡ true = e in cc)

take_ruled : (n m : Inst) (core : Core) (from number : ℕ) → Keeps n m → (o : Option Control) → first_move core number n.plan.me ≡ o
    → Ruled n core m (move_told (naming (without_first core from n.plan.me Main) number n.plan.me) o) (move_tells o)
take_ruled n m core from number same None e = rests same refl tt
take_ruled n m core from number same (Some c) e =
    let at = move_found core number n.plan.me c e in
    answers same.entered c (entry.Moved c.line) at.0 same.life (λ line h. subst (λ (ls : List ℕ). IsOf line ls) same.lines h) refl
    (moves at.1.0 at.1.1 at.1.2 refl) refl

bucket_ruled : (n k : Inst) (core : Core) (from : ℕ) (message : Message) → Keeps n k
    → Ruled n core (taking_bucket k message) (noting_bucket (without_first core from n.plan.me Main) n.plan.me message)
    (bucket_tells (without_first core from n.plan.me Main) n.plan.me message)
bucket_ruled n k core from (Bucket number entries) same =
    take_ruled n (taking_bucket k (Bucket number entries)) core from number (record { life = same.life; lines = same.lines; me = same.me; entered = same.entered })
    (first_move core number n.plan.me) refl
bucket_ruled n k core from _ same = rests same refl tt

packet_ruled : (n : Inst) (core : Core) (from : ℕ) (o : Option Packet)
    → Ruled n core (taking_packet n o) (noting_packet (without_first core from n.plan.me Main) n.plan.me o)
    (packet_tells (without_first core from n.plan.me Main) n.plan.me o)
packet_ruled n core from None = rests (keeps n) refl tt
packet_ruled n core from (Some packet) =
    bucket_ruled n (record n { clock = raised n.clock packet.scn }) core from packet.message (record { life = refl; lines = refl; me = refl; entered = refl })

-- threads

read_thread_ruled : (n : Inst) (core : Core) (thread : ℕ) (it : Found) → is_live core n.plan.me ≡ true
    → Ruled n core (thread_read n core it) (thread_read_core n core thread it) (read_tells n core thread it)
read_thread_ruled n core thread (found.Closed scns) live = rests (record { life = refl; lines = refl; me = refl; entered = refl }) refl tt
read_thread_ruled n core thread (found.Unread bad) live = stop_here n core live bad
read_thread_ruled n core thread (found.Stopped log bad) live =
    losing n n core (records_entered thread log.position log.read.records core) (keeps n) (records_rule thread log.position log.read.records core)
    (loss.Ended bad) (Some 0) (log_tells core thread log) (log_calm core thread log) (fails bad live refl refl)
read_thread_ruled n core thread (found.Whole log versions) live =
    rests (record { life = refl; lines = refl; me = refl; entered = refl }) (records_rule thread log.position log.read.records core) (log_calm core thread log)

close_ruled : (n : Inst) (core : Core) (thread : ℕ) (it : Closing) → is_live core n.plan.me ≡ true
    → Ruled n core (thread_closed n it) (closed_core_as n core thread (closed_entry (read_of n thread)) it) (close_tells n it)
close_ruled n core thread closing.Done live = rests (keeps n) refl tt
close_ruled n core thread _ live = stop_here n core live false

-- control lines

crash_to : (n : Inst) (core : Core) (c : Control) (kept : Option ℕ) → IsOpen core c → IsDue core n.plan.me c.line
    → Ruled n core (lost n) (lost_core n core (loss.Crashed c.line) kept) (lost_tells n (loss.Crashed c.line) kept)
crash_to n core c kept is due =
    subst (λ (es : List Entry). Ruled n core (lost n) (lost_core n core (loss.Crashed c.line) kept) es) (nothing_more (lost_tells n (loss.Crashed c.line) kept))
    (losing n n core core (keeps n) refl (loss.Crashed c.line) kept [] tt (crashes c is due refl refl))

crash_as : (n : Inst) (core : Core) (c : Control) (it : Kept) → IsOpen core c → IsDue core n.plan.me c.line
    → Ruled n core (lost n) (crash_told_by n core c it) (crash_tells_by n c it)
crash_as n core c Nothing is due = crash_to n core c (Some n.thread.durable) is due
crash_as n core c (Bytes Whole) is due = crash_to n core c (Some (kept_to n c)) is due
crash_as n core c (Bytes (Cut kept)) is due =
    let it = lost_rule n (answering core c.line) (loss.Ended false) kept in
    loses refl (entry.Ended n.plan.me false) (fold (with_refusal n) [] n.plan.mine) (kept_tells n kept) refl (lost_lines n)
    (cuts c false is due (ap (λ (r : Rule). r.controls) it) refl)
    (ap (λ (r : Rule). r.wave) it ∙ start_wave n.life (rule_of (answering core c.line)))
    (ap (λ (r : Rule). without_inst r.live n.plan.me) it ∙ ap (λ (l : InstSet). without_inst l n.plan.me) (start_live n.life (rule_of (answering core c.line))))
    (refusals_calm n) (kept_calm n kept) refl

crash_wanted : (core : Core) (me : ℕ) (wanted : Wanted) → wants_crash_now core me wanted ≡ true → (when : When) × (keep : Keep) × (wanted ≡ Crash me when keep)
crash_wanted core me (Crash whose when keep) e =
    (when, keep, ap (λ (i : ℕ). Crash i when keep) (eqb-true whose me (and_parts (whose == me) (is_due_at core me when) e).0))
crash_wanted core me (Start i) e = absurd (let no : false ≡ true = e in cc)
crash_wanted core me (Move bucket to) e = absurd (let no : false ≡ true = e in cc)
crash_wanted core me (Checkpoint i) e = absurd (let no : false ≡ true = e in cc)

due_found : (core : Core) (me : ℕ) (live : Bool) (d : Control) → is_live core me ≡ live
    → (if live then find (λ (control : Control). not control.done && wants_crash_now core me control.wanted) (wave_controls core.waves) else None) ≡ Some d
    → IsDue core me d.line
due_found core me true d is e =
    let at = found_in (λ (control : Control). not control.done && wants_crash_now core me control.wanted) (wave_controls core.waves) d e in
    let b = and_parts (not d.done) (wants_crash_now core me d.wanted) at.1 in
    record { by = d; is = record { here = at.0; open_ = not_true d.done b.0 }; number = refl; wants = crash_wanted core me d.wanted b.1; live = is }
due_found core me false d is e = absurd (none-some d e)

due_by : (core : Core) (me number : ℕ) (o : Option Control) → due_crash core me ≡ o → is_by_line number o ≡ true → IsDue core me number
due_by core me number None e by = absurd (let no : false ≡ true = by in cc)
due_by core me number (Some d) e by =
    subst (λ (line : ℕ). IsDue core me line) (eqb-true d.line number by) (due_found core me (is_live core me) d refl e)

crash_ruled : (n : Inst) (core : Core) (number : ℕ) (o : Option Control) (it : Kept) → open_control core number ≡ o → IsDue core n.plan.me number
    → Ruled n core (crashed_by n o) (crash_told_if n core o it) (crash_tells n o it)
crash_ruled n core number None it e due = rests (keeps n) refl tt
crash_ruled n core number (Some c) it e due =
    let is = opened_by core number c e in
    crash_as n core c it is.0 (subst (λ (line : ℕ). IsDue core n.plan.me line) (sym is.1) due)

moved_keeps : (n : Inst) (o : Option BucketMove) → Keeps n (with_moved n o)
moved_keeps n None = keeps n
moved_keeps n (Some it) = record { life = refl; lines = refl; me = refl; entered = refl }

entries_rule : (n : Inst) (core : Core) (it : BucketMove) (o : Option (List DirEntry)) → rule_of (sending_bucket core n.plan.me n.clock.scn it o) ≡ rule_of core
entries_rule n core it None = refl
entries_rule n core it (Some entries) = refl

moving_rule : (n : Inst) (core : Core) (o : Option BucketMove) → rule_of (sending_move n core o) ≡ rule_of core
moving_rule n core None = refl
moving_rule n core (Some it) = entries_rule n core it (bucket_of n.mastering.directory it.bucket)

is_move : (wanted : Wanted) → is_some (move_of wanted) ≡ true → (bucket : ℕ) × (to : ℕ) × (wanted ≡ Move bucket to)
is_move (Move bucket to) e = (bucket, to, refl)
is_move (Crash inst when keep) e = absurd (let no : false ≡ true = e in cc)
is_move (Start inst) e = absurd (let no : false ≡ true = e in cc)
is_move (Checkpoint inst) e = absurd (let no : false ≡ true = e in cc)

kept_move : (n : Inst) (o : Option BucketMove) → moves_nothing n o ≡ true → is_some o ≡ true
kept_move n None e = absurd (let no : false ≡ true = e in cc)
kept_move n (Some it) e = refl

keep_ruled : (n : Inst) (core : Core) (number : ℕ) (o : Option Control) → open_control core number ≡ o
    → is_some (option_and_then (λ (control : Control). move_of control.wanted) o) ≡ true → Ruled n core n (move_told core o) (move_tells o)
keep_ruled n core number None e may = rests (keeps n) refl tt
keep_ruled n core number (Some c) e may =
    let it = is_move c.wanted may in
    answers refl c (entry.Moved c.line) (opened_by core number c e).0 refl (λ line h. h) refl (moves it.0 it.1 it.2 refl) refl

skip_ruled : (n : Inst) (core : Core) (number : ℕ) (o : Option Control) → open_control core number ≡ o → is_idle_line n core o ≡ true
    → Ruled n core n (skipped_line core o) (skip_tells o)
skip_ruled n core number None e may = rests (keeps n) refl tt
skip_ruled n core number (Some c) e may =
    let b = and_parts (maker c.wanted == n.plan.me) (finds_nothing n core c.line c.wanted) may in
    answers refl c (entry.NotDone c.line) (opened_by core number c e).0 refl (λ line h. h) refl
    (skips (eqb-true (maker c.wanted) n.plan.me b.0) b.1 refl) refl

of_filtered : (p : Begun → Bool) (xs : List Begun) (number : ℕ) → IsOf number (map (λ (begun : Begun). begun.line) (filter p xs))
    → IsOf number (map (λ (begun : Begun). begun.line) xs)
of_filtered p [] number h = h
of_filtered p (x ∷ xs) number h = by (p x) (of_filtered p xs number) h
  where
    by : (b : Bool) → (IsOf number (map (λ (begun : Begun). begun.line) (filter p xs)) → IsOf number (map (λ (begun : Begun). begun.line) xs))
        → IsOf number (map (λ (begun : Begun). begun.line) (if b then x ∷ filter p xs else filter p xs)) → IsOf number (x.line ∷ map (λ (begun : Begun). begun.line) xs)
    by true rest (inl same) = inl same
    by true rest (inr later) = inr (rest later)
    by false rest later = inr (rest later)

of_found : (n : Inst) (number : ℕ) (xs : List Begun) → is_ready_if n (find (λ (begun : Begun). begun.line == number) xs) ≡ true
    → IsOf number (map (λ (begun : Begun). begun.line) xs)
of_found n number [] e = absurd (let no : false ≡ true = e in cc)
of_found n number (x ∷ xs) e = by (x.line == number) refl (of_found n number xs) e
  where
    by : (b : Bool) → (x.line == number) ≡ b
        → (is_ready_if n (find (λ (begun : Begun). begun.line == number) xs) ≡ true → IsOf number (map (λ (begun : Begun). begun.line) xs))
        → is_ready_if n (if b then Some x else find (λ (begun : Begun). begun.line == number) xs) ≡ true → IsOf number (x.line ∷ map (λ (begun : Begun). begun.line) xs)
    by true is rest e = inl (eqb-true x.line number is)
    by false is rest e = inr (rest e)

check_ruled : (n : Inst) (core : Core) (number : ℕ) (it : Written) → is_live core n.plan.me ≡ true → (o : Option Control) → open_control core number ≡ o
    → is_some o ≡ true → IsOf number (begun_lines n)
    → Ruled n core (checkpointed n number it) (checkpoint_told n core number it) (checkpoint_tells n number it)
check_ruled n core number written.Done live None e may of = absurd (let no : false ≡ true = may in cc)
check_ruled n core number written.Done live (Some c) e may of =
    let is = opened_by core number c e in
    answers refl c (entry.Checkpointed number) is.0 refl
    (λ line h. of_filtered (λ (begun : Begun). not (begun.line == number)) n.wave.checkpoints line h)
    (ap (λ (line : ℕ). closed (rule_of core) line) (sym is.1))
    (checks (subst (λ (line : ℕ). IsOf line (begun_lines n)) (sym is.1) of) (ap entry.Checkpointed (sym is.1))) refl
check_ruled n core number written.Failed live o e may of = stop_here n core live false

-- an instance comes in

join_fails : (n k : Inst) (core core1 : Core) (c : Control) → k.life ≡ Joining c.line → begun_lines k ≡ begun_lines n → k.plan.me ≡ n.plan.me
    → k.wave.entered ≡ n.wave.entered → rule_of core1 ≡ rule_of core → IsOpen core c → c.wanted ≡ Start n.plan.me → is_live core n.plan.me ≡ false → (bad : Bool)
    → Ruled n core (lost k) (lost_core k core1 (loss.Ended bad) (Some 0)) (stop_tells k bad)
join_fails n k core core1 c life lines me entered_ rule is start live bad =
    let it : rule_of (loss_told k (kept_told k core1 (Some 0)) (loss.Ended bad)) ≡ closed (rule_of core) c.line =
    lost_rule k core1 (loss.Ended bad) (Some 0) ∙ ap (λ (l : Life). start_closed l (rule_of core1)) life ∙ ap (λ (r : Rule). closed r c.line) rule in
    loses entered_ (loss_entry k (loss.Ended bad)) (fold (with_refusal k) [] k.plan.mine) (kept_tells k (Some 0)) refl (lost_lines k ∙ lines)
    (stays_out c bad is start live (ap (λ (r : Rule). r.controls) it) (ap (λ (i : ℕ). entry.Ended i bad) me))
    (ap (λ (r : Rule). r.wave) it) (ap (λ (r : Rule). without_inst r.live k.plan.me) it ∙ ap (λ (i : ℕ). without_inst core.members.live i) me)
    (refusals_calm k) (kept_calm k (Some 0)) refl

join_read : (n : Inst) (core : Core) (c : Control) (own : SegmentState) (scns : Clock) (it : Opened) → IsOpen core c → c.wanted ≡ Start n.plan.me
    → is_live core n.plan.me ≡ false → Ruled n core (read_in (joining n c.line) own scns it) (if is_open it then entered_core (opened_core core n.plan.me it) n.plan.me
    else stop_core (with_segment (joining n c.line) own scns it) (opened_core core n.plan.me it) false)
    (if is_open it then [] else stop_tells (with_segment (joining n c.line) own scns it) false)
join_read n core c own scns (thread.Running length) is start live = comes refl c is start live refl refl refl refl refl
join_read n core c own scns (thread.Unwritten length) is start live =
    join_fails n (with_segment (joining n c.line) own scns (thread.Unwritten length)) core (opened_core core n.plan.me (thread.Unwritten length)) c refl refl refl refl refl is start live false
join_read n core c own scns thread.Untold is start live =
    join_fails n (with_segment (joining n c.line) own scns thread.Untold) core core c refl refl refl refl refl is start live false

join_as : (n : Inst) (core : Core) (c : Control) (it : Joined) → IsOpen core c → c.wanted ≡ Start n.plan.me → is_live core n.plan.me ≡ false
    → Ruled n core (came_in (joining n c.line) core it) (came_in_core (joining n c.line) core it) (join_tells (joining n c.line) core it)
join_as n core c joined.Dark is start live = comes refl c is start live refl refl refl refl refl
join_as n core c (joined.Read own it) is start live = join_read n core c own.value (scns_of (joining n c.line) core) it is start live
join_as n core c joined.Bad is start live = join_fails n (joining n c.line) core core c refl refl refl refl refl is start live true
join_as n core c joined.Unread is start live = join_fails n (joining n c.line) core core c refl refl refl refl refl is start live false

is_start : (me : ℕ) (wanted : Wanted) → is_start_of me wanted ≡ true → wanted ≡ Start me
is_start me (Start i) e = ap Start (eqb-true i me e)
is_start me (Move bucket to) e = absurd (let no : false ≡ true = e in cc)
is_start me (Crash i when keep) e = absurd (let no : false ≡ true = e in cc)
is_start me (Checkpoint i) e = absurd (let no : false ≡ true = e in cc)

join_ruled : (n : Inst) (core : Core) (number : ℕ) (o : Option Control) (it : Joined) → open_control core number ≡ o → asks_start n.plan.me o ≡ true
    → is_live core n.plan.me ≡ false → Ruled n core (came_in (joining n (line_number o)) core it) (came_in_core (joining n (line_number o)) core it)
    (join_tells (joining n (line_number o)) core it)
join_ruled n core number None it e asks live = absurd (let no : false ≡ true = asks in cc)
join_ruled n core number (Some c) it e asks live = join_as n core c it (opened_by core number c e).0 (is_start n.plan.me c.wanted asks) live

join_by : (n : Inst) (core : Core) (number : ℕ) (it : How) → asks_start n.plan.me (open_control core number) ≡ true → is_live core n.plan.me ≡ false
    → Ruled n core (joined_by n core number it) (joined_core_by n core number it) (join_tells_by n core number it)
join_by n core number (how.Joined it) asks live = join_ruled n core number (open_control core number) it refl asks live
join_by n core number _ asks live = rests (keeps n) refl tt

-- an instance alone

force_ruled : (n : Inst) (core : Core) (it : Appended) → is_live core n.plan.me ≡ true → Ruled n core (forced_as n it) (force_told n core it) (force_tells n it)
force_ruled n core Whole live =
    rests (record { life = refl; lines = refl; me = refl; entered = refl }) refl
    (fold_calm (commit_told n.plan.me) (λ es end q. calm_if end.commit (entry.Committed end.xid end.scn n.plan.me) es refl q) n.ends [] tt)
force_ruled n core (Cut kept) live = stop n n core core (keeps n) refl live false kept

opened_keeps : (n : Inst) (scns : Clock) (it : Opened) → Keeps n (opened n scns it)
opened_keeps n scns (thread.Running length) = record { life = refl; lines = refl; me = refl; entered = refl }
opened_keeps n scns _ = keeps n

opened_if_keeps : (n : Inst) (scns : Clock) (o : Option Opened) → Keeps n (opened_if n scns o)
opened_if_keeps n scns None = keeps n
opened_if_keeps n scns (Some it) = opened_keeps n scns it

opened_rule : (core : Core) (me : ℕ) (it : Opened) → rule_of (opened_core core me it) ≡ rule_of core
opened_rule core me thread.Untold = refl
opened_rule core me _ = refl

opened_if_rule : (core : Core) (me : ℕ) (o : Option Opened) → rule_of (opened_core_if core me o) ≡ rule_of core
opened_if_rule core me None = refl
opened_if_rule core me (Some it) = opened_rule core me it

dealt_rule : (core : Core) (me : ℕ) (bound : Clock) → rule_of (dealt_core core me bound) ≡ rule_of core
unfolding dealt_core
dealt_rule core me bound = refl

led_keeps : (n : Inst) (core : Core) (owns : List SegmentState) → Keeps n (led n core owns)
unfolding led
led_keeps n core owns = record { life = refl; lines = refl; me = refl; entered = refl }

thaw_ruled : (n : Inst) (core : Core) (it : Thawed) → is_live core n.plan.me ≡ true → Ruled n core (thaw n core it) (thawed_core n core it) (thaw_tells n core it)
thaw_ruled n core (thawed.Done opening owns) live =
    let k = opened_part n core opening in
    let core1 = opened_shared n core opening in
    let led_ = led_keeps k (thaw_core k core1) owns.value.items in
    let same = keeps_then n k (led k (thaw_core k core1) owns.value.items) (opened_if_keeps n (scns_of n core) opening) led_ in
    rests (record { life = same.life; lines = same.lines; me = same.me; entered = same.entered })
    (dealt_rule core1 k.plan.me (bound_of k core1) ∙ opened_if_rule core n.plan.me opening) tt
thaw_ruled n core (thawed.Unopened opening) live =
    stop n (opened_part n core opening) core (opened_shared n core opening) (opened_if_keeps n (scns_of n core) opening) (opened_if_rule core n.plan.me opening) live false (Some 0)
thaw_ruled n core (thawed.Bad opening) live =
    stop n (opened_part n core opening) core (opened_shared n core opening) (opened_if_keeps n (scns_of n core) opening) (opened_if_rule core n.plan.me opening) live true (Some 0)
thaw_ruled n core (thawed.Unread opening) live =
    stop n (opened_part n core opening) core (opened_shared n core opening) (opened_if_keeps n (scns_of n core) opening) (opened_if_rule core n.plan.me opening) live false (Some 0)

thaw_by : (n : Inst) (core : Core) (it : How) → is_live core n.plan.me ≡ true → Ruled n core (thawed_by n core it) (thawed_core_by n core it) (thaw_tells_by n core it)
thaw_by n core (how.Thawed it) live = thaw_ruled n core it live
thaw_by n core _ live = rests (keeps n) refl tt

resume_ruled : (n m : Inst) (core now : Core) (es : List Entry) (life : Life) → n.life ≡ life → m.life ≡ up_by life → begun_lines m ≡ begun_lines n
    → m.plan.me ≡ n.plan.me → m.wave.entered ≡ n.wave.entered → now.waves ≡ start_joined life core.waves → now.members.live ≡ core.members.live → es ≡ up_told n.plan.me life []
    → Ruled n core m now es
resume_ruled n m core now es (Joining number) was is lines me entered_ waves live told =
    rises entered_ number was is lines (λ i. record { controls = (waves i).controls; wave = (waves i).wave; live = live i }) told
resume_ruled n m core now es Up was is lines me entered_ waves live told =
    rests (record { life = is ∙ sym was; lines = lines; me = me; entered = entered_ }) (λ i. record { controls = (waves i).controls; wave = (waves i).wave; live = live i })
    (subst (λ (l : List Entry). Calms l) (sym told) tt)
resume_ruled n m core now es Down was is lines me entered_ waves live told =
    rests (record { life = is ∙ sym was; lines = lines; me = me; entered = entered_ }) (λ i. record { controls = (waves i).controls; wave = (waves i).wave; live = live i })
    (subst (λ (l : List Entry). Calms l) (sym told) tt)

-- What a kind of step needs of the instance and of the shared part, where it tells of a control line or may end its instance.
abbrev pub Allows : Inst → Core → Action → Type 0
Allows n core (Session session.AskUndo z) = is_live core n.plan.me ≡ true
Allows n core (Dead dead.AskUndo job) = is_live core n.plan.me ≡ true
Allows n core (Block block.WriteBlock number) = is_live core n.plan.me ≡ true
Allows n core (Block block.RecoverBlock number) = is_live core n.plan.me ≡ true
Allows n core (OfInst inst.Install from) = is_live core n.plan.me ≡ true
Allows n core (OfInst inst.ReadThread from) = is_live core n.plan.me ≡ true
Allows n core (OfInst inst.CloseThread from) = is_live core n.plan.me ≡ true
Allows n core (Line line.Crash number) = IsDue core n.plan.me number
Allows n core (Line line.KeepBucket number) = is_some (moved_by core number) ≡ true
Allows n core (Line line.Checkpoint number) = (is_live core n.plan.me ≡ true) × (is_some (open_control core number) ≡ true) × IsOf number (begun_lines n)
Allows n core (Line line.Skip number) = may_skip n core number ≡ true
Allows n core (Line line.Join number) = (asks_start n.plan.me (open_control core number) ≡ true) × (is_live core n.plan.me ≡ false)
Allows n core (Plain plain.Force) = is_live core n.plan.me ≡ true
Allows n core (Plain plain.Thaw) = is_live core n.plan.me ≡ true
Allows n core (Plain plain.Wave) = are_answered core ≡ true
Allows n core _ = Unit {0}

session_ruled : (n : Inst) (core : Core) (kind : SessionStep) (z : ℕ) (it : How) → Allows n core (Session kind z)
    → Ruled n core (session_part n core kind z it) (session_core n core kind z it) (session_tells n core kind z it)
unfolding session_part session_core session_tells
session_ruled n core session.StartStmt z it may = rests (record { life = refl; lines = refl; me = refl; entered = refl }) refl (refl, tt)
session_ruled n core session.Visit z it may = rests (record { life = refl; lines = refl; me = refl; entered = refl }) refl (rows_calm (stmt_at n z) (read_made n z) n z)
session_ruled n core session.Change z it may = change_ruled n core z (change_decided n z)
session_ruled n core session.Mark z it may = mark_ruled n core z (end_decided n z)
session_ruled n core session.StepBack z it may = back_ruled n core z ((session_at n z).standing - 1) (record_of (back_decided n z))
session_ruled n core session.EndStmt z it may = end_ruled n core z (answer_at n z)
session_ruled n core session.AskUndo z it may = ask_by n core z (lacking n z) (asked_undo_of it) may
session_ruled n core session.Broadcast z it may = told_ruled n core core.members.epoch z (durable_ending n z)
session_ruled n core session.Ack z it may = ack_ruled n core z (durable_ending n z)

dead_ruled : (n : Inst) (core : Core) (kind : DeadStep) (job : ℕ) → Allows n core (Dead kind job) → Ruled n core (dead_part n kind) (dead_core n core kind) (dead_tells n kind)
unfolding dead_part dead_core dead_tells
dead_ruled n core dead.Mark job may = dead_mark_ruled n core (dead_end_decided n)
dead_ruled n core dead.StepBack job may = dead_back_ruled n core (record_of (dead_back_decided n))
dead_ruled n core dead.AskUndo job may = stop_here n core may true

block_ruled : (n : Inst) (core : Core) (kind : BlockStep) (number : ℕ) (it : How) → Allows n core (Block kind number)
    → Ruled n core (block_part n core kind number it) (block_core n core kind number it) (block_tells n kind it)
unfolding block_part block_core block_tells
block_ruled n core block.Ask number it may = ask_block_ruled n core number (lacked n number)
block_ruled n core block.Evict number it may =
    rests (record { life = refl; lines = without_lines n number; me = refl; entered = refl }) (gave_rule n core number (clean_grant (place_at n.cache number).current)) tt
block_ruled n core block.WriteBlock number it may = write_ruled n core number (written_of it) may
block_ruled n core block.AskWrite number it may =
    rests (record { life = refl; lines = refl; me = refl; entered = refl }) (plea_rule n core number (past_version n number)) tt
block_ruled n core block.GivePast number it may = rests (keeps n) refl tt
block_ruled n core block.RecoverBlock number it may = recover_by n core number it may

inst_ruled : (n : Inst) (core : Core) (kind : InstStep) (from : ℕ) (it : How) → Allows n core (OfInst kind from)
    → Ruled n core (inst_part n core kind from it) (inst_core n core kind from it) (inst_tells n core kind from it)
unfolding inst_part inst_core inst_tells
inst_ruled n core inst.MasterTake from it may =
    rests (record { life = refl; lines = refl; me = refl; entered = refl }) (master_rule (hears n core from Main) (heard n core from Main) (first_message n core from Main)) tt
inst_ruled n core inst.Invalidate from it may =
    gone_ruled n (hears n core from Main) core (heard n core from Main) (record { life = refl; lines = refl; me = refl; entered = refl }) refl (first_to_go n core from)
inst_ruled n core inst.Ship from it may =
    ship_ruled n (hears n core from Main) core (heard n core from Main) (record { life = refl; lines = refl; me = refl; entered = refl }) refl (first_order n core from)
inst_ruled n core inst.ServeCopy from it may =
    rests (record { life = refl; lines = refl; me = refl; entered = refl }) (copy_rule (hears n core from Main) (heard n core from Main) (first_copy_order n core from)) tt
inst_ruled n core inst.DropPast from it may =
    rests (record { life = refl; lines = refl; me = refl; entered = refl }) (past_rule (hears n core from Main) (heard n core from Main) (first_past_order n core from)) tt
inst_ruled n core inst.Install from it may =
    bring_ruled n (hears n core from Main) core (heard n core from Main) (record { life = refl; lines = refl; me = refl; entered = refl }) refl may (first_message n core from Main) (installed_of it)
inst_ruled n core inst.TakeCopy from it may =
    rests (came_keeps n (hears n core from Main) (record { life = refl; lines = refl; me = refl; entered = refl }) (first_message n core from Main)) refl tt
inst_ruled n core inst.TakeUndo from it may =
    rests (came_keeps n (hears n core from UndoLane) (record { life = refl; lines = refl; me = refl; entered = refl }) (first_message n core from UndoLane)) refl tt
inst_ruled n core inst.ServeUndo from it may =
    rests (record { life = refl; lines = refl; me = refl; entered = refl })
    (undo_rule (hears n core from UndoLane) (heard n core from UndoLane) from (first_undo_order n core from)) tt
inst_ruled n core inst.Heard from it may =
    rests (heard_keeps n core.members.epoch from (first_from core from n.plan.me Main))
    (packet_answer_rule (without_first core from n.plan.me Main) n.plan.me (news_heard n core from).clock.scn from (first_from core from n.plan.me Main)) tt
inst_ruled n core inst.TakeBucket from it may = packet_ruled n core from (first_from core from n.plan.me Main)
inst_ruled n core inst.ReadThread thread it may = read_thread_ruled n core thread (found_of it) may
inst_ruled n core inst.CloseThread thread it may = close_ruled n core thread (closing_of it) may

line_ruled : (n : Inst) (core : Core) (kind : LineStep) (number : ℕ) (it : How) → Allows n core (Line kind number)
    → Ruled n core (line_part n core kind number it) (line_core n core kind number it) (line_tells n core kind number it)
unfolding line_part line_core line_tells
line_ruled n core line.Crash number it may = crash_ruled n core number (open_control core number) (crashed_of it) refl may
line_ruled n core line.SendBucket number it may = rests (moved_keeps n (moved_by core number)) (moving_rule n core (moved_by core number)) tt
line_ruled n core line.KeepBucket number it may = keep_ruled n core number (open_control core number) refl may
line_ruled n core line.Checkpoint number it may = check_ruled n core number (written_of it) may.0 (open_control core number) refl may.1 may.2
line_ruled n core line.Skip number it may = skip_ruled n core number (open_control core number) refl may
line_ruled n core line.Join number it may = join_by n core number it may.0 may.1

recovery_calm : (b : Bool) (e : Entry) → is_calm e ≡ true → Calms (if b then [] else e ∷ [])
recovery_calm true e is = tt
recovery_calm false e is = (is, tt)

plain_ruled : (n : Inst) (core : Core) (kind : PlainStep) (it : How) → Allows n core (Plain kind)
    → Ruled n core (plain_part n core kind it) (plain_core n core kind it) (plain_tells n core kind it)
unfolding plain_part plain_core plain_tells
plain_ruled n core plain.Enter it may = enters refl refl refl refl (openings_calm n.plan.me core.waves.wave n.plan.openings [] tt)
plain_ruled n core plain.Force it may = force_ruled n core (forced_of it) may
plain_ruled n core plain.Report it may = rests (record { life = refl; lines = refl; me = refl; entered = refl }) refl tt
plain_ruled n core plain.Thaw it may = thaw_by n core it may
plain_ruled n core plain.Reopen it may =
    rests (record { life = refl; lines = refl; me = refl; entered = refl }) refl
    (recovery_calm (is_empty core.recovery.closed_since) (entry.Recovered (bits_of core.recovery.closed_since)) refl)
plain_ruled n core plain.Resume it may = resume_ruled n (resumed n core) core (resumed_core n core) (up_told n.plan.me n.life []) n.life refl refl refl refl refl refl refl refl
plain_ruled n core plain.Leave it may = rests (keeps n) refl tt
plain_ruled n core plain.Wave it may = turns (keeps n) may refl refl refl

-- what a step does that an instance is ready for
pub ruled_of : (n : Inst) (core : Core) (action : Action) (it : How) → Allows n core action → Ruled n core (part_of n core action it) (core_of n core action it) (tells_of n core action it)
ruled_of n core (Session kind z) it may = session_ruled n core kind z it may
ruled_of n core (Dead kind job) it may = dead_ruled n core kind job may
ruled_of n core (Block kind number) it may = block_ruled n core kind number it may
ruled_of n core (OfInst kind from) it may = inst_ruled n core kind from it may
ruled_of n core (Line kind number) it may = line_ruled n core kind number it may
ruled_of n core (Plain kind) it may = plain_ruled n core kind it may

-- an instance that is ready for a step lives on
pub prepared_keeps : (n : Inst) (core : Core) (action : Action) → Keeps n (prepared n core action)
unfolding prepared
prepared_keeps n core action = by (comes_after_thaw (kind_class action)) (is_thawed core.members.phase)
  where
    by : (after thawed : Bool) → Keeps n (prepared_if after thawed n core)
    by false thawed = keeps n
    by true false = keeps n
    by true true = record { life = refl; lines = refl; me = refl; entered = refl }

ready_live : (n : Inst) (core : Core) (action : Action) → is_live core n.plan.me ≡ true
    → is_live (counted core n.plan.me action) (prepared n core action).plan.me ≡ true
unfolding counted
ready_live n core action live = ap (λ (me : ℕ). is_live core me) (prepared_keeps n core action).me ∙ live

-- the leader is live

found_inst : (p : ℕ → Bool) (xs : List ℕ) (i : ℕ) → find p xs ≡ Some i → p i ≡ true
found_inst p [] i e = absurd (none-some i e)
found_inst p (x ∷ xs) i e = by (p x) refl e (found_inst p xs i)
  where
    by : (b : Bool) → p x ≡ b → (if b then Some x else find p xs) ≡ Some i → (find p xs ≡ Some i → p i ≡ true) → p i ≡ true
    by true is e rest = subst (λ (y : ℕ). p y ≡ true) (same_Some x i e) is
    by false is e rest = rest e

led_by : (live : InstSet) (me : ℕ) (o : Option ℕ) → member_at live 0 ≡ o → is_inst me o ≡ true → has live me ≡ true
led_by live me None e is = absurd (let no : false ≡ true = is in cc)
led_by live me (Some i) e is =
    let at = found_inst (λ i. has live i && (count_below live i == 0)) all_insts i e in
    subst (λ (j : ℕ). has live j ≡ true) (eqb-true i me is) (and_parts (has live i) (count_below live i == 0) at).0

leading_live : (n : Inst) (core : Core) → leads_recovery n core ≡ true → is_live core n.plan.me ≡ true
leading_live n core e =
    let b = and_parts (is_frozen core.members.phase && is_led_by core n.plan.me) (all_reported core.members) e in
    led_by core.members.live n.plan.me (member_at core.members.live 0) refl (and_parts (is_frozen core.members.phase) (is_led_by core n.plan.me) b.0).1

-- a step that may be made is allowed
pub allowed : (n : Inst) (core : Core) (action : Action) → needs n core action ≡ true → Allows (prepared n core action) (counted core n.plan.me action) action
unfolding prepared counted block_needs inst_needs line_needs plain_needs
allowed n core (Session session.AskUndo z) e =
    let a = and_parts (is_allowed n core (Session session.AskUndo z)) (action_needs n core (Session session.AskUndo z)) e in
    ready_live n core (Session session.AskUndo z) (and_parts (is_live core n.plan.me) (runs n core || leads n core) a.0).0
allowed n core (Dead dead.AskUndo job) e =
    let a = and_parts (is_allowed n core (Dead dead.AskUndo job)) (action_needs n core (Dead dead.AskUndo job)) e in
    ready_live n core (Dead dead.AskUndo job) (and_parts (is_live core n.plan.me) (runs n core || leads n core) a.0).0
allowed n core (Block block.WriteBlock number) e =
    let a = and_parts (is_allowed n core (Block block.WriteBlock number)) (action_needs n core (Block block.WriteBlock number)) e in
    ready_live n core (Block block.WriteBlock number) (and_parts (is_live core n.plan.me) (runs n core || is_frozen_before_report n core || is_thawed core.members.phase) a.0).0
allowed n core (Block block.RecoverBlock number) e =
    let a = e in
    let b = and_parts (is_on_disk number && leads_recovery n core && are_read n core && is_to_rebuild n core number && not (is_rebuilt n core number)) (is_given core number) a in
    let c = and_parts (is_on_disk number && leads_recovery n core && are_read n core && is_to_rebuild n core number) (not (is_rebuilt n core number)) b.0 in
    let d = and_parts (is_on_disk number && leads_recovery n core && are_read n core) (is_to_rebuild n core number) c.0 in
    let f = and_parts (is_on_disk number && leads_recovery n core) (are_read n core) d.0 in
    leading_live n core (and_parts (is_on_disk number) (leads_recovery n core) f.0).1
allowed n core (OfInst inst.Install from) e =
    let a = and_parts (is_allowed n core (OfInst inst.Install from)) (action_needs n core (OfInst inst.Install from)) e in
    ready_live n core (OfInst inst.Install from) (and_parts (is_live core n.plan.me) (runs n core || is_thawed core.members.phase) a.0).0
allowed n core (OfInst inst.ReadThread thread) e =
    let b = and_parts (nat_lt thread 8 && leads_recovery n core && is_dead core thread) (not (is_read n core thread)) e in
    let c = and_parts (nat_lt thread 8 && leads_recovery n core) (is_dead core thread) b.0 in
    leading_live n core (and_parts (nat_lt thread 8) (leads_recovery n core) c.0).1
allowed n core (OfInst inst.CloseThread thread) e =
    let b = and_parts (nat_lt thread 8 && leads_recovery n core && is_dead core thread) (is_all_rebuilt n core) e in
    let c = and_parts (nat_lt thread 8 && leads_recovery n core) (is_dead core thread) b.0 in
    leading_live n core (and_parts (nat_lt thread 8) (leads_recovery n core) c.0).1
allowed n core (Line line.Crash number) e =
    let due = due_by core n.plan.me number (due_crash core n.plan.me) refl e in
    record { by = due.by; is = record { here = due.is.here; open_ = due.is.open_ }; number = due.number; wants = due.wants; live = due.live }
allowed n core (Line line.KeepBucket number) e =
    let a = and_parts (is_allowed n core (Line line.KeepBucket number)) (action_needs n core (Line line.KeepBucket number)) e in
    kept_move n (moved_by core number) a.1
allowed n core (Line line.Checkpoint number) e =
    let a = and_parts (is_allowed n core (Line line.Checkpoint number)) (action_needs n core (Line line.Checkpoint number)) e in
    let b = and_parts (node_is_open core number) (may_end_checkpoint n number) a.1 in (
      ready_live n core (Line line.Checkpoint number) (and_parts (is_live core n.plan.me) (runs n core) a.0).0,
      b.0,
      subst (λ (ls : List ℕ). IsOf number ls) (sym (prepared_keeps n core (Line line.Checkpoint number)).lines) (of_found n number n.wave.checkpoints b.1),
    )
allowed n core (Line line.Skip number) e = e
allowed n core (Line line.Join number) e =
    let b = and_parts (asks_start n.plan.me (open_control core number) && not (is_live core n.plan.me)) (is_open_to_joins core) e in
    let c = and_parts (asks_start n.plan.me (open_control core number)) (not (is_live core n.plan.me)) b.0 in
    (c.0, not_true (is_live core n.plan.me) c.1)
allowed n core (Plain plain.Force) e =
    let a = and_parts (is_allowed n core (Plain plain.Force)) (action_needs n core (Plain plain.Force)) e in
    ready_live n core (Plain plain.Force) (and_parts (is_live core n.plan.me) (runs n core || is_frozen_before_report n core || is_thawed core.members.phase) a.0).0
allowed n core (Plain plain.Thaw) e = leading_live n core (and_parts (leads_recovery n core) (is_restored n core) e).0
allowed n core (Plain plain.Wave) e =
    let a = and_parts (n.plan.me == 0 && not core.waves.over && all_left core && are_answered core && is_settled core && is_empty core.paused) (are_empty core.net.links) e in
    let b = and_parts (n.plan.me == 0 && not core.waves.over && all_left core && are_answered core && is_settled core) (is_empty core.paused) a.0 in
    let c = and_parts (n.plan.me == 0 && not core.waves.over && all_left core && are_answered core) (is_settled core) b.0 in
    (and_parts (n.plan.me == 0 && not core.waves.over && all_left core) (are_answered core) c.0).1
allowed n core _ e = tt

-- what a step that may be made does to the control lines of the wave
pub ruled : (n : Inst) (core : Core) (action : Action) (it : How) → needs n core action ≡ true
    → Ruled (prepared n core action) (counted core n.plan.me action) (part_after n core action it) (core_after n core action it) (tells n core action it)
ruled n core action it e = ruled_of (prepared n core action) (counted core n.plan.me action) action it (allowed n core action e)
