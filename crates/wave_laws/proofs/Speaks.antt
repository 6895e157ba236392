-- What each kind of step tells of sessions.
use Rattle.std.proofs.Common.{◌≡◌, ℕ, Bool, true, false, List, [], ◌∷◌, ◌++◌, Option, Some, None, if◌then◌else◌, refl, append_assoc, ◌+◌, ◌∙◌}
use Rattle.std.specs.Prelude.{◌||◌, is_none}
use Rattle.std.specs.List.{fold}
use Rattle.std.proofs.lemmas.Bool.{and_parts}
use Rattle.redo_types.specs.declared.redo.Redo.{Redo}
use Rattle.journal.specs.declared.entry.Entry.{Entry}
use Rattle.journal.specs.declared.entry.Entry.TheVariants as entry
use Rattle.inst_set.specs.Sets.{is_empty}
use Rattle.wire_net.specs.declared.message.Lane.TheVariants.{Main}
use Rattle.wire_net.specs.declared.message.Message.{Message}
use Rattle.wire_net.specs.declared.message.Message.TheVariants.{Bucket, Grant}
use Rattle.wire_net.specs.declared.message.Packet.{Packet}
use Rattle.inst_state.specs.declared.control.Control.{Control}
use Rattle.inst_state.specs.declared.inst.Inst.{Inst}
use Rattle.inst_state.specs.declared.inst.Life.{Life}
use Rattle.inst_state.specs.declared.inst.Life.TheVariants.{Joining}
use Rattle.inst_state.specs.declared.shared.Core.{Core}
use Rattle.inst_state.specs.State.{session_at, stmt_at}
use Rattle.std.specs.Option.{option_map}
use Rattle.inst_state.specs.Sending.{first_from, without_first}
use Rattle.inst_state.specs.Shared.{is_live, open_control}
use Rattle.inst_loss.specs.LostCore.{with_refusal}
use Rattle.inst_loss.specs.declared.ends.Loss.{Loss}
use Rattle.inst_loss.specs.declared.ends.Loss.TheVariants as loss
use Rattle.disk_calls.specs.declared.appends.Appended.{Appended}
use Rattle.disk_calls.specs.declared.appends.Appended.TheVariants.{Cut, Whole}
use Rattle.disk_calls.specs.declared.images.ReadData.TheVariants as data_read
use Rattle.disk_calls.specs.declared.images.ReadUndo.TheVariants as undo_read
use Rattle.disk_calls.specs.declared.writes.Written.{Written}
use Rattle.disk_calls.specs.declared.writes.Written.TheVariants as written
use Rattle.disk_steps.specs.AskUndo.{lacking, place_of}
use Rattle.disk_steps.specs.Crash.{kept_to}
use Rattle.disk_steps.specs.Force.{commit_told}
use Rattle.disk_steps.specs.declared.crashes.Kept.{Kept}
use Rattle.disk_steps.specs.declared.crashes.Kept.TheVariants.{Bytes, Nothing}
use Rattle.disk_steps.specs.declared.installs.Installed.{Installed}
use Rattle.disk_steps.specs.declared.installs.Installed.TheVariants as installed
use Rattle.disk_steps.specs.declared.undo_asks.AskedUndo.{AskedUndo}
use Rattle.disk_steps.specs.declared.undo_asks.AskedUndo.TheVariants as asked_for
use Rattle.disk_steps.specs.declared.undo_asks.Lacking.{Lacking}
use Rattle.disk_steps.specs.declared.undo_asks.Lacking.TheVariants.{Sense, Undo}
use Rattle.disk_steps.specs.declared.undo_asks.Place.{Place}
use Rattle.image_steps.specs.Hear.{first_message, hears}
use Rattle.stmt_steps.specs.Back.{dead_back_decided, record_of, undone, back_decided}
use Rattle.stmt_steps.specs.Mark.{dead_end_decided, dead_tells_by, end_decided}
use Rattle.stmt_steps.specs.Start.{may_start}
use Rattle.wave_steps.specs.Buckets.{first_move}
use Rattle.report_steps.specs.Reopen.{bits_of, up_told}
use Rattle.thread_steps.specs.Read.{is_news, record_entered, records_entered}
use Rattle.thread_steps.specs.declared.closes.Closing.{Closing}
use Rattle.thread_steps.specs.declared.closes.Closing.TheVariants as closing
use Rattle.thread_steps.specs.declared.found.Found.{Found}
use Rattle.thread_steps.specs.declared.found.Found.TheVariants as found
use Rattle.redo_record.specs.Redo.{length_of}
use Rattle.rebuild_steps.specs.Join.{begun, with_segment}
use Rattle.rebuild_steps.specs.Open.{is_open, scns_of}
use Rattle.rebuild_steps.specs.Thaw.{opened_part}
use Rattle.rebuild_steps.specs.declared.joins.Joined.{Joined}
use Rattle.rebuild_steps.specs.declared.joins.Joined.TheVariants as joined
use Rattle.rebuild_steps.specs.declared.recovers.Recovered.TheVariants as recovered
use Rattle.rebuild_steps.specs.declared.thaws.Thawed.TheVariants as thawed
use Rattle.inst_node.specs.declared.actions.Action.{Action}
use Rattle.inst_node.specs.declared.actions.Action.TheVariants.{Block, Dead, Inst as OfInst, Line, Plain, Session}
use Rattle.inst_node.specs.declared.actions.BlockStep.{BlockStep}
use Rattle.inst_node.specs.declared.actions.BlockStep.TheVariants as block
use Rattle.inst_node.specs.declared.actions.DeadStep.{DeadStep}
use Rattle.inst_node.specs.declared.actions.DeadStep.TheVariants as dead
use Rattle.inst_node.specs.declared.actions.InstStep.{InstStep}
use Rattle.inst_node.specs.declared.actions.InstStep.TheVariants as inst
use Rattle.inst_node.specs.declared.actions.LineStep.{LineStep}
use Rattle.inst_node.specs.declared.actions.LineStep.TheVariants as line
use Rattle.inst_node.specs.declared.actions.PlainStep.{PlainStep}
use Rattle.inst_node.specs.declared.actions.PlainStep.TheVariants as plain
use Rattle.inst_node.specs.declared.actions.SessionStep.{SessionStep}
use Rattle.inst_node.specs.declared.actions.SessionStep.TheVariants as session
use Rattle.inst_node.specs.declared.hows.How.{How}
use Rattle.inst_node.specs.declared.hows.How.TheVariants as how
use Rattle.inst_node.specs.Allowed.{is_allowed}
use Rattle.inst_node.specs.Moves.{asked_undo_of, closing_of, counted, crashed_of, forced_of, found_of, installed_of, part_after, plain_part, prepared, written_of}
use Rattle.inst_node.specs.Needs.{needs, session_needs}
use Rattle.run_laws.specs.Tells.{ask_at_tells, ask_tells_by, block_tells, bucket_tells, checkpoint_tells, close_tells, crash_tells, dead_tells, force_tells, image_read_tells, inst_tells, install_tells_by, join_tells, join_tells_by, kept_tells, line_tells, log_tells, lost_tells, move_tells, packet_tells, plain_tells, read_tells, recover_tells_by, session_tells, skip_tells, stop_tells, tells, thaw_tells_by, undo_read_tells, write_tells}
use Rattle.block_image.specs.Block.{BlockContent}
use Rattle.inst_state.specs.declared.session.Ending.{Ending}
use Rattle.wave_steps.specs.News.{durable_ending}
use Rattle.wave_steps.specs.WaveEnd.{left}
use Rattle.txn_engine.specs.declared.ask.Decision.{Decision}
use Rattle.txn_engine.specs.declared.ask.Decision.TheVariants as decision
use Rattle.stmt_steps.specs.declared.answers.Answer.{Answer}
use Rattle.stmt_steps.specs.Change.{change_decided}
use Rattle.stmt_steps.specs.End.{answer_at}
use Rattle.std.proofs.Common.{◌-◌, ◌&&◌, not, sym, ap, inl, inr}
use Rattle.std.specs.Prelude.{is_some}
use Rattle.std.specs.Option.{option_and_then}
use Rattle.std.proofs.lemmas.Option.{none-some}
use Rattle.redo_types.specs.declared.redo.RedoKind.{RedoKind}
use Rattle.redo_types.specs.declared.redo.RedoKind.TheVariants as kind
use Rattle.scn_clock.specs.Clock.{learnt}
use Rattle.script_text.specs.Lines.{answered}
use Rattle.cr_copy.specs.declared.made.Made.{Made}
use Rattle.cr_copy.specs.declared.made.Made.TheVariants as made
use Rattle.inst_state.specs.declared.line.Asks.{Asks}
use Rattle.inst_state.specs.declared.line.Asks.TheVariants.{Change}
use Rattle.inst_state.specs.declared.needs.Needed.{Needed}
use Rattle.inst_state.specs.declared.session.Doing.{Doing}
use Rattle.inst_state.specs.declared.session.Doing.TheVariants.{Ends, Idle, Runs}
use Rattle.inst_state.specs.Hand.{image_for, image_in_hand}
use Rattle.inst_state.specs.Needs.{goes_on, needed, needed_by}
use Rattle.inst_state.specs.Sessions.{ending_of, is_idle, snapshot_of}
use Rattle.inst_state.specs.State.{asks_at, end_waits, is_stopped, line_now, may_begin, works}
use Rattle.stmt_steps.specs.declared.answers.Answer.TheVariants as answer
use Rattle.stmt_steps.specs.Change.{decided_of, decided_on, decision_tells, record_tells, row_of}
use Rattle.stmt_steps.specs.End.{answer_tells, tells_if}
use Rattle.stmt_steps.specs.Mark.{commits, end_kind, ending, tells_by}
use Rattle.stmt_steps.specs.Mark.{end_tells as mark_entry}
use Rattle.stmt_steps.specs.Start.{start_tells}
use Rattle.stmt_steps.specs.Visit.{is_last, made_of, range_of, read_made, reads, rows_so_far, told_by}
use Rattle.wave_steps.specs.Answers.{ack_tells}
use Rattle.wave_steps.specs.News.{if_on_disk}
use Rattle.run_laws.specs.Tells.{acked_tells}
use Rattle.run_laws.specs.Tells.{tells_of}
use Rattle.txn_engine.specs.declared.ask.Wish.{Wish}
use Rattle.wave_steps.specs.Enter.{with_openings_told}
use Rattle.line_laws.proofs.Courses.{course_at}
use Rattle.line_laws.proofs.Entries.{is_silent, Silents}
use Rattle.line_laws.proofs.Took.{MayStart}
use Rattle.wave_laws.proofs.Ruled.{is_calm}
use Rattle.std.proofs.lemmas.Bool.{ltb-true}
use Rattle.std.specs.Prelude.{◌<◌, nat_lt, not}
use Rattle.inst_node.specs.Needs.{plain_needs}

pub data Speaks (n : Inst) (core : Core) (w : ℕ) (es : List Entry) : Type 0 where
  silent : Silents es → Speaks n core w es
  opens : n.wave.entered < core.waves.wave → w ≡ core.waves.wave → es ≡ with_openings_told n core.waves.wave [] → Speaks n core w es
  starts : (z s : ℕ) → (course_at n z).idle ≡ true → is_some (line_now n z) ≡ true → es ≡ entry.Started (stmt_at n z) z s ∷ [] → Speaks n core w es
  restarts : (z s row : ℕ) (wish : Wish) → (course_at n z).idle ≡ false → asks_at n z ≡ Some (Change row wish) → es ≡ entry.Started (stmt_at n z) z s ∷ []
      → Speaks n core w es
  answers : (z : ℕ) (e : Entry) → MayStart n z → answered e ≡ Some (stmt_at n z) → es ≡ e ∷ [] → Speaks n core w es
  loses : (later first : List Entry) (e : Entry) → es ≡ later ++ e ∷ first → is_calm e ≡ false → is_silent e ≡ true → Speaks n core w es

-- A start of a line may be made, and a wave entered, which is then the instance's.
abbrev IfStart : Action → Inst → Core → ℕ → Type 0
IfStart (Session session.StartStmt z) n core w = may_start n z ≡ true
IfStart (Plain plain.Enter) n core w = (n.wave.entered < core.waves.wave) × (w ≡ core.waves.wave)
IfStart _ n core w = Unit {0}

-- an instance ends

stops : (w : ℕ) (n k : Inst) (core : Core) (bad : Bool) → Speaks n core w (stop_tells k bad)
stops w n k core bad = loses (fold (with_refusal k) [] k.plan.mine) (kept_tells k (Some 0)) (entry.Ended k.plan.me bad) refl refl refl

ends_so : (w : ℕ) (n k : Inst) (core : Core) (it : Loss) (kept : Option ℕ) → Speaks n core w (lost_tells k it kept)
ends_so w n k core (loss.Crashed number) kept =
    loses (fold (with_refusal k) [] k.plan.mine) (kept_tells k kept) (entry.Crashed number k.plan.me) refl refl refl
ends_so w n k core (loss.Ended bad) kept =
    loses (fold (with_refusal k) [] k.plan.mine) (kept_tells k kept) (entry.Ended k.plan.me bad) refl refl refl

silent_if : (b : Bool) (e : Entry) (es : List Entry) → is_silent e ≡ true → Silents es → Silents (if b then e ∷ es else es)
silent_if true e es is q = (is, q)
silent_if false e es is q = q

fold_silent : {A : Type 0} (f : List Entry → A → List Entry) → ((es : List Entry) (x : A) → Silents es → Silents (f es x)) → (xs : List A) (es : List Entry)
    → Silents es → Silents (fold f es xs)
fold_silent {A = A} f each [] es q = q
fold_silent {A = A} f each (x ∷ xs) es q = fold_silent f each xs (f es x) (each es x q)

records_silent : (thread at : ℕ) (records : List Redo) (core : Core) → Silents core.journal → Silents (records_entered thread at records core).journal
records_silent thread at [] core q = q
records_silent thread at (redo ∷ records) core q =
    let behind = at + length_of redo.kind in
    records_silent thread behind records (record_entered thread behind redo core)
    (silent_if (is_news core thread behind redo) (entry.Committed redo.xid redo.scn thread) core.journal refl q)

-- a session's line

runs_busy : (d : Doing) → is_some (snapshot_of d) ≡ true → is_idle d ≡ false
runs_busy (Runs snapshot) e = refl
runs_busy Idle e = sym e
runs_busy (Ends ending) e = refl

on_by : (held : Bool) (d : Doing) → (if held then false else is_some (snapshot_of d)) ≡ true → is_some (snapshot_of d) ≡ true
on_by true d e = absurd (let no : false ≡ true = e in cc)
on_by false d e = e

needed_runs : (n : Inst) (z : ℕ) (b : Bool) (x : Needed) → goes_on n z ≡ b → (if b then needed_by n z (asks_at n z) else None) ≡ Some x
    → is_some (snapshot_of (session_at n z).doing) ≡ true
needed_runs n z true x on e = on_by (n.paused || is_stopped n z) (session_at n z).doing on
needed_runs n z false x on e = absurd (none-some x e)

hand_runs : (n : Inst) (z : ℕ) (o : Option Needed) (image : BlockContent) → needed n z ≡ o → option_and_then (image_for n z) o ≡ Some image
    → is_some (snapshot_of (session_at n z).doing) ≡ true
hand_runs n z None image is e = absurd (none-some image e)
hand_runs n z (Some x) image is e = needed_runs n z (goes_on n z) x refl is

-- a session whose line has an image in hand has started it
in_hand_busy : (n : Inst) (z : ℕ) (image : BlockContent) → image_in_hand n z ≡ Some image → (course_at n z).idle ≡ false
in_hand_busy n z image e = runs_busy (session_at n z).doing (hand_runs n z (needed n z) image refl e)

start_speaks : (w : ℕ) (n : Inst) (core : Core) (z : ℕ) → may_start n z ≡ true → Speaks n core w (start_tells n z ∷ [])
start_speaks w n core z may =
    let b = and_parts (works n && (session_at n z).connected && is_idle (session_at n z).doing && may_begin n z) (not (end_waits n)) may in
    let c = and_parts (works n && (session_at n z).connected && is_idle (session_at n z).doing) (may_begin n z) b.0 in
    starts z n.clock.known (and_parts (works n && (session_at n z).connected) (is_idle (session_at n z).doing) c.0).1
    (and_parts (is_some (line_now n z)) _ c.1).0 refl

rows_speak : (w : ℕ) (n : Inst) (core : Core) (z : ℕ) (e : Entry) (last : Bool) → (course_at n z).idle ≡ false → answered e ≡ Some (stmt_at n z)
    → Speaks n core w (if last then e ∷ [] else [])
rows_speak w n core z e true busy is = answers z e (inl busy) is refl
rows_speak w n core z e false busy is = silent tt

visit_speaks : (w : ℕ) (n : Inst) (core : Core) (z : ℕ) (o : Option Made) → (is_some o ≡ true → (course_at n z).idle ≡ false)
    → Speaks n core w (told_by (stmt_at n z) (range_of (asks_at n z)) o (session_at n z))
visit_speaks w n core z (Some (made.Rows values)) busy =
    rows_speak w n core z (entry.Rows (stmt_at n z) (rows_so_far (range_of (asks_at n z)) values (session_at n z))) (is_last (range_of (asks_at n z)) (session_at n z)) (busy refl) refl
visit_speaks w n core z (Some (made.TooOld it)) busy = answers z (entry.Refused (stmt_at n z) it) (inl (busy refl)) refl refl
visit_speaks w n core z _ busy = silent tt

made_busy : (n : Inst) (z : ℕ) (read : Bool) (o : Option BlockContent) → image_in_hand n z ≡ o
    → is_some (if read then option_map (made_of n z) o else None) ≡ true → (course_at n z).idle ≡ false
made_busy n z true (Some image) is e = in_hand_busy n z image is
made_busy n z true None is e = absurd (let no : false ≡ true = e in cc)
made_busy n z false o is e = absurd (let no : false ≡ true = e in cc)

record_answers : (n : Inst) (z : ℕ) (redo : Redo) (kind : RedoKind) → answered (record_tells (stmt_at n z) (row_of (asks_at n z)) redo kind) ≡ Some (stmt_at n z)
record_answers n z redo kind.Lock = refl
record_answers n z redo _ = refl

change_speaks : (w : ℕ) (n : Inst) (core : Core) (z : ℕ) (o : Option Decision)
    → (is_some o ≡ true → ((course_at n z).idle ≡ false) × ((row : ℕ) × (wish : Wish) × (asks_at n z ≡ Some (Change row wish))))
    → Speaks n core w (decision_tells n z o)
change_speaks w n core z (Some (decision.Do redo)) busy =
    answers z (record_tells (stmt_at n z) (row_of (asks_at n z)) redo redo.kind) (inl (busy refl).0) (record_answers n z redo redo.kind) refl
change_speaks w n core z (Some (decision.Refuse it)) busy = answers z (entry.Refused (stmt_at n z) it) (inl (busy refl).0) refl refl
change_speaks w n core z (Some (decision.Restart end)) busy =
    let b = busy refl in restarts z (learnt n.clock end).known b.1.0 b.1.1 b.0 b.1.2 refl
change_speaks w n core z (Some decision.AlreadyMine) busy = answers z (entry.Plain (stmt_at n z)) (inl (busy refl).0) refl refl
change_speaks w n core z _ busy = silent tt

decided_busy : (n : Inst) (z : ℕ) (asks : Option Asks) (o : Option BlockContent) → image_in_hand n z ≡ o → is_some (decided_of n z asks) ≡ true
    → ((course_at n z).idle ≡ false) × ((row : ℕ) × (wish : Wish) × (asks ≡ Some (Change row wish)))
decided_busy n z (Some (Change row wish)) (Some image) is e = (in_hand_busy n z image is, (row, wish, refl))
decided_busy n z (Some (Change row wish)) None is e =
    absurd (let no : false ≡ true = sym (ap (λ (o : Option BlockContent). is_some (option_map (decided_on n z row wish) o)) is) ∙ e in cc)
decided_busy n z _ o is e = absurd (let no : false ≡ true = e in cc)

mark_silent : (n : Inst) (z : ℕ) (o : Option Redo) → Silents (tells_by n z o)
mark_silent n z None = tt
mark_silent n z (Some redo) = by (commits (end_kind n z))
  where
    by : (commit : Bool) → Silents (mark_entry (stmt_at n z) redo commit ∷ [])
    by true = (refl, tt)
    by false = (refl, tt)

back_silent : (o : Option Redo) (left : ℕ) → Silents (undone o left)
back_silent None left = tt
back_silent (Some redo) left = (refl, tt)

or_none_some : {A : Type 0} (p : Bool) (o : Option A) → (p || is_none o) ≡ false → is_some o ≡ true
or_none_some {A = A} true o e = absurd (let no : false ≡ true = sym e in cc)
or_none_some {A = A} false (Some x) e = refl
or_none_some {A = A} false None e = absurd (let no : false ≡ true = sym e in cc)

answer_may : (n : Inst) (z : ℕ) (held : Bool) (a : Answer) (rest : Option Answer) → (n.paused || is_none (line_now n z)) ≡ held
    → (if held then None else rest) ≡ Some a → MayStart n z
answer_may n z true a rest is e = absurd (none-some a e)
answer_may n z false a rest is e = inr (or_none_some n.paused (line_now n z) is)

end_answers : (n : Inst) (z : ℕ) (a : Answer) → answered (answer_tells (stmt_at n z) a) ≡ Some (stmt_at n z)
end_answers n z answer.Plain = refl
end_answers n z answer.NoSavepoint = refl
end_answers n z answer.NotConnected = refl

end_speaks : (w : ℕ) (n : Inst) (core : Core) (z : ℕ) (o : Option Answer) → answer_at n z ≡ o → Speaks n core w (tells_if (stmt_at n z) o)
end_speaks w n core z None is = silent tt
end_speaks w n core z (Some a) is =
    answers z (answer_tells (stmt_at n z) a) (answer_may n z (n.paused || is_none (line_now n z)) a _ refl is) (end_answers n z a) refl

disk_busy : (d : Doing) (x : Ending) → if_on_disk (ending_of d) ≡ Some x → is_idle d ≡ false
disk_busy (Ends ending) x e = refl
disk_busy Idle x e = absurd (none-some x e)
disk_busy (Runs snapshot) x e = refl

ack_answers : (stmt : ℕ) (x : Ending) (commit : Bool) → answered (if commit then entry.Acked stmt x.xid x.scn else entry.Plain stmt) ≡ Some stmt
ack_answers stmt x true = refl
ack_answers stmt x false = refl

ack_speaks : (w : ℕ) (n : Inst) (core : Core) (z : ℕ) (o : Option Ending) → durable_ending n z ≡ o → Speaks n core w (acked_tells (stmt_at n z) o)
ack_speaks w n core z None is = silent tt
ack_speaks w n core z (Some x) is =
    answers z (ack_tells (stmt_at n z) x) (inl (disk_busy (session_at n z).doing x is)) (ack_answers (stmt_at n z) x x.commit) refl

read_speaks : (w : ℕ) (n : Inst) (core : Core) (it : AskedUndo) → Speaks n core w (undo_read_tells n it)
read_speaks w n core (asked_for.Read (undo_read.Head head)) = silent tt
read_speaks w n core (asked_for.Read (undo_read.Block block)) = silent tt
read_speaks w n core (asked_for.Read undo_read.Failed) = stops w n n core false
read_speaks w n core _ = stops w n n core true

ask_if : (w : ℕ) (n : Inst) (core : Core) (live : Bool) (it : AskedUndo) → Speaks n core w (if live then [] else undo_read_tells n it)
ask_if w n core true it = silent tt
ask_if w n core false it = read_speaks w n core it

ask_speaks : (w : ℕ) (n : Inst) (core shared : Core) (o : Option Lacking) (it : AskedUndo) → Speaks n core w (ask_tells_by n shared o it)
ask_speaks w n core shared None it = silent tt
ask_speaks w n core shared (Some (Undo what)) it = by (place_of n.plan.layout what)
  where
    by : (o : Option Place) → Speaks n core w (ask_at_tells n shared o it)
    by None = stops w n n core true
    by (Some place) = ask_if w n core (is_live shared place.seg) it
ask_speaks w n core shared (Some Sense) it = stops w n n core true

-- each family of kinds

session_speaks : (w : ℕ) (n : Inst) (core : Core) (kind : SessionStep) (z : ℕ) (it : How) → IfStart (Session kind z) n core w → Speaks n core w (session_tells n core kind z it)
unfolding session_tells
session_speaks w n core session.StartStmt z it may = start_speaks w n core z may
session_speaks w n core session.Visit z it may =
    visit_speaks w n core z (read_made n z) (made_busy n z (reads (asks_at n z)) (image_in_hand n z) refl)
session_speaks w n core session.Change z it may = change_speaks w n core z (change_decided n z) (decided_busy n z (asks_at n z) (image_in_hand n z) refl)
session_speaks w n core session.Mark z it may = silent (mark_silent n z (end_decided n z))
session_speaks w n core session.StepBack z it may = silent (back_silent (record_of (back_decided n z)) ((session_at n z).standing - 1))
session_speaks w n core session.EndStmt z it may = end_speaks w n core z (answer_at n z) refl
session_speaks w n core session.AskUndo z it may = ask_speaks w n core core (lacking n z) (asked_undo_of it)
session_speaks w n core session.Broadcast z it may = silent tt
session_speaks w n core session.Ack z it may = ack_speaks w n core z (durable_ending n z) refl

dead_speaks : (w : ℕ) (n : Inst) (core : Core) (kind : DeadStep) → Speaks n core w (dead_tells n kind)
unfolding dead_tells
dead_speaks w n core dead.Mark = silent (by (dead_end_decided n))
  where
    by : (o : Option Redo) → Silents (dead_tells_by o)
    by None = tt
    by (Some redo) = (refl, tt)
dead_speaks w n core dead.StepBack = silent (back_silent (record_of (dead_back_decided n)) 0)
dead_speaks w n core dead.AskUndo = stops w n n core true

write_speaks : (w : ℕ) (n : Inst) (core : Core) (it : Written) → Speaks n core w (write_tells n it)
write_speaks w n core written.Done = silent tt
write_speaks w n core written.Failed = stops w n n core false

recover_speaks : (w : ℕ) (n : Inst) (core : Core) (it : How) → Speaks n core w (recover_tells_by n it)
recover_speaks w n core (how.Recovered (recovered.Done stood version)) = silent tt
recover_speaks w n core (how.Recovered (recovered.Unwritten stood)) = stops w n n core false
recover_speaks w n core (how.Recovered (recovered.Unrolled stood)) = stops w n n core true
recover_speaks w n core (how.Recovered recovered.Bad) = stops w n n core true
recover_speaks w n core (how.Recovered recovered.Unread) = stops w n n core false
recover_speaks w n core _ = silent tt

block_speaks : (w : ℕ) (n : Inst) (core : Core) (kind : BlockStep) (it : How) → Speaks n core w (block_tells n kind it)
unfolding block_tells
block_speaks w n core block.WriteBlock it = write_speaks w n core (written_of it)
block_speaks w n core block.RecoverBlock it = recover_speaks w n core it
block_speaks w n core _ it = silent tt

image_speaks : (w : ℕ) (n k : Inst) (core : Core) (it : Installed) → Speaks n core w (image_read_tells k it)
image_speaks w n k core (installed.Read (data_read.Image image)) = silent tt
image_speaks w n k core (installed.Read data_read.Failed) = stops w n k core false
image_speaks w n k core _ = stops w n k core true

install_speaks : (w : ℕ) (n k : Inst) (core : Core) (o : Option Message) (it : Installed) → Speaks n core w (install_tells_by k o it)
install_speaks w n k core (Some (Grant number grant mode true)) it = image_speaks w n k core it
install_speaks w n k core _ it = silent tt

move_silent : (o : Option Control) → Silents (move_tells o)
move_silent None = tt
move_silent (Some c) = (refl, tt)

bucket_silent : (core : Core) (me : ℕ) (message : Message) → Silents (bucket_tells core me message)
bucket_silent core me (Bucket number entries) = move_silent (first_move core number me)
bucket_silent core me _ = tt

packet_silent : (core : Core) (me : ℕ) (o : Option Packet) → Silents (packet_tells core me o)
packet_silent core me None = tt
packet_silent core me (Some packet) = bucket_silent core me packet.message

thread_speaks : (w : ℕ) (n : Inst) (core shared : Core) (thread : ℕ) (it : Found) → Speaks n core w (read_tells n shared thread it)
thread_speaks w n core shared thread (found.Closed scns) = silent tt
thread_speaks w n core shared thread (found.Unread bad) = stops w n n core bad
thread_speaks w n core shared thread (found.Stopped log bad) =
    loses (fold (with_refusal n) [] n.plan.mine) (kept_tells n (Some 0) ++ log_tells shared thread log) (entry.Ended n.plan.me bad)
    (append_assoc (fold (with_refusal n) [] n.plan.mine) (entry.Ended n.plan.me bad ∷ kept_tells n (Some 0)) (log_tells shared thread log)) refl refl
thread_speaks w n core shared thread (found.Whole log versions) =
    silent (records_silent thread log.position log.read.records (record shared { journal = [] }) tt)

close_speaks : (w : ℕ) (n : Inst) (core : Core) (it : Closing) → Speaks n core w (close_tells n it)
close_speaks w n core closing.Done = silent tt
close_speaks w n core _ = stops w n n core false

inst_speaks : (w : ℕ) (n : Inst) (core : Core) (kind : InstStep) (from : ℕ) (it : How) → Speaks n core w (inst_tells n core kind from it)
unfolding inst_tells
inst_speaks w n core inst.Install from it = install_speaks w n (hears n core from Main) core (first_message n core from Main) (installed_of it)
inst_speaks w n core inst.TakeBucket from it = silent (packet_silent (without_first core from n.plan.me Main) n.plan.me (first_from core from n.plan.me Main))
inst_speaks w n core inst.ReadThread thread it = thread_speaks w n core core thread (found_of it)
inst_speaks w n core inst.CloseThread thread it = close_speaks w n core (closing_of it)
inst_speaks w n core _ from it = silent tt

crash_speaks : (w : ℕ) (n : Inst) (core : Core) (o : Option Control) (it : Kept) → Speaks n core w (crash_tells n o it)
crash_speaks w n core None it = silent tt
crash_speaks w n core (Some c) Nothing = ends_so w n n core (loss.Crashed c.line) (Some n.thread.durable)
crash_speaks w n core (Some c) (Bytes Whole) = ends_so w n n core (loss.Crashed c.line) (Some (kept_to n c))
crash_speaks w n core (Some c) (Bytes (Cut kept)) = ends_so w n n core (loss.Ended false) kept

check_speaks : (w : ℕ) (n : Inst) (core : Core) (number : ℕ) (it : Written) → Speaks n core w (checkpoint_tells n number it)
check_speaks w n core number written.Done = silent (refl, tt)
check_speaks w n core number written.Failed = stops w n n core false

skip_silent : (o : Option Control) → Silents (skip_tells o)
skip_silent None = tt
skip_silent (Some c) = (refl, tt)

join_if : (w : ℕ) (n k : Inst) (core : Core) (runs : Bool) → Speaks n core w (if runs then [] else stop_tells k false)
join_if w n k core true = silent tt
join_if w n k core false = stops w n k core false

join_speaks : (w : ℕ) (n k : Inst) (core shared : Core) (it : Joined) → Speaks n core w (join_tells k shared it)
join_speaks w n k core shared joined.Dark = silent tt
join_speaks w n k core shared (joined.Read own it) = join_if w n (with_segment k own.value (scns_of k shared) it) core (is_open it)
join_speaks w n k core shared joined.Bad = stops w n k core true
join_speaks w n k core shared joined.Unread = stops w n k core false

join_by_speaks : (w : ℕ) (n : Inst) (core : Core) (number : ℕ) (it : How) → Speaks n core w (join_tells_by n core number it)
join_by_speaks w n core number (how.Joined it) = join_speaks w n (begun n core number) core core it
join_by_speaks w n core number _ = silent tt

line_speaks : (w : ℕ) (n : Inst) (core : Core) (kind : LineStep) (number : ℕ) (it : How) → Speaks n core w (line_tells n core kind number it)
unfolding line_tells
line_speaks w n core line.Crash number it = crash_speaks w n core (open_control core number) (crashed_of it)
line_speaks w n core line.SendBucket number it = silent tt
line_speaks w n core line.KeepBucket number it = silent (move_silent (open_control core number))
line_speaks w n core line.Checkpoint number it = check_speaks w n core number (written_of it)
line_speaks w n core line.Skip number it = silent (skip_silent (open_control core number))
line_speaks w n core line.Join number it = join_by_speaks w n core number it

force_speaks : (w : ℕ) (n : Inst) (core : Core) (it : Appended) → Speaks n core w (force_tells n it)
force_speaks w n core Whole =
    silent (fold_silent (commit_told n.plan.me) (λ es end q. silent_if end.commit (entry.Committed end.xid end.scn n.plan.me) es refl q) n.ends [] tt)
force_speaks w n core (Cut kept) = ends_so w n n core (loss.Ended false) kept

thaw_speaks : (w : ℕ) (n : Inst) (core shared : Core) (it : How) → Speaks n core w (thaw_tells_by n shared it)
thaw_speaks w n core shared (how.Thawed (thawed.Done opening owns)) = silent tt
thaw_speaks w n core shared (how.Thawed (thawed.Unopened opening)) = stops w n (opened_part n shared opening) core false
thaw_speaks w n core shared (how.Thawed (thawed.Bad opening)) = stops w n (opened_part n shared opening) core true
thaw_speaks w n core shared (how.Thawed (thawed.Unread opening)) = stops w n (opened_part n shared opening) core false
thaw_speaks w n core shared _ = silent tt

recovery_silent : (b : Bool) (e : Entry) → is_silent e ≡ true → Silents (if b then [] else e ∷ [])
recovery_silent true e is = tt
recovery_silent false e is = (is, tt)

up_silent : (me : ℕ) (life : Life) → Silents (up_told me life [])
up_silent me (Joining number) = (refl, tt)
up_silent me _ = tt

plain_speaks : (w : ℕ) (n : Inst) (core : Core) (kind : PlainStep) (it : How) → IfStart (Plain kind) n core w → Speaks n core w (plain_tells n core kind it)
unfolding plain_tells
plain_speaks w n core plain.Enter it may = opens may.0 may.1 refl
plain_speaks w n core plain.Force it may = force_speaks w n core (forced_of it)
plain_speaks w n core plain.Report it may = silent tt
plain_speaks w n core plain.Thaw it may = thaw_speaks w n core core it
plain_speaks w n core plain.Reopen it may =
    silent (recovery_silent (is_empty core.recovery.closed_since) (entry.Recovered (bits_of core.recovery.closed_since)) refl)
plain_speaks w n core plain.Resume it may = silent (up_silent n.plan.me n.life)
plain_speaks w n core plain.Leave it may = silent tt
plain_speaks w n core plain.Wave it may = silent tt

speaks_of : (w : ℕ) (n : Inst) (core : Core) (action : Action) (it : How) → IfStart action n core w → Speaks n core w (tells_of n core action it)
speaks_of w n core (Session kind z) it may = session_speaks w n core kind z it may
speaks_of w n core (Dead kind job) it may = dead_speaks w n core kind
speaks_of w n core (Block kind number) it may = block_speaks w n core kind it
speaks_of w n core (OfInst kind from) it may = inst_speaks w n core kind from it
speaks_of w n core (Line kind number) it may = line_speaks w n core kind number it
speaks_of w n core (Plain kind) it may = plain_speaks w n core kind it may

start_may : (n : Inst) (core : Core) (action : Action) (it : How) → needs n core action ≡ true
    → IfStart action (prepared n core action) (counted core n.plan.me action) (part_after n core action it).wave.entered
unfolding prepared counted session_needs plain_needs plain_part
start_may n core (Session session.StartStmt z) it may =
    (and_parts (is_allowed n core (Session session.StartStmt z)) (may_start n z) may).1
start_may n core (Plain plain.Enter) it may =
    (ltb-true n.wave.entered core.waves.wave (and_parts (nat_lt n.wave.entered core.waves.wave) (not core.waves.over) may).0, refl)
start_may n core _ it may = tt

-- what a step that may be made tells of sessions
pub speaks : (n : Inst) (core : Core) (action : Action) (it : How) → needs n core action ≡ true
    → Speaks (prepared n core action) (counted core n.plan.me action) (part_after n core action it).wave.entered (tells n core action it)
speaks n core action it may =
    speaks_of (part_after n core action it).wave.entered (prepared n core action) (counted core n.plan.me action) action it (start_may n core action it may)
