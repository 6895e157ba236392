-- What the steps for a session's line do to the lines of an instance's sessions.
use Rattle.std.proofs.Common.{◌≡◌, ℕ, ◌-◌, ◌&&◌, ◌||◌, Bool, true, false, not, List, [], ◌∷◌, map, Option, Some, None, if◌then◌else◌, refl, sym, ap, subst, ◌∙◌, ◌⊎◌, inl, inr}
use Rattle.std.specs.Prelude.{is_none, is_some, slice_set}
use Rattle.std.specs.Option.{option_and_then, option_map}
use Rattle.std.proofs.lemmas.Bool.{and_parts}
use Rattle.std.proofs.lemmas.List.{map-set}
use Rattle.std.proofs.Math.Seq.{map-set_same}
use Rattle.std.proofs.lemmas.Option.{none-some, same_Some}
use Rattle.base_types.specs.declared.value.Value.{Value}
use Rattle.block_image.specs.Block.{BlockContent}
use Rattle.base_types.specs.declared.names.Xid.{Xid}
use Rattle.redo_types.specs.declared.redo.Redo.{Redo}
use Rattle.redo_types.specs.declared.redo.RedoKind.{RedoKind}
use Rattle.redo_types.specs.declared.redo.RedoKind.TheVariants as kind
use Rattle.scn_clock.specs.Clock.{learnt}
use Rattle.journal.specs.declared.entry.Entry.TheVariants as entry
use Rattle.script_text.specs.Lines.{answered}
use Rattle.txn_engine.specs.declared.ask.Decision.{Decision}
use Rattle.txn_engine.specs.declared.ask.Decision.TheVariants as decision
use Rattle.cr_copy.specs.declared.made.Made.{Made}
use Rattle.cr_copy.specs.declared.made.Made.TheVariants as made
use Rattle.inst_state.specs.declared.inst.Inst.{Inst}
use Rattle.inst_state.specs.declared.line.Asks.{Asks}
use Rattle.inst_state.specs.declared.line.Asks.TheVariants.{Change}
use Rattle.inst_state.specs.declared.line.Line.{Line}
use Rattle.inst_state.specs.declared.needs.Needed.{Needed}
use Rattle.inst_state.specs.declared.session.Doing.{Doing}
use Rattle.inst_state.specs.declared.session.Doing.TheVariants.{Ends, Idle, Runs}
use Rattle.inst_state.specs.declared.session.Ending.{Ending}
use Rattle.inst_state.specs.declared.session.Session.{Session}
use Rattle.inst_state.specs.declared.shared.Core.{Core}
use Rattle.inst_state.specs.Hand.{image_for, image_in_hand}
use Rattle.inst_state.specs.Needs.{goes_on, needed, needed_by}
use Rattle.inst_state.specs.Sessions.{answered as session_answered, ending_of, is_idle, new_session, snapshot_of}
use Rattle.inst_state.specs.State.{asks_at, end_waits, is_stopped, is_up, line_at, line_now, may_begin, session_at, stmt_at, works}
use Rattle.stmt_steps.specs.declared.answers.Answer.{Answer}
use Rattle.stmt_steps.specs.declared.answers.Answer.TheVariants as answer
use Rattle.stmt_steps.specs.Back.{back_decided, back_tells, one_less, record_of, stepped_back, stepped_by, undone}
use Rattle.stmt_steps.specs.Change.{change_decided, change_tells, changed, changed_as, changed_by, decided_of, decided_on, decision_tells, record_tells, restarted, row_of}
use Rattle.stmt_steps.specs.End.{answer_at, answer_of, answer_tells, end_tells, ended, ended_as, ended_by, if_lost, is_going, tells_if}
use Rattle.stmt_steps.specs.Mark.{commits, end_decided, end_kind, end_of_txn, ending, kind_of, mark_tells, marked, marked_by, tells_by}
use Rattle.stmt_steps.specs.Mark.{end_tells as mark_entry}
use Rattle.stmt_steps.specs.Start.{begun, first_block, may_start, start_tells, started}
use Rattle.stmt_steps.specs.Visit.{is_last, made_of, range_of, read_made, read_on, reads, refused, rows_so_far, rows_told, session_visited, told_by, visit_tells, visited}
use Rattle.wave_steps.specs.Answers.{ack_tells, acked, acked_session, with_acked}
use Rattle.wave_steps.specs.News.{broadcast, durable_ending, ending_by, if_on_disk, told_in, with_told}
use Rattle.line_laws.proofs.Courses.{Course, course_at, line_of_now, course_of, courses, passed}
use Rattle.line_laws.proofs.Parts.{busy_course, with_stays}
use Rattle.line_laws.proofs.Entries.{Silents}
use Rattle.line_laws.proofs.Took.{MayAnswer, stays, Took, answers, rests, starts}
use Rattle.run_laws.specs.Tells.{acked_tells}

-- where a line sees up to a snapshot it has started
runs_busy : (d : Doing) → is_some (snapshot_of d) ≡ true → is_idle d ≡ false
runs_busy (Runs snapshot) e = refl
runs_busy Idle e = sym e
runs_busy (Ends ending) e = refl

on_by : (stops : Bool) (d : Doing) → (if stops then false else is_some (snapshot_of d)) ≡ true → is_some (snapshot_of d) ≡ true
on_by true d e = absurd (let no : false ≡ true = e in cc)
on_by false d e = e

needed_runs : (n : Inst) (z : ℕ) (b : Bool) (x : Needed) → goes_on n z ≡ b → (if b then needed_by n z (asks_at n z) else None) ≡ Some x
    → is_some (snapshot_of (session_at n z).doing) ≡ true
needed_runs n z true x on e = on_by (n.paused || is_stopped n z) (session_at n z).doing on
needed_runs n z false x on e = absurd (none-some x e)

pub hand_runs : (n : Inst) (z : ℕ) (o : Option Needed) (image : BlockContent) → needed n z ≡ o → option_and_then (image_for n z) o ≡ Some image
    → is_some (snapshot_of (session_at n z).doing) ≡ true
hand_runs n z None image is e = absurd (none-some image e)
hand_runs n z (Some x) image is e = needed_runs n z (goes_on n z) x refl is

-- a session whose line has an image in hand has started it
in_hand_busy : (n : Inst) (z : ℕ) (image : BlockContent) → image_in_hand n z ≡ Some image → (course_at n z).idle ≡ false
in_hand_busy n z image e = runs_busy (session_at n z).doing (hand_runs n z (needed n z) image refl e)

-- StartStmt

start_line : (n : Inst) (z : ℕ) → may_start n z ≡ true → is_some (line_now n z) ≡ true
start_line n z may =
    let b = and_parts (works n && (session_at n z).connected && is_idle (session_at n z).doing && may_begin n z) (not (end_waits n)) may in
    let c = and_parts (works n && (session_at n z).connected && is_idle (session_at n z).doing) (may_begin n z) b.0 in
    (and_parts (is_some (line_now n z)) _ c.1).0

pub took_start : (n : Inst) (z : ℕ) → may_start n z ≡ true → Took n (started n z) (start_tells n z ∷ [])
took_start n z may =
    starts z n.clock.known refl (inr (start_line n z may))
    (map-set course_of n.sessions z (begun n.clock.known (first_block (asks_at n z)) (session_at n z))) refl

-- Visit

visit_rows : (n : Inst) (z : ℕ) (values : List Value) (last : Bool) → is_last (range_of (asks_at n z)) (session_at n z) ≡ last → (course_at n z).idle ≡ false
    → (m : Inst) → m.plan ≡ n.plan → m.sessions ≡ slice_set n.sessions z (read_on (range_of (asks_at n z)) values (session_at n z))
    → Took n m (rows_told (stmt_at n z) (range_of (asks_at n z)) values (session_at n z))
visit_rows n z values true last busy m plan is =
    answers z (entry.Rows (stmt_at n z) (rows_so_far (range_of (asks_at n z)) values (session_at n z))) plan (inl busy)
    (ap (λ (l : List Session). map course_of l) is
    ∙ map-set course_of n.sessions z (read_on (range_of (asks_at n z)) values (session_at n z))
    ∙ ap (λ (c : Course). slice_set (courses n) z c) (λ i. record {
      next = (ap (λ (b : Bool). if b then (passed (course_at n z)).next else (session_at n z).next) last) i;
      idle = (ap (λ (b : Bool). is_idle (if b then Idle else (session_at n z).doing)) last) i;
    })) refl
    (ap (λ (b : Bool). if b then entry.Rows (stmt_at n z) (rows_so_far (range_of (asks_at n z)) values (session_at n z)) ∷ [] else []) last)
visit_rows n z values false last busy m plan is =
    rests (record {
      plan = plan;
      course = ap (λ (l : List Session). map course_of l) is
          ∙ map-set_same course_of n.sessions z (read_on (range_of (asks_at n z)) values (session_at n z)) new_session (λ i. record {
            next = (ap (λ (b : Bool). if b then (passed (course_at n z)).next else (session_at n z).next) last) i;
            idle = (ap (λ (b : Bool). is_idle (if b then Idle else (session_at n z).doing)) last) i;
          });
    }) (subst (λ (b : Bool). Silents (if b then entry.Rows (stmt_at n z) (rows_so_far (range_of (asks_at n z)) values (session_at n z)) ∷ [] else [])) (sym last) tt)

visit_made : (n : Inst) (z : ℕ) (o : Option Made) → (is_some o ≡ true → (course_at n z).idle ≡ false) → (m : Inst) → m.plan ≡ n.plan
    → m.sessions ≡ slice_set n.sessions z (session_visited (range_of (asks_at n z)) o (session_at n z))
    → Took n m (told_by (stmt_at n z) (range_of (asks_at n z)) o (session_at n z))
visit_made n z (Some (made.Rows values)) busy m plan is =
    visit_rows n z values (is_last (range_of (asks_at n z)) (session_at n z)) refl (busy refl) m plan is
visit_made n z (Some (made.TooOld cause)) busy m plan is =
    answers z (entry.Refused (stmt_at n z) cause) plan (inl (busy refl))
    (ap (λ (l : List Session). map course_of l) is ∙ map-set course_of n.sessions z (refused (session_at n z))) refl refl
visit_made n z _ busy m plan is =
    rests (record {
      plan = plan;
      course = ap (λ (l : List Session). map course_of l) is ∙ map-set_same course_of n.sessions z (session_at n z) new_session refl;
    }) tt

made_busy : (n : Inst) (z : ℕ) (read : Bool) (o : Option BlockContent) → image_in_hand n z ≡ o
    → is_some (if read then option_map (made_of n z) o else None) ≡ true → (course_at n z).idle ≡ false
made_busy n z true (Some image) is e = in_hand_busy n z image is
made_busy n z true None is e = absurd (let no : false ≡ true = e in cc)
made_busy n z false o is e = absurd (let no : false ≡ true = e in cc)

pub took_visit : (n : Inst) (z : ℕ) → Took n (visited n z) (visit_tells n z)
took_visit n z =
    visit_made n z (read_made n z) (made_busy n z (reads (asks_at n z)) (image_in_hand n z) refl) (visited n z) refl refl

-- Change

record_answers : (n : Inst) (z : ℕ) (redo : Redo) (kind : RedoKind) → answered (record_tells (stmt_at n z) (row_of (asks_at n z)) redo kind) ≡ Some (stmt_at n z)
record_answers n z redo kind.Lock = refl
record_answers n z redo _ = refl

change_as : (n : Inst) (z : ℕ) (o : Option Decision) → (is_some o ≡ true → (course_at n z).idle ≡ false) → Took n (changed_as n z o) (decision_tells n z o)
change_as n z (Some (decision.Do redo)) busy =
    answers z (record_tells (stmt_at n z) (row_of (asks_at n z)) redo redo.kind) refl (inl (busy refl))
    (map-set course_of n.sessions z (changed_by redo.xid (session_at n z))) (record_answers n z redo redo.kind) refl
change_as n z (Some (decision.Refuse cause)) busy =
    answers z (entry.Refused (stmt_at n z) cause) refl (inl (busy refl)) (map-set course_of n.sessions z (refused (session_at n z))) refl refl
change_as n z (Some (decision.Restart end)) busy =
    starts z (learnt n.clock end).known refl (inl (busy refl))
    (map-set course_of n.sessions z (restarted (learnt n.clock end).known (session_at n z))) refl
change_as n z (Some decision.AlreadyMine) busy =
    answers z (entry.Plain (stmt_at n z)) refl (inl (busy refl))
    (map-set course_of n.sessions z (session_answered (record (session_at n z) { job = record (session_at n z).job { handed_for = None } }))) refl refl
change_as n z _ busy = rests (stays n) tt

decided_busy : (n : Inst) (z : ℕ) (asks : Option Asks) (o : Option BlockContent) → image_in_hand n z ≡ o → is_some (decided_of n z asks) ≡ true
    → (course_at n z).idle ≡ false
decided_busy n z (Some (Change row wish)) (Some image) is e = in_hand_busy n z image is
decided_busy n z (Some (Change row wish)) None is e =
    absurd (let no : false ≡ true = sym (ap (λ (o : Option BlockContent). is_some (option_map (decided_on n z row wish) o)) is) ∙ e in cc)
decided_busy n z _ o is e = absurd (let no : false ≡ true = e in cc)

pub took_change : (n : Inst) (z : ℕ) → Took n (changed n z) (change_tells n z)
took_change n z = change_as n z (change_decided n z) (decided_busy n z (asks_at n z) (image_in_hand n z) refl)

-- Mark

mark_quiet : (stmt : ℕ) (redo : Redo) (commit : Bool) → Silents (mark_entry stmt redo commit ∷ [])
mark_quiet stmt redo true = (refl, tt)
mark_quiet stmt redo false = (refl, tt)

mark_as : (n : Inst) (z : ℕ) (o : Option Redo) → (is_some o ≡ true → (course_at n z).idle ≡ false) → Took n (marked_by n z o) (tells_by n z o)
mark_as n z None busy = rests (stays n) tt
mark_as n z (Some redo) busy =
    rests (record {
      plan = refl;
      course = map-set_same course_of n.sessions z (ending redo (commits (end_kind n z)) (session_at n z)) new_session (busy_course (session_at n z) (busy refl));
    }) (mark_quiet (stmt_at n z) redo (commits (end_kind n z)))

kind_busy : (n : Inst) (z : ℕ) (own : Option Xid) (runs : Bool) → is_some (snapshot_of (session_at n z).doing) ≡ runs
    → is_some (end_of_txn n own (if runs then kind_of (session_at n z) (asks_at n z) else None)) ≡ true → (course_at n z).idle ≡ false
kind_busy n z own true is e = runs_busy (session_at n z).doing is
kind_busy n z (Some x) false is e = absurd (let no : false ≡ true = e in cc)
kind_busy n z None false is e = absurd (let no : false ≡ true = e in cc)

pub took_mark : (n : Inst) (z : ℕ) → Took n (marked n z) (mark_tells n z)
took_mark n z =
    mark_as n z (end_decided n z) (kind_busy n z (session_at n z).own (is_some (snapshot_of (session_at n z).doing)) refl)

-- StepBack

step_as : (n : Inst) (z left : ℕ) (o : Option Redo) → Took n (stepped_by n z o) (undone o left)
step_as n z left None = rests (stays n) tt
step_as n z left (Some redo) =
    rests (record { plan = refl; course = map-set_same course_of n.sessions z (one_less (session_at n z)) new_session refl }) (refl, tt)

pub took_step_back : (n : Inst) (z : ℕ) → Took n (stepped_back n z) (back_tells n z)
took_step_back n z = step_as n z ((session_at n z).standing - 1) (record_of (back_decided n z))

-- EndStmt

-- an answer without a block: the line has started, or its session isn't connected
abbrev Answered : Inst → ℕ → Answer → Type 0
Answered n z a = ((course_at n z).idle ≡ false) ⊎ ((is_some (line_at n z) ≡ true) × (a ≡ answer.NotConnected))

lost_answer : (n : Inst) (z : ℕ) (idle : Bool) (a : Answer) → is_some (line_at n z) ≡ true → (if idle then Some answer.NotConnected else None) ≡ Some a → Answered n z a
lost_answer n z true a line e = inr (line, sym (same_Some answer.NotConnected a e))
lost_answer n z false a line e = absurd (none-some a e)

going_answer : (n : Inst) (z : ℕ) (going : Bool) (a : Answer) → is_going n z ≡ going
    → (if going then answer_of (session_at n z) (asks_at n z) else None) ≡ Some a → Answered n z a
going_answer n z true a is e =
    inl (runs_busy (session_at n z).doing (and_parts (is_up n.life && not (is_stopped n z)) (is_some (snapshot_of (session_at n z).doing)) is).1)
going_answer n z false a is e = absurd (none-some a e)

connected_answer : (n : Inst) (z : ℕ) (lacks : Bool) (a : Answer) → is_some (line_at n z) ≡ true
    → (if lacks then if_lost (session_at n z) else if is_going n z then answer_of (session_at n z) (asks_at n z) else None) ≡ Some a → Answered n z a
connected_answer n z true a line e = lost_answer n z (is_idle (session_at n z).doing) a line e
connected_answer n z false a line e = going_answer n z (is_going n z) a refl e

or_none : (p : Bool) (o : Option Line) → (p || is_none o) ≡ false → is_some o ≡ true
or_none true o e = absurd (let no : false ≡ true = sym e in cc)
or_none false (Some line) e = refl
or_none false None e = absurd (let no : false ≡ true = sym e in cc)

answer_by : (n : Inst) (z : ℕ) (stops : Bool) (a : Answer) → (n.paused || is_none (line_now n z)) ≡ stops
    → (if stops then None
    else if not (session_at n z).connected then if_lost (session_at n z)
    else if is_going n z then answer_of (session_at n z) (asks_at n z)
    else None) ≡ Some a → Answered n z a
answer_by n z true a is e = absurd (none-some a e)
answer_by n z false a is e =
    connected_answer n z (not (session_at n z).connected) a (line_of_now n z (or_none n.paused (line_now n z) is)) e

end_answers : (n : Inst) (z : ℕ) (a : Answer) → answered (answer_tells (stmt_at n z) a) ≡ Some (stmt_at n z)
end_answers n z answer.Plain = refl
end_answers n z answer.NoSavepoint = refl
end_answers n z answer.NotConnected = refl

end_may : (n : Inst) (z : ℕ) (a : Answer) → Answered n z a → MayAnswer n z (answer_tells (stmt_at n z) a)
end_may n z a (inl busy) = inl busy
end_may n z a (inr p) = inr (p.0, ap (λ (x : Answer). answer_tells (stmt_at n z) x) p.1)

end_as : (n : Inst) (z : ℕ) (o : Option Answer) → answer_at n z ≡ o → Took n (ended_by n z o) (tells_if (stmt_at n z) o)
end_as n z None is = rests (stays n) tt
end_as n z (Some a) is =
    answers z (answer_tells (stmt_at n z) a) refl (end_may n z a (answer_by n z (n.paused || is_none (line_now n z)) a refl is))
    (map-set course_of n.sessions z (ended_as (asks_at n z) a (session_at n z))) (end_answers n z a) refl

pub took_end : (n : Inst) (z : ℕ) → Took n (ended n z) (end_tells n z)
took_end n z = end_as n z (answer_at n z) refl

-- Broadcast and Ack

disk_busy : (d : Doing) (x : Ending) → if_on_disk (ending_of d) ≡ Some x → is_idle d ≡ false
disk_busy (Ends ending) x e = refl
disk_busy Idle x e = absurd (none-some x e)
disk_busy (Runs snapshot) x e = refl

told_as : (n : Inst) (epoch z : ℕ) (o : Option Ending) → durable_ending n z ≡ o → Took n (with_told n epoch z o) []
told_as n epoch z None is = rests (stays n) tt
told_as n epoch z (Some x) is =
    rests (with_stays n z (ending_by (told_in epoch x) (session_at n z)) (busy_course (session_at n z) (disk_busy (session_at n z).doing x is))) tt

pub took_broadcast : (n : Inst) (core : Core) (z : ℕ) → Took n (broadcast n core z) []
took_broadcast n core z = told_as n core.members.epoch z (durable_ending n z) refl

ack_answers : (stmt : ℕ) (x : Ending) (commit : Bool) → answered (if commit then entry.Acked stmt x.xid x.scn else entry.Plain stmt) ≡ Some stmt
ack_answers stmt x true = refl
ack_answers stmt x false = refl

ack_as : (n : Inst) (z : ℕ) (o : Option Ending) → durable_ending n z ≡ o → Took n (with_acked n z o) (acked_tells (stmt_at n z) o)
ack_as n z None is = rests (stays n) tt
ack_as n z (Some x) is =
    answers z (ack_tells (stmt_at n z) x) refl (inl (disk_busy (session_at n z).doing x is))
    (map-set course_of n.sessions z (acked_session (session_at n z))) (ack_answers (stmt_at n z) x x.commit) refl

pub took_ack : (n : Inst) (z : ℕ) → Took n (acked n z) (acked_tells (stmt_at n z) (durable_ending n z))
took_ack n z = ack_as n z (durable_ending n z) refl
