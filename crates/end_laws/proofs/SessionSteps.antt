-- What the steps for a session's line do to its transaction.
use Rattle.std.proofs.Common.{◌≡◌, ℕ, ◌-◌, ◌≤◌, ◌&&◌, ◌||◌, Bool, true, false, not, List, [], ◌∷◌, map, Option, Some, None, if◌then◌else◌, refl, sym, ap, subst, ◌∙◌}
use Rattle.std.specs.Prelude.{is_none, is_some, slice_set}
use Rattle.std.specs.Option.{option_and_then, option_map}
use Rattle.std.proofs.Math.Nat.{le-max_left, le_refl}
use Rattle.std.proofs.lemmas.Bool.{and_parts}
use Rattle.std.proofs.lemmas.List.{map-set}
use Rattle.std.proofs.Math.Seq.{map-set_same}
use Rattle.std.proofs.lemmas.Option.{none-some, same_Some}
use Rattle.base_types.specs.declared.value.Value.{Value}
use Rattle.block_image.specs.Block.{BlockContent}
use Rattle.redo_types.specs.declared.redo.Redo.{Redo}
use Rattle.scn_clock.specs.Clock.{learnt}
use Rattle.journal.specs.declared.entry.Entry.TheVariants as entry
use Rattle.txn_engine.specs.declared.ask.Decision.{Decision}
use Rattle.txn_engine.specs.declared.ask.Decision.TheVariants as decision
use Rattle.cr_copy.specs.declared.made.Made.{Made}
use Rattle.cr_copy.specs.declared.made.Made.TheVariants as made
use Rattle.inst_state.specs.declared.inst.Inst.{Inst}
use Rattle.inst_state.specs.declared.line.Asks.{Asks}
use Rattle.inst_state.specs.declared.line.Asks.TheVariants.{Change}
use Rattle.inst_state.specs.declared.needs.Needed.{Needed}
use Rattle.inst_state.specs.declared.session.Doing.{Doing}
use Rattle.inst_state.specs.declared.session.Doing.TheVariants.{Ends, Idle, Runs}
use Rattle.inst_state.specs.declared.session.Ending.{Ending}
use Rattle.inst_state.specs.declared.session.Session.{Session}
use Rattle.inst_state.specs.declared.shared.Core.{Core}
use Rattle.inst_state.specs.Hand.{image_for, image_in_hand}
use Rattle.inst_state.specs.Needs.{goes_on, needed, needed_by}
use Rattle.inst_state.specs.Sessions.{answered, ending_of, is_idle, new_session, snapshot_of}
use Rattle.inst_state.specs.State.{asks_at, end_waits, is_stopped, is_up, line_now, may_begin, session_at, stmt_at, works}
use Rattle.stmt_steps.specs.declared.answers.Answer.{Answer}
use Rattle.stmt_steps.specs.declared.answers.Answer.TheVariants as answer
use Rattle.stmt_steps.specs.Back.{back_decided, back_tells, record_of, stepped_back, stepped_by, undone}
use Rattle.stmt_steps.specs.Change.{change_decided, change_tells, changed, changed_as, decided_of, decided_on, decision_tells, restarted}
use Rattle.stmt_steps.specs.End.{answer_at, answer_of, answer_tells, end_tells, ended, ended_as, ended_by, if_lost, is_going, tells_if}
use Rattle.stmt_steps.specs.Mark.{end_decided, mark_tells, marked, marked_by, tells_by}
use Rattle.stmt_steps.specs.Start.{begun, first_block, may_start, start_tells, started}
use Rattle.stmt_steps.specs.Visit.{is_last, made_of, range_of, read_made, read_on, reads, refused, rows_so_far, rows_told, session_visited, told_by, visit_tells, visited}
use Rattle.wave_steps.specs.Answers.{acked, acked_session, with_acked}
use Rattle.wave_steps.specs.News.{broadcast, durable_ending, ending_by, if_on_disk, told_in, with_told}
use Rattle.run_laws.specs.Tells.{acked_tells}
use Rattle.end_laws.proofs.Did.{Did, Sets, Stills, acks, changes, goes, keeps, marks, rests, steps}
use Rattle.end_laws.proofs.Parts.{with_keeps}
use Rattle.end_laws.proofs.Stakes.{Stake, awaited_in, awaited_of, stake_at, stake_of, with_stakes}
use Rattle.line_laws.proofs.Moving.{hand_runs}

-- a line that hasn't started, or sees up to a snapshot, waits for no end
idle_waits : (d : Doing) → is_idle d ≡ true → awaited_in d ≡ None
idle_waits Idle e = refl
idle_waits (Runs snapshot) e = refl
idle_waits (Ends ending) e = absurd (let no : false ≡ true = e in cc)

pub runs_waits : (d : Doing) → is_some (snapshot_of d) ≡ true → awaited_in d ≡ None
runs_waits (Runs snapshot) e = refl
runs_waits Idle e = refl
runs_waits (Ends ending) e = absurd (let no : false ≡ true = e in cc)

-- a session whose line has an image in hand waits for no end
in_hand_waits : (n : Inst) (z : ℕ) (image : BlockContent) → image_in_hand n z ≡ Some image → (stake_at n z).awaits ≡ None
in_hand_waits n z image e = runs_waits (session_at n z).doing (hand_runs n z (needed n z) image refl e)

-- an instance of which a session has changed, and nothing else of its transactions
sets : (n m : Inst) (z : ℕ) (s : Session) → m.plan ≡ n.plan → m.ends ≡ n.ends → m.sessions ≡ slice_set n.sessions z s → m.segment.head ≡ n.segment.head
    → m.leading ≡ n.leading → n.clock.scn ≤ m.clock.scn → Sets n m z (stake_of s)
sets n m z s plan ends sessions head leading clock = record {
  same = λ i. record {
    plan = plan i;
    ends = ends i;
    stakes = (ap (λ (l : List Session). map stake_of l) sessions ∙ map-set stake_of n.sessions z s) i;
    head = head i;
    leads = (leading i).leads;
  };
  clock = clock;
}

-- StartStmt

start_idle : (n : Inst) (z : ℕ) → may_start n z ≡ true → is_idle (session_at n z).doing ≡ true
start_idle n z may =
    let b = and_parts (works n && (session_at n z).connected && is_idle (session_at n z).doing && may_begin n z) (not (end_waits n)) may in
    let c = and_parts (works n && (session_at n z).connected && is_idle (session_at n z).doing) (may_begin n z) b.0 in
    (and_parts (works n && (session_at n z).connected) (is_idle (session_at n z).doing) c.0).1

pub did_start : (n : Inst) (core : Core) (z : ℕ) → may_start n z ≡ true → Did n core false (started n z) (start_tells n z ∷ [])
did_start n core z may =
    goes z (session_at n z).next (idle_waits (session_at n z).doing (start_idle n z may))
    (sets n (started n z) z (begun n.clock.known (first_block (asks_at n z)) (session_at n z)) refl refl refl refl refl (le_refl n.clock.scn)) (refl, tt)

-- Visit

-- the place of a session's line behind an answer
abbrev passed : Inst → ℕ → ℕ
passed n z = (answered (session_at n z)).next

visit_rows : (n : Inst) (core : Core) (z : ℕ) (values : List Value) (last : Bool) → is_last (range_of (asks_at n z)) (session_at n z) ≡ last
    → (stake_at n z).awaits ≡ None → (m : Inst) → Sets n m z (stake_of (read_on (range_of (asks_at n z)) values (session_at n z)))
    → Did n core false m (rows_told (stmt_at n z) (range_of (asks_at n z)) values (session_at n z))
visit_rows n core z values last is free m set =
    goes z (if is_last (range_of (asks_at n z)) (session_at n z) then passed n z else (session_at n z).next) free
    (subst (λ (s : Stake). Sets n m z s) (λ i. record {
      next = if is_last (range_of (asks_at n z)) (session_at n z) then passed n z else (session_at n z).next;
      own = (session_at n z).own;
      awaits = rest (is_last (range_of (asks_at n z)) (session_at n z)) i;
    }) set) (still (is_last (range_of (asks_at n z)) (session_at n z)))
  where
    rest : (b : Bool) → awaited_in (if b then Idle else (session_at n z).doing) ≡ None
    rest true = refl
    rest false = free

    still : (b : Bool) → Stills (if b then entry.Rows (stmt_at n z) (rows_so_far (range_of (asks_at n z)) values (session_at n z)) ∷ [] else [])
    still true = (refl, tt)
    still false = tt

visit_made : (n : Inst) (core : Core) (z : ℕ) (o : Option Made) → (is_some o ≡ true → (stake_at n z).awaits ≡ None) → (m : Inst)
    → Sets n m z (stake_of (session_visited (range_of (asks_at n z)) o (session_at n z)))
    → Did n core false m (told_by (stmt_at n z) (range_of (asks_at n z)) o (session_at n z))
visit_made n core z (Some (made.Rows values)) free m set =
    visit_rows n core z values (is_last (range_of (asks_at n z)) (session_at n z)) refl (free refl) m set
visit_made n core z (Some (made.TooOld cause)) free m set =
    goes z (passed n z) (free refl) set (refl, tt)
visit_made n core z _ free m set = rests (record {
  same = set.same ∙ ap (with_stakes n) (sym (map-set stake_of n.sessions z (session_at n z)) ∙ map-set_same stake_of n.sessions z (session_at n z) new_session refl);
  clock = set.clock;
}) tt

made_waits : (n : Inst) (z : ℕ) (read : Bool) (o : Option BlockContent) → image_in_hand n z ≡ o
    → is_some (if read then option_map (made_of n z) o else None) ≡ true → (stake_at n z).awaits ≡ None
made_waits n z true (Some image) is e = in_hand_waits n z image is
made_waits n z true None is e = absurd (let no : false ≡ true = e in cc)
made_waits n z false o is e = absurd (let no : false ≡ true = e in cc)

pub did_visit : (n : Inst) (core : Core) (z : ℕ) → Did n core false (visited n z) (visit_tells n z)
did_visit n core z =
    visit_made n core z (read_made n z) (made_waits n z (reads (asks_at n z)) (image_in_hand n z) refl) (visited n z)
    (sets n (visited n z) z (session_visited (range_of (asks_at n z)) (read_made n z) (session_at n z)) refl refl refl refl refl (le_refl n.clock.scn))

-- Change

change_as : (n : Inst) (core : Core) (z : ℕ) (o : Option Decision) → change_decided n z ≡ o → (is_some o ≡ true → (stake_at n z).awaits ≡ None)
    → Did n core false (changed_as n z o) (decision_tells n z o)
change_as n core z (Some (decision.Do redo)) is free = changes z redo is refl refl
change_as n core z (Some (decision.Refuse cause)) is free =
    goes z (passed n z) (free refl) (sets n _ z (refused (session_at n z)) refl refl refl refl refl (le_refl n.clock.scn)) (refl, tt)
change_as n core z (Some (decision.Restart end)) is free =
    goes z (session_at n z).next (free refl)
    (sets n _ z (restarted (learnt n.clock end).known (session_at n z)) refl refl refl refl refl (le-max_left n.clock.scn end)) (refl, tt)
change_as n core z (Some decision.AlreadyMine) is free =
    goes z (passed n z) (free refl)
    (sets n _ z (answered (record (session_at n z) { job = record (session_at n z).job { handed_for = None } })) refl refl refl refl refl (le_refl n.clock.scn))
    (refl, tt)
change_as n core z _ is free = rests (keeps n) tt

decided_runs : (n : Inst) (z : ℕ) (asks : Option Asks) (o : Option BlockContent) → image_in_hand n z ≡ o → is_some (decided_of n z asks) ≡ true
    → is_some (snapshot_of (session_at n z).doing) ≡ true
decided_runs n z (Some (Change row wish)) (Some image) is e = hand_runs n z (needed n z) image refl is
decided_runs n z (Some (Change row wish)) None is e =
    absurd (let no : false ≡ true = sym (ap (λ (o : Option BlockContent). is_some (option_map (decided_on n z row wish) o)) is) ∙ e in cc)
decided_runs n z _ o is e = absurd (let no : false ≡ true = e in cc)

-- a session whose row is changed has its line under way
pub change_runs : (n : Inst) (z : ℕ) (redo : Redo) → change_decided n z ≡ Some (decision.Do redo) → is_some (snapshot_of (session_at n z).doing) ≡ true
change_runs n z redo is = decided_runs n z (asks_at n z) (image_in_hand n z) refl (ap (λ (o : Option Decision). is_some o) is)

-- a session whose row is changed waits for no end
pub change_free : (n : Inst) (z : ℕ) (redo : Redo) → change_decided n z ≡ Some (decision.Do redo) → (stake_at n z).awaits ≡ None
change_free n z redo is = runs_waits (session_at n z).doing (change_runs n z redo is)

pub did_change : (n : Inst) (core : Core) (z : ℕ) → Did n core false (changed n z) (change_tells n z)
did_change n core z =
    change_as n core z (change_decided n z) refl
    (λ some. runs_waits (session_at n z).doing (decided_runs n z (asks_at n z) (image_in_hand n z) refl some))

-- Mark

mark_as : (n : Inst) (core : Core) (z : ℕ) (o : Option Redo) → end_decided n z ≡ o → Did n core false (marked_by n z o) (tells_by n z o)
mark_as n core z None is = rests (keeps n) tt
mark_as n core z (Some redo) is = marks z redo is refl refl

pub did_mark : (n : Inst) (core : Core) (z : ℕ) → Did n core false (marked n z) (mark_tells n z)
did_mark n core z = mark_as n core z (end_decided n z) refl

-- StepBack

step_as : (n : Inst) (core : Core) (z left : ℕ) (o : Option Redo) → record_of (back_decided n z) ≡ o → Did n core false (stepped_by n z o) (undone o left)
step_as n core z left None is = rests (keeps n) tt
step_as n core z left (Some redo) is = steps z left redo is refl refl

pub did_step_back : (n : Inst) (core : Core) (z : ℕ) → Did n core false (stepped_back n z) (back_tells n z)
did_step_back n core z = step_as n core z ((session_at n z).standing - 1) (record_of (back_decided n z)) refl

-- EndStmt

lost_waits : (n : Inst) (z : ℕ) (idle : Bool) (a : Answer) → is_idle (session_at n z).doing ≡ idle → (if idle then Some answer.NotConnected else None) ≡ Some a
    → (stake_at n z).awaits ≡ None
lost_waits n z true a is e = idle_waits (session_at n z).doing is
lost_waits n z false a is e = absurd (none-some a e)

going_waits : (n : Inst) (z : ℕ) (going : Bool) (a : Answer) → is_going n z ≡ going
    → (if going then answer_of (session_at n z) (asks_at n z) else None) ≡ Some a → (stake_at n z).awaits ≡ None
going_waits n z true a is e =
    runs_waits (session_at n z).doing (and_parts (is_up n.life && not (is_stopped n z)) (is_some (snapshot_of (session_at n z).doing)) is).1
going_waits n z false a is e = absurd (none-some a e)

connected_waits : (n : Inst) (z : ℕ) (lacks : Bool) (a : Answer)
    → (if lacks then if_lost (session_at n z) else if is_going n z then answer_of (session_at n z) (asks_at n z) else None) ≡ Some a
    → (stake_at n z).awaits ≡ None
connected_waits n z true a e = lost_waits n z (is_idle (session_at n z).doing) a refl e
connected_waits n z false a e = going_waits n z (is_going n z) a refl e

answer_waits : (n : Inst) (z : ℕ) (stops : Bool) (a : Answer)
    → (if stops then None
    else if not (session_at n z).connected then if_lost (session_at n z)
    else if is_going n z then answer_of (session_at n z) (asks_at n z)
    else None) ≡ Some a → (stake_at n z).awaits ≡ None
answer_waits n z true a e = absurd (none-some a e)
answer_waits n z false a e = connected_waits n z (not (session_at n z).connected) a e

end_still : (stmt : ℕ) (a : Answer) → Stills (answer_tells stmt a ∷ [])
end_still stmt answer.Plain = (refl, tt)
end_still stmt answer.NoSavepoint = (refl, tt)
end_still stmt answer.NotConnected = (refl, tt)

end_as : (n : Inst) (core : Core) (z : ℕ) (o : Option Answer) → answer_at n z ≡ o → Did n core false (ended_by n z o) (tells_if (stmt_at n z) o)
end_as n core z None is = rests (keeps n) tt
end_as n core z (Some a) is =
    goes z (passed n z) (answer_waits n z (n.paused || is_none (line_now n z)) a is)
    (sets n _ z (ended_as (asks_at n z) a (session_at n z)) refl refl refl refl refl (le_refl n.clock.scn)) (end_still (stmt_at n z) a)

pub did_end : (n : Inst) (core : Core) (z : ℕ) → Did n core false (ended n z) (end_tells n z)
did_end n core z = end_as n core z (answer_at n z) refl

-- Broadcast and Ack

durable_if : (on_disk : Bool) (ending x : Ending) → ending.on_disk ≡ on_disk → (if on_disk then Some ending else None) ≡ Some x
    → (ending ≡ x) × (x.on_disk ≡ true)
durable_if true ending x is e =
    let same : ending ≡ x = same_Some ending x e in (same, subst (λ (it : Ending). it.on_disk ≡ true) same is)
durable_if false ending x is e = absurd (none-some x e)

-- a session whose end is on the disk waits for it
durable_waits : (d : Doing) (x : Ending) → if_on_disk (ending_of d) ≡ Some x → (awaited_in d ≡ Some (awaited_of x)) × (x.on_disk ≡ true)
durable_waits (Ends ending) x e =
    let it = durable_if ending.on_disk ending x refl e in (ap (λ (a : Ending). Some (awaited_of a)) it.0, it.1)
durable_waits Idle x e = absurd (none-some x e)
durable_waits (Runs snapshot) x e = absurd (none-some x e)

told_as : (n : Inst) (core : Core) (epoch z : ℕ) (o : Option Ending) → durable_ending n z ≡ o → Did n core false (with_told n epoch z o) []
told_as n core epoch z None is = rests (keeps n) tt
told_as n core epoch z (Some x) is =
    rests (with_keeps n z (ending_by (told_in epoch x) (session_at n z)) (λ i. record {
      next = (session_at n z).next;
      own = (session_at n z).own;
      awaits = (sym (durable_waits (session_at n z).doing x is).0) i;
    })) tt

pub did_broadcast : (n : Inst) (core : Core) (z : ℕ) → Did n core false (broadcast n core z) []
did_broadcast n core z = told_as n core core.members.epoch z (durable_ending n z) refl

ack_as : (n : Inst) (core : Core) (z : ℕ) (o : Option Ending) → durable_ending n z ≡ o → Did n core false (with_acked n z o) (acked_tells (stmt_at n z) o)
ack_as n core z None is = rests (keeps n) tt
ack_as n core z (Some x) is =
    let it = durable_waits (session_at n z).doing x is in
    acks z (passed n z) (awaited_of x) (entry.Plain (stmt_at n z)) it.0 it.1
    (sets n _ z (acked_session (session_at n z)) refl refl refl refl refl (le_refl n.clock.scn)) refl refl

pub did_ack : (n : Inst) (core : Core) (z : ℕ) → Did n core false (acked n z) (acked_tells (stmt_at n z) (durable_ending n z))
did_ack n core z = ack_as n core z (durable_ending n z) refl
