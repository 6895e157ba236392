-- What a step leaves true of the ends that the sessions of an instance wait for.
use Rattle.std.proofs.Common.{◌≡◌, ℕ, zero, suc, ◌<◌, Bool, true, false, List, [], ◌∷◌, ◌++◌, length, Option, Some, None, IfSome, if◌then◌else◌, refl, sym, ap, subst, ◌∙◌, ◌⊎◌, inl, inr, arith}
use Rattle.std.specs.Prelude.{◌+◌, is_some, slice_set, slice_index_or}
use Rattle.std.specs.List.{AllByRecursion, fold}
use Rattle.std.proofs.Math.ListN.{get_or-map}
use Rattle.std.proofs.lemmas.Bool.{cases_eq}
use Rattle.std.proofs.lemmas.List.{get_or-set_other, get_or-set_same, length-map, map-set}
use Rattle.std.proofs.Math.Seq.{map-set_same}
use Rattle.std.proofs.lemmas.Option.{none-some}
use Rattle.base_types.specs.declared.names.Scn.{Scn}
use Rattle.base_types.specs.declared.names.Xid.{Xid}
use Rattle.redo_types.specs.declared.redo.Redo.{Redo}
use Rattle.redo_types.specs.declared.redo.RedoKind.{RedoKind}
use Rattle.redo_types.specs.declared.redo.RedoKind.TheVariants as kind
use Rattle.redo_record.specs.Redo.{length_of}
use Rattle.journal.specs.declared.entry.Entry.{Entry}
use Rattle.journal.specs.declared.entry.Entry.TheVariants as entry
use Rattle.journal.specs.declared.cause.Cause.TheVariants as cause
use Rattle.journal.specs.Good.{AckIsProper}
use Rattle.journal.specs.Past.{Each, Past}
use Rattle.journal.specs.Stood.{is_commit_at, is_mark_by, stood}
use Rattle.txn_engine.specs.declared.ask.Decision.TheVariants.{Do}
use Rattle.inst_state.specs.declared.inst.Inst.{Inst}
use Rattle.inst_state.specs.declared.inst.WaitingEnd.{WaitingEnd}
use Rattle.inst_state.specs.declared.plan.Plan.{Plan}
use Rattle.inst_state.specs.declared.session.Doing.{Doing}
use Rattle.inst_state.specs.declared.session.Doing.TheVariants.{Ends, Idle, Runs}
use Rattle.inst_state.specs.declared.session.Session.{Session}
use Rattle.inst_state.specs.declared.shared.Core.{Core}
use Rattle.inst_state.specs.Sessions.{answered, is_idle, new_session, snapshot_of}
use Rattle.inst_state.specs.State.{asks_at, session_at, stmt_at}
use Rattle.inst_loss.specs.Lost.{lost, lost_session}
use Rattle.inst_loss.specs.LostCore.{is_kept_commit, with_commit, with_refusal}
use Rattle.inst_loss.specs.declared.ends.Loss.{Loss}
use Rattle.inst_loss.specs.declared.ends.Loss.TheVariants as loss
use Rattle.disk_steps.specs.Force.{all_forced, commit_told, end_on_disk, end_told_to, session_on_disk, with_end_on_disk}
use Rattle.stmt_steps.specs.Back.{one_less, stepped_by}
use Rattle.stmt_steps.specs.Change.{change_decided, changed_by, record_tells, row_changed, row_of}
use Rattle.stmt_steps.specs.Mark.{commits, end_decided, end_kind, end_made, end_of_txn, ending, kind_of, waiting_end}
use Rattle.stmt_steps.specs.Mark.{end_tells as mark_entry}
use Rattle.thread_steps.specs.Read.{is_news, record_entered, records_entered}
use Rattle.thread_steps.specs.declared.found.FoundLog.{FoundLog}
use Rattle.run_laws.proofs.Folds.{fold_front, told_where}
use Rattle.run_laws.specs.Tells.{kept_tells, log_tells, loss_entry, lost_tells}
use Rattle.line_laws.proofs.Courses.{Course, same_course}
use Rattle.line_laws.proofs.Parts.{forced_stays}
use Rattle.end_laws.proofs.Backs.{all_append, Backs, Honest, IsBacked, IsFree, IsTied, Ties, Waits, all_apart, backs_on, entered_stands, honest_freed, honest_on, marked_stands, set_or, stake_in, stood_on}
use Rattle.end_laws.proofs.Did.{Did, IsBackground, Keeps, Leads, Sets, Stills, acks, changes, forces, goes, is_rollback, is_still, leads, loses, marks, reads, restores, rests, steps, waits_not}
use Rattle.end_laws.proofs.SessionSteps.{change_free, runs_waits}
use Rattle.end_laws.proofs.Stakes.{Awaited, Ledger, Stake, awaited_in, stake_at, stake_is, stake_of, stakes, stmt_in, stmt_is}

-- An entry isn't the answer of a commit.
abbrev pub is_unacked : Entry → Bool
is_unacked (entry.Acked stmt x commit_scn) = false
is_unacked _ = true

abbrev pub Unackeds : List Entry → Type 0
Unackeds es = AllByRecursion (λ e. is_unacked e ≡ true) es

unacked_proper : (past : Past) (e : Entry) → is_unacked e ≡ true → AckIsProper past e
unacked_proper past (entry.Acked stmt x c) e = absurd (let no : false ≡ true = e in cc)
unacked_proper past _ e = tt

proper_on : (es past : Past) → Unackeds es → Each AckIsProper past → Each AckIsProper (es ++ past)
proper_on [] past none proper = proper
proper_on (e ∷ es) past none proper = (unacked_proper (es ++ past) e none.0, proper_on es past none.1 proper)

still_unacked : (e : Entry) → is_still e ≡ true → is_unacked e ≡ true
still_unacked (entry.Acked stmt x c) is = is
still_unacked _ is = refl

stills_unacked : (es : List Entry) → Stills es → Unackeds es
stills_unacked [] none = tt
stills_unacked (e ∷ es) none = (still_unacked e none.0, stills_unacked es none.1)

rollback_unacked : (e : Entry) → is_rollback e ≡ true → is_unacked e ≡ true
rollback_unacked (entry.Acked stmt x c) is = is
rollback_unacked _ is = refl

unacked_append : (xs ys : List Entry) → Unackeds xs → Unackeds ys → Unackeds (xs ++ ys)
unacked_append [] ys a b = b
unacked_append (x ∷ xs) ys a b = (a.0, unacked_append xs ys a.1 b)

unacked_fold : {A : Type 0} (f : List Entry → A → List Entry) → ((es : List Entry) (x : A) → Unackeds es → Unackeds (f es x)) → (xs : List A) (es : List Entry)
    → Unackeds es → Unackeds (fold f es xs)
unacked_fold {A = A} f each [] es q = q
unacked_fold {A = A} f each (x ∷ xs) es q = unacked_fold f each xs (f es x) (each es x q)

unacked_if : (b : Bool) (e : Entry) (es : List Entry) → is_unacked e ≡ true → Unackeds es → Unackeds (if b then e ∷ es else es)
unacked_if true e es is q = (is, q)
unacked_if false e es is q = q

unacked_unless : (b : Bool) (e : Entry) (es : List Entry) → is_unacked e ≡ true → Unackeds es → Unackeds (if b then es else e ∷ es)
unacked_unless true e es is q = q
unacked_unless false e es is q = (is, q)

unacked_records : (thread at : ℕ) (records : List Redo) (core : Core) → Unackeds core.journal → Unackeds (records_entered thread at records core).journal
unacked_records thread at [] core q = q
unacked_records thread at (redo ∷ records) core q =
    let behind = at + length_of redo.kind in
    unacked_records thread behind records (record_entered thread behind redo core)
    (unacked_if (is_news core thread behind redo) (entry.Committed redo.xid redo.scn thread) core.journal refl q)

unacked_log : (core : Core) (thread : ℕ) (log : FoundLog) → Unackeds (log_tells core thread log)
unacked_log core thread log = unacked_records thread log.position log.read.records (record core { journal = [] }) tt

unacked_kept : (n : Inst) (kept : Option ℕ) → Unackeds (kept_tells n kept)
unacked_kept n None = tt
unacked_kept n (Some kept) = unacked_fold (with_commit n.plan.me kept)
    (λ es end q. unacked_if (is_kept_commit kept end) (entry.Committed end.xid end.scn n.plan.me) es refl q) n.ends [] tt

unacked_loss : (n : Inst) (it : Loss) → is_unacked (loss_entry n it) ≡ true
unacked_loss n (loss.Crashed number) = refl
unacked_loss n (loss.Ended bad) = refl

unacked_lost : (n : Inst) (it : Loss) (kept : Option ℕ) → Unackeds (lost_tells n it kept)
unacked_lost n it kept =
    unacked_append (fold (with_refusal n) [] n.plan.mine) (loss_entry n it ∷ kept_tells n kept)
    (unacked_fold (with_refusal n) (λ es z q. unacked_unless (is_idle (session_at n z).doing) (entry.Refused (stmt_at n z) cause.Lost) es refl q) n.plan.mine [] tt)
    (unacked_loss n it, unacked_kept n kept)

unacked_forced : (n : Inst) → Unackeds (fold (commit_told n.plan.me) [] n.ends)
unacked_forced n = unacked_fold (commit_told n.plan.me) (λ es end q. unacked_if end.commit (entry.Committed end.xid end.scn n.plan.me) es refl q) n.ends [] tt

-- What a step leaves: what sessions wait for is backed by the journal, and each answer of a commit is proper.
abbrev pub IsHonest : Inst → Past → Type 0
IsHonest n past = Honest n.plan n.ends (stakes n) past

pub record Leaves (m : Inst) (now : Past) : Type 0 where
  pub honest : IsHonest m now
  pub proper : Each AckIsProper now

honest_as : (n m : Inst) (past : Past) → m.plan ≡ n.plan → m.ends ≡ n.ends → stakes m ≡ stakes n → IsHonest n past → IsHonest m past
honest_as n m past plan ends same was =
    subst (λ (p : Plan). Honest p m.ends (stakes m) past) (sym plan)
    (subst (λ (e : List WaitingEnd). Honest n.plan e (stakes m) past) (sym ends)
    (subst (λ (s : List Stake). Honest n.plan n.ends s past) (sym same) was))

pub honest_kept : (n m : Inst) (past : Past) → Keeps n m → IsHonest n past → IsHonest m past
honest_kept n m past same was = subst (λ (l : Ledger). Honest l.plan l.ends l.stakes past) (sym same.same) was

honest_sets : (n m : Inst) (past : Past) (z : ℕ) (s : Stake) → Sets n m z s → IsFree (stake_at n z).awaits → s.awaits ≡ None → IsHonest n past → IsHonest m past
honest_sets n m past z s set free none was =
    subst (λ (l : Ledger). Honest l.plan l.ends l.stakes past) (sym set.same)
    (honest_freed n.plan n.ends (stakes n) past z s (subst (λ (x : Stake). IsFree x.awaits) (sym (stake_is n z)) free) none was)

free_none : (o : Option Awaited) → o ≡ None → IsFree o
free_none None e = tt
free_none (Some a) e = absurd (none-some a (sym e))

leave_quietly : (m : Inst) (es past : Past) → Unackeds es → IsHonest m past → Each AckIsProper past → Leaves m (es ++ past)
leave_quietly m es past none honest proper = record {
  honest = honest_on m.plan m.ends (stakes m) es past honest;
  proper = proper_on es past none proper;
}

-- an answer of an end

ack_proper : (past : Past) (stmt : ℕ) (a : Awaited) (e : Entry) (commit : Bool) → a.commit ≡ commit → a.on_disk ≡ true → is_still e ≡ true
    → Backs past stmt (Some a) → AckIsProper past (if commit then entry.Acked stmt a.xid a.scn else e)
ack_proper past stmt a e true is durable still backs = let it = backs is in (it.mark, it.entered durable)
ack_proper past stmt a e false is durable still backs = unacked_proper past e (still_unacked e still)

backed_at : (n : Inst) (past : Past) (z : ℕ) (a : Awaited) → (stake_at n z).awaits ≡ Some a → IsHonest n past → Backs past (stmt_at n z) (Some a)
backed_at n past z a is was =
    subst (λ (o : Option Awaited). Backs past (stmt_at n z) o) is
    (subst (λ (k : ℕ). Backs past k (stake_at n z).awaits) (sym (stmt_is n z))
    (subst (λ (s : Stake). Backs past (stmt_in n.plan z s.next) s.awaits) (stake_is n z) (was.backed z)))

leave_acks : (n m : Inst) (past : Past) (z next : ℕ) (a : Awaited) (e : Entry) → (stake_at n z).awaits ≡ Some a → a.on_disk ≡ true
    → Sets n m z (waits_not next (stake_at n z)) → is_still e ≡ true → IsHonest n past → Each AckIsProper past
    → Leaves m ((if a.commit then entry.Acked (stmt_at n z) a.xid a.scn else e) ∷ past)
leave_acks n m past z next a e is durable set still was proper =
    let x = if a.commit then entry.Acked (stmt_at n z) a.xid a.scn else e in
    record {
      honest = honest_on m.plan m.ends (stakes m) (x ∷ []) past
          (honest_sets n m past z (waits_not next (stake_at n z)) set (subst IsFree (sym is) durable) refl was);
      proper = (ack_proper past (stmt_at n z) a e a.commit refl durable still (backed_at n past z a is was), proper);
    }

-- a change of a row, and a step back

row_unacked : (stmt row : ℕ) (redo : Redo) (k : RedoKind) → is_unacked (record_tells stmt row redo k) ≡ true
row_unacked stmt row redo kind.Lock = refl
row_unacked stmt row redo _ = refl

honest_changed : (n : Inst) (past : Past) (z : ℕ) (redo : Redo) → change_decided n z ≡ Some (Do redo) → IsHonest n past → IsHonest (row_changed n z redo) past
honest_changed n past z redo is was =
    let s = stake_of (changed_by redo.xid (session_at n z)) in
    subst (λ (l : List Stake). Honest n.plan n.ends l past) (sym (map-set stake_of n.sessions z (changed_by redo.xid (session_at n z))))
    (honest_freed n.plan n.ends (stakes n) past z s
    (subst (λ (x : Stake). IsFree x.awaits) (sym (stake_is n z)) (free_none (stake_at n z).awaits (change_free n z redo is))) refl was)

honest_stepped : (n : Inst) (past : Past) (z : ℕ) (redo : Redo) → IsHonest n past → IsHonest (stepped_by n z (Some redo)) past
honest_stepped n past z redo was =
    subst (λ (l : List Stake). Honest n.plan n.ends l past) (sym (map-set_same stake_of n.sessions z (one_less (session_at n z)) new_session refl)) was

-- a mark

end_runs : (n : Inst) (z : ℕ) (own : Option Xid) (runs : Bool) (redo : Redo) → is_some (snapshot_of (session_at n z).doing) ≡ runs
    → end_of_txn n own (if runs then kind_of (session_at n z) (asks_at n z) else None) ≡ Some redo → is_some (snapshot_of (session_at n z).doing) ≡ true
end_runs n z own true redo is e = is
end_runs n z None false redo is e = absurd (none-some redo e)
end_runs n z (Some x) false redo is e = absurd (none-some redo e)

-- a session whose transaction ends has its line under way
pub mark_runs : (n : Inst) (z : ℕ) (redo : Redo) → end_decided n z ≡ Some redo → is_some (snapshot_of (session_at n z).doing) ≡ true
mark_runs n z redo is = end_runs n z (session_at n z).own (is_some (snapshot_of (session_at n z).doing)) redo refl is

-- a session with a line under way is there
pub runs_within : (sessions : List Session) (z : ℕ) → is_some (snapshot_of (slice_index_or sessions z new_session).doing) ≡ true → z < length sessions
runs_within [] z e = absurd (let no : false ≡ true = e in cc)
runs_within (s ∷ sessions) zero e = omega arith
runs_within (s ∷ sessions) (suc z) e = let at : z < length sessions = runs_within sessions z e in omega arith

mark_backs : (stmt : ℕ) (redo : Redo) (commit : Bool) (past : Past)
    → Backs (mark_entry stmt redo commit ∷ past) stmt (Some (record { xid = redo.xid; scn = redo.scn; commit = commit; on_disk = false }))
mark_backs stmt redo true past = λ is. record {
  mark = marked_stands stmt redo.xid redo.scn past;
  entered = λ durable. absurd (let no : false ≡ true = durable in cc);
}
mark_backs stmt redo false past = λ is. absurd (let no : false ≡ true = is in cc)

mark_unacked : (stmt : ℕ) (redo : Redo) (commit : Bool) → is_unacked (mark_entry stmt redo commit) ≡ true
mark_unacked stmt redo true = refl
mark_unacked stmt redo false = refl

honest_marked : (n : Inst) (past : Past) (z : ℕ) (redo : Redo) (commit : Bool) → end_decided n z ≡ Some redo → IsHonest n past
    → IsHonest (end_made n z redo commit) (mark_entry (stmt_at n z) redo commit ∷ past)
honest_marked n past z redo commit is was =
    subst (λ (l : List Stake). Honest n.plan (n.ends ++ waiting_end n redo commit (Some z) ∷ []) l now) (sym (map-set stake_of n.sessions z session)) (record {
      backed = λ y. by y (set_or (stakes n) z s y (stake_of new_session));
      tied = all_append (IsTied after) n.ends (waiting_end n redo commit (Some z) ∷ []) (all_apart (stakes n) z s n.ends free was.tied) (mine, tt);
    })
  where
    session : Session
    session = ending redo commit (session_at n z)

    s : Stake
    s = stake_of session

    after : List Stake
    after = slice_set (stakes n) z s

    now : Past
    now = mark_entry (stmt_at n z) redo commit ∷ past

    runs : is_some (snapshot_of (session_at n z).doing) ≡ true
    runs = mark_runs n z redo is

    free : IsFree (stake_in (stakes n) z).awaits
    free = subst (λ (x : Stake). IsFree x.awaits) (sym (stake_is n z)) (free_none (stake_at n z).awaits (runs_waits (session_at n z).doing runs))

    there : stake_in after z ≡ s
    there =
        let within : z < length n.sessions = runs_within n.sessions z runs in
        let len : length (stakes n) ≡ length n.sessions = length-map n.sessions stake_of in
        get_or-set_same (stakes n) z s (stake_of new_session) (omega (arith, within, len))

    mine : Waits (waiting_end n redo commit (Some z)) (stake_in after z).awaits
    mine = subst (λ (x : Stake). Waits (waiting_end n redo commit (Some z)) x.awaits) (sym there) (record { xid = refl; scn = refl; commit = refl }, refl)

    by : (y : ℕ) → ((y ≡ z) × (stake_in after y ≡ s)) ⊎ (stake_in after y ≡ stake_in (stakes n) y)
        → Backs now (stmt_in n.plan y (stake_in after y).next) (stake_in after y).awaits
    by y (inl is) =
        subst (λ (x : Stake). Backs now (stmt_in n.plan y x.next) x.awaits) (sym is.1)
        (subst (λ (k : ℕ). Backs now (stmt_in n.plan k s.next) s.awaits) (sym is.0)
        (subst (λ (k : ℕ). Backs now k s.awaits) (stmt_is n z) (mark_backs (stmt_at n z) redo commit past)))
    by y (inr is) =
        subst (λ (x : Stake). Backs now (stmt_in n.plan y x.next) x.awaits) (sym is)
        (backs_on (mark_entry (stmt_at n z) redo commit ∷ []) past (stmt_in n.plan y (stake_in (stakes n) y).next) (stake_in (stakes n) y).awaits (was.backed y))

-- a force

-- what a session waits for among an instance's sessions
abbrev awaits_of : List Session → ℕ → Option Awaited
awaits_of l z = awaited_in (slice_index_or l z new_session).doing

-- the end that a session waits for, once it is on the disk
abbrev durable : Option Awaited → Option Awaited
durable None = None
durable (Some a) = Some (record { xid = a.xid; scn = a.scn; commit = a.commit; on_disk = true })

disk_awaits : (d : Doing) → awaited_in (with_end_on_disk d) ≡ durable (awaited_in d)
disk_awaits Idle = refl
disk_awaits (Runs snapshot) = refl
disk_awaits (Ends ending) = refl

disk_there : (l : List Session) (z : ℕ) → awaits_of (slice_set l z (end_on_disk (slice_index_or l z new_session))) z ≡ durable (awaits_of l z)
disk_there [] z = refl
disk_there (s ∷ l) zero = disk_awaits s.doing
disk_there (s ∷ l) (suc z) = disk_there l z

disk_other : (l : List Session) (z : ℕ) (s : Session) (y : ℕ) → (y ≡ z → ⊥) → awaits_of (slice_set l z s) y ≡ awaits_of l y
disk_other l z s y apart = ap (λ (x : Session). awaited_in x.doing) (get_or-set_other l z y s new_session apart)

-- The session of an end, if it has one, waits for it, whether it is on the disk or not.
abbrev TiedTo : List Session → WaitingEnd → Type 0
TiedTo l end = IfSome end.session (λ z. Ties end (awaits_of l z))

ties_durable : (end : WaitingEnd) (o : Option Awaited) → Ties end o → Ties end (durable o)
ties_durable end None ties = ties
ties_durable end (Some a) ties = record { xid = ties.xid; scn = ties.scn; commit = ties.commit }

told_grows : (commit : Bool) (e : Entry) (past : Past) (stmt : ℕ) (o : Option Awaited) → Backs past stmt o → Backs (if commit then e ∷ past else past) stmt o
told_grows true e past stmt o backs = backs_on (e ∷ []) past stmt o backs
told_grows false e past stmt o backs = backs

-- a commit that has entered backs the session that waits for it
told_backs : (me : ℕ) (end : WaitingEnd) (past : Past) (stmt : ℕ) (o : Option Awaited) → Ties end o → Backs past stmt o → Backs (commit_told me past end) stmt (durable o)
told_backs me end past stmt None ties backs = tt
told_backs me end past stmt (Some a) ties backs = λ commit. (
    let was = backs commit in
    let is : end.commit ≡ true = sym ties.commit ∙ commit in
    subst (λ (j : Past). IsBacked j stmt (record { xid = a.xid; scn = a.scn; commit = a.commit; on_disk = true }))
    (sym (ap (λ (b : Bool). if b then entry.Committed end.xid end.scn me ∷ past else past) is)) (record {
      mark = stood_on (is_mark_by stmt a.xid a.scn) (entry.Committed end.xid end.scn me ∷ []) past was.mark;
      entered = λ on. (
          subst (λ (x : Xid). stood (is_commit_at x a.scn) (entry.Committed end.xid end.scn me ∷ past) ≡ true) (sym ties.xid)
          (subst (λ (c : Scn). stood (is_commit_at end.xid c) (entry.Committed end.xid end.scn me ∷ past) ≡ true) (sym ties.scn)
          (entered_stands end.xid end.scn me past)));
    }))

one_backs : (stmt : ℕ → ℕ) (me : ℕ) (end : WaitingEnd) (l : List Session) (past : Past) (o : Option ℕ) → IfSome o (λ z. Ties end (awaits_of l z))
    → ((z : ℕ) → Backs past (stmt z) (awaits_of l z)) → (z : ℕ) → Backs (commit_told me past end) (stmt z) (awaits_of (session_on_disk l o) z)
one_backs stmt me end l past None ties backs z =
    told_grows end.commit (entry.Committed end.xid end.scn me) past (stmt z) (awaits_of l z) (backs z)
one_backs stmt me end l past (Some y) ties backs z = by (cases_eq z y)
  where
    by : (z ≡ y) ⊎ (z ≡ y → ⊥) → Backs (commit_told me past end) (stmt z) (awaits_of (session_on_disk l (Some y)) z)
    by (inl same) =
        subst (λ (x : ℕ). Backs (commit_told me past end) (stmt x) (awaits_of (session_on_disk l (Some y)) x)) (sym same)
        (subst (λ (o : Option Awaited). Backs (commit_told me past end) (stmt y) o) (sym (disk_there l y))
        (told_backs me end past (stmt y) (awaits_of l y) ties (backs y)))
    by (inr apart) =
        subst (λ (o : Option Awaited). Backs (commit_told me past end) (stmt z) o) (sym (disk_other l y (end_on_disk (slice_index_or l y new_session)) z apart))
        (told_grows end.commit (entry.Committed end.xid end.scn me) past (stmt z) (awaits_of l z) (backs z))

one_tied : (end : WaitingEnd) (l : List Session) (o : Option ℕ) (w : ℕ) → Ties end (awaits_of l w) → Ties end (awaits_of (session_on_disk l o) w)
one_tied end l None w ties = ties
one_tied end l (Some y) w ties = by (cases_eq w y)
  where
    by : (w ≡ y) ⊎ (w ≡ y → ⊥) → Ties end (awaits_of (session_on_disk l (Some y)) w)
    by (inl same) =
        subst (λ (x : ℕ). Ties end (awaits_of (session_on_disk l (Some y)) x)) (sym same)
        (subst (λ (o : Option Awaited). Ties end o) (sym (disk_there l y))
        (ties_durable end (awaits_of l y) (subst (λ (x : ℕ). Ties end (awaits_of l x)) same ties)))
    by (inr apart) = subst (λ (o : Option Awaited). Ties end o) (sym (disk_other l y (end_on_disk (slice_index_or l y new_session)) w apart)) ties

some_tied : (end : WaitingEnd) (l : List Session) (o whose : Option ℕ) → IfSome whose (λ z. Ties end (awaits_of l z))
    → IfSome whose (λ z. Ties end (awaits_of (session_on_disk l o) z))
some_tied end l o None ties = tt
some_tied end l o (Some w) ties = one_tied end l o w ties

all_tied : (l : List Session) (o : Option ℕ) (ends : List WaitingEnd) → AllByRecursion (TiedTo l) ends → AllByRecursion (TiedTo (session_on_disk l o)) ends
all_tied l o [] ties = tt
all_tied l o (end ∷ ends) ties = (some_tied end l o end.session ties.0, all_tied l o ends ties.1)

all_backs : (stmt : ℕ → ℕ) (me : ℕ) (ends : List WaitingEnd) (l : List Session) (past : Past) → AllByRecursion (TiedTo l) ends
    → ((z : ℕ) → Backs past (stmt z) (awaits_of l z)) → (z : ℕ) → Backs (fold (commit_told me) past ends) (stmt z) (awaits_of (fold end_told_to l ends) z)
all_backs stmt me [] l past ties backs = backs
all_backs stmt me (end ∷ ends) l past ties backs =
    all_backs stmt me ends (end_told_to l end) (commit_told me past end) (all_tied l end.session ends ties.1)
    (one_backs stmt me end l past end.session ties.0 backs)

open_ties : (end : WaitingEnd) (o : Option Awaited) → Waits end o → Ties end o
open_ties end None waits = waits
open_ties end (Some a) waits = waits.0

session_tied : (n : Inst) (end : WaitingEnd) (o : Option ℕ) → IfSome o (λ z. Waits end (stake_in (stakes n) z).awaits) → IfSome o (λ z. Ties end (awaits_of n.sessions z))
session_tied n end None tied = tt
session_tied n end (Some z) tied =
    open_ties end (awaits_of n.sessions z) (subst (λ (s : Stake). Waits end s.awaits) (stake_is n z) tied)

sessions_tied : (n : Inst) (ends : List WaitingEnd) → AllByRecursion (IsTied (stakes n)) ends → AllByRecursion (TiedTo n.sessions) ends
sessions_tied n [] tied = tt
sessions_tied n (end ∷ ends) tied = (session_tied n end end.session tied.0, sessions_tied n ends tied.1)

-- what is told in front of a journal
pub told_front : (me : ℕ) (ends : List WaitingEnd) (past : Past) → fold (commit_told me) past ends ≡ fold (commit_told me) [] ends ++ past
told_front me ends past =
    fold_front (commit_told me) (λ es js end. told_where end.commit (entry.Committed end.xid end.scn me) es js) ends [] past

honest_forced : (n : Inst) (past : Past) → IsHonest n past → IsHonest (all_forced n) (fold (commit_told n.plan.me) [] n.ends ++ past)
honest_forced n past was = record {
  backed = λ z. (
      let m = all_forced n in
      let next : (stake_at m z).next ≡ (stake_at n z).next = ap (λ (c : Course). c.next) (same_course n m z (forced_stays n).course) in
      subst (λ (s : Stake). Backs (fold (commit_told n.plan.me) [] n.ends ++ past) (stmt_in n.plan z s.next) s.awaits) (sym (stake_is m z))
      (subst (λ (k : ℕ). Backs (fold (commit_told n.plan.me) [] n.ends ++ past) (stmt_in n.plan z k) (stake_at m z).awaits) (sym next)
      (subst (λ (j : Past). Backs j (stmt_in n.plan z (stake_at n z).next) (stake_at m z).awaits) (told_front n.plan.me n.ends past)
      (all_backs (λ y. stmt_in n.plan y (stake_at n y).next) n.plan.me n.ends n.sessions past (sessions_tied n n.ends was.tied)
      (λ y. subst (λ (s : Stake). Backs past (stmt_in n.plan y s.next) s.awaits) (stake_is n y) (was.backed y)) z))));
  tied = tt;
}

-- the end of an instance

lost_waits : (s : Session) → awaited_in (lost_session s).doing ≡ None
lost_waits s = by (is_idle s.doing) refl
  where
    idle : (d : Doing) → is_idle d ≡ true → awaited_in d ≡ None
    idle Idle e = refl
    idle (Runs snapshot) e = refl
    idle (Ends ending) e = absurd (let no : false ≡ true = e in cc)

    by : (b : Bool) → is_idle s.doing ≡ b → awaited_in (if b then s else answered s).doing ≡ None
    by true is = idle s.doing is
    by false is = refl

honest_lost : (k : Inst) (now : Past) → IsHonest (lost k) now
honest_lost k now = record {
  backed = λ z. (
      let none : (stake_at (lost k) z).awaits ≡ None =
      ap (λ (s : Session). awaited_in s.doing) (get_or-map lost_session k.sessions z new_session) ∙ lost_waits (session_at k z) in
      subst (λ (s : Stake). Backs now (stmt_in k.plan z s.next) s.awaits) (sym (stake_is (lost k) z))
      (subst (λ (o : Option Awaited). Backs now (stmt_in k.plan z (stake_at (lost k) z).next) o) (sym none) tt));
  tied = tt;
}

-- the rollback of a transaction of a down segment

background_tied : (stakes : List Stake) (end : WaitingEnd) (o : Option ℕ) → o ≡ None → IfSome o (λ z. Waits end (stake_in stakes z).awaits)
background_tied stakes end None is = tt
background_tied stakes end (Some z) is = absurd (none-some z (sym is))

honest_leads : (n m : Inst) (past : Past) → Leads n m → IsHonest n past → IsHonest m past
honest_leads n m past it was = by it.ends
  where
    by : (m.ends ≡ n.ends) ⊎ ((end : WaitingEnd) × IsBackground end × (m.ends ≡ n.ends ++ end ∷ [])) → IsHonest m past
    by (inl same) = honest_as n m past it.plan same it.stakes was
    by (inr more) =
        subst (λ (p : Plan). Honest p m.ends (stakes m) past) (sym it.plan)
        (subst (λ (e : List WaitingEnd). Honest n.plan e (stakes m) past) (sym more.2)
        (subst (λ (s : List Stake). Honest n.plan (n.ends ++ more.0 ∷ []) s past) (sym it.stakes) (record {
          backed = was.backed;
          tied = all_append (IsTied (stakes n)) n.ends (more.0 ∷ []) was.tied (background_tied (stakes n) more.0 more.0.session more.1.session, tt);
        })))

-- what a step leaves, whatever it did
pub leave : (n : Inst) (core : Core) (reading : Bool) (m : Inst) (es : List Entry) (past : Past) → Did n core reading m es → IsHonest n past → Each AckIsProper past → Leaves m (es ++ past)
leave n core reading m es past (rests same still) was proper = leave_quietly m es past (stills_unacked es still) (honest_kept n m past same was) proper
leave n core reading m es past (goes z next free set still) was proper =
    leave_quietly m es past (stills_unacked es still) (honest_sets n m past z (waits_not next (stake_at n z)) set (free_none (stake_at n z).awaits free) refl was) proper
leave n core reading m es past (acks z next a e is durable set still told) was proper =
    subst (λ (l : List Entry). Leaves m (l ++ past)) (sym told) (leave_acks n m past z next a e is durable set still was proper)
leave n core reading m es past (changes z redo is made told) was proper =
    subst (λ (l : List Entry). Leaves m (l ++ past)) (sym told)
    (leave_quietly m (record_tells (stmt_at n z) (row_of (asks_at n z)) redo redo.kind ∷ []) past (row_unacked (stmt_at n z) (row_of (asks_at n z)) redo redo.kind, tt)
    (subst (λ (x : Inst). IsHonest x past) (sym made) (honest_changed n past z redo is was)) proper)
leave n core reading m es past (steps z left redo is made told) was proper =
    subst (λ (l : List Entry). Leaves m (l ++ past)) (sym told)
    (leave_quietly m (entry.Undone redo.xid left ∷ []) past (refl, tt) (subst (λ (x : Inst). IsHonest x past) (sym made) (honest_stepped n past z redo was)) proper)
leave n core reading m es past (marks z redo is made told) was proper =
    let commit = commits (end_kind n z) in
    subst (λ (l : List Entry). Leaves m (l ++ past)) (sym told) (record {
      honest = subst (λ (x : Inst). IsHonest x (mark_entry (stmt_at n z) redo commit ∷ past)) (sym made) (honest_marked n past z redo commit is was);
      proper = (unacked_proper past (mark_entry (stmt_at n z) redo commit) (mark_unacked (stmt_at n z) redo commit), proper);
    })
leave n core reading m es past (leads e it back told) was proper =
    subst (λ (l : List Entry). Leaves m (l ++ past)) (sym told)
    (leave_quietly m (e ∷ []) past (rollback_unacked e back, tt) (honest_leads n m past it was) proper)
leave n core reading m es past (forces made told) was proper =
    subst (λ (l : List Entry). Leaves m (l ++ past)) (sym told) (record {
      honest = subst (λ (x : Inst). IsHonest x (fold (commit_told n.plan.me) [] n.ends ++ past)) (sym made) (honest_forced n past was);
      proper = proper_on (fold (commit_told n.plan.me) [] n.ends) past (unacked_forced n) proper;
    })
leave n core reading m es past (loses k it kept log made plan ends seg whence told) was proper = record {
  honest = subst (λ (x : Inst). IsHonest x (es ++ past)) (sym made) (honest_lost k (es ++ past));
  proper = proper_on es past (subst (λ (l : List Entry). Unackeds l) (sym told) (unacked_append (lost_tells k it kept) log (unacked_lost k it kept) (unacked_whence whence))) proper;
}
  where
    unacked_whence : (log ≡ []) ⊎ ((reading ≡ true) × (thread : ℕ) × (found : FoundLog) × (log ≡ log_tells core thread found)) → Unackeds log
    unacked_whence (inl none) = subst (λ (l : List Entry). Unackeds l) (sym none) tt
    unacked_whence (inr some) = subst (λ (l : List Entry). Unackeds l) (sym some.3) (unacked_log core some.1 some.2)
leave n core reading m es past (reads thread log read unrest same told) was proper =
    subst (λ (l : List Entry). Leaves m (l ++ past)) (sym told)
    (leave_quietly m (log_tells core thread log) past (unacked_log core thread log) (honest_kept n m past same was) proper)
leave n core reading m es past (restores unrest same still) was proper =
    leave_quietly m es past (stills_unacked es still) (honest_as n m past same.plan same.ends same.stakes was) proper
