-- A step leaves sessions with the transactions that the journal says they own, where no instance is lost.
use Rattle.std.proofs.Common.{◌≡◌, ℕ, ◌<◌, Bool, true, false, List, [], ◌∷◌, ◌++◌, length, get_or, Option, Some, None, if◌then◌else◌, refl, sym, ap, subst, ◌∙◌, ◌⊎◌, inl, inr, arith}
use Rattle.std.specs.Prelude.{◌==◌, is_some, slice_index_or, slice_set, IsSome, IsSomeAnd}
use Rattle.std.specs.List.{fold}
use Rattle.std.specs.Option.{option_map_or}
use Rattle.std.proofs.lemmas.Bool.{cases_eq, eqb-true}
use Rattle.std.proofs.lemmas.List.{get_or-set_other, get_or-set_same}
use Rattle.std.proofs.Math.Seq.{map-set_same}
use Rattle.std.proofs.lemmas.Option.{none-some, same_Some}
use Rattle.base_types.specs.declared.names.Xid.{Xid}
use Rattle.redo_types.specs.declared.redo.Redo.{Redo}
use Rattle.redo_types.specs.declared.redo.RedoKind.{RedoKind}
use Rattle.redo_types.specs.declared.redo.RedoKind.TheVariants as kind
use Rattle.journal.specs.declared.deeds.Start.{Start}
use Rattle.journal.specs.declared.entry.Entry.{Entry}
use Rattle.journal.specs.declared.entry.Entry.TheVariants as entry
use Rattle.journal.specs.Past.{Past, start_of}
use Rattle.journal.specs.Sees.{is_of, own}
use Rattle.journal.specs.Stood.{stood}
use Rattle.journal.proofs.XidLemmas.{same_xid-refl}
use Rattle.script_text.specs.declared.item.Stmt.{Stmt}
use Rattle.script_text.specs.ScriptParts.{ScriptParts}
use Rattle.script_text.specs.Lines.{stmt_at as script_stmt}
use Rattle.txn_engine.specs.declared.ask.Decision.TheVariants.{Do}
use Rattle.inst_state.specs.declared.inst.Inst.{Inst}
use Rattle.inst_state.specs.declared.inst.WaitingEnd.{WaitingEnd}
use Rattle.inst_state.specs.declared.plan.Plan.{Plan}
use Rattle.inst_state.specs.declared.session.Doing.{Doing}
use Rattle.inst_state.specs.declared.session.Doing.TheVariants.{Ends, Idle, Runs}
use Rattle.inst_state.specs.declared.session.Session.{Session}
use Rattle.inst_state.specs.declared.shared.Core.{Core}
use Rattle.inst_state.specs.Hand.{image_in_hand}
use Rattle.inst_state.specs.Sessions.{is_idle, new_session, snapshot_of}
use Rattle.inst_state.specs.State.{asks_at, session_at, stmt_at}
use Rattle.disk_steps.specs.Force.{all_forced, commit_told, end_on_disk, end_told_to, session_on_disk}
use Rattle.stmt_steps.specs.Back.{one_less, stepped_by}
use Rattle.stmt_steps.specs.Change.{change_decided, changed_by, record_tells, row_changed, row_of}
use Rattle.stmt_steps.specs.Mark.{commits, end_decided, end_kind, end_made, ending}
use Rattle.stmt_steps.specs.Mark.{end_tells as mark_entry}
use Rattle.line_laws.specs.Turns.{AreInTurn}
use Rattle.line_laws.proofs.Courses.{course_at, lines_in}
use Rattle.line_laws.proofs.Losses.{Placed, next_stmt}
use Rattle.line_laws.proofs.Stands.{Stands}
use Rattle.end_laws.specs.Calm.{is_loss}
use Rattle.end_laws.proofs.Backs.{set_or, stake_in}
use Rattle.end_laws.proofs.Calmly.{HasWraps, IsCalm, change_by, lost_is, next_above}
use Rattle.end_laws.proofs.Decisions.{Whose, begins, on}
use Rattle.end_laws.proofs.Did.{Did, IsUnrest, Stills, acks, changes, forces, goes, is_still, leads, loses, marks, reads, restores, rests, steps, waits_not}
use Rattle.end_laws.proofs.Honest.{mark_runs, runs_within}
use Rattle.end_laws.proofs.Marks.{IsOwned, end_is}
use Rattle.end_laws.proofs.Owning.{AreOwns, IsAlone, IsAside, IsChangeBy, IsEnd, aside_are, aside_owns, change_are, change_others, change_owns, end_are, end_others, end_owns, new_alone, owned_alone}
use Rattle.end_laws.proofs.SessionSteps.{change_runs}
use Rattle.end_laws.proofs.Slots.{begins_of}
use Rattle.end_laws.proofs.Sound.{above_unnamed}
use Rattle.end_laws.proofs.Stakes.{Ledger, Stake, same_stake, stake_at, stake_is, stake_of, stakes}

-- A session has lines on the instance with this plan.
abbrev pub HasLines : Plan → ℕ → Type 0
HasLines plan z = 0 < length (lines_in plan z)

-- Each session of an instance owns the transaction that the journal says.
abbrev pub Agrees : Inst → Past → Type 0
Agrees n past = (z : ℕ) → HasLines n.plan z → (session_at n z).own ≡ own z past

-- What a step leaves: so it is of the instance, and no other session owns anything else than before.
pub record Agreed (k m : Inst) (es past : Past) : Type 0 where
  pub agrees : Agrees m (es ++ past)
  pub others : (z : ℕ) → length (lines_in k.plan z) ≡ 0 → own z (es ++ past) ≡ own z past
  pub are : AreOwns (es ++ past)

-- A line that is under way is its session's.
abbrev pub AreStarted : Inst → Past → Type 0
AreStarted k past = (z : ℕ) → is_some (snapshot_of (session_at k z).doing) ≡ true
    → HasLines k.plan z × ((y : ℕ) → is_of y (stmt_at k z) past ≡ (z == y))

-- what started is of its session

started_if : (script : ScriptParts) (n by z : ℕ) (s : ℕ) (st : Start) (before : Option Start) (b : Bool) → (n == by) ≡ b
    → IsSomeAnd (script_stmt script by) (λ stmt. stmt.0 ≡ z) → (before ≡ Some st → IsSomeAnd (script_stmt script n) (λ stmt. stmt.0 ≡ st.session))
    → (if b then Some (record { session = z; snapshot = s }) else before) ≡ Some st → IsSomeAnd (script_stmt script n) (λ stmt. stmt.0 ≡ st.session)
started_if script n by z s st before true is turn later e =
    subst (λ (k : ℕ). IsSomeAnd (script_stmt script k) (λ stmt. stmt.0 ≡ st.session)) (sym (eqb-true n by is))
    (subst (λ (x : Start). IsSomeAnd (script_stmt script by) (λ stmt. stmt.0 ≡ x.session)) (same_Some (record { session = z; snapshot = s }) st e) turn)
started_if script n by z s st before false is turn later e = later e

started_of : (script : ScriptParts) (n : ℕ) (past : Past) (st : Start) → AreInTurn script past → start_of n past ≡ Some st
    → IsSomeAnd (script_stmt script n) (λ stmt. stmt.0 ≡ st.session)
started_of script n [] st turns e = absurd (none-some st e)
started_of script n (entry.Started by z s ∷ past) st turns e =
    started_if script n by z s st (start_of n past) (n == by) refl turns.0.1.0 (started_of script n past st turns.1) e
started_of script n (_ ∷ past) st turns e = started_of script n past st turns.1 e

session_is : (z : ℕ) (what : Stmt) (o : Option (ℕ × Stmt)) (w : ℕ) → o ≡ Some (z, what) → IsSomeAnd o (λ stmt. stmt.0 ≡ w) → w ≡ z
session_is z what None w is some = absurd some
session_is z what (Some stmt) w is some = sym some ∙ ap (λ (p : ℕ × Stmt). p.0) (same_Some stmt (z, what) is)

is_of_by : (z y : ℕ) (o : Option Start) → IsSome o → ((st : Start) → o ≡ Some st → st.session ≡ z) → option_map_or (λ start. start.session == y) o false ≡ (z == y)
is_of_by z y None some same = absurd (let no : false ≡ true = some in cc)
is_of_by z y (Some st) some same = ap (λ (k : ℕ). k == y) (same st refl)

runs_busy : (d : Doing) → is_some (snapshot_of d) ≡ true → is_idle d ≡ false
runs_busy (Runs snapshot) e = refl
runs_busy Idle e = sym e
runs_busy (Ends ending) e = refl

pub are_started : (script : ScriptParts) (k : Inst) (past : Past) (count : ℕ) → Placed script k.plan count → AreInTurn script past
    → ((z : ℕ) → Stands script z (lines_in k.plan z) (course_at k z) past) → AreStarted k past
are_started script k past count placed turns stands z runs =
    let ls = lines_in k.plan z in
    let next = (course_at k z).next in
    let began = (stands z).started (runs_busy (session_at k z).doing runs) in
    let at : next < length ls = began.0 in
    let line = (placed.lines z).are next at in
    let some : IsSome (start_of (stmt_at k z) past) = subst (λ (n : ℕ). IsSome (start_of n past)) (sym (next_stmt k z)) began.1 in
    let is : script_stmt script (stmt_at k z) ≡ Some (z, line.0) = ap (λ (n : ℕ). script_stmt script n) (next_stmt k z) ∙ line.1 in (
      omega (arith, at),
      λ y. is_of_by z y (start_of (stmt_at k z) past) some
          (λ st e. session_is z line.0 (script_stmt script (stmt_at k z)) st.session is (started_of script (stmt_at k z) past st turns e)),
    )

-- entries that leave what sessions own

still_aside : (past : Past) (e : Entry) → is_still e ≡ true → IsAside past e
still_aside past (entry.Changed stmt x row found new) is = absurd (let no : false ≡ true = is in cc)
still_aside past (entry.Locked stmt x row) is = absurd (let no : false ≡ true = is in cc)
still_aside past (entry.Marked stmt x c) is = absurd (let no : false ≡ true = is in cc)
still_aside past (entry.Rolled x) is = absurd (let no : false ≡ true = is in cc)
still_aside past (entry.Crashed line inst) is = absurd (let no : false ≡ true = is in cc)
still_aside past (entry.Ended inst bad) is = absurd (let no : false ≡ true = is in cc)
still_aside past _ is = record { last = λ z before. refl; is_open = λ x before. refl }

abbrev AllAside : List Entry → Past → Type 0
AllAside [] past = Unit {0}
AllAside (e ∷ es) past = IsAside (es ++ past) e × AllAside es past

stills_aside : (es past : Past) → Stills es → AllAside es past
stills_aside [] past still = tt
stills_aside (e ∷ es) past still = (still_aside (es ++ past) e still.0, stills_aside es past still.1)

ack_aside : (past : Past) (b : Bool) (stmt : ℕ) (x : Xid) (c : ℕ) (e : Entry) → is_still e ≡ true → IsAside past (if b then entry.Acked stmt x c else e)
ack_aside past true stmt x c e is = record { last = λ z before. refl; is_open = λ y before. refl }
ack_aside past false stmt x c e is = still_aside past e is

forced_aside : (me : ℕ) (ends : List WaitingEnd) (es past : Past) → AllAside es past → AllAside (fold (commit_told me) es ends) past
forced_aside me [] es past aside = aside
forced_aside me (end ∷ ends) es past aside = forced_aside me ends (commit_told me es end) past (by end.commit)
  where
    by : (b : Bool) → AllAside (if b then entry.Committed end.xid end.scn me ∷ es else es) past
    by true = (record { last = λ z before. refl; is_open = λ y before. refl }, aside)
    by false = aside

all_aside_owns : (z : ℕ) (es past : Past) → AllAside es past → own z (es ++ past) ≡ own z past
all_aside_owns z [] past aside = refl
all_aside_owns z (e ∷ es) past aside = aside_owns z (es ++ past) e aside.0 ∙ all_aside_owns z es past aside.1

all_aside_are : (es past : Past) → AllAside es past → AreOwns past → AreOwns (es ++ past)
all_aside_are [] past aside was = was
all_aside_are (e ∷ es) past aside was = aside_are (es ++ past) e aside.0 (all_aside_are es past aside.1 was)

-- a step that leaves what sessions own
agree_quietly : (k m : Inst) (es past : Past) → m.plan ≡ k.plan → ((z : ℕ) → (session_at m z).own ≡ (session_at k z).own) → AllAside es past → Agrees k past → AreOwns past
    → Agreed k m es past
agree_quietly k m es past plan same aside agrees are = record {
  agrees = λ z has. same z ∙ agrees z (subst (λ (p : Plan). HasLines p z) plan has) ∙ sym (all_aside_owns z es past aside);
  others = λ z none. all_aside_owns z es past aside;
  are = all_aside_are es past aside are;
}

pub kept_own : (n m : Inst) (z : ℕ) → stakes m ≡ stakes n → (session_at m z).own ≡ (session_at n z).own
kept_own n m z e = ap (λ (s : Stake). s.own) (same_stake n m z e)

set_own : (n m : Inst) (z next y : ℕ) → stakes m ≡ slice_set (stakes n) z (waits_not next (stake_at n z)) → (session_at m y).own ≡ (session_at n y).own
set_own n m z next y e =
    ap (λ (s : Stake). s.own) (sym (stake_is m y) ∙ ap (λ (l : List Stake). stake_in l y) e) ∙ by (set_or (stakes n) z s y (stake_of new_session))
  where
    s : Stake
    s = waits_not next (stake_at n z)

    by : ((y ≡ z) × (stake_in (slice_set (stakes n) z s) y ≡ s)) ⊎ (stake_in (slice_set (stakes n) z s) y ≡ stake_in (stakes n) y)
        → (stake_in (slice_set (stakes n) z s) y).own ≡ (session_at n y).own
    by (inl is) = ap (λ (x : Stake). x.own) is.1 ∙ ap (λ (k : ℕ). (session_at n k).own) (sym is.0)
    by (inr is) = ap (λ (x : Stake). x.own) (is ∙ stake_is n y)

-- a force

disk_own : (l : List Session) (o : Option ℕ) (y : ℕ) → (slice_index_or (session_on_disk l o) y new_session).own ≡ (slice_index_or l y new_session).own
disk_own l None y = refl
disk_own l (Some z) y = by (set_or l z (end_on_disk (slice_index_or l z new_session)) y new_session)
  where
    s : Session
    s = end_on_disk (slice_index_or l z new_session)

    by : ((y ≡ z) × (get_or (slice_set l z s) y new_session ≡ s)) ⊎ (get_or (slice_set l z s) y new_session ≡ get_or l y new_session)
        → (get_or (slice_set l z s) y new_session).own ≡ (get_or l y new_session).own
    by (inl is) = ap (λ (x : Session). x.own) is.1 ∙ ap (λ (k : ℕ). (get_or l k new_session).own) (sym is.0)
    by (inr is) = ap (λ (x : Session). x.own) is

forced_own : (ends : List WaitingEnd) (l : List Session) (y : ℕ) → (slice_index_or (fold end_told_to l ends) y new_session).own ≡ (slice_index_or l y new_session).own
forced_own [] l y = refl
forced_own (end ∷ ends) l y = forced_own ends (end_told_to l end) y ∙ disk_own l end.session y

-- a change

row_change : (past : Past) (z stmt row : ℕ) (redo : Redo) (k : RedoKind) → ((y : ℕ) → is_of y stmt past ≡ (z == y)) → IsChangeBy past z redo.xid (record_tells stmt row redo k)
row_change past z stmt row redo kind.Lock of = record {
  last = λ y before. ap (λ (b : Bool). if b then Some redo.xid else before) (of y);
  is_open = λ w before. refl;
  names = same_xid-refl redo.xid;
}
row_change past z stmt row redo _ of = record {
  last = λ y before. ap (λ (b : Bool). if b then Some redo.xid else before) (of y);
  is_open = λ w before. refl;
  names = same_xid-refl redo.xid;
}

whose_alone : (k : Inst) (past : Past) (z : ℕ) (x : Xid) → Whose (session_at k z).own k.segment x → HasLines k.plan z → HasWraps k.segment.head → IsOwned k past → IsCalm k past
    → Agrees k past → AreOwns past → IsAlone z x past
whose_alone k past z x (on has under) lines small owned calm agrees are = owned_alone past z x are (sym (agrees z lines) ∙ has)
whose_alone k past z x (begins none next) lines small owned calm agrees are =
    new_alone past z x are
    (above_unnamed k.plan.me k.segment.head k.clock.scn k.ends past x ((begins_of k.segment x next).seg ∙ owned.seg_is) (next_above k.segment x small next) calm.sound)

-- a session has lines, so one without isn't it
apart_of : (k : Inst) (z y : ℕ) → HasLines k.plan z → length (lines_in k.plan y) ≡ 0 → y ≡ z → ⊥
apart_of k z y has none same =
    let none_here : length (lines_in k.plan z) ≡ 0 = subst (λ (x : ℕ). length (lines_in k.plan x) ≡ 0) same none in omega (arith, has, none_here)

agree_set : (k : Inst) (z : ℕ) (s : Session) (l : List Session) (e : Entry) (past : Past) → l ≡ slice_set k.sessions z s → z < length k.sessions → s.own ≡ own z (e ∷ past)
    → ((y : ℕ) → (y ≡ z → ⊥) → own y (e ∷ past) ≡ own y past) → Agrees k past → (y : ℕ) → HasLines k.plan y → (y ≡ z) ⊎ (y ≡ z → ⊥)
    → (slice_index_or l y new_session).own ≡ own y (e ∷ past)
agree_set k z s l e past is within here others agrees y has (inl same) =
    subst (λ (x : ℕ). (slice_index_or l x new_session).own ≡ own x (e ∷ past)) (sym same)
    (ap (λ (m : List Session). (slice_index_or m z new_session).own) is ∙ ap (λ (x : Session). x.own) (get_or-set_same k.sessions z s new_session within) ∙ here)
agree_set k z s l e past is within here others agrees y has (inr apart) =
    ap (λ (m : List Session). (slice_index_or m y new_session).own) is ∙ ap (λ (x : Session). x.own) (get_or-set_other k.sessions z y s new_session apart)
    ∙ agrees y has ∙ sym (others y apart)

agree_changes : (k : Inst) (past : Past) (z : ℕ) (redo : Redo) → change_decided k z ≡ Some (Do redo) → AreStarted k past → HasWraps k.segment.head → IsOwned k past → IsCalm k past
    → Agrees k past → AreOwns past → Agreed k (row_changed k z redo) (record_tells (stmt_at k z) (row_of (asks_at k z)) redo redo.kind ∷ []) past
agree_changes k past z redo is starts small owned calm agrees are =
    let e = record_tells (stmt_at k z) (row_of (asks_at k z)) redo redo.kind in
    let runs = change_runs k z redo is in
    let started = starts z runs in
    let it = change_by k z (asks_at k z) (image_in_hand k z) redo refl is in
    let change : IsChangeBy past z redo.xid e = row_change past z (stmt_at k z) (row_of (asks_at k z)) redo redo.kind started.1 in
    let alone : IsAlone z redo.xid past =
    subst (λ (x : Xid). IsAlone z x past) (sym it.of.xid) (whose_alone k past z it.x it.whose started.0 small owned calm agrees are) in
    let others : (y : ℕ) → (y ≡ z → ⊥) → own y (e ∷ past) ≡ own y past = λ y apart. change_others past z y redo.xid e change apart alone in
    record {
      agrees = λ y has. agree_set k z (changed_by redo.xid (session_at k z)) (row_changed k z redo).sessions e past refl (runs_within k.sessions z runs)
          (sym (change_owns past z redo.xid e change)) others agrees y has (cases_eq y z);
      others = λ y none. others y (apart_of k z y started.0 none);
      are = change_are past z redo.xid e change alone are;
    }

-- an end

mark_end : (past : Past) (stmt : ℕ) (redo : Redo) (commit : Bool) → IsEnd past redo.xid (mark_entry stmt redo commit)
mark_end past stmt redo true = record { last = λ y before. refl; is_open = λ w before. refl }
mark_end past stmt redo false = record { last = λ y before. refl; is_open = λ w before. refl }

agree_marks : (k : Inst) (past : Past) (z : ℕ) (redo : Redo) (commit : Bool) → end_decided k z ≡ Some redo → AreStarted k past
    → Agrees k past → AreOwns past → Agreed k (end_made k z redo commit) (mark_entry (stmt_at k z) redo commit ∷ []) past
agree_marks k past z redo commit is starts agrees are =
    let e = mark_entry (stmt_at k z) redo commit in
    let runs = mark_runs k z redo is in
    let started = starts z runs in
    let it = end_is k z redo is in
    let end : IsEnd past redo.xid e = mark_end past (stmt_at k z) redo commit in
    let owns : own z past ≡ Some redo.xid = sym (agrees z started.0) ∙ it.own ∙ ap Some (sym it.is.of.xid) in
    let others : (y : ℕ) → (y ≡ z → ⊥) → own y (e ∷ past) ≡ own y past = λ y apart. end_others past z y redo.xid e end apart (owned_alone past z redo.xid are owns) in
    record {
      agrees = λ y has. agree_set k z (ending redo commit (session_at k z)) (end_made k z redo commit).sessions e past refl (runs_within k.sessions z runs)
          (sym (end_owns past z redo.xid e end owns)) others agrees y has (cases_eq y z);
      others = λ y none. others y (apart_of k z y started.0 none);
      are = end_are past redo.xid e end are;
    }

-- what a step leaves, whatever it did
pub agree : (k : Inst) (core : Core) (reading : Bool) (m : Inst) (es past : Past) → Did k core reading m es → (IsUnrest core k.plan.me → ⊥) → stood is_loss (es ++ past) ≡ false
    → AreStarted k past → HasWraps k.segment.head → IsOwned k past → IsCalm k past → Agrees k past → AreOwns past → Agreed k m es past
agree k core reading m es past (rests same still) rest calm starts small owned was agrees are =
    agree_quietly k m es past (ap (λ (l : Ledger). l.plan) same.same) (λ z. kept_own k m z (ap (λ (l : Ledger). l.stakes) same.same)) (stills_aside es past still) agrees are
agree k core reading m es past (goes z next free set still) rest calm starts small owned was agrees are =
    agree_quietly k m es past (ap (λ (l : Ledger). l.plan) set.same) (λ y. set_own k m z next y (ap (λ (l : Ledger). l.stakes) set.same)) (stills_aside es past still) agrees are
agree k core reading m es past (acks z next a e is durable set still told) rest calm starts small owned was agrees are =
    subst (λ (l : List Entry). Agreed k m l past) (sym told)
    (agree_quietly k m _ past (ap (λ (l : Ledger). l.plan) set.same) (λ y. set_own k m z next y (ap (λ (l : Ledger). l.stakes) set.same))
    (ack_aside past a.commit (stmt_at k z) a.xid a.scn e still, tt) agrees are)
agree k core reading m es past (changes z redo is made told) rest calm starts small owned was agrees are =
    subst (λ (l : List Entry). Agreed k m l past) (sym told)
    (subst (λ (x : Inst). Agreed k x (record_tells (stmt_at k z) (row_of (asks_at k z)) redo redo.kind ∷ []) past) (sym made)
    (agree_changes k past z redo is starts small owned was agrees are))
agree k core reading m es past (steps z left redo is made told) rest calm starts small owned was agrees are =
    subst (λ (l : List Entry). Agreed k m l past) (sym told)
    (subst (λ (x : Inst). Agreed k x (entry.Undone redo.xid left ∷ []) past) (sym made)
    (agree_quietly k (stepped_by k z (Some redo)) (entry.Undone redo.xid left ∷ []) past refl
    (λ y. kept_own k (stepped_by k z (Some redo)) y (map-set_same stake_of k.sessions z (one_less (session_at k z)) new_session refl))
    (record { last = λ y before. refl; is_open = λ x before. refl }, tt) agrees are))
agree k core reading m es past (marks z redo is made told) rest calm starts small owned was agrees are =
    subst (λ (l : List Entry). Agreed k m l past) (sym told)
    (subst (λ (x : Inst). Agreed k x (mark_entry (stmt_at k z) redo (commits (end_kind k z)) ∷ []) past) (sym made)
    (agree_marks k past z redo (commits (end_kind k z)) is starts agrees are))
agree k core reading m es past (leads e it back told) rest calm starts small owned was agrees are =
    absurd (let no : false ≡ true = sym was.leads_not ∙ it.leads in cc)
agree k core reading m es past (forces made told) rest calm starts small owned was agrees are =
    subst (λ (l : List Entry). Agreed k m l past) (sym told)
    (subst (λ (x : Inst). Agreed k x (fold (commit_told k.plan.me) [] k.ends) past) (sym made)
    (agree_quietly k (all_forced k) (fold (commit_told k.plan.me) [] k.ends) past refl (λ y. forced_own k.ends k.sessions y)
    (forced_aside k.plan.me k.ends [] past tt) agrees are))
agree k core reading m es past (loses j it kept log made plan ends seg whence told) rest calm starts small owned was agrees are =
    absurd (let no : true ≡ false = sym (lost_is j it kept log past) ∙ subst (λ (l : List Entry). stood is_loss (l ++ past) ≡ false) told calm in cc)
agree k core reading m es past (reads thread log read unrest same told) rest calm starts small owned was agrees are = absurd (rest unrest)
agree k core reading m es past (restores unrest same still) rest calm starts small owned was agrees are = absurd (rest unrest)
