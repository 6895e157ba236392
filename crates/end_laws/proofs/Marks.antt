-- Ends wait for the disk only once their marks are told.
use Rattle.std.proofs.Common.{◌≡◌, ℕ, Bool, true, false, List, [], ◌∷◌, ◌++◌, Option, Some, None, if◌then◌else◌, refl, sym, ap, subst, ◌∙◌, ◌⊎◌, inl, inr, append_assoc}
use Rattle.std.specs.Prelude.{nat_le}
use Rattle.std.specs.Cmp.Derive.{both_true}
use Rattle.std.specs.List.{AllByRecursion, fold}
use Rattle.std.proofs.lemmas.Bool.{and_parts, eq-eqb, or_left}
use Rattle.std.proofs.lemmas.Option.{none-some}
use Rattle.base_types.specs.declared.names.Xid.{Xid}
use Rattle.redo_types.specs.declared.redo.Redo.{Redo}
use Rattle.redo_types.specs.declared.redo.RedoKind.{RedoKind}
use Rattle.redo_types.specs.declared.redo.RedoKind.TheVariants as kind
use Rattle.undo_image.specs.Header.{HeaderContent}
use Rattle.journal.specs.declared.cause.Cause.TheVariants as cause
use Rattle.journal.specs.declared.entry.Entry.{Entry}
use Rattle.journal.specs.declared.entry.Entry.TheVariants as entry
use Rattle.journal.specs.Past.{Past}
use Rattle.journal.specs.Stood.{is_mark, stood}
use Rattle.journal.proofs.XidLemmas.{same_xid-refl}
use Rattle.txn_engine.specs.declared.end.EndKind.{EndKind}
use Rattle.inst_state.specs.declared.inst.Inst.{Inst}
use Rattle.inst_state.specs.declared.inst.WaitingEnd.{WaitingEnd}
use Rattle.inst_state.specs.declared.plan.Plan.{Plan}
use Rattle.inst_state.specs.declared.shared.Core.{Core}
use Rattle.inst_state.specs.Sessions.{is_idle}
use Rattle.inst_state.specs.State.{asks_at, session_at, stmt_at}
use Rattle.inst_loss.specs.LostCore.{is_kept_commit, with_refusal}
use Rattle.inst_loss.specs.declared.ends.Loss.{Loss}
use Rattle.inst_loss.specs.declared.ends.Loss.TheVariants as loss
use Rattle.disk_steps.specs.Force.{commit_told}
use Rattle.stmt_steps.specs.Change.{record_tells, row_of}
use Rattle.stmt_steps.specs.Mark.{commits, end_decided, end_kind, end_of_txn, waiting_end}
use Rattle.stmt_steps.specs.Mark.{end_tells as mark_entry}
use Rattle.thread_steps.specs.declared.found.FoundLog.{FoundLog}
use Rattle.run_laws.specs.Tells.{kept_tells, log_tells, loss_entry, lost_tells}
use Rattle.end_laws.specs.Marked.{CommitIsMarked, EachAdded}
use Rattle.end_laws.proofs.Backs.{all_append, stood_on}
use Rattle.end_laws.proofs.Decisions.{IsUnder, ends_under, under_seg}
use Rattle.end_laws.proofs.Did.{Did, IsBackground, Leads, Stills, acks, changes, forces, goes, is_rollback, is_still, leads, loses, marks, reads, restores, rests, steps}
use Rattle.end_laws.proofs.Stakes.{Ledger, ledger}

-- An end that is a commit is of the instance, and its mark is told.
abbrev pub IsMarked : ℕ → Past → WaitingEnd → Type 0
IsMarked me past end = end.commit ≡ true → (me ≡ end.xid.seg) × (stood (is_mark end.xid end.scn) past ≡ true)

-- The segment of an instance is its own, and the commits that wait for the disk are marked.
pub record Owned (me seg : ℕ) (ends : List WaitingEnd) (past : Past) : Type 0 where
  pub seg_is : seg ≡ me
  pub marked : AllByRecursion (IsMarked me past) ends

abbrev pub IsOwned : Inst → Past → Type 0
IsOwned n past = Owned n.plan.me n.segment.head.front.seg n.ends past

pub marked_on : (me : ℕ) (es past : Past) (ends : List WaitingEnd) → AllByRecursion (IsMarked me past) ends → AllByRecursion (IsMarked me (es ++ past)) ends
marked_on me es past [] all = tt
marked_on me es past (end ∷ ends) all =
    ((λ commit. (let was = all.0 commit in (was.0, stood_on (is_mark end.xid end.scn) es past was.1))), marked_on me es past ends all.1)

pub owned_on : (me seg : ℕ) (ends : List WaitingEnd) (es past : Past) → Owned me seg ends past → Owned me seg ends (es ++ past)
owned_on me seg ends es past was = record { seg_is = was.seg_is; marked = marked_on me es past ends was.marked }

-- the record of an end is of the session's transaction, which is under way
pub record EndIs (n : Inst) (z : ℕ) (redo : Redo) : Type 0 where
  pub x : Xid
  pub own : (session_at n z).own ≡ Some x
  pub is : IsUnder n.segment.head n.clock x false redo

end_by : (n : Inst) (z : ℕ) (own : Option Xid) (kind : Option EndKind) (redo : Redo) → (session_at n z).own ≡ own → end_of_txn n own kind ≡ Some redo → EndIs n z redo
end_by n z (Some x) (Some kind) redo is e = record { x = x; own = is; is = ends_under x kind n.segment n.clock redo e }
end_by n z (Some x) None redo is e = absurd (none-some redo e)
end_by n z None kind redo is e = absurd (none-some redo e)

pub end_is : (n : Inst) (z : ℕ) (redo : Redo) → end_decided n z ≡ Some redo → EndIs n z redo
end_is n z redo e = end_by n z (session_at n z).own (end_kind n z) redo refl e

pub mark_stands : (stmt : ℕ) (redo : Redo) (past : Past) → stood (is_mark redo.xid redo.scn) (entry.Marked stmt redo.xid redo.scn ∷ past) ≡ true
mark_stands stmt redo past =
    or_left (is_mark redo.xid redo.scn (entry.Marked stmt redo.xid redo.scn)) (stood (is_mark redo.xid redo.scn) past)
    (both_true (same_xid-refl redo.xid) (eq-eqb redo.scn redo.scn refl))

mark_marked : (stmt me : ℕ) (redo : Redo) (commit : Bool) (past : Past) → me ≡ redo.xid.seg → commit ≡ true
    → (me ≡ redo.xid.seg) × (stood (is_mark redo.xid redo.scn) (mark_entry stmt redo commit ∷ past) ≡ true)
mark_marked stmt me redo true past mine is = (mine, mark_stands stmt redo past)
mark_marked stmt me redo false past mine is = absurd (let no : false ≡ true = is in cc)

-- what is told of commits

-- An entry tells of no commit that enters.
abbrev is_unentered : Entry → Bool
is_unentered (entry.Committed x c inst) = false
is_unentered _ = true

abbrev Unentereds : List Entry → Type 0
Unentereds es = AllByRecursion (λ e. is_unentered e ≡ true) es

unentered_marked : (past : Past) (e : Entry) → is_unentered e ≡ true → CommitIsMarked past e
unentered_marked past (entry.Committed x c inst) is = absurd (let no : false ≡ true = is in cc)
unentered_marked past _ is = tt

unentereds_marked : (es past : Past) → Unentereds es → EachAdded CommitIsMarked es past
unentereds_marked [] past none = tt
unentereds_marked (e ∷ es) past none = (unentered_marked (es ++ past) e none.0, unentereds_marked es past none.1)

still_unentered : (e : Entry) → is_still e ≡ true → is_unentered e ≡ true
still_unentered (entry.Committed x c inst) is = is
still_unentered _ is = refl

stills_unentered : (es : List Entry) → Stills es → Unentereds es
stills_unentered [] none = tt
stills_unentered (e ∷ es) none = (still_unentered e none.0, stills_unentered es none.1)

rollback_unentered : (e : Entry) → is_rollback e ≡ true → is_unentered e ≡ true
rollback_unentered (entry.Committed x c inst) is = is
rollback_unentered _ is = refl

ack_unentered : (b : Bool) (stmt : ℕ) (x : Xid) (c : ℕ) (e : Entry) → is_still e ≡ true → is_unentered (if b then entry.Acked stmt x c else e) ≡ true
ack_unentered true stmt x c e is = refl
ack_unentered false stmt x c e is = still_unentered e is

row_unentered : (stmt row : ℕ) (redo : Redo) (k : RedoKind) → is_unentered (record_tells stmt row redo k) ≡ true
row_unentered stmt row redo kind.Lock = refl
row_unentered stmt row redo _ = refl

mark_unentered : (stmt : ℕ) (redo : Redo) (commit : Bool) → is_unentered (mark_entry stmt redo commit) ≡ true
mark_unentered stmt redo true = refl
mark_unentered stmt redo false = refl

pub added_append : (P : Past → Entry → Type 0) (xs ys past : Past) → EachAdded P xs (ys ++ past) → EachAdded P ys past → EachAdded P (xs ++ ys) past
added_append P [] ys past a b = b
added_append P (x ∷ xs) ys past a b = (subst (λ (j : Past). P j x) (sym (append_assoc xs ys past)) a.0, added_append P xs ys past a.1 b)

commit_added : (me : ℕ) (end : WaitingEnd) (es past : Past) (b : Bool) → (b ≡ true → end.commit ≡ true) → IsMarked me past end → EachAdded CommitIsMarked es past
    → EachAdded CommitIsMarked (if b then entry.Committed end.xid end.scn me ∷ es else es) past
commit_added me end es past true commits marked each =
    let it = marked (commits refl) in ((it.0, stood_on (is_mark end.xid end.scn) es past it.1), each)
commit_added me end es past false commits marked each = each

-- of ends that are marked those that pass a test enter as they may
ends_added : (me : ℕ) (test : WaitingEnd → Bool) → ((end : WaitingEnd) → test end ≡ true → end.commit ≡ true) → (ends : List WaitingEnd) (es past : Past)
    → AllByRecursion (IsMarked me past) ends → EachAdded CommitIsMarked es past
    → EachAdded CommitIsMarked (fold (λ (j : List Entry) (end : WaitingEnd). if test end then entry.Committed end.xid end.scn me ∷ j else j) es ends) past
ends_added me test commits [] es past marked each = each
ends_added me test commits (end ∷ ends) es past marked each =
    ends_added me test commits ends (if test end then entry.Committed end.xid end.scn me ∷ es else es) past marked.1
    (commit_added me end es past (test end) (commits end) marked.0 each)

forced_added : (n : Inst) (past : Past) → AllByRecursion (IsMarked n.plan.me past) n.ends → EachAdded CommitIsMarked (fold (commit_told n.plan.me) [] n.ends) past
forced_added n past marked = ends_added n.plan.me (λ end. end.commit) (λ end is. is) n.ends [] past marked tt

kept_added : (me : ℕ) (ends : List WaitingEnd) (k : Inst) (kept : Option ℕ) (past : Past) → k.plan.me ≡ me → k.ends ≡ ends → AllByRecursion (IsMarked me past) ends
    → EachAdded CommitIsMarked (kept_tells k kept) past
kept_added me ends k None past mine same marked = tt
kept_added me ends k (Some kept) past mine same marked =
    ends_added k.plan.me (is_kept_commit kept) (λ end is. (and_parts end.commit (nat_le end.behind kept) is).0) k.ends [] past
    (subst (λ (l : List WaitingEnd). AllByRecursion (IsMarked k.plan.me past) l) (sym same)
    (subst (λ (i : ℕ). AllByRecursion (IsMarked i past) ends) (sym mine) marked)) tt

loss_unentered : (k : Inst) (it : Loss) → is_unentered (loss_entry k it) ≡ true
loss_unentered k (loss.Crashed line) = refl
loss_unentered k (loss.Ended bad) = refl

refusals_unentered : (k : Inst) (zs : List ℕ) (es : List Entry) → Unentereds es → Unentereds (fold (with_refusal k) es zs)
refusals_unentered k [] es none = none
refusals_unentered k (z ∷ zs) es none = refusals_unentered k zs (with_refusal k es z) (by (is_idle (session_at k z).doing))
  where
    by : (b : Bool) → Unentereds (if b then es else entry.Refused (stmt_at k z) cause.Lost ∷ es)
    by true = none
    by false = (refl, none)

lost_added : (me : ℕ) (ends : List WaitingEnd) (k : Inst) (it : Loss) (kept : Option ℕ) (past : Past) → k.plan.me ≡ me → k.ends ≡ ends
    → AllByRecursion (IsMarked me past) ends → EachAdded CommitIsMarked (lost_tells k it kept) past
lost_added me ends k it kept past mine same marked =
    added_append CommitIsMarked (fold (with_refusal k) [] k.plan.mine) (loss_entry k it ∷ kept_tells k kept) past
    (unentereds_marked (fold (with_refusal k) [] k.plan.mine) ((loss_entry k it ∷ kept_tells k kept) ++ past) (refusals_unentered k k.plan.mine [] tt))
    (unentered_marked (kept_tells k kept ++ past) (loss_entry k it) (loss_unentered k it), kept_added me ends k kept past mine same marked)

-- What a step leaves: the segment of the instance is its own, the commits that wait are marked, and those that enter were.
pub record Owns (reading : Bool) (m : Inst) (es past : Past) : Type 0 where
  pub owned : IsOwned m (es ++ past)
  pub entered : reading ≡ false → EachAdded CommitIsMarked es past

quietly : (reading : Bool) (m : Inst) (es past : Past) → IsOwned m past → Unentereds es → Owns reading m es past
quietly reading m es past owned none = record {
  owned = owned_on m.plan.me m.segment.head.front.seg m.ends es past owned;
  entered = λ is. unentereds_marked es past none;
}

pub owned_as : (n : Inst) (l : Ledger) (past : Past) → l ≡ ledger n → IsOwned n past → Owned l.plan.me l.head.front.seg l.ends past
owned_as n l past same was = subst (λ (k : Ledger). Owned k.plan.me k.head.front.seg k.ends past) (sym same) was

background_marked : (me : ℕ) (past : Past) (end : WaitingEnd) → IsBackground end → IsMarked me past end
background_marked me past end it = λ commit. absurd (let no : false ≡ true = sym it.commit ∙ commit in cc)

owned_leads : (n m : Inst) (past : Past) → Leads n m → IsOwned n past → IsOwned m past
owned_leads n m past it was = record {
  seg_is = ap (λ (h : HeaderContent). h.front.seg) it.head ∙ was.seg_is ∙ sym (ap (λ (p : Plan). p.me) it.plan);
  marked = subst (λ (p : Plan). AllByRecursion (IsMarked p.me past) m.ends) (sym it.plan) (by it.ends);
}
  where
    by : (m.ends ≡ n.ends) ⊎ ((end : WaitingEnd) × IsBackground end × (m.ends ≡ n.ends ++ end ∷ [])) → AllByRecursion (IsMarked n.plan.me past) m.ends
    by (inl same) = subst (λ (l : List WaitingEnd). AllByRecursion (IsMarked n.plan.me past) l) (sym same) was.marked
    by (inr more) =
        subst (λ (l : List WaitingEnd). AllByRecursion (IsMarked n.plan.me past) l) (sym more.2)
        (all_append (IsMarked n.plan.me past) n.ends (more.0 ∷ []) was.marked (background_marked n.plan.me past more.0 more.1, tt))

pub owns : (n : Inst) (core : Core) (reading : Bool) (m : Inst) (es past : Past) → Did n core reading m es → IsOwned n past → Owns reading m es past
owns n core reading m es past (rests same still) was = quietly reading m es past (owned_as n (ledger m) past same.same was) (stills_unentered es still)
owns n core reading m es past (goes z next free set still) was =
    quietly reading m es past (subst (λ (k : Ledger). Owned k.plan.me k.head.front.seg k.ends past) (sym set.same) was) (stills_unentered es still)
owns n core reading m es past (acks z next a e is durable set still told) was =
    subst (λ (l : List Entry). Owns reading m l past) (sym told)
    (quietly reading m _ past (subst (λ (k : Ledger). Owned k.plan.me k.head.front.seg k.ends past) (sym set.same) was)
    (ack_unentered a.commit (stmt_at n z) a.xid a.scn e still, tt))
owns n core reading m es past (changes z redo is made told) was =
    subst (λ (l : List Entry). Owns reading m l past) (sym told)
    (subst (λ (x : Inst). Owns reading x (record_tells (stmt_at n z) (row_of (asks_at n z)) redo redo.kind ∷ []) past) (sym made)
    (quietly reading _ _ past was (row_unentered (stmt_at n z) (row_of (asks_at n z)) redo redo.kind, tt)))
owns n core reading m es past (steps z left redo is made told) was =
    subst (λ (l : List Entry). Owns reading m l past) (sym told)
    (subst (λ (x : Inst). Owns reading x (entry.Undone redo.xid left ∷ []) past) (sym made) (quietly reading _ _ past was (refl, tt)))
owns n core reading m es past (marks z redo is made told) was =
    let commit = commits (end_kind n z) in
    let it = end_is n z redo is in
    let e = mark_entry (stmt_at n z) redo commit in
    let mine : n.plan.me ≡ redo.xid.seg = sym was.seg_is ∙ sym (under_seg n.segment.head it.x it.is.under) ∙ sym (ap (λ (x : Xid). x.seg) it.is.of.xid) in
    subst (λ (l : List Entry). Owns reading m l past) (sym told)
    (subst (λ (x : Inst). Owns reading x (e ∷ []) past) (sym made) (record {
      owned = record {
        seg_is = was.seg_is;
        marked = all_append (IsMarked n.plan.me (e ∷ past)) n.ends (waiting_end n redo commit (Some z) ∷ []) (marked_on n.plan.me (e ∷ []) past n.ends was.marked)
            (mark_marked (stmt_at n z) n.plan.me redo commit past mine, tt);
      };
      entered = λ own. unentereds_marked (e ∷ []) past (mark_unentered (stmt_at n z) redo commit, tt);
    }))
owns n core reading m es past (leads e it back told) was =
    subst (λ (l : List Entry). Owns reading m l past) (sym told) (quietly reading m (e ∷ []) past (owned_leads n m past it was) (rollback_unentered e back, tt))
owns n core reading m es past (forces made told) was =
    subst (λ (l : List Entry). Owns reading m l past) (sym told)
    (subst (λ (x : Inst). Owns reading x (fold (commit_told n.plan.me) [] n.ends) past) (sym made) (record {
      owned = record { seg_is = was.seg_is; marked = tt };
      entered = λ own. forced_added n past was.marked;
    }))
owns n core reading m es past (loses k it kept log made plan ends seg whence told) was = record {
  owned = subst (λ (x : Inst). IsOwned x (es ++ past)) (sym made) (record { seg_is = seg was.seg_is ∙ sym (ap (λ (p : Plan). p.me) plan); marked = tt });
  entered = λ own. subst (λ (l : List Entry). EachAdded CommitIsMarked l past) (sym told) (by own whence);
}
  where
    by : reading ≡ false → (log ≡ []) ⊎ ((reading ≡ true) × (thread : ℕ) × (found : FoundLog) × (log ≡ log_tells core thread found))
        → EachAdded CommitIsMarked (lost_tells k it kept ++ log) past
    by own (inl none) =
        added_append CommitIsMarked (lost_tells k it kept) log past
        (subst (λ (l : List Entry). EachAdded CommitIsMarked (lost_tells k it kept) (l ++ past)) (sym none)
        (lost_added n.plan.me n.ends k it kept past (ap (λ (p : Plan). p.me) plan) ends was.marked))
        (subst (λ (l : List Entry). EachAdded CommitIsMarked l past) (sym none) tt)
    by own (inr some) = absurd (let clash : true ≡ false = sym some.0 ∙ own in cc)
owns n core reading m es past (reads thread log read unrest same told) was = record {
  owned = owned_on m.plan.me m.segment.head.front.seg m.ends es past (owned_as n (ledger m) past same.same was);
  entered = λ own. absurd (let clash : true ≡ false = sym read ∙ own in cc);
}
owns n core reading m es past (restores unrest same still) was = quietly reading m es past (record {
  seg_is = same.seg was.seg_is ∙ sym (ap (λ (p : Plan). p.me) same.plan);
  marked = subst (λ (l : List WaitingEnd). AllByRecursion (IsMarked m.plan.me past) l) (sym same.ends)
      (subst (λ (p : Plan). AllByRecursion (IsMarked p.me past) n.ends) (sym same.plan) was.marked);
}) (stills_unentered es still)
