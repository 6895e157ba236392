-- What a step leaves true of the transactions of an instance, where none is lost.
use Rattle.std.proofs.Common.{◌≡◌, ℕ, ◌+◌, ◌-◌, ◌^◌, ◌<◌, ◌≤◌, ◌&&◌, max, min, Bool, true, false, List, [], ◌∷◌, ◌++◌, length, Option, Some, None, if◌then◌else◌, refl, sym, ap, subst, ◌∙◌, ◌⊎◌, inl, inr, arith}
use Rattle.std.specs.Prelude.{◌==◌}
use Rattle.std.specs.List.{AllByRecursion, fold}
use Rattle.std.specs.Option.{option_map}
use Rattle.std.proofs.Math.Nat.{le-max_left, le-max_right, le_refl, le_trans}
use Rattle.std.proofs.lemmas.Bool.{and_parts, cases_eq, eqb-true, ne_eqb, or_cases, or_from, or_left, or_right}
use Rattle.std.proofs.lemmas.Option.{none-some, same_Some}
use Rattle.base_types.specs.declared.names.Scn.{Scn}
use Rattle.base_types.specs.declared.names.Xid.{Xid}
use Rattle.block_image.specs.Block.{BlockContent}
use Rattle.redo_types.specs.declared.redo.Redo.{Redo}
use Rattle.redo_types.specs.declared.redo.RedoKind.{RedoKind}
use Rattle.redo_types.specs.declared.redo.RedoKind.TheVariants as kind
use Rattle.redo_types.specs.declared.undo.TxnSlot.{TxnSlot}
use Rattle.undo_image.specs.Header.{HeaderContent, slot_at}
use Rattle.undo_segment.specs.Begin.{next_xid}
use Rattle.undo_segment.specs.Segment.{SegmentState}
use Rattle.scn_clock.specs.declared.clock.Clock.{Clock}
use Rattle.journal.specs.declared.entry.Entry.{Entry}
use Rattle.journal.specs.declared.entry.Entry.TheVariants as entry
use Rattle.journal.specs.Good.{AckIsProper, CommitIsProper}
use Rattle.journal.specs.Past.{Each, Past, same_xid}
use Rattle.journal.specs.Stood.{is_commit, is_commit_by, is_mark_by, stood}
use Rattle.journal.proofs.XidLemmas.{same_xid-true}
use Rattle.txn_engine.specs.declared.ask.Decision.TheVariants.{Do}
use Rattle.txn_engine.specs.Limits.{is_under_way}
use Rattle.inst_state.specs.declared.inst.Inst.{Inst}
use Rattle.inst_state.specs.declared.inst.WaitingEnd.{WaitingEnd}
use Rattle.inst_state.specs.declared.line.Asks.{Asks}
use Rattle.inst_state.specs.declared.line.Asks.TheVariants.{Change}
use Rattle.inst_state.specs.declared.shared.Core.{Core}
use Rattle.inst_state.specs.Hand.{handed_at, image_in_hand}
use Rattle.inst_state.specs.Needs.{goes_back}
use Rattle.inst_state.specs.State.{asks_at, on_disk, session_at, stmt_at}
use Rattle.inst_loss.specs.declared.ends.Loss.{Loss}
use Rattle.inst_loss.specs.declared.ends.Loss.TheVariants as loss
use Rattle.inst_loss.specs.LostCore.{with_refusal}
use Rattle.disk_steps.specs.Force.{all_forced, commit_told, end_learnt}
use Rattle.stmt_steps.specs.Back.{back_decided, back_on, record_of, stepped_by}
use Rattle.stmt_steps.specs.Change.{ask_of, change_decided, decided_of, decided_on, record_tells, row_changed, row_of}
use Rattle.stmt_steps.specs.Mark.{commits, end_decided, end_kind, end_made, waiting_end}
use Rattle.stmt_steps.specs.Mark.{end_tells as mark_entry}
use Rattle.run_laws.specs.Tells.{kept_tells, loss_entry, lost_tells}
use Rattle.end_laws.specs.Calm.{is_loss}
use Rattle.end_laws.specs.Names.{names}
use Rattle.end_laws.proofs.Backs.{all_append, stood_on}
use Rattle.end_laws.proofs.Decisions.{IsChange, IsOf, IsUnder, Whose, backs_under, begins, change_made, on, under_seg, under_wrap}
use Rattle.end_laws.proofs.Did.{Did, IsUnrest, Stills, acks, changes, forces, goes, is_still, leads, loses, marks, reads, restores, rests, steps}
use Rattle.end_laws.proofs.Honest.{told_front}
use Rattle.end_laws.proofs.Marks.{IsMarked, IsOwned, end_is, marked_on}
use Rattle.end_laws.proofs.Slots.{IsSpent, Takes, advances, begins_of, ended_spent, head_of, slot_other, slot_there, spent_wrap, under_unspent, under_within}
use Rattle.end_laws.proofs.Sound.{AllFit, AreApart, Fits, IsApart, IsReady, NamesOne, Sound, above_uncommitted, nameless_fits, not_so, one_fits, other_fits, push, push_all, rises, still_nameless, still_proper, turn, under_uncommitted}
use Rattle.end_laws.proofs.Stakes.{Ledger, ledger}

-- how many changes and locks a journal tells of
abbrev pub weight : Entry → ℕ
weight (entry.Changed stmt x row found new) = 1
weight (entry.Locked stmt x row) = 1
weight _ = 0

abbrev pub changes_told : Past → ℕ
changes_told [] = 0
changes_told (e ∷ past) = weight e + changes_told past

pub told_more : (es past : Past) → changes_told past ≤ changes_told (es ++ past)
told_more [] past = le_refl (changes_told past)
told_more (e ∷ es) past = let le : changes_told past ≤ changes_told (es ++ past) = told_more es past in omega (arith, le)

-- No slot of a segment was taken more often than changes are told.
abbrev pub Wraps : HeaderContent → Past → Type 0
Wraps head past = (k : ℕ) → (slot_at head k).wrap ≤ changes_told past

-- The transactions of an instance are as the journal says, and it rolls nothing back of others.
pub record CalmAs (l : Ledger) (scn : Scn) (past : Past) : Type 0 where
  pub leads_not : l.leads ≡ false
  pub sound : Sound l.plan.me l.head scn l.ends past
  pub wraps : Wraps l.head past

abbrev pub IsCalm : Inst → Past → Type 0
IsCalm n past = CalmAs (ledger n) n.clock.scn past

-- What a step leaves: so it is of the instance, each entry is as commits want it, and none is of another instance.
pub record Goes (me : ℕ) (m : Inst) (es past : Past) : Type 0 where
  pub calm : IsCalm m (es ++ past)
  pub proper : Each CommitIsProper (es ++ past)
  pub others : (other : ℕ) (head : HeaderContent) → (other ≡ me → ⊥) → AllFit other head es past

-- entries that name no transaction

stills_fit : (me : ℕ) (head : HeaderContent) (es past : Past) → Stills es → AllFit me head es past
stills_fit me head [] past still = tt
stills_fit me head (e ∷ es) past still =
    (nameless_fits me head (es ++ past) e (still_nameless e still.0), stills_fit me head es past still.1)

stills_proper : (es past : Past) → Stills es → Each CommitIsProper past → Each CommitIsProper (es ++ past)
stills_proper [] past still proper = proper
stills_proper (e ∷ es) past still proper = (still_proper (es ++ past) e still.0, stills_proper es past still.1 proper)

pub calm_on : (l : Ledger) (scn later : Scn) (es past : Past) → scn ≤ later → AllFit l.plan.me l.head es past → CalmAs l scn past → CalmAs l later (es ++ past)
calm_on l scn later es past le fit was = record {
  leads_not = was.leads_not;
  sound = push_all l.plan.me l.head later l.ends past es fit (rises l.plan.me l.head scn later l.ends past le was.sound);
  wraps = λ k. le_trans (was.wraps k) (told_more es past);
}

go_still : (me : ℕ) (m : Inst) (l : Ledger) (scn : Scn) (es past : Past) → ledger m ≡ l → scn ≤ m.clock.scn → Stills es → CalmAs l scn past → Each CommitIsProper past
    → Goes me m es past
go_still me m l scn es past same le still was proper = record {
  calm = subst (λ (k : Ledger). CalmAs k m.clock.scn (es ++ past)) (sym same) (calm_on l scn m.clock.scn es past le (stills_fit l.plan.me l.head es past still) was);
  proper = stills_proper es past still proper;
  others = λ other head apart. stills_fit other head es past still;
}

-- the answer of a commit

stood_weaker : (p q : Entry → Bool) (past : Past) → ((e : Entry) → p e ≡ true → q e ≡ true) → stood p past ≡ true → stood q past ≡ true
stood_weaker p q [] weaker is = is
stood_weaker p q (e ∷ past) weaker is = by (or_cases (p e) (stood p past) is) (stood_weaker p q past weaker)
  where
    by : (p e ≡ true) ⊎ (stood p past ≡ true) → (stood p past ≡ true → stood q past ≡ true) → stood q (e ∷ past) ≡ true
    by (inl here) later = or_left (q e) (stood q past) (weaker e here)
    by (inr there) later = or_right (q e) (stood q past) (later there)

mark_names : (stmt : ℕ) (x : Xid) (c : Scn) (e : Entry) → is_mark_by stmt x c e ≡ true → names x e ≡ true
mark_names stmt x c (entry.Marked by y at) is =
    (and_parts (stmt == by) (same_xid x y) (and_parts (stmt == by && same_xid x y) (c == at) is).0).1
mark_names stmt x c _ is = absurd (let no : false ≡ true = is in cc)

ack_one : (stmt : ℕ) (x : Xid) (c : Scn) → NamesOne x (entry.Acked stmt x c)
ack_one stmt x c = record { one = λ y is. same_xid-true y x is; commits_none = λ y. refl; uses_none = λ c inst. refl }

ack_fits : (me : ℕ) (head : HeaderContent) (past : Past) (stmt : ℕ) (x : Xid) (c : Scn) → AckIsProper past (entry.Acked stmt x c) → Fits me head past (entry.Acked stmt x c)
ack_fits me head past stmt x c proper =
    one_fits me head past x (entry.Acked stmt x c) (ack_one stmt x c) (λ seg. inr (stood_weaker (is_mark_by stmt x c) (names x) past (mark_names stmt x c) proper.0))

go_acks : (me : ℕ) (m : Inst) (l : Ledger) (scn : Scn) (past : Past) (stmt : ℕ) (x : Xid) (c : Scn) (e : Entry) (commit : Bool) → ledger m ≡ l → scn ≤ m.clock.scn
    → is_still e ≡ true → AckIsProper past (if commit then entry.Acked stmt x c else e) → CalmAs l scn past → Each CommitIsProper past
    → Goes me m ((if commit then entry.Acked stmt x c else e) ∷ []) past
go_acks me m l scn past stmt x c e true same le still acked was proper = record {
  calm = subst (λ (k : Ledger). CalmAs k m.clock.scn (entry.Acked stmt x c ∷ past)) (sym same)
      (calm_on l scn m.clock.scn (entry.Acked stmt x c ∷ []) past le (ack_fits l.plan.me l.head past stmt x c acked, tt) was);
  proper = (tt, proper);
  others = λ other head apart. (ack_fits other head past stmt x c acked, tt);
}
go_acks me m l scn past stmt x c e false same le still acked was proper = go_still me m l scn (e ∷ []) past same le (still, tt) was proper

-- entries of one transaction

row_one : (stmt row : ℕ) (redo : Redo) (k : RedoKind) → NamesOne redo.xid (record_tells stmt row redo k)
row_one stmt row redo kind.Lock = record { one = λ y is. same_xid-true y redo.xid is; commits_none = λ y. refl; uses_none = λ c inst. refl }
row_one stmt row redo _ = record { one = λ y is. same_xid-true y redo.xid is; commits_none = λ y. refl; uses_none = λ c inst. refl }

row_proper : (past : Past) (stmt row : ℕ) (redo : Redo) (k : RedoKind) → stood (is_commit redo.xid) past ≡ false → CommitIsProper past (record_tells stmt row redo k)
row_proper past stmt row redo kind.Lock is = is
row_proper past stmt row redo _ is = is

row_weight : (stmt row : ℕ) (redo : Redo) (k : RedoKind) → weight (record_tells stmt row redo k) ≡ 1
row_weight stmt row redo kind.Lock = refl
row_weight stmt row redo _ = refl

undone_one : (x : Xid) (left : ℕ) → NamesOne x (entry.Undone x left)
undone_one x left = record { one = λ y is. same_xid-true y x is; commits_none = λ y. refl; uses_none = λ c inst. refl }

mark_one : (stmt : ℕ) (redo : Redo) (commit : Bool) → NamesOne redo.xid (mark_entry stmt redo commit)
mark_one stmt redo true = record { one = λ y is. same_xid-true y redo.xid is; commits_none = λ y. refl; uses_none = λ c inst. refl }
mark_one stmt redo false = record { one = λ y is. same_xid-true y redo.xid is; commits_none = λ y. refl; uses_none = λ c inst. refl }

mark_proper : (past : Past) (stmt : ℕ) (redo : Redo) (commit : Bool) → stood (is_commit redo.xid) past ≡ false → CommitIsProper past (mark_entry stmt redo commit)
mark_proper past stmt redo true is = is
mark_proper past stmt redo false is = is

-- A record of a transaction of the instance is made, and an entry tells of it.
record Makes (n : Inst) (past : Past) (redo : Redo) (active : Bool) (e : Entry) : Type 0 where
  x : Xid
  of : IsOf n.clock x active redo
  seg : x.seg ≡ n.plan.me
  within : x.slot < length n.segment.head.slots
  takes : Takes n.segment.head x
  low : x.wrap ≤ weight e + changes_told past
  uncommitted : stood (is_commit x) past ≡ false
  one : NamesOne redo.xid e

-- the journal after a record
made_wraps : (n : Inst) (past : Past) (redo : Redo) (active : Bool) (e : Entry) → Makes n past redo active e → Wraps n.segment.head past
    → Wraps (head_of n.segment.head redo) (e ∷ past)
made_wraps n past redo active e it was k = by (cases_eq k it.x.slot)
  where
    by : (k ≡ it.x.slot) ⊎ (k ≡ it.x.slot → ⊥) → (slot_at (head_of n.segment.head redo) k).wrap ≤ changes_told (e ∷ past)
    by (inl same) =
        let there : (slot_at (head_of n.segment.head redo) k).wrap ≡ it.x.wrap =
        ap (λ (j : ℕ). (slot_at (head_of n.segment.head redo) j).wrap) same
        ∙ ap (λ (s : TxnSlot). s.wrap) (slot_there n.segment.head n.clock it.x active redo it.of it.within) ∙ it.of.wrap in
        let low : it.x.wrap ≤ weight e + changes_told past = it.low in
        omega (arith, there, low)
    by (inr apart) =
        let other : (slot_at (head_of n.segment.head redo) k).wrap ≡ (slot_at n.segment.head k).wrap =
        ap (λ (s : TxnSlot). s.wrap) (slot_other n.segment.head n.clock it.x active redo it.of k apart) in
        let le : (slot_at n.segment.head k).wrap ≤ changes_told past = was k in
        omega (arith, other, le)

made_wrap : (n : Inst) (past : Past) (redo : Redo) (active : Bool) (e : Entry) (it : Makes n past redo active e)
    → redo.xid.wrap ≤ (slot_at (head_of n.segment.head redo) redo.xid.slot).wrap
made_wrap n past redo active e it =
    subst (λ (y : Xid). y.wrap ≤ (slot_at (head_of n.segment.head redo) y.slot).wrap) (sym it.of.xid) (
    let there : (slot_at (head_of n.segment.head redo) it.x.slot).wrap ≡ it.x.wrap =
    ap (λ (s : TxnSlot). s.wrap) (slot_there n.segment.head n.clock it.x active redo it.of it.within) ∙ it.of.wrap in
    omega (arith, there))

made_sound : (n : Inst) (past : Past) (redo : Redo) (active : Bool) (e : Entry) → Makes n past redo active e → Sound n.plan.me n.segment.head n.clock.scn n.ends past
    → Sound n.plan.me (head_of n.segment.head redo) (max n.clock.scn redo.scn) n.ends (e ∷ past)
made_sound n past redo active e it was =
    let now = head_of n.segment.head redo in
    push n.plan.me now (max n.clock.scn redo.scn) n.ends past e
    (one_fits n.plan.me now past redo.xid e it.one (λ seg. inl (made_wrap n past redo active e it)))
    (turn n.plan.me n.segment.head now n.clock.scn (max n.clock.scn redo.scn) n.ends past (advances n.segment.head n.clock it.x active redo it.of it.within it.takes)
    (le-max_left n.clock.scn redo.scn) was)

made_others : (n : Inst) (past : Past) (redo : Redo) (active : Bool) (e : Entry) → Makes n past redo active e
    → (other : ℕ) (head : HeaderContent) → (other ≡ n.plan.me → ⊥) → AllFit other head (e ∷ []) past
made_others n past redo active e it other head apart =
    (other_fits other n.plan.me head past redo.xid e it.one (ap (λ (y : Xid). y.seg) it.of.xid ∙ it.seg) apart, tt)

made_uncommitted : (n : Inst) (past : Past) (redo : Redo) (active : Bool) (e : Entry) (it : Makes n past redo active e) → stood (is_commit redo.xid) past ≡ false
made_uncommitted n past redo active e it = subst (λ (y : Xid). stood (is_commit y) past ≡ false) (sym it.of.xid) it.uncommitted

-- a transaction that is under way has its record made
under_makes : (n : Inst) (past : Past) (redo : Redo) (active : Bool) (e : Entry) (x : Xid) → IsUnder n.segment.head n.clock x active redo → NamesOne redo.xid e
    → n.segment.head.front.seg ≡ n.plan.me → IsCalm n past → Makes n past redo active e
under_makes n past redo active e x it one mine was =
    let seg : x.seg ≡ n.plan.me = under_seg n.segment.head x it.under ∙ mine in
    record {
      x = x;
      of = it.of;
      seg = seg;
      within = under_within n.segment.head x it.under;
      takes = inl it.under;
      low = (
          let same : (slot_at n.segment.head x.slot).wrap ≡ x.wrap = under_wrap n.segment.head x it.under in
          let le : (slot_at n.segment.head x.slot).wrap ≤ changes_told past = was.wraps x.slot in
          omega (arith, same, le));
      uncommitted = under_uncommitted n.plan.me n.segment.head n.clock.scn n.ends past x seg it.under was.sound;
      one = one;
    }

-- a change

-- Slots have room for one more transaction each.
abbrev pub HasWraps : HeaderContent → Type 0
HasWraps head = (k : ℕ) → (slot_at head k).wrap < 2 ^ 32 - 1

begins_above : (head : HeaderContent) (x : Xid) → HasWraps head → x.wrap ≡ min ((slot_at head x.slot).wrap + 1) (2 ^ 32 - 1) → x.wrap ≡ (slot_at head x.slot).wrap + 1
begins_above head x small is = let less : (slot_at head x.slot).wrap < 2 ^ 32 - 1 = small x.slot in omega (arith, less, is)

-- a transaction that begins is above its slot
pub next_above : (segment : SegmentState) (x : Xid) → HasWraps segment.head → next_xid segment ≡ Some x → (slot_at segment.head x.slot).wrap < x.wrap
next_above segment x small is =
    let e : x.wrap ≡ (slot_at segment.head x.slot).wrap + 1 = begins_above segment.head x small (begins_of segment x is).wrap in omega (arith, e)

whose_makes : (n : Inst) (past : Past) (redo : Redo) (e : Entry) (own : Option Xid) (x : Xid) → Whose own n.segment x → IsOf n.clock x true redo → NamesOne redo.xid e
    → weight e ≡ 1 → HasWraps n.segment.head → n.segment.head.front.seg ≡ n.plan.me → IsCalm n past → Makes n past redo true e
whose_makes n past redo e own x (on has under) of one heavy small mine was =
    under_makes n past redo true e x (record { under = under; of = of }) one mine was
whose_makes n past redo e own x (begins none next) of one heavy small mine was =
    let it = begins_of n.segment x next in
    let seg : x.seg ≡ n.plan.me = it.seg ∙ mine in
    let is : x.wrap ≡ (slot_at n.segment.head x.slot).wrap + 1 = begins_above n.segment.head x small it.wrap in
    let above : (slot_at n.segment.head x.slot).wrap < x.wrap = omega (arith, is) in
    record {
      x = x;
      of = of;
      seg = seg;
      within = it.within;
      takes = inr above;
      low = (let le : (slot_at n.segment.head x.slot).wrap ≤ changes_told past = was.wraps x.slot in omega (arith, is, le, heavy));
      uncommitted = above_uncommitted n.plan.me n.segment.head n.clock.scn n.ends past x seg above was.sound;
      one = one;
    }

-- the decision by which a row is changed
pub change_by : (n : Inst) (z : ℕ) (asks : Option Asks) (o : Option BlockContent) (redo : Redo) → image_in_hand n z ≡ o → decided_of n z asks ≡ Some (Do redo)
    → IsChange (session_at n z).own n.segment n.clock redo
change_by n z (Some (Change at wish)) (Some image) redo is e =
    change_made (ask_of n z at wish) image n.segment (handed_at n z) n.clock (on_disk n) redo
    (same_Some (decided_on n z at wish image) (Do redo) (sym (ap (λ (o : Option BlockContent). option_map (decided_on n z at wish) o) is) ∙ e))
change_by n z (Some (Change at wish)) None redo is e =
    absurd (none-some (Do redo) (sym (ap (λ (o : Option BlockContent). option_map (decided_on n z at wish) o) is) ∙ e))
change_by n z _ o redo is e = absurd (none-some (Do redo) e)

go_changes : (n : Inst) (past : Past) (z : ℕ) (redo : Redo) → change_decided n z ≡ Some (Do redo) → HasWraps n.segment.head → n.segment.head.front.seg ≡ n.plan.me
    → IsCalm n past → Each CommitIsProper past
    → Goes n.plan.me (row_changed n z redo) (record_tells (stmt_at n z) (row_of (asks_at n z)) redo redo.kind ∷ []) past
go_changes n past z redo is small mine was proper =
    let e = record_tells (stmt_at n z) (row_of (asks_at n z)) redo redo.kind in
    let it = change_by n z (asks_at n z) (image_in_hand n z) redo refl is in
    let makes = whose_makes n past redo e (session_at n z).own it.x it.whose it.of (row_one (stmt_at n z) (row_of (asks_at n z)) redo redo.kind)
    (row_weight (stmt_at n z) (row_of (asks_at n z)) redo redo.kind) small mine was in
    record {
      calm = record {
        leads_not = was.leads_not;
        sound = made_sound n past redo true e makes was.sound;
        wraps = made_wraps n past redo true e makes was.wraps;
      };
      proper = (row_proper past (stmt_at n z) (row_of (asks_at n z)) redo redo.kind (made_uncommitted n past redo true e makes), proper);
      others = made_others n past redo true e makes;
    }

-- a step back

back_by : (n : Inst) (own : Option Xid) (o : Option BlockContent) (redo : Redo) → record_of (back_on n own o) ≡ Some redo
    → (x : Xid) × IsUnder n.segment.head n.clock x true redo
back_by n (Some x) (Some image) redo e = (x, backs_under x n.segment image n.clock redo e)
back_by n (Some x) None redo e = absurd (none-some redo e)
back_by n None o redo e = absurd (none-some redo e)

back_if : (n : Inst) (z : ℕ) (goes : Bool) (redo : Redo) → record_of (if goes then back_on n (session_at n z).own (image_in_hand n z) else None) ≡ Some redo
    → (x : Xid) × IsUnder n.segment.head n.clock x true redo
back_if n z true redo e = back_by n (session_at n z).own (image_in_hand n z) redo e
back_if n z false redo e = absurd (none-some redo e)

go_steps : (n : Inst) (past : Past) (z left : ℕ) (redo : Redo) → record_of (back_decided n z) ≡ Some redo → n.segment.head.front.seg ≡ n.plan.me
    → IsCalm n past → Each CommitIsProper past → Goes n.plan.me (stepped_by n z (Some redo)) (entry.Undone redo.xid left ∷ []) past
go_steps n past z left redo is mine was proper =
    let e = entry.Undone redo.xid left in
    let it = back_if n z (goes_back n z) redo is in
    let makes = under_makes n past redo true e it.0 it.1 (undone_one redo.xid left) mine was in
    record {
      calm = record {
        leads_not = was.leads_not;
        sound = made_sound n past redo true e makes was.sound;
        wraps = made_wraps n past redo true e makes was.wraps;
      };
      proper = (made_uncommitted n past redo true e makes, proper);
      others = made_others n past redo true e makes;
    }

-- a mark

all_ready_apart : (n : Inst) (x : Xid) (past : Past) (end : WaitingEnd) (ends : List WaitingEnd) → is_under_way n.segment.head x ≡ true → end.xid ≡ x → n.clock.scn < end.scn
    → AllByRecursion (IsReady n.plan.me n.segment.head n.clock.scn past) ends → AreApart ends → AreApart (ends ++ end ∷ [])
all_ready_apart n x past end [] under named above ready apart = (tt, tt)
all_ready_apart n x past end (other ∷ ends) under named above ready apart = (
  all_append (IsApart other) ends (end ∷ []) apart.0 (
    record {
      xid = not_so (same_xid end.xid other.xid) (λ same. under_unspent n.segment.head x under
          (subst (IsSpent n.segment.head) (sym (same_xid-true end.xid other.xid same) ∙ named) ready.0.spent));
      scn = ne_eqb end.scn other.scn (λ same. (let low : other.scn ≤ n.clock.scn = ready.0.low in omega (arith, low, above, same)));
    },
    tt,
  ),
  all_ready_apart n x past end ends under named above ready.1 apart.1,
)

go_marks : (n : Inst) (past : Past) (z : ℕ) (redo : Redo) (commit : Bool) → end_decided n z ≡ Some redo → n.segment.head.front.seg ≡ n.plan.me
    → IsCalm n past → Each CommitIsProper past → Goes n.plan.me (end_made n z redo commit) (mark_entry (stmt_at n z) redo commit ∷ []) past
go_marks n past z redo commit is mine was proper =
    let e = mark_entry (stmt_at n z) redo commit in
    let end = waiting_end n redo commit (Some z) in
    let it = end_is n z redo is in
    let makes = under_makes n past redo false e it.x it.is (mark_one (stmt_at n z) redo commit) mine was in
    let now = head_of n.segment.head redo in
    let later = max n.clock.scn redo.scn in
    let sound = made_sound n past redo false e makes was.sound in
    let next : redo.scn ≡ n.clock.scn + 1 = it.is.of.scn in
    record {
      calm = record {
        leads_not = was.leads_not;
        sound = record {
          named = sound.named;
          committed = sound.committed;
          used = sound.used;
          ready = all_append (IsReady n.plan.me now later (e ∷ past)) n.ends (end ∷ []) sound.ready (
            record {
              seg = ap (λ (y : Xid). y.seg) it.is.of.xid ∙ under_seg n.segment.head it.x it.is.under ∙ mine;
              spent = subst (IsSpent now) (sym it.is.of.xid) (ended_spent n.segment.head n.clock it.x redo it.is.of (under_within n.segment.head it.x it.is.under));
              low = le-max_right n.clock.scn redo.scn;
              uncommitted = or_from (is_commit redo.xid e) (stood (is_commit redo.xid) past) ((mark_one (stmt_at n z) redo commit).commits_none redo.xid) (made_uncommitted n past redo false e makes);
              unused = or_from (is_commit_by redo.scn n.plan.me e) (stood (is_commit_by redo.scn n.plan.me) past) ((mark_one (stmt_at n z) redo commit).uses_none redo.scn n.plan.me)
                  (not_so (stood (is_commit_by redo.scn n.plan.me) past) (λ used. (let le : redo.scn ≤ n.clock.scn = was.sound.used redo.scn used in omega (arith, le, next))));
            },
            tt,
          );
          apart = all_ready_apart n it.x past end n.ends it.is.under it.is.of.xid (omega (arith, next)) was.sound.ready was.sound.apart;
        };
        wraps = made_wraps n past redo false e makes was.wraps;
      };
      proper = (mark_proper past (stmt_at n z) redo commit (made_uncommitted n past redo false e makes), proper);
      others = made_others n past redo false e makes;
    }

-- a force

ready_entered : (me : ℕ) (head : HeaderContent) (scn : Scn) (past : Past) (end : WaitingEnd) (ends : List WaitingEnd) → AllByRecursion (IsApart end) ends
    → AllByRecursion (IsReady me head scn past) ends → AllByRecursion (IsReady me head scn (entry.Committed end.xid end.scn me ∷ past)) ends
ready_entered me head scn past end [] apart ready = tt
ready_entered me head scn past end (other ∷ ends) apart ready = (
  record {
    seg = ready.0.seg;
    spent = ready.0.spent;
    low = ready.0.low;
    uncommitted = or_from (same_xid other.xid end.xid) (stood (is_commit other.xid) past) apart.0.xid ready.0.uncommitted;
    unused = or_from (other.scn == end.scn && me == me) (stood (is_commit_by other.scn me) past) (ap (λ (b : Bool). b && me == me) apart.0.scn) ready.0.unused;
  },
  ready_entered me head scn past end ends apart.1 ready.1,
)

one_entered : (me : ℕ) (head : HeaderContent) (scn : Scn) (past : Past) (end : WaitingEnd) (ends : List WaitingEnd) → Sound me head scn (end ∷ ends) past
    → Sound me head scn ends (entry.Committed end.xid end.scn me ∷ past)
one_entered me head scn past end ends was = record {
  named = λ x seg is. names_by x seg (or_cases (same_xid x end.xid) (stood (names x) past) is);
  committed = λ x seg is. commits_by x seg (or_cases (same_xid x end.xid) (stood (is_commit x) past) is);
  used = λ c is. uses_by c (or_cases (c == end.scn && me == me) (stood (is_commit_by c me) past) is);
  ready = ready_entered me head scn past end ends was.apart.0 was.ready.1;
  apart = was.apart.1;
}
  where
    names_by : (x : Xid) → x.seg ≡ me → (same_xid x end.xid ≡ true) ⊎ (stood (names x) past ≡ true) → x.wrap ≤ (slot_at head x.slot).wrap
    names_by x seg (inl is) = spent_wrap head x (subst (IsSpent head) (sym (same_xid-true x end.xid is)) was.ready.0.spent)
    names_by x seg (inr is) = was.named x seg is

    commits_by : (x : Xid) → x.seg ≡ me → (same_xid x end.xid ≡ true) ⊎ (stood (is_commit x) past ≡ true) → IsSpent head x
    commits_by x seg (inl is) = subst (IsSpent head) (sym (same_xid-true x end.xid is)) was.ready.0.spent
    commits_by x seg (inr is) = was.committed x seg is

    uses_by : (c : ℕ) → ((c == end.scn && me == me) ≡ true) ⊎ (stood (is_commit_by c me) past ≡ true) → c ≤ scn
    uses_by c (inl is) =
        let same : c ≡ end.scn = eqb-true c end.scn (and_parts (c == end.scn) (me == me) is).0 in
        let low : end.scn ≤ scn = was.ready.0.low in
        omega (arith, same, low)
    uses_by c (inr is) = was.used c is

-- What is left once the ends of an instance have entered.
record Entered (me : ℕ) (head : HeaderContent) (scn : Scn) (now : Past) : Type 0 where
  sound : Sound me head scn [] now
  proper : Each CommitIsProper now

enter_all : (me : ℕ) (head : HeaderContent) (scn : Scn) (ends : List WaitingEnd) (past : Past) → Sound me head scn ends past → AllByRecursion (IsMarked me past) ends
    → Each CommitIsProper past → Entered me head scn (fold (commit_told me) past ends)
enter_all me head scn [] past was marked proper = record { sound = was; proper = proper }
enter_all me head scn (end ∷ ends) past was marked proper =
    by end.commit refl (λ (now : Past). enter_all me head scn ends now)
  where
    by : (commit : Bool) → end.commit ≡ commit
        → ((now : Past) → Sound me head scn ends now → AllByRecursion (IsMarked me now) ends → Each CommitIsProper now → Entered me head scn (fold (commit_told me) now ends))
        → Entered me head scn (fold (commit_told me) (if commit then entry.Committed end.xid end.scn me ∷ past else past) ends)
    by true is later =
        later (entry.Committed end.xid end.scn me ∷ past) (one_entered me head scn past end ends was)
        (marked_on me (entry.Committed end.xid end.scn me ∷ []) past ends marked.1)
        ((sym was.ready.0.seg, (marked.0 is).1, was.ready.0.uncommitted, was.ready.0.unused), proper)
    by false is later = later past (record {
      named = was.named;
      committed = was.committed;
      used = was.used;
      ready = was.ready.1;
      apart = was.apart.1;
    }) marked.1 proper

-- commits of an instance leave what the journal says of another's
forced_fit : (me other : ℕ) (head : HeaderContent) (scn : Scn) (own : HeaderContent) (ends : List WaitingEnd) (es past before : Past) → (other ≡ me → ⊥)
    → AllByRecursion (IsReady me own scn before) ends → AllFit other head es past → AllFit other head (fold (commit_told me) es ends) past
forced_fit me other head scn own [] es past before apart ready fit = fit
forced_fit me other head scn own (end ∷ ends) es past before apart ready fit =
    forced_fit me other head scn own ends (commit_told me es end) past before apart ready.1 (by end.commit)
  where
    by : (commit : Bool) → AllFit other head (if commit then entry.Committed end.xid end.scn me ∷ es else es) past
    by true = (
      record {
        named = λ x seg is. absurd (apart (sym seg ∙ ap (λ (y : Xid). y.seg) (same_xid-true x end.xid is) ∙ ready.0.seg));
        uncommitted = λ x seg. not_so (same_xid x end.xid) (λ is. apart (sym seg ∙ ap (λ (y : Xid). y.seg) (same_xid-true x end.xid is) ∙ ready.0.seg));
        unused = λ c. not_so (c == end.scn && other == me) (λ is. apart (eqb-true other me (and_parts (c == end.scn) (other == me) is).1));
      },
      fit,
    )
    by false = fit

learnt_rises : (clock : Clock) (ends : List WaitingEnd) → clock.scn ≤ (fold end_learnt clock ends).scn
learnt_rises clock [] = le_refl clock.scn
learnt_rises clock (end ∷ ends) = le_trans (le-max_left clock.scn end.scn) (learnt_rises (end_learnt clock end) ends)

go_forces : (n : Inst) (past : Past) → AllByRecursion (IsMarked n.plan.me past) n.ends → IsCalm n past → Each CommitIsProper past
    → Goes n.plan.me (all_forced n) (fold (commit_told n.plan.me) [] n.ends) past
go_forces n past marked was proper =
    let m = all_forced n in
    let es = fold (commit_told n.plan.me) [] n.ends in
    let it = subst (λ (j : Past). Entered n.plan.me n.segment.head n.clock.scn j) (told_front n.plan.me n.ends past)
    (enter_all n.plan.me n.segment.head n.clock.scn n.ends past was.sound marked proper) in
    record {
      calm = record {
        leads_not = was.leads_not;
        sound = rises n.plan.me n.segment.head n.clock.scn m.clock.scn [] (es ++ past) (learnt_rises n.clock n.ends) it.sound;
        wraps = λ k. le_trans (was.wraps k) (told_more es past);
      };
      proper = it.proper;
      others = λ other head apart. forced_fit n.plan.me other head n.clock.scn n.segment.head n.ends [] past past apart was.sound.ready tt;
    }

-- a loss

loss_is : (k : Inst) (it : Loss) → is_loss (loss_entry k it) ≡ true
loss_is k (loss.Crashed line) = refl
loss_is k (loss.Ended bad) = refl

stood_front : (test : Entry → Bool) (xs ys : Past) → stood test xs ≡ true → stood test (xs ++ ys) ≡ true
stood_front test [] ys is = absurd (let no : false ≡ true = is in cc)
stood_front test (x ∷ xs) ys is = by (or_cases (test x) (stood test xs) is) (stood_front test xs ys)
  where
    by : (test x ≡ true) ⊎ (stood test xs ≡ true) → (stood test xs ≡ true → stood test (xs ++ ys) ≡ true) → stood test (x ∷ xs ++ ys) ≡ true
    by (inl here) later = or_left (test x) (stood test (xs ++ ys)) here
    by (inr there) later = or_right (test x) (stood test (xs ++ ys)) (later there)

pub lost_is : (k : Inst) (it : Loss) (kept : Option ℕ) (log past : Past) → stood is_loss (lost_tells k it kept ++ log ++ past) ≡ true
lost_is k it kept log past =
    stood_front is_loss (lost_tells k it kept ++ log) past (stood_front is_loss (lost_tells k it kept) log
    (stood_on is_loss (fold (with_refusal k) [] k.plan.mine) (loss_entry k it ∷ kept_tells k kept)
    (or_left (is_loss (loss_entry k it)) (stood is_loss (kept_tells k kept)) (loss_is k it))))

-- what a step leaves, whatever it did
pub go : (n : Inst) (core : Core) (reading : Bool) (m : Inst) (es past : Past) → Did n core reading m es → (IsUnrest core n.plan.me → ⊥)
    → stood is_loss (es ++ past) ≡ false → Each AckIsProper (es ++ past) → HasWraps n.segment.head → IsOwned n past → IsCalm n past → Each CommitIsProper past
    → Goes n.plan.me m es past
go n core reading m es past (rests same still) rest calm acked small owned was proper =
    go_still n.plan.me m (ledger n) n.clock.scn es past same.same same.clock still was proper
go n core reading m es past (goes z next free set still) rest calm acked small owned was proper =
    go_still n.plan.me m _ n.clock.scn es past set.same set.clock still (record { leads_not = was.leads_not; sound = was.sound; wraps = was.wraps }) proper
go n core reading m es past (acks z next a e is durable set still told) rest calm acked small owned was proper =
    subst (λ (l : List Entry). Goes n.plan.me m l past) (sym told)
    (go_acks n.plan.me m _ n.clock.scn past (stmt_at n z) a.xid a.scn e a.commit set.same set.clock still
    (subst (λ (l : List Entry). Each AckIsProper (l ++ past)) told acked).0
    (record { leads_not = was.leads_not; sound = was.sound; wraps = was.wraps }) proper)
go n core reading m es past (changes z redo is made told) rest calm acked small owned was proper =
    subst (λ (l : List Entry). Goes n.plan.me m l past) (sym told)
    (subst (λ (x : Inst). Goes n.plan.me x (record_tells (stmt_at n z) (row_of (asks_at n z)) redo redo.kind ∷ []) past) (sym made)
    (go_changes n past z redo is small owned.seg_is was proper))
go n core reading m es past (steps z left redo is made told) rest calm acked small owned was proper =
    subst (λ (l : List Entry). Goes n.plan.me m l past) (sym told)
    (subst (λ (x : Inst). Goes n.plan.me x (entry.Undone redo.xid left ∷ []) past) (sym made) (go_steps n past z left redo is owned.seg_is was proper))
go n core reading m es past (marks z redo is made told) rest calm acked small owned was proper =
    subst (λ (l : List Entry). Goes n.plan.me m l past) (sym told)
    (subst (λ (x : Inst). Goes n.plan.me x (mark_entry (stmt_at n z) redo (commits (end_kind n z)) ∷ []) past) (sym made)
    (go_marks n past z redo (commits (end_kind n z)) is owned.seg_is was proper))
go n core reading m es past (leads e it back told) rest calm acked small owned was proper =
    absurd (let no : false ≡ true = sym was.leads_not ∙ it.leads in cc)
go n core reading m es past (forces made told) rest calm acked small owned was proper =
    subst (λ (l : List Entry). Goes n.plan.me m l past) (sym told)
    (subst (λ (x : Inst). Goes n.plan.me x (fold (commit_told n.plan.me) [] n.ends) past) (sym made) (go_forces n past owned.marked was proper))
go n core reading m es past (loses k it kept log made plan ends seg whence told) rest calm acked small owned was proper =
    absurd (let no : true ≡ false = sym (lost_is k it kept log past) ∙ subst (λ (l : List Entry). stood is_loss (l ++ past) ≡ false) told calm in cc)
go n core reading m es past (reads thread log read unrest same told) rest calm acked small owned was proper = absurd (rest unrest)
go n core reading m es past (restores unrest same still) rest calm acked small owned was proper = absurd (rest unrest)
