-- What the journal says of the transactions of an instance, where none was lost.
use Rattle.std.proofs.Common.{◌≡◌, ℕ, ◌<◌, ◌≤◌, ◌||◌, Bool, true, false, List, [], ◌∷◌, ◌++◌, refl, sym, ap, subst, ◌∙◌, ◌⊎◌, inl, inr, arith}
use Rattle.std.specs.Prelude.{◌==◌}
use Rattle.std.specs.List.{AllByRecursion}
use Rattle.std.proofs.Math.Nat.{le_refl, le_trans}
use Rattle.std.proofs.lemmas.Bool.{or_cases, or_from}
use Rattle.base_types.specs.declared.names.Scn.{Scn}
use Rattle.base_types.specs.declared.names.Xid.{Xid}
use Rattle.undo_image.specs.Header.{HeaderContent, slot_at}
use Rattle.journal.specs.declared.entry.Entry.{Entry}
use Rattle.journal.specs.declared.entry.Entry.TheVariants as entry
use Rattle.journal.specs.Good.{CommitIsProper}
use Rattle.journal.specs.Past.{Past, same_xid}
use Rattle.journal.specs.Stood.{is_commit, is_commit_by, stood}
use Rattle.txn_engine.specs.Limits.{is_under_way}
use Rattle.inst_state.specs.declared.inst.WaitingEnd.{WaitingEnd}
use Rattle.end_laws.specs.Names.{names}
use Rattle.end_laws.proofs.Did.{is_still}
use Rattle.end_laws.proofs.Slots.{Advances, IsSpent, spent_wrap, under_unspent}

-- An end that waits for the disk: its transaction has ended, and neither it nor another one at its SCN has committed.
pub record IsReady (me : ℕ) (head : HeaderContent) (scn : Scn) (past : Past) (end : WaitingEnd) : Type 0 where
  pub seg : end.xid.seg ≡ me
  pub spent : IsSpent head end.xid
  pub low : end.scn ≤ scn
  pub uncommitted : stood (is_commit end.xid) past ≡ false
  pub unused : stood (is_commit_by end.scn me) past ≡ false

-- Two ends are of two transactions, at two SCNs.
pub record IsApart (end other : WaitingEnd) : Type 0 where
  pub xid : same_xid other.xid end.xid ≡ false
  pub scn : (other.scn == end.scn) ≡ false

-- Ends are apart, each from all later ones.
abbrev pub AreApart : List WaitingEnd → Type 0
AreApart [] = Unit {0}
AreApart (end ∷ ends) = AllByRecursion (IsApart end) ends × AreApart ends

-- What the journal says of the transactions of an instance: each that it names has had its slot; those that have committed, and
-- those whose ends wait for the disk, have ended, and no SCN of them is above the clock.
pub record Sound (me : ℕ) (head : HeaderContent) (scn : Scn) (ends : List WaitingEnd) (past : Past) : Type 0 where
  pub named : (x : Xid) → x.seg ≡ me → stood (names x) past ≡ true → x.wrap ≤ (slot_at head x.slot).wrap
  pub committed : (x : Xid) → x.seg ≡ me → stood (is_commit x) past ≡ true → IsSpent head x
  pub used : (c : ℕ) → stood (is_commit_by c me) past ≡ true → c ≤ scn
  pub ready : AllByRecursion (IsReady me head scn past) ends
  pub apart : AreApart ends

-- An entry leaves what the journal says of an instance's transactions.
pub record Fits (me : ℕ) (head : HeaderContent) (past : Past) (e : Entry) : Type 0 where
  pub named : (x : Xid) → x.seg ≡ me → names x e ≡ true → (x.wrap ≤ (slot_at head x.slot).wrap) ⊎ (stood (names x) past ≡ true)
  pub uncommitted : (x : Xid) → x.seg ≡ me → is_commit x e ≡ false
  pub unused : (c : ℕ) → is_commit_by c me e ≡ false

named_push : (me : ℕ) (head : HeaderContent) (scn : Scn) (ends : List WaitingEnd) (past : Past) (e : Entry) → Fits me head past e → Sound me head scn ends past
    → (x : Xid) → x.seg ≡ me → (names x e ≡ true) ⊎ (stood (names x) past ≡ true) → x.wrap ≤ (slot_at head x.slot).wrap
named_push me head scn ends past e fits was x seg (inl is) = by (fits.named x seg is)
  where
    by : (x.wrap ≤ (slot_at head x.slot).wrap) ⊎ (stood (names x) past ≡ true) → x.wrap ≤ (slot_at head x.slot).wrap
    by (inl le) = le
    by (inr stands) = was.named x seg stands
named_push me head scn ends past e fits was x seg (inr stands) = was.named x seg stands

-- what an entry that isn't so doesn't add
pub only_old : (b rest : Bool) → b ≡ false → (b || rest) ≡ true → rest ≡ true
only_old true rest none is = absurd (let no : true ≡ false = none in cc)
only_old false rest none is = is

ready_push : (me : ℕ) (head : HeaderContent) (scn : Scn) (past : Past) (e : Entry) (ends : List WaitingEnd) → Fits me head past e
    → AllByRecursion (IsReady me head scn past) ends → AllByRecursion (IsReady me head scn (e ∷ past)) ends
ready_push me head scn past e [] fits all = tt
ready_push me head scn past e (end ∷ ends) fits all = (
  record {
    seg = all.0.seg;
    spent = all.0.spent;
    low = all.0.low;
    uncommitted = or_from (is_commit end.xid e) (stood (is_commit end.xid) past) (fits.uncommitted end.xid all.0.seg) all.0.uncommitted;
    unused = or_from (is_commit_by end.scn me e) (stood (is_commit_by end.scn me) past) (fits.unused end.scn) all.0.unused;
  },
  ready_push me head scn past e ends fits all.1,
)

pub push : (me : ℕ) (head : HeaderContent) (scn : Scn) (ends : List WaitingEnd) (past : Past) (e : Entry) → Fits me head past e → Sound me head scn ends past
    → Sound me head scn ends (e ∷ past)
push me head scn ends past e fits was = record {
  named = λ x seg is. named_push me head scn ends past e fits was x seg (or_cases (names x e) (stood (names x) past) is);
  committed = λ x seg is. was.committed x seg (only_old (is_commit x e) (stood (is_commit x) past) (fits.uncommitted x seg) is);
  used = λ c is. was.used c (only_old (is_commit_by c me e) (stood (is_commit_by c me) past) (fits.unused c) is);
  ready = ready_push me head scn past e ends fits was.ready;
  apart = was.apart;
}

-- Each of these entries leaves it.
abbrev pub AllFit : ℕ → HeaderContent → List Entry → Past → Type 0
AllFit me head [] past = Unit {0}
AllFit me head (e ∷ es) past = Fits me head (es ++ past) e × AllFit me head es past

pub push_all : (me : ℕ) (head : HeaderContent) (scn : Scn) (ends : List WaitingEnd) (past es : Past) → AllFit me head es past → Sound me head scn ends past
    → Sound me head scn ends (es ++ past)
push_all me head scn ends past [] fit was = was
push_all me head scn ends past (e ∷ es) fit was =
    push me head scn ends (es ++ past) e fit.0 (push_all me head scn ends past es fit.1 was)

ready_turn : (me : ℕ) (head now : HeaderContent) (scn later : Scn) (past : Past) (ends : List WaitingEnd) → Advances head now → scn ≤ later
    → AllByRecursion (IsReady me head scn past) ends → AllByRecursion (IsReady me now later past) ends
ready_turn me head now scn later past [] up le all = tt
ready_turn me head now scn later past (end ∷ ends) up le all = (
  record {
    seg = all.0.seg;
    spent = up.spent end.xid all.0.spent;
    low = le_trans all.0.low le;
    uncommitted = all.0.uncommitted;
    unused = all.0.unused;
  },
  ready_turn me head now scn later past ends up le all.1,
)

-- slots advance, and the clock rises
pub turn : (me : ℕ) (head now : HeaderContent) (scn later : Scn) (ends : List WaitingEnd) (past : Past) → Advances head now → scn ≤ later
    → Sound me head scn ends past → Sound me now later ends past
turn me head now scn later ends past up le was = record {
  named = λ x seg is. le_trans (was.named x seg is) (up.up x.slot);
  committed = λ x seg is. up.spent x (was.committed x seg is);
  used = λ c is. le_trans (was.used c is) le;
  ready = ready_turn me head now scn later past ends up le was.ready;
  apart = was.apart;
}

pub advances_not : (head : HeaderContent) → Advances head head
advances_not head = record { up = λ k. le_refl (slot_at head k).wrap; spent = λ y spent. spent }

pub rises : (me : ℕ) (head : HeaderContent) (scn later : Scn) (ends : List WaitingEnd) (past : Past) → scn ≤ later → Sound me head scn ends past
    → Sound me head later ends past
rises me head scn later ends past le was = turn me head head scn later ends past (advances_not head) le was

-- what holds false where it would lead to nothing
pub not_so : (b : Bool) → (b ≡ true → ⊥) → b ≡ false
not_so true no_way = absurd (no_way refl)
not_so false no_way = refl

-- a transaction that is under way hasn't committed
pub under_uncommitted : (me : ℕ) (head : HeaderContent) (scn : Scn) (ends : List WaitingEnd) (past : Past) (x : Xid) → x.seg ≡ me → is_under_way head x ≡ true
    → Sound me head scn ends past → stood (is_commit x) past ≡ false
under_uncommitted me head scn ends past x seg under was =
    not_so (stood (is_commit x) past) (λ is. under_unspent head x under (was.committed x seg is))

-- a transaction whose wrap is above its slot's is in no entry
pub above_unnamed : (me : ℕ) (head : HeaderContent) (scn : Scn) (ends : List WaitingEnd) (past : Past) (x : Xid) → x.seg ≡ me → (slot_at head x.slot).wrap < x.wrap
    → Sound me head scn ends past → stood (names x) past ≡ false
above_unnamed me head scn ends past x seg above was =
    not_so (stood (names x) past) (λ is. (let le : x.wrap ≤ (slot_at head x.slot).wrap = was.named x seg is in omega (arith, le, above)))

pub above_uncommitted : (me : ℕ) (head : HeaderContent) (scn : Scn) (ends : List WaitingEnd) (past : Past) (x : Xid) → x.seg ≡ me → (slot_at head x.slot).wrap < x.wrap
    → Sound me head scn ends past → stood (is_commit x) past ≡ false
above_uncommitted me head scn ends past x seg above was =
    not_so (stood (is_commit x) past) (λ is. (let le : x.wrap ≤ (slot_at head x.slot).wrap = spent_wrap head x (was.committed x seg is) in omega (arith, le, above)))

-- entries that name no transaction

-- An entry names no transaction.
pub record IsNameless (e : Entry) : Type 0 where
  pub names_none : (x : Xid) → names x e ≡ false
  pub commits_none : (x : Xid) → is_commit x e ≡ false
  pub uses_none : (c inst : ℕ) → is_commit_by c inst e ≡ false

clash : {A : Type 0} → false ≡ true → A
clash e = absurd (let no : false ≡ true = e in cc)

pub still_nameless : (e : Entry) → is_still e ≡ true → IsNameless e
still_nameless (entry.Changed stmt x row found new) is = clash is
still_nameless (entry.Locked stmt x row) is = clash is
still_nameless (entry.Marked stmt x c) is = clash is
still_nameless (entry.Committed x c inst) is = clash is
still_nameless (entry.Acked stmt x c) is = clash is
still_nameless (entry.Undone x left) is = clash is
still_nameless (entry.Rolled x) is = clash is
still_nameless _ is = record { names_none = λ x. refl; commits_none = λ x. refl; uses_none = λ c inst. refl }

pub still_proper : (past : Past) (e : Entry) → is_still e ≡ true → CommitIsProper past e
still_proper past (entry.Changed stmt x row found new) is = clash is
still_proper past (entry.Locked stmt x row) is = clash is
still_proper past (entry.Marked stmt x c) is = clash is
still_proper past (entry.Committed x c inst) is = clash is
still_proper past (entry.Undone x left) is = clash is
still_proper past (entry.Rolled x) is = clash is
still_proper past _ is = tt

pub nameless_fits : (me : ℕ) (head : HeaderContent) (past : Past) (e : Entry) → IsNameless e → Fits me head past e
nameless_fits me head past e none = record {
  named = λ x seg is. absurd (let no : false ≡ true = sym (none.names_none x) ∙ is in cc);
  uncommitted = λ x seg. none.commits_none x;
  unused = λ c. none.uses_none c me;
}

-- entries that name one transaction

-- An entry names this transaction at most, and isn't a commit that enters.
pub record NamesOne (x : Xid) (e : Entry) : Type 0 where
  pub one : (y : Xid) → names y e ≡ true → y ≡ x
  pub commits_none : (y : Xid) → is_commit y e ≡ false
  pub uses_none : (c inst : ℕ) → is_commit_by c inst e ≡ false

pub one_fits : (me : ℕ) (head : HeaderContent) (past : Past) (x : Xid) (e : Entry) → NamesOne x e
    → (x.seg ≡ me → (x.wrap ≤ (slot_at head x.slot).wrap) ⊎ (stood (names x) past ≡ true)) → Fits me head past e
one_fits me head past x e one had = record {
  named = λ y seg is. (
      let same : y ≡ x = one.one y is in
      subst (λ (z : Xid). (z.wrap ≤ (slot_at head z.slot).wrap) ⊎ (stood (names z) past ≡ true)) (sym same) (had (sym (ap (λ (z : Xid). z.seg) same) ∙ seg)));
  uncommitted = λ y seg. one.commits_none y;
  unused = λ c. one.uses_none c me;
}

-- an entry of a transaction of another instance
pub other_fits : (me mine : ℕ) (head : HeaderContent) (past : Past) (x : Xid) (e : Entry) → NamesOne x e → x.seg ≡ mine → (me ≡ mine → ⊥) → Fits me head past e
other_fits me mine head past x e one seg apart = one_fits me head past x e one (λ is. absurd (apart (sym is ∙ seg)))
