-- The reader's own changes stand over what had committed up to its SCN.
use Rattle.std.proofs.Common.{◌≡◌, ℕ, ◌≤◌, Bool, true, false, cond, ◌==◌, List, [], ◌∷◌, refl, ap, arith, inl, inr, ◌⊎◌}
use Rattle.std.specs.Prelude.{Option, Some, None, IsSomeAnd}
use Rattle.std.specs.List.{AllByRecursion}
use Rattle.std.proofs.lemmas.Bool.{eqb-true, eq-eqb}
use Rattle.base_types.specs.declared.names.Xid.{Xid}
use Rattle.journal.specs.Past.{same_xid}
use Rattle.journal.proofs.XidLemmas.{same_xid-refl, same_xid-true}
use Rattle.board_slots.specs.Block.{Deed, on_row, Record, Does, TakesBack, Commits, RollsBack, Over, stage, commit_in, committed, stands, is_that, without}
use Rattle.txn_slots.specs.Own.{is_own}
use Rattle.board_slots.specs.Views.{ReaderFollows}
use Rattle.board_slots.specs.Records.{May}
use Rattle.board_slots.specs.Decide.{RowIsFree}
use Rattle.board_slots.proofs.Newest.{clash, all_map}
use Rattle.board_slots.proofs.Removal.{no-commit}

abbrev pub OverSeen : (Xid → Option ℕ) → ℕ → Deed → Deed → Type 0
OverSeen past s m o = (m.row == o.row) ≡ true → same_xid m.xid o.xid ≡ false → IsSomeAnd (past o.xid) (λ c. c ≤ s)

pub follows-grows : (old now : Xid → Option ℕ) (s t : ℕ) (me : Option Xid) (deeds : List Deed) → s ≤ t → ((x : Xid) (P : ℕ → Type 0) → IsSomeAnd (old x) P → IsSomeAnd (now x) P) → ReaderFollows old s me deeds → ReaderFollows now t me deeds
follows-grows old now s t me [] le grows h = tt
follows-grows old now s t me (m ∷ deeds) le grows h =
    ((λ e. all_map (OverSeen old s m) (OverSeen now t m) deeds (λ o f r d. grows o.xid (λ c. c ≤ t) (more (old o.xid) (f r d))) (h.0 e)), follows-grows old now s t me deeds le grows h.1)
  where
    more : (o : Option ℕ) → IsSomeAnd o (λ c. c ≤ s) → IsSomeAnd o (λ c. c ≤ t)
    more None l = l
    more (Some c) l = omega (arith, le, l)

all_without : (P : Deed → Type 0) (x : Xid) (seq : ℕ) (deeds : List Deed) → AllByRecursion P deeds → AllByRecursion P (without x seq deeds)
all_without P x seq [] h = tt
all_without P x seq (m ∷ deeds) h = here (is_that x seq m) (all_without P x seq deeds h.1)
  where
    here : (t : Bool) → AllByRecursion P (without x seq deeds) → AllByRecursion P (cond t deeds (m ∷ without x seq deeds))
    here true ih = h.1
    here false ih = (h.0, ih)

follows-without : (past : Xid → Option ℕ) (s : ℕ) (me : Option Xid) (x : Xid) (seq : ℕ) (deeds : List Deed) → ReaderFollows past s me deeds → ReaderFollows past s me (without x seq deeds)
follows-without past s me x seq [] h = tt
follows-without past s me x seq (m ∷ deeds) h = here (is_that x seq m) (follows-without past s me x seq deeds h.1)
  where
    here : (t : Bool) → ReaderFollows past s me (without x seq deeds) → ReaderFollows past s me (cond t deeds (m ∷ without x seq deeds))
    here true ih = h.1
    here false ih = ((λ e. all_without (OverSeen past s m) x seq deeds (h.0 e)), ih)

-- where nothing of the reader stands
pub follows-none : (past : Xid → Option ℕ) (s : ℕ) (me : Option Xid) (deeds : List Deed) → AllByRecursion (λ m. is_own me m.xid ≡ false) deeds → ReaderFollows past s me deeds
follows-none past s me [] h = tt
follows-none past s me (m ∷ deeds) h = ((λ e. clash (is_own me m.xid) e h.0), follows-none past s me deeds h.1)

-- kept by each record, where an own one was decided at s or below
pub follows-kept : (records : List Record) (r : Record) (s : ℕ) (me : Option Xid) → May records r → ((m : Deed) → r ≡ Does m → is_own me m.xid ≡ true → RowIsFree records m.xid s m.row)
    → ReaderFollows (committed records) s me (stands records) → ReaderFollows (committed (r ∷ records)) s me (stands (r ∷ records))
follows-kept records (Does m) s me may free h = ((λ e. all_map (λ o. on_row m.row o ≡ true → (o.xid ≡ m.xid) ⊎ IsSomeAnd (committed records o.xid) (λ c. c ≤ s)) (OverSeen (committed records) s m) (stands records) one (free m refl e)), h)
  where
    one : (o : Deed) → (on_row m.row o ≡ true → (o.xid ≡ m.xid) ⊎ IsSomeAnd (committed records o.xid) (λ c. c ≤ s)) → OverSeen (committed records) s m o
    one o f r d = elim (f (rw (eqb-true m.row o.row r) (eq-eqb o.row o.row refl))) [ inl is ↦ clash (same_xid m.xid o.xid) (rw is (same_xid-refl m.xid)) d | inr l ↦ l ]
follows-kept records (TakesBack inst x seq scn change) s me may free h = follows-without (committed records) s me x seq (stands records) h
follows-kept records (Commits c x) s me may free h = follows-grows (committed records) (committed (Commits c x ∷ records)) s s me (stands records) (omega arith) grows h
  where
    grows : (y : Xid) (P : ℕ → Type 0) → IsSomeAnd (committed records y) P → IsSomeAnd (committed (Commits c x ∷ records) y) P
    grows y P h = here (same_xid y x) refl
      where
        here : (t : Bool) → same_xid y x ≡ t → IsSomeAnd (commit_in (cond t (Over (Some c)) (stage y records))) P
        here false e = h
        here true e = absurd (no-commit (committed records y) P (rw (same_xid-true y x e) (ap commit_in may.goes_on)) h)
follows-kept records (RollsBack inst c x) s me may free h = follows-grows (committed records) (committed (RollsBack inst c x ∷ records)) s s me (stands records) (omega arith) grows h
  where
    grows : (y : Xid) (P : ℕ → Type 0) → IsSomeAnd (committed records y) P → IsSomeAnd (committed (RollsBack inst c x ∷ records) y) P
    grows y P h = here (same_xid y x) refl
      where
        here : (t : Bool) → same_xid y x ≡ t → IsSomeAnd (commit_in (cond t (Over None) (stage y records))) P
        here false e = h
        here true e = absurd (no-commit (committed records y) P (rw (same_xid-true y x e) (ap commit_in may.goes_on)) h)
