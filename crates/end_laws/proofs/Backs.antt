-- What stands in the journal of the ends that sessions wait for.
use Rattle.std.proofs.Common.{◌≡◌, ℕ, zero, suc, Bool, true, false, List, [], ◌∷◌, ◌++◌, get_or, Option, Some, None, IfSome, refl, sym, ap, subst, ◌∙◌, ◌⊎◌, inl, inr}
use Rattle.std.specs.Prelude.{slice_set}
use Rattle.std.specs.Cmp.Derive.{both_true}
use Rattle.std.specs.List.{AllByRecursion}
use Rattle.std.proofs.lemmas.Bool.{eq-eqb, or_left, or_right}
use Rattle.base_types.specs.declared.names.Scn.{Scn}
use Rattle.base_types.specs.declared.names.Xid.{Xid}
use Rattle.journal.specs.declared.entry.Entry.{Entry}
use Rattle.journal.specs.declared.entry.Entry.TheVariants.{Committed, Marked}
use Rattle.journal.specs.Past.{Past}
use Rattle.journal.specs.Stood.{is_commit_at, is_mark_by, stood}
use Rattle.journal.proofs.XidLemmas.{same_xid-refl}
use Rattle.inst_state.specs.declared.inst.WaitingEnd.{WaitingEnd}
use Rattle.inst_state.specs.declared.plan.Plan.{Plan}
use Rattle.inst_state.specs.Sessions.{new_session}
use Rattle.end_laws.proofs.Stakes.{Awaited, Stake, stake_of, stmt_in}

-- A commit that a session waits for has its mark by the session's line, and has entered once it is on the disk.
pub record IsBacked (past : Past) (stmt : ℕ) (a : Awaited) : Type 0 where
  pub mark : stood (is_mark_by stmt a.xid a.scn) past ≡ true
  pub entered : a.on_disk ≡ true → stood (is_commit_at a.xid a.scn) past ≡ true

-- The end that a session waits for, if it waits for a commit, is backed.
abbrev pub Backs : Past → ℕ → Option Awaited → Type 0
Backs past stmt None = Unit {0}
Backs past stmt (Some a) = a.commit ≡ true → IsBacked past stmt a

-- A session waits for this end, and knows whether it is on the disk.
pub record IsFor (end : WaitingEnd) (a : Awaited) : Type 0 where
  pub xid : a.xid ≡ end.xid
  pub scn : a.scn ≡ end.scn
  pub commit : a.commit ≡ end.commit

abbrev pub Ties : WaitingEnd → Option Awaited → Type 0
Ties end None = ⊥
Ties end (Some a) = IsFor end a

-- A session waits for this end, and it isn't on the disk.
abbrev pub Waits : WaitingEnd → Option Awaited → Type 0
Waits end None = ⊥
Waits end (Some a) = IsFor end a × (a.on_disk ≡ false)

-- the stake of a session among those of an instance
abbrev pub stake_in : List Stake → ℕ → Stake
stake_in stakes z = get_or stakes z (stake_of new_session)

-- The session of an end, if it has one, waits for it.
abbrev pub IsTied : List Stake → WaitingEnd → Type 0
IsTied stakes end = IfSome end.session (λ z. Waits end (stake_in stakes z).awaits)

-- What the sessions of an instance wait for is backed by the journal, and the ends that wait for the disk are those.
pub record Honest (plan : Plan) (ends : List WaitingEnd) (stakes : List Stake) (past : Past) : Type 0 where
  pub backed : (z : ℕ) → Backs past (stmt_in plan z (stake_in stakes z).next) (stake_in stakes z).awaits
  pub tied : AllByRecursion (IsTied stakes) ends

-- what stood stands
pub stood_on : (test : Entry → Bool) (es past : Past) → stood test past ≡ true → stood test (es ++ past) ≡ true
stood_on test [] past is = is
stood_on test (e ∷ es) past is = or_right (test e) (stood test (es ++ past)) (stood_on test es past is)

pub backs_on : (es past : Past) (stmt : ℕ) (o : Option Awaited) → Backs past stmt o → Backs (es ++ past) stmt o
backs_on es past stmt None backs = tt
backs_on es past stmt (Some a) backs = λ commit. (
    let was = backs commit in record {
      mark = stood_on (is_mark_by stmt a.xid a.scn) es past was.mark;
      entered = λ is. stood_on (is_commit_at a.xid a.scn) es past (was.entered is);
    })

pub honest_on : (plan : Plan) (ends : List WaitingEnd) (stakes : List Stake) (es past : Past) → Honest plan ends stakes past → Honest plan ends stakes (es ++ past)
honest_on plan ends stakes es past was = record {
  backed = λ z. backs_on es past (stmt_in plan z (stake_in stakes z).next) (stake_in stakes z).awaits (was.backed z);
  tied = was.tied;
}

-- a list after one of its places was set has there what was set, if it has the place, and elsewhere what it had
pub set_or : {A : Type 0} (xs : List A) (z : ℕ) (x : A) (y : ℕ) (d : A)
    → ((y ≡ z) × (get_or (slice_set xs z x) y d ≡ x)) ⊎ (get_or (slice_set xs z x) y d ≡ get_or xs y d)
set_or {A = A} [] z x y d = inr refl
set_or {A = A} (a ∷ xs) zero x zero d = inl (refl, refl)
set_or {A = A} (a ∷ xs) zero x (suc y) d = inr refl
set_or {A = A} (a ∷ xs) (suc z) x zero d = inr refl
set_or {A = A} (a ∷ xs) (suc z) x (suc y) d = by (set_or xs z x y d)
  where
    by : ((y ≡ z) × (get_or (slice_set xs z x) y d ≡ x)) ⊎ (get_or (slice_set xs z x) y d ≡ get_or xs y d)
        → ((suc y ≡ suc z) × (get_or (slice_set xs z x) y d ≡ x)) ⊎ (get_or (slice_set xs z x) y d ≡ get_or xs y d)
    by (inl is) = inl (ap suc is.0, is.1)
    by (inr is) = inr is

-- A session waits for no end, or for one that is on the disk.
abbrev pub IsFree : Option Awaited → Type 0
IsFree None = Unit {0}
IsFree (Some a) = a.on_disk ≡ true

free_apart : (end : WaitingEnd) (o : Option Awaited) → IsFree o → Waits end o → ⊥
free_apart end None free waits = waits
free_apart end (Some a) free waits = let no : false ≡ true = sym waits.1 ∙ free in cc

-- an end is tied to another session than one that is free
tied_apart : (stakes : List Stake) (z : ℕ) (s : Stake) (end : WaitingEnd) (o : Option ℕ) → IsFree (stake_in stakes z).awaits
    → IfSome o (λ y. Waits end (stake_in stakes y).awaits) → IfSome o (λ y. Waits end (stake_in (slice_set stakes z s) y).awaits)
tied_apart stakes z s end None free tied = tt
tied_apart stakes z s end (Some y) free tied = by (set_or stakes z s y (stake_of new_session))
  where
    by : ((y ≡ z) × (stake_in (slice_set stakes z s) y ≡ s)) ⊎ (stake_in (slice_set stakes z s) y ≡ stake_in stakes y)
        → Waits end (stake_in (slice_set stakes z s) y).awaits
    by (inl is) = absurd (free_apart end (stake_in stakes z).awaits free (subst (λ (x : ℕ). Waits end (stake_in stakes x).awaits) is.0 tied))
    by (inr is) = subst (λ (x : Stake). Waits end x.awaits) (sym is) tied

pub all_apart : (stakes : List Stake) (z : ℕ) (s : Stake) (ends : List WaitingEnd) → IsFree (stake_in stakes z).awaits
    → AllByRecursion (IsTied stakes) ends → AllByRecursion (IsTied (slice_set stakes z s)) ends
all_apart stakes z s [] free tied = tt
all_apart stakes z s (end ∷ ends) free tied =
    (tied_apart stakes z s end end.session free tied.0, all_apart stakes z s ends free tied.1)

pub all_append : {A : Type 0} (P : A → Type 0) (xs ys : List A) → AllByRecursion P xs → AllByRecursion P ys → AllByRecursion P (xs ++ ys)
all_append {A = A} P [] ys a b = b
all_append {A = A} P (x ∷ xs) ys a b = (a.0, all_append P xs ys a.1 b)

-- a session comes to wait for nothing
pub honest_freed : (plan : Plan) (ends : List WaitingEnd) (stakes : List Stake) (past : Past) (z : ℕ) (s : Stake) → IsFree (stake_in stakes z).awaits
    → s.awaits ≡ None → Honest plan ends stakes past → Honest plan ends (slice_set stakes z s) past
honest_freed plan ends stakes past z s free none was = record {
  backed = λ y. by y (set_or stakes z s y (stake_of new_session));
  tied = all_apart stakes z s ends free was.tied;
}
  where
    by : (y : ℕ) → ((y ≡ z) × (stake_in (slice_set stakes z s) y ≡ s)) ⊎ (stake_in (slice_set stakes z s) y ≡ stake_in stakes y)
        → Backs past (stmt_in plan y (stake_in (slice_set stakes z s) y).next) (stake_in (slice_set stakes z s) y).awaits
    by y (inl is) = subst (λ (o : Option Awaited). Backs past (stmt_in plan y (stake_in (slice_set stakes z s) y).next) o)
        (sym (ap (λ (x : Stake). x.awaits) is.1 ∙ none)) tt
    by y (inr is) = subst (λ (x : Stake). Backs past (stmt_in plan y x.next) x.awaits) (sym is) (was.backed y)

-- a mark stands that was made
pub marked_stands : (stmt : ℕ) (x : Xid) (c : Scn) (past : Past) → stood (is_mark_by stmt x c) (Marked stmt x c ∷ past) ≡ true
marked_stands stmt x c past =
    or_left (is_mark_by stmt x c (Marked stmt x c)) (stood (is_mark_by stmt x c) past)
    (both_true (both_true (eq-eqb stmt stmt refl) (same_xid-refl x)) (eq-eqb c c refl))

-- a commit stands that has entered
pub entered_stands : (x : Xid) (c : Scn) (inst : ℕ) (past : Past) → stood (is_commit_at x c) (Committed x c inst ∷ past) ≡ true
entered_stands x c inst past =
    or_left (is_commit_at x c (Committed x c inst)) (stood (is_commit_at x c) past) (both_true (same_xid-refl x) (eq-eqb c c refl))
