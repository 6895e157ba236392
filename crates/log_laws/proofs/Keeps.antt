-- What a kind of step leaves of the logs.
use Rattle.std.proofs.Common.{◌≡◌, ℕ, zero, suc, ◌^◌, ◌<◌, ◌≤◌, Bool, true, false, List, [], ◌∷◌, ◌++◌, length, Option, None, Some, slice_get, refl, sym, ap, subst, ◌∙◌, ◌⊎◌, inl, inr, arith}
use Rattle.std.specs.Prelude.{IsSomeAnd, IfSome, slice_set, Result, Ok, Err}
use Rattle.std.proofs.lemmas.Option.{none-some, same_Some, slice_get_within}
use Rattle.redo_types.specs.declared.redo.Redo.{Redo}
use Rattle.redo_record.specs.Redo.{IsRedo}
use Rattle.redo_thread.specs.Thread.{appended, end_of}
use Rattle.rac_disk.specs.Content.{Content, IsDisk}
use Rattle.rac_disk.specs.State.{Change, Leaves, Makes, PutBlock, State, WhereTold}
use Rattle.undo_segment.specs.Load.{Keeps as KeepsTold}
use Rattle.inst_state.specs.declared.inst.Inst.{Inst}
use Rattle.inst_state.specs.declared.shared.Core.{Core}
use Rattle.inst_state.specs.State.{is_up}
use Rattle.log_laws.proofs.Cluster.{AtOwn, Files, Logs, Own, Shared, files_of, left, lost_own, open_in, own_of, shared_of}
use Rattle.log_laws.proofs.Leaving.{IsSmall, inst_stopped}
use Rattle.log_laws.proofs.Moves.{own_moved}
use Rattle.log_laws.proofs.Thawing.{own_kept, own_records}
use Rattle.log_laws.proofs.Places.{Fewer, OneMore, clean_none, empty_none, places_of}
use Rattle.std.specs.List.{AllByRecursion}
use Rattle.inst_loss.specs.Lost.{lost}

-- The logs are right, where the disk tells what it holds; and it does.
abbrev pub HoldsAt : Shared → List Own → Option Content → Type 0
HoldsAt s owns told = IsSomeAnd told (λ it. Logs s owns (files_of it))

pub some_and : (P : Content → Type 0) (told : Option Content) → IsSomeAnd told P → (it : Content) × (told ≡ Some it) × P it
some_and P None h = absurd h
some_and P (Some it) h = (it, refl, h)

pub and_some : (P : Content → Type 0) (told : Option Content) (it : Content) → told ≡ Some it → P it → IsSomeAnd told P
and_some P told it e h = subst (λ (o : Option Content). IsSomeAnd o P) (sym e) h

pub and_on : (P Q : Content → Type 0) (told : Option Content) → ((it : Content) → P it → Q it) → IsSomeAnd told P → IsSomeAnd told Q
and_on P Q None on h = absurd h
and_on P Q (Some it) on h = on it h

-- What a step of an instance leaves of the logs: where they were right they are.
abbrev pub Keeps : Inst → Inst → Core → Core → State → State → Type 0
Keeps n m core now old new = (owns : List Own) (i : ℕ) → slice_get owns i ≡ Some (own_of n) → IsSmall now.members.epoch
    → HoldsAt (shared_of core) owns old.told → HoldsAt (shared_of now) (slice_set owns i (own_of m)) new.told

-- The disk has the same logs and control entries.
abbrev pub Untouched : State → State → Type 0
Untouched old new = (it : Content) → old.told ≡ Some it → (now : Content) × (new.told ≡ Some now) × (files_of now ≡ files_of it)

pub untouched_same : (old new : State) → new ≡ old → Untouched old new
untouched_same old new e it told = (it, ap (λ (s : State). s.told) e ∙ told, refl)

kept_some : (old new : Option Content) (it : Content) → old ≡ Some it → IfSome old (λ x. new ≡ Some x) → new ≡ Some it
kept_some old new it e h = subst (λ (o : Option Content). IfSome o (λ x. new ≡ Some x)) e h

pub untouched_kept : (old new : State) → KeepsTold old.told new.told → Untouched old new
untouched_kept old new kept it told = (it, kept_some old.told new.told it told kept, refl)

-- what the disk tells after a call that was to make a change
pub record After (Did : Content → Content → Type 0) (it : Content) (told : Option Content) : Type 0 where
  pub now : Content
  pub tells : told ≡ Some now
  pub disk : IsDisk it
  pub did : Did it now

told_by : (Did : Content → Content → Type 0) (old new : Option Content) (it : Content) → old ≡ Some it → WhereTold old new Did → After Did it new
told_by Did None new it e h = absurd (none-some it e)
told_by Did (Some x) None it e h = absurd h
told_by Did (Some x) (Some y) it e h =
    subst (λ (z : Content). After Did z (Some y)) (same_Some x it e) (record { now = y; tells = refl; disk = h.0; did = h.2 })

pub told_after : {T E : Type 0} (change : Change) (result : Result T E) (old new : State) (it : Content) → old.told ≡ Some it → Makes change result old new
    → After (Leaves change result) it new.told
told_after change result old new it e made = told_by (Leaves change result) old.told new.told it e made.disk

then_untouched : (old mid new : State) → Untouched old mid → Untouched mid new → Untouched old new
then_untouched old mid new a b it told =
    let p = a it told in
    let q = b p.0 p.1 in
    (q.0, q.1, q.2 ∙ p.2)

pub untouched_then : (old mid new : State) → Untouched old mid → Untouched mid new → Untouched old new
untouched_then old mid new a b = then_untouched old mid new a b

block_kept : {T E : Type 0} (block : ℕ) (bytes : List ℕ) (result : Result T E) (it now : Content) → Leaves (PutBlock block bytes) result it now → files_of now ≡ files_of it
block_kept block bytes (Ok x) it now e = ap files_of e
block_kept block bytes (Err x) it now (inl e) = ap files_of e
block_kept block bytes (Err x) it now (inr e) = ap files_of e

pub untouched_block : {T E : Type 0} (block : ℕ) (bytes : List ℕ) (result : Result T E) (old new : State) → Makes (PutBlock block bytes) result old new → Untouched old new
untouched_block block bytes result old new made it told =
    let after = told_after (PutBlock block bytes) result old new it told made in
    (after.now, after.tells, block_kept block bytes result it after.now after.did)

pub set_same : {A : Type 0} (l : List A) (i : ℕ) (x : A) → slice_get l i ≡ Some x → slice_set l i x ≡ l
set_same [] i x e = refl
set_same {A = A} (a ∷ l) zero x e = ap (λ (y : A). y ∷ l) (sym (same_Some a x e))
set_same {A = A} (a ∷ l) (suc i) x e = ap (λ (m : List A). a ∷ m) (set_same l i x e)

pub few_insts : (s : Shared) (owns : List Own) (f : Files) (i : ℕ) (o : Own) → Logs s owns f → slice_get owns i ≡ Some o → (i < s.instances) × (i < 8)
few_insts s owns f i o logs at =
    let within = slice_get_within owns i o at in
    let count = logs.count in
    let few = logs.members.few in
    (omega (arith, within, count), omega (arith, within, count, few))

-- a step that changes nothing of the logs
pub rests : (n m : Inst) (core now : Core) (old new : State) → own_of m ≡ own_of n → shared_of now ≡ shared_of core → Untouched old new → Keeps n m core now old new
rests n m core now old new own shared untouched owns i at small holds =
    let h = some_and (λ (it : Content). Logs (shared_of core) owns (files_of it)) old.told holds in
    let u = untouched h.0 h.1 in
    let same : slice_set owns i (own_of m) ≡ owns = ap (slice_set owns i) own ∙ set_same owns i (own_of n) at in
    and_some (λ (it : Content). Logs (shared_of now) (slice_set owns i (own_of m)) (files_of it)) new.told u.0 u.1
    (subst (λ (f : Files). Logs (shared_of now) (slice_set owns i (own_of m)) f) (sym u.2)
    (subst (λ (l : List Own). Logs (shared_of now) l (files_of h.0)) (sym same)
    (subst (λ (s : Shared). Logs s owns (files_of h.0)) (sym shared) h.2)))

-- what holds, by what a step did to the parts
pub held : (n m : Inst) (core now : Core) (old new : State) (owns : List Own) (i : ℕ) → Untouched old new → HoldsAt (shared_of core) owns old.told
    → ((f : Files) → Logs (shared_of core) owns f → Logs (shared_of now) (slice_set owns i (own_of m)) f)
    → HoldsAt (shared_of now) (slice_set owns i (own_of m)) new.told
held n m core now old new owns i untouched holds moves =
    let h = some_and (λ (it : Content). Logs (shared_of core) owns (files_of it)) old.told holds in
    let u = untouched h.0 h.1 in
    and_some (λ (it : Content). Logs (shared_of now) (slice_set owns i (own_of m)) (files_of it)) new.told u.0 u.1
    (moves (files_of u.0) (subst (λ (f : Files). Logs (shared_of core) owns f) (sym u.2) h.2))

-- What an instance has is the same but for places, and of those there are no more.
pub record Eased (n m : Inst) : Type 1 where
  pub own : own_of m ≡ record (own_of n) { places = places_of m }
  pub fewer : Fewer (places_of n) (places_of m)

pub eased_where_same : (n m : Inst) → own_of m ≡ own_of n → Eased n m
eased_where_same n m own = record {
  own = own ∙ ap (λ (places : List ℕ). record (own_of n) { places = places }) (sym (ap (λ (o : Own). o.places) own));
  fewer = λ P a. subst (AllByRecursion P) (sym (ap (λ (o : Own). o.places) own)) a;
}

pub eased_then : (n k m : Inst) → Eased n k → Eased k m → Eased n m
eased_then n k m a b = record {
  own = b.own ∙ ap (λ (o : Own). record o { places = places_of m }) a.own;
  fewer = λ P all. b.fewer P (a.fewer P all);
}

-- what holds where an instance has fewer places
pub eased_logs : (s : Shared) (f : Files) (owns : List Own) (i : ℕ) (n m : Inst) → Eased n m → slice_get owns i ≡ Some (own_of n) → Logs s owns f
    → Logs s (slice_set owns i (own_of m)) f
eased_logs s f owns i n m eased at logs =
    let here = logs.each i (own_of n) at in
    let p : Own = record (own_of n) { places = places_of m } in
    subst (λ (o : Own). Logs s (slice_set owns i o) f) (sym eased.own)
    (own_moved s f owns i p logs (own_kept s f i (own_of n) p here refl refl eased.fewer (λ cl. ((here.idle cl).up, (here.idle cl).none)) here.epoch here.reads))

-- a step that changes nothing of the logs, and adds no place
pub eases : (n m : Inst) (core now : Core) (old new : State) → Eased n m → shared_of now ≡ shared_of core → Untouched old new → Keeps n m core now old new
eases n m core now old new eased shared untouched owns i at small holds =
    held n m core now old new owns i untouched holds (λ f logs.
    subst (λ (s : Shared). Logs s (slice_set owns i (own_of m)) f) (sym shared) (eased_logs (shared_of core) f owns i n m eased at logs))

-- an instance that has ended has no redo left that the disk may lack
pub lost_is : (n : Inst) → own_of (lost n) ≡ lost_own (own_of n)
lost_is n =
    ap (λ (places : List ℕ). record (lost_own (own_of n)) { places = places })
    (λ k. clean_none (length n.segment.since) k ++ empty_none n.plan.frames n.plan.blocks k)

-- a step by which the instance ends, and nothing of the logs changes
pub stops : (n m : Inst) (core now : Core) (old new : State) → own_of m ≡ lost_own (own_of n) → shared_of now ≡ left (shared_of core) n.plan.me → Untouched old new
    → Keeps n m core now old new
stops n m core now old new own shared untouched owns i at small holds =
    held n m core now old new owns i untouched holds (λ f logs. (
    let me : n.plan.me ≡ i = (logs.each i (own_of n) at).names.0 in
    let is_left : shared_of now ≡ left (shared_of core) i = shared ∙ ap (left (shared_of core)) me in
    let epoch = ap (λ (s : Shared). s.epoch) is_left in
    subst (λ (o : Own). Logs (shared_of now) (slice_set owns i o) f) (sym own)
    (subst (λ (s : Shared). Logs s (slice_set owns i (lost_own (own_of n))) f) (sym is_left)
    (inst_stopped (shared_of core) f owns i (own_of n) logs at (few_insts (shared_of core) owns f i (own_of n) logs at).1 (subst IsSmall epoch small)))))

-- An instance may make redo: it is up, or rolls transactions back of segments that it has adopted.
abbrev pub MayRecord : Inst → Type 0
MayRecord n = (is_up n.life ≡ true) ⊎ (1 ≤ length n.leading.adopted)

opens_to_record : (s : Shared) (f : Files) (i : ℕ) (n : Inst) → AtOwn s f i (own_of n) → MayRecord n → open_in s i ≡ true
opens_to_record s f i n at may = by (open_in s i) refl may
  where
    by : (b : Bool) → open_in s i ≡ b → MayRecord n → open_in s i ≡ true
    by true e may = e
    by false e (inl up) = absurd (let no : false ≡ true = sym (at.idle e).up ∙ up in cc)
    by false e (inr some) = absurd (let none = (at.idle e).none in omega (arith, none, some))

-- a step that makes a record
pub records : (n m : Inst) (core now : Core) (old new : State) (redo : Redo) → own_of m ≡ record (own_of n) { thread = appended n.thread redo; places = places_of m }
    → OneMore (end_of n.thread) (places_of n) (places_of m) → MayRecord n → IsRedo redo → end_of n.thread < 2 ^ 62 → shared_of now ≡ shared_of core → Untouched old new
    → Keeps n m core now old new
records n m core now old new redo own more may is room shared untouched owns i at small holds =
    held n m core now old new owns i untouched holds (λ f logs. (
    let here = logs.each i (own_of n) at in
    let p : Own = record (own_of n) { thread = appended n.thread redo; places = places_of m } in
    subst (λ (o : Own). Logs (shared_of now) (slice_set owns i o) f) (sym own)
    (subst (λ (s : Shared). Logs s (slice_set owns i p) f) (sym shared)
    (own_moved (shared_of core) f owns i p logs
    (own_records (shared_of core) f i (own_of n) redo (places_of m) here (opens_to_record (shared_of core) f i n here may) is room more)))))
