-- Sets of instances, and what stands at a place of a list.
use Rattle.std.proofs.Common.{◌≡◌, ℕ, zero, suc, ◌<◌, ◌≤◌, not, Bool, true, false, List, [], ◌∷◌, length, get_or, Some, slice_get, if◌then◌else◌, refl, sym, ap, subst, ◌∙◌, ◌⊎◌, inl, inr, arith}
use Rattle.std.specs.Prelude.{slice_set, find}
use Rattle.std.specs.List.{list_all}
use Rattle.std.proofs.lemmas.Bool.{and_parts, cases_lt}
use Rattle.std.proofs.lemmas.List.{get_or-set_other, get_or-set_same, length-set}
use Rattle.std.proofs.lemmas.Option.{none-some, same_Some}
use Rattle.inst_set.specs.declared.set.InstSet.{InstSet}
use Rattle.inst_set.specs.Sets.{has, is_empty, with_inst, without_inst}
use Rattle.recovery.specs.declared.members.Phase.TheVariants as phase
use Rattle.recovery.specs.Members.{phase_of}

-- what is beyond a list's end stays so
pub set_beyond : {A : Type 0} (l : List A) (i : ℕ) (a : A) → length l ≤ i → slice_set l i a ≡ l
set_beyond [] i a h = refl
set_beyond (x ∷ l) zero a h = absurd (omega (arith, h))
set_beyond {A = A} (x ∷ l) (suc i) a h = ap (λ (m : List A). x ∷ m) (set_beyond l i a (omega (arith, h)))

pub get_beyond : {A : Type 0} (l : List A) (i : ℕ) (d : A) → length l ≤ i → get_or l i d ≡ d
get_beyond [] i d h = refl
get_beyond (x ∷ l) zero d h = absurd (omega (arith, h))
get_beyond (x ∷ l) (suc i) d h = get_beyond l i d (omega (arith, h))

-- what was set to what stands for nothing stands for nothing
pub get_set_default : {A : Type 0} (l : List A) (i : ℕ) (d : A) → get_or (slice_set l i d) i d ≡ d
get_set_default l i d = by (cases_lt i (length l))
  where
    by : (i < length l) ⊎ (length l ≤ i) → get_or (slice_set l i d) i d ≡ d
    by (inl within) = get_or-set_same l i d d within
    by (inr past) = get_beyond (slice_set l i d) i d (omega (arith, length-set l i d, past))

pub has_with : (set : InstSet) (i : ℕ) → i < length set.present → has (with_inst set i) i ≡ true
has_with set i within = get_or-set_same set.present i true false within

pub has_without : (set : InstSet) (i : ℕ) → has (without_inst set i) i ≡ false
has_without set i = get_set_default set.present i false

pub has_other : (set : InstSet) (i j : ℕ) → (j ≡ i → ⊥) → has (with_inst set i) j ≡ has set j
has_other set i j apart = get_or-set_other set.present i j true false apart

pub has_still : (set : InstSet) (i j : ℕ) → (j ≡ i → ⊥) → has (without_inst set i) j ≡ has set j
has_still set i j apart = get_or-set_other set.present i j false false apart

none_in : (l : List Bool) (i : ℕ) → list_all (λ (is_in : Bool). not is_in) l ≡ true → get_or l i false ≡ false
none_in [] i e = refl
none_in (b ∷ l) zero e = by b (and_parts (not b) (list_all (λ (is_in : Bool). not is_in) l) e).0
  where
    by : (c : Bool) → not c ≡ true → c ≡ false
    by false h = refl
    by true h = absurd (let no : false ≡ true = h in cc)
none_in (b ∷ l) (suc i) e = none_in l i (and_parts (not b) (list_all (λ (is_in : Bool). not is_in) l) e).1

-- nobody is in an empty set
pub has_none : (set : InstSet) (i : ℕ) → is_empty set ≡ true → has set i ≡ false
has_none set i e = none_in set.present i e

-- where nobody is live it is dark
pub dark_none : (live : InstSet) → phase_of live ≡ phase.Dark → (i : ℕ) → has live i ≡ false
dark_none live e i = by (is_empty live) refl e
  where
    by : (b : Bool) → is_empty live ≡ b → (if b then phase.Dark else phase.Frozen) ≡ phase.Dark → has live i ≡ false
    by true is dark = has_none live i is
    by false is dark = absurd (let no : phase.Frozen ≡ phase.Dark = dark in cc)

-- where somebody is live the instances report
pub frozen_some : (live : InstSet) (i : ℕ) → has live i ≡ true → phase_of live ≡ phase.Frozen
frozen_some live i in_it = by (is_empty live) refl
  where
    by : (b : Bool) → is_empty live ≡ b → (if b then phase.Dark else phase.Frozen) ≡ phase.Frozen
    by true is = absurd (let no : false ≡ true = sym (has_none live i is) ∙ in_it in cc)
    by false is = refl

-- what is found fits
pub found_fits : {A : Type 0} (p : A → Bool) (l : List A) (x : A) → find p l ≡ Some x → p x ≡ true
found_fits p [] x e = absurd (none-some x e)
found_fits {A = A} p (a ∷ l) x e = by (λ at. found_fits p l x at) (p a) refl e
  where
    by : (find p l ≡ Some x → p x ≡ true) → (b : Bool) → p a ≡ b → (if b then Some a else find p l) ≡ Some x → p x ≡ true
    by later true is at = subst (λ (y : A). p y ≡ true) (same_Some a x at) is
    by later false is at = later at

-- what stands at a place of a list of which one element was set
pub set_at : {A : Type 0} (xs : List A) (i : ℕ) (m : A) (y : ℕ) (x : A) → slice_get (slice_set xs i m) y ≡ Some x
    → ((y ≡ i) × (x ≡ m)) ⊎ ((y ≡ i → ⊥) × (slice_get xs y ≡ Some x))
set_at [] i m y x e = absurd (none-some x e)
set_at (a ∷ xs) zero m zero x e = inl (refl, sym (same_Some m x e))
set_at (a ∷ xs) zero m (suc y) x e = inr ((λ same. omega (arith, same)), e)
set_at (a ∷ xs) (suc i) m zero x e = inr ((λ same. omega (arith, same)), e)
set_at {A = A} (a ∷ xs) (suc i) m (suc y) x e = by (set_at xs i m y x e)
  where
    by : ((y ≡ i) × (x ≡ m)) ⊎ ((y ≡ i → ⊥) × (slice_get xs y ≡ Some x)) → ((suc y ≡ suc i) × (x ≡ m)) ⊎ ((suc y ≡ suc i → ⊥) × (slice_get xs y ≡ Some x))
    by (inl p) = inl (ap suc p.0, p.1)
    by (inr p) = inr ((λ same. p.0 (omega (arith, same))), p.1)

-- what was set twice, and what was set
pub set_twice : {A : Type 0} (l : List A) (i : ℕ) (a b : A) → slice_set (slice_set l i a) i b ≡ slice_set l i b
set_twice [] i a b = refl
set_twice (x ∷ l) zero a b = refl
set_twice {A = A} (x ∷ l) (suc i) a b = ap (λ (m : List A). x ∷ m) (set_twice l i a b)

pub get_set : {A : Type 0} (l : List A) (i : ℕ) (a x : A) → slice_get l i ≡ Some x → slice_get (slice_set l i a) i ≡ Some a
get_set [] i a x e = absurd (none-some x e)
get_set (y ∷ l) zero a x e = refl
get_set (y ∷ l) (suc i) a x e = get_set l i a x e
