-- Changes that are made one after another.
use Rattle.std.proofs.Common.{◌≡◌, ◌+◌, ◌-◌, ◌<◌, ◌≤◌, ◌/◌, ℕ, List, [], ◌∷◌, ◌++◌, map, suc, sym, ap, subst, inl, inr, arith, refl}
use Rattle.std.proofs.Math.Nat.{div-le_self}
use Rattle.std.specs.List.{range_with_len}
use Rattle.rac_disk.specs.State.{Change, Makes, State}
use Rattle.disk_calls.specs.Calls.{done, failed}
use Rattle.first_state.specs.declared.creation.Created.{Created}
use Rattle.first_state.specs.declared.creation.Created.TheVariants.{Failed, Whole}
use Rattle.first_state.specs.Create.{MakesEach, for_each}

-- the changes for the numbers from k on
abbrev pub rest : (ℕ → Change) → ℕ → ℕ → List Change
rest change k count = map change (range_with_len k (count - k))

-- the next of them
pub rest_more : (change : ℕ → Change) (k count : ℕ) → k < count → rest change k count ≡ change k ∷ rest change (k + 1) count
rest_more change k count within =
    let split : count - k ≡ suc (count - (k + 1)) = omega arith in
    ap (λ n. map change (range_with_len k n)) split

-- none is left
pub rest_none : (change : ℕ → Change) (k count : ℕ) → count ≤ k → rest change k count ≡ []
rest_none change k count past =
    let none : count - k ≡ 0 = omega arith in
    ap (λ n. map change (range_with_len k n)) none

-- whatever the rest comes to, all comes to
abbrev pub GoesOn : (ℕ → Change) → ℕ → ℕ → State → State → Type 0
GoesOn change k count old mid =
    (how : Created) (new : State) → MakesEach (rest change k count) how mid new → MakesEach (for_each change count) how old new

-- none was made yet
pub begins : (change : ℕ → Change) (count : ℕ) (old : State) → GoesOn change 0 count old old
unfolding for_each
begins change count old how new makes =
    let all : count - 0 ≡ count = omega arith in
    subst (λ n. MakesEach (map change (range_with_len 0 n)) how old new) all makes

-- one change more was made
pub goes_on : (change : ℕ → Change) (k count : ℕ) (old mid next : State) → k < count → GoesOn change k count old mid → Makes (change k) done mid next → GoesOn change (k + 1) count old next
goes_on change k count old mid next within goes makes how new more =
    goes how new (subst (λ cs. MakesEach cs how mid new) (sym (rest_more change k count within)) (inl (next, makes, more)))

-- a change failed
pub ends : (change : ℕ → Change) (k count : ℕ) (old mid new : State) → k < count → GoesOn change k count old mid → Makes (change k) failed mid new → MakesEach (for_each change count) Failed old new
ends change k count old mid new within goes makes =
    goes Failed new (subst (λ cs. MakesEach cs Failed mid new) (sym (rest_more change k count within)) (inr (refl, makes)))

-- all were made
pub all_made : (change : ℕ → Change) (k count : ℕ) (old mid : State) → count ≤ k → GoesOn change k count old mid → MakesEach (for_each change count) Whole old mid
all_made change k count old mid past goes =
    goes Whole mid (subst (λ cs. MakesEach cs Whole mid mid) (sym (rest_none change k count past)) refl)

-- changes after changes that were made
pub made_then : (first second : List Change) (how : Created) (old mid new : State) → MakesEach first Whole old mid → MakesEach second how mid new → MakesEach (first ++ second) how old new
made_then [] second how old mid new is makes = subst (λ s. MakesEach second how s new) is makes
made_then (c ∷ more) second how old mid new (inl p) makes = inl (p.0, p.1, made_then more second how p.0 mid new p.2 makes)
made_then (c ∷ more) second how old mid new (inr p) makes = grind (arith, p.0)

-- no change after one that failed
pub failed_then : (first second : List Change) (old new : State) → MakesEach first Failed old new → MakesEach (first ++ second) Failed old new
failed_then [] second old new never = elim never [ ]
failed_then (c ∷ more) second old new (inl p) = inl (p.0, p.1, failed_then more second p.0 new p.2)
failed_then (c ∷ more) second old new (inr p) = inr p

-- a quotient of a small number is small
pub quotient_fits : (n d : ℕ) → n < 200 → n / d < 256
quotient_fits n d few = omega (arith, div-le_self n d)
