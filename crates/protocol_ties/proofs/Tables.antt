-- The tables of an entry: of eight instances each.
use Rattle.std.proofs.Common.{◌≡◌, ◌≢◌, ℕ, ◌<◌, ◌≤◌, ◌&&◌, Bool, true, false, cond, not, List, [], ◌∷◌, refl, sym, ap, subst, arith, eqb, inl, inr, length, map}
use Rattle.std.specs.Prelude.{Option, Some, None, is_some, slice_index_or, slice_set, find}
use Rattle.std.specs.List.{AllByRecursion, list_any, list_all}
use Rattle.std.proofs.lemmas.Bool.{cases_lt, or_parts, eqb-true, eqb-false, and_parts}
use Rattle.std.proofs.lemmas.List.{get_or_past, get_or-set_same, get_or-set_other, length-set}
use Prim.Native.Nat.{zero, suc}
use Rattle.wire_net.specs.declared.entry.Grants.{Grants}
use Rattle.inst_set.specs.declared.set.InstSet.{InstSet}
use Rattle.inst_set.specs.Sets.{all_insts, has, is_empty, without_inst}
use Rattle.wire_net.specs.Entry.{grant_of, with_grant}
use Rattle.resource_dir.specs.Holders.{is_number, is_other_sharer, other_sharers}
use Rattle.protocol_ties.specs.Messages.{instances}

-- what is taken out of a table, and what is put there
pub grant-none : (t : Grants) (i j : ℕ) → (i ≡ j → grant_of (with_grant t i None) j ≡ None) × (i ≢ j → grant_of (with_grant t i None) j ≡ grant_of t j)
grant-none t i j = (here, λ ne. get_or-set_other t.by_inst i j None None (λ e. ne (sym e)))
  where
    here : i ≡ j → grant_of (with_grant t i None) j ≡ None
    here e = elim (cases_lt i (length t.by_inst)) [
      | inl lt ↦ subst (λ k. slice_index_or (slice_set t.by_inst i None) k None ≡ None) e (get_or-set_same t.by_inst i None None lt)
      | inr ge ↦ (let long : length (slice_set t.by_inst i None) ≡ length t.by_inst = length-set t.by_inst i None in
          get_or_past (slice_set t.by_inst i None) j None (omega (arith, long, ge, e)))
    ]

pub grant-same : (t : Grants) (i g : ℕ) → i < length t.by_inst → grant_of (with_grant t i (Some g)) i ≡ Some g
grant-same t i g lt = get_or-set_same t.by_inst i (Some g) None lt

pub grant-other : (t : Grants) (i j : ℕ) (g : Option ℕ) → i ≢ j → grant_of (with_grant t i g) j ≡ grant_of t j
grant-other t i j g ne = get_or-set_other t.by_inst i j g None (λ e. ne (sym e))

pub table-sized : (t : Grants) (i : ℕ) (g : Option ℕ) → length (with_grant t i g).by_inst ≡ length t.by_inst
table-sized t i g = length-set t.by_inst i g

-- nobody beyond the eight shares a block
pub past-none : (t : Grants) (i : ℕ) → length t.by_inst ≡ instances → instances ≤ i → grant_of t i ≡ None
past-none t i long le = get_or_past t.by_inst i None (omega (arith, long, le))

-- what is said of all instances
pub each-of : (P : ℕ → Type 0) → AllByRecursion P all_insts → (i : ℕ) → i < instances → P i
each-of P a zero lt = a.0
each-of P a (suc zero) lt = a.1.0
each-of P a (suc (suc zero)) lt = a.1.1.0
each-of P a (suc (suc (suc zero))) lt = a.1.1.1.0
each-of P a (suc (suc (suc (suc zero)))) lt = a.1.1.1.1.0
each-of P a (suc (suc (suc (suc (suc zero))))) lt = a.1.1.1.1.1.0
each-of P a (suc (suc (suc (suc (suc (suc zero)))))) lt = a.1.1.1.1.1.1.0
each-of P a (suc (suc (suc (suc (suc (suc (suc zero))))))) lt = a.1.1.1.1.1.1.1.0
each-of P a (suc (suc (suc (suc (suc (suc (suc (suc n)))))))) lt = absurd (omega (arith, lt))

pub find-none : (p : ℕ → Bool) (xs : List ℕ) → find p xs ≡ None → AllByRecursion (λ i. p i ≡ false) xs
find-none p [] e = tt
find-none p (x ∷ xs) e = go (p x) refl e (find-none p xs)
  where
    go : (t : Bool) → p x ≡ t → cond t (Some x) (find p xs) ≡ None → (find p xs ≡ None → AllByRecursion (λ i. p i ≡ false) xs) → (p x ≡ false) × AllByRecursion (λ i. p i ≡ false) xs
    go true is f rest = absurd (let clash : ◌≡◌ {A = Option ℕ} (Some x) None = f in cc)
    go false is f rest = (is, rest f)

pub find-some : (p : ℕ → Bool) (xs : List ℕ) (i : ℕ) → find p xs ≡ Some i → p i ≡ true
find-some p [] i e = absurd (let clash : ◌≡◌ {A = Option ℕ} None (Some i) = e in cc)
find-some p (x ∷ xs) i e = go (p x) refl e (find-some p xs i)
  where
    go : (t : Bool) → p x ≡ t → cond t (Some x) (find p xs) ≡ Some i → (find p xs ≡ Some i → p i ≡ true) → p i ≡ true
    go true is f rest = let same : x ≡ i = cc in subst (λ k. p k ≡ true) same is
    go false is f rest = rest f

pub any-none : (p : ℕ → Bool) (xs : List ℕ) → list_any p xs ≡ false → AllByRecursion (λ i. p i ≡ false) xs
any-none p [] e = tt
any-none p (x ∷ xs) e = let parts = or_parts (p x) (list_any p xs) e in (parts.0, any-none p xs parts.1)

-- nobody is in an empty set
none-in : (xs : List Bool) (i : ℕ) → list_all (λ is_in. not is_in) xs ≡ true → slice_index_or xs i false ≡ false
none-in [] i e = refl
none-in (x ∷ xs) zero e = go x (and_parts (not x) (list_all (λ is_in. not is_in) xs) e).0
  where
    go : (t : Bool) → not t ≡ true → t ≡ false
    go true n = absurd (let clash : false ≡ true = n in cc)
    go false n = refl
none-in (x ∷ xs) (suc i) e = none-in xs i (and_parts (not x) (list_all (λ is_in. not is_in) xs) e).1

pub empty-has : (set : InstSet) (i : ℕ) → is_empty set ≡ true → has set i ≡ false
empty-has set i e = none-in set.present i e

-- who was taken out of a set isn't in it, and all others are as they were
pub has-without : (set : InstSet) (i j : ℕ) → (i ≡ j → has (without_inst set i) j ≡ false) × (i ≢ j → has (without_inst set i) j ≡ has set j)
has-without set i j = (here, λ ne. get_or-set_other set.present i j false false (λ e. ne (sym e)))
  where
    here : i ≡ j → has (without_inst set i) j ≡ false
    here e = elim (cases_lt i (length set.present)) [
      | inl lt ↦ subst (λ k. slice_index_or (slice_set set.present i false) k false ≡ false) e (get_or-set_same set.present i false false lt)
      | inr ge ↦ (let long : length (slice_set set.present i false) ≡ length set.present = length-set set.present i false in
          get_or_past (slice_set set.present i false) j false (omega (arith, long, ge, e)))
    ]

-- the others that share a block
pub has-others : (t : Grants) (asker i : ℕ) → length t.by_inst ≡ instances → has (other_sharers t asker) i ≡ is_some (grant_of t i) && not (eqb i asker)
has-others t asker i long = elim (cases_lt i instances) [
  | inl lt ↦ each-of (λ k. slice_index_or (map (is_other_sharer t asker) all_insts) k false ≡ is_other_sharer t asker k) (refl, (refl, (refl, (refl, (refl, (refl, (refl, (refl, tt)))))))) i lt
  | inr ge ↦ (let none = past-none t i long ge in rw none (get_or_past (map (is_other_sharer t asker) all_insts) i false (omega (arith, ge))))
]

-- a number that is there
pub is-number : (o : Option ℕ) (g : ℕ) → is_number o g ≡ true → o ≡ Some g
is-number None g e = absurd (let clash : false ≡ true = e in cc)
is-number (Some k) g e = ap (λ n. Some n) (eqb-true k g e)

pub not-number : (o : Option ℕ) (g : ℕ) → is_number o g ≡ false → o ≢ Some g
not-number None g e same = let clash : ◌≡◌ {A = Option ℕ} None (Some g) = same in cc
not-number (Some k) g e same = let is : k ≡ g = cc in eqb-false k g e is
