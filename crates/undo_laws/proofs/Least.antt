-- Where a slot is active, one of the active ones has the least first undo record.
use Rattle.std.proofs.Common.{◌≡◌, ◌⊎◌, ℕ, zero, suc, ◌<◌, ◌≤◌, List, [], ◌∷◌, length, get_or, Bool, true, false, cond, not, ◌||◌, ◌&&◌, nat_le, Some, None, refl, sym, ap, subst, ◌∙◌, inl, inr, arith}
use Rattle.std.specs.List.{find, list_all, position_or_len}
use Rattle.std.proofs.lemmas.Bool.{le-leb, leb-true, leb-false}
use Rattle.std.proofs.lemmas.List.Folds.{find_at}
use Rattle.std.proofs.lemmas.List.Sums.{AllPass-from_list_all}
use Rattle.std.proofs.lemmas.Option.{get_or_from_slice_get, slice_get_within}
use Rattle.redo_types.specs.declared.undo.TxnSlot.{TxnSlot}
use Rattle.undo_segment.specs.Begin.{began_first, began_no_later, oldest}
use Rattle.undo_segment.specs.Look.{is_active}

-- a slot is one of these
abbrev Among : TxnSlot → List TxnSlot → Type 0
Among slot [] = ⊥
Among slot (other ∷ slots) = (slot ≡ other) ⊎ Among slot slots

among_at : (slots : List TxnSlot) (k : ℕ) (d : TxnSlot) → k < length slots → Among (get_or slots k d) slots
among_at [] k d few = absurd (omega arith)
among_at (slot ∷ slots) zero d few = inl refl
among_at (slot ∷ slots) (suc k) d few = inr (among_at slots k d (omega arith))

-- one that passes is found where one of these passes
find_passes : (p : TxnSlot → Bool) (slots : List TxnSlot) (slot : TxnSlot) → Among slot slots → p slot ≡ true → (o : TxnSlot) × (find p slots ≡ Some o) × (p o ≡ true)
find_passes p [] slot a t = absurd a
find_passes p (other ∷ slots) slot a t =
    let pick : (b : Bool) → p other ≡ b → (o : TxnSlot) × (cond b (Some other) (find p slots) ≡ Some o) × (p o ≡ true) = λ b. elim b as (λ b. p other ≡ b → (o : TxnSlot) × (cond b (Some other) (find p slots) ≡ Some o) × (p o ≡ true)) [
      | true ↦ λ e. (other, refl, e)
      | false ↦ λ e. elim a [ inl same ↦ absurd (let clash : false ≡ true = sym e ∙ ap p (sym same) ∙ t in cc) | inr rest ↦ find_passes p slots slot rest t ]
    ] in
    pick (p other) refl

-- what is found passes
found_passes : (p : TxnSlot → Bool) (slots : List TxnSlot) (o : TxnSlot) → find p slots ≡ Some o → p o ≡ true
found_passes p [] o e = absurd (let clash : None ≡ Some o = e in cc)
found_passes p (slot ∷ slots) o e =
    let pick : (b : Bool) → p slot ≡ b → cond b (Some slot) (find p slots) ≡ Some o → p o ≡ true = λ b. elim b as (λ b. p slot ≡ b → cond b (Some slot) (find p slots) ≡ Some o → p o ≡ true) [
      | true ↦ λ t f. let same : slot ≡ o = cc in ap p (sym same) ∙ t
      | false ↦ λ t f. found_passes p slots o f
    ] in
    pick (p slot) refl e

-- What the two tests of a later first tell, and the other way round.
active_from : (b : Bool) (x y : ℕ) → (not b || nat_le x y) ≡ false → (b ≡ true) × (y < x)
active_from true x y e = (refl, leb-false x y e)
active_from false x y e = absurd (let clash : true ≡ false = e in cc)

earlier_too : (b : Bool) (m x y : ℕ) → (not b || nat_le x y) ≡ true → m ≤ x → (not b || nat_le m y) ≡ true
earlier_too true m x y e few = let le = leb-true x y e in le-leb m y (omega (arith, le, few))
earlier_too false m x y e few = refl

or_true : (b : Bool) (m y : ℕ) → m ≤ y → (not b || nat_le m y) ≡ true
or_true true m y few = le-leb m y few
or_true false m y few = refl

and_true : (a b : Bool) → a ≡ true → b ≡ true → (a && b) ≡ true
and_true a b e f = cc

and_first : (a b : Bool) → (a && b) ≡ true → a ≡ true
and_first true b e = refl
and_first false b e = e

and_second : (a b : Bool) → (a && b) ≡ true → b ≡ true
and_second true b e = e
and_second false b e = absurd (let clash : false ≡ true = e in cc)

or_second : (b c : Bool) → b ≡ true → (not b || c) ≡ true → c ≡ true
or_second true c active e = e
or_second false c active e = absurd (let clash : false ≡ true = active in cc)

-- An active slot whose first is no later than this one's or any active one's.
abbrev Least : TxnSlot → List TxnSlot → Type 0
Least slot slots = (m : TxnSlot) × ((m ≡ slot) ⊎ Among m slots) × (is_active m.state ≡ true) × (m.first ≤ slot.first) × (list_all (began_no_later m) slots ≡ true)

least : (slot : TxnSlot) (slots : List TxnSlot) → is_active slot.state ≡ true → Least slot slots
least slot [] active = (slot, inl refl, active, omega arith, refl)
least slot (other ∷ slots) active =
    let pick : (b : Bool) → began_no_later slot other ≡ b → Least slot (other ∷ slots) = λ b. elim b as (λ b. began_no_later slot other ≡ b → Least slot (other ∷ slots)) [
      | true ↦ λ e. let r = least slot slots active in
          (r.0, elim r.1 [ inl same ↦ inl same | inr rest ↦ inr (inr rest) ], r.2, r.3, and_true _ _ (earlier_too (is_active other.state) r.0.first slot.first other.first e r.3) r.4)
      | false ↦ λ e. let held = active_from (is_active other.state) slot.first other.first e in
          let r = least other slots held.0 in
          (r.0, elim r.1 [ inl same ↦ inr (inl same) | inr rest ↦ inr (inr rest) ], r.2, omega (arith, r.3, held.1), and_true _ _ (or_true (is_active other.state) r.0.first other.first r.3) r.4)
    ] in
    pick (began_no_later slot other) refl

-- One that began first has no later first than an active one.
first_no_later : (slots : List TxnSlot) (k : ℕ) (d o : TxnSlot) → k < length slots → is_active (get_or slots k d).state ≡ true → began_first slots o ≡ true → o.first ≤ (get_or slots k d).first
first_no_later slots k d o few active began =
    let slot = get_or slots k d in
    let all = AllPass-from_list_all (began_no_later o) slots (and_second (is_active o.state) (list_all (began_no_later o) slots) began) k d few in
    leb-true o.first slot.first (or_second (is_active slot.state) (nat_le o.first slot.first) active all)

-- where this slot is active, the oldest one is active, and has no later first
pub oldest_found : (slots : List TxnSlot) (k : ℕ) (d : TxnSlot) → k < length slots → is_active (get_or slots k d).state ≡ true → (o : TxnSlot) × (oldest slots ≡ Some o) × (o.first ≤ (get_or slots k d).first)
oldest_found slots k d few active =
    let slot = get_or slots k d in
    let m = least slot slots active in
    let among : Among m.0 slots = elim m.1 [ inl same ↦ subst (λ s. Among s slots) (sym same) (among_at slots k d few) | inr rest ↦ rest ] in
    let found = find_passes (began_first slots) slots m.0 among (and_true _ _ m.2 m.4) in
    (found.0, found.1, first_no_later slots k d found.0 few active found.2)

-- the oldest one is one of these, and active
pub oldest_at : (slots : List TxnSlot) (o d : TxnSlot) → oldest slots ≡ Some o → (k : ℕ) × (k < length slots) × (get_or slots k d ≡ o) × (is_active o.state ≡ true)
oldest_at slots o d e =
    let k = position_or_len (began_first slots) slots in
    let get = sym (find_at (began_first slots) slots) ∙ e in
    let few = slice_get_within slots k o get in
    let is = get_or_from_slice_get slots k o d get in
    (k, few, is, and_first (is_active o.state) (list_all (began_no_later o) slots) (found_passes (began_first slots) slots o e))
