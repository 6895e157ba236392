-- A copy goes on to what it ends in.
use Rattle.std.proofs.Common.{◌≡◌, ℕ, zero, suc, ◌+◌, ◌-◌, ◌<◌, ◌≤◌, Bool, true, false, cond, ◌⊎◌, inl, inr, List, [], ◌∷◌, length, map, refl, sym, ap, subst, ◌∙◌, arith}
use Rattle.std.specs.Prelude.{Option, Some, None, Result, Ok, Err, nat_le, ◌&&◌, slice_set}
use Rattle.std.specs.List.{AllByRecursion}
use Rattle.std.proofs.lemmas.Bool.{leb-true}
use Rattle.base_types.specs.declared.value.Value.{Value}
use Rattle.redo_types.specs.declared.blocks.ItlSlot.{ItlSlot}
use Rattle.part_image.specs.Slots.{IsItl, IsUsedItl, unused_itl}
use Rattle.block_image.specs.declared.row.Row.{Row}
use Rattle.block_image.specs.Block.{row_at}
use Rattle.block_image.specs.Changes.{values_of}
use Rattle.block_image.proofs.EachLemmas.{all_set}
use Rattle.cr_copy.specs.declared.copy.Work.{Work}
use Rattle.cr_copy.specs.declared.made.Halt.{Halt}
use Rattle.cr_copy.specs.declared.made.Halt.TheVariants.{Bad}
use Rattle.cr_copy.specs.declared.copy.Pick.{Pick}
use Rattle.cr_copy.specs.Copy.{falling, goes_on, rounds, taken}
use Rattle.cr_copy.specs.Named.{AreNamed, CanGoBack, IsNamed}

-- More rounds than versions change nothing.
pub rounds_more : (round : List ItlSlot → Result (Option Pick) Halt) (fuel more last : ℕ) (w : Work) → last < fuel → last < more → rounds round fuel last w ≡ rounds round more last w
unfolding rounds
rounds_more round zero more last w few enough = absurd (omega arith)
rounds_more round (suc fuel) zero last w few enough = absurd (omega arith)
rounds_more round (suc fuel) (suc more) last w few enough = here (round w.itl) (rounds_more round fuel more)
  where
    here : (found : Result (Option Pick) Halt) → ((last : ℕ) (w : Work) → last < fuel → last < more → rounds round fuel last w ≡ rounds round more last w)
        → goes_on (λ p. rounds round fuel (p.undo.version - 1) (taken p w)) w (falling last found) ≡ goes_on (λ p. rounds round more (p.undo.version - 1) (taken p w)) w (falling last found)
    here (Err halt) same = refl
    here (Ok None) same = refl
    here (Ok (Some p)) same = falls (nat_le 1 p.undo.version) refl (nat_le p.undo.version last) refl
      where
        falls : (a : Bool) → nat_le 1 p.undo.version ≡ a → (b : Bool) → nat_le p.undo.version last ≡ b
            → goes_on (λ p. rounds round fuel (p.undo.version - 1) (taken p w)) w (cond (a && b) (Ok (Some p)) (Err Bad)) ≡ goes_on (λ p. rounds round more (p.undo.version - 1) (taken p w)) w (cond (a && b) (Ok (Some p)) (Err Bad))
        falls false e b f = refl
        falls true e false f = refl
        falls true e true f =
            let low = leb-true 1 p.undo.version e in
            let high = leb-true p.undo.version last f in
            same (p.undo.version - 1) (taken p w) (omega arith) (omega arith)

-- A copy as far as it is made ends as the whole does, and its slots can be looked up.
pub record Goes (round : List ItlSlot → Result (Option Pick) Halt) (first : ℕ) (whole : Work) (last : ℕ) (w : Work) : Type 0 where
  pub named : AreNamed w.itl
  pub same : rounds round (suc last) last w ≡ rounds round (suc first) first whole

-- one more is taken back
pub goes_further : (round : List ItlSlot → Result (Option Pick) Halt) (first : ℕ) (whole : Work) (last : ℕ) (w : Work) (p : Pick) → Goes round first whole last w
    → falling last (round w.itl) ≡ Ok (Some p) → CanGoBack p → 1 ≤ p.undo.version → p.undo.version ≤ last → Goes round first whole (p.undo.version - 1) (taken p w)
unfolding rounds
goes_further round first whole last w p goes is back some most =
    record {
      named = all_set IsNamed w.itl (p.itl - 1) p.undo.old_itl back.named goes.named;
      same =
          rounds_more round (suc (p.undo.version - 1)) last (p.undo.version - 1) (taken p w) (omega arith) (omega arith)
          ∙ (sym (ap (goes_on (λ p. rounds round last (p.undo.version - 1) (taken p w)) w) is) ∙ goes.same);
    }

-- where nothing is left to take back, that is the copy
pub goes_to_end : (round : List ItlSlot → Result (Option Pick) Halt) (first : ℕ) (whole : Work) (last : ℕ) (w : Work) → Goes round first whole last w
    → falling last (round w.itl) ≡ Ok None → Ok w ≡ rounds round (suc first) first whole
unfolding rounds
goes_to_end round first whole last w goes is =
    sym (ap (goes_on (λ p. rounds round last (p.undo.version - 1) (taken p w)) w) is) ∙ goes.same

-- where it halts, so does the whole
pub goes_to_halt : (round : List ItlSlot → Result (Option Pick) Halt) (first : ℕ) (whole : Work) (last : ℕ) (w : Work) (halt : Halt) → Goes round first whole last w
    → falling last (round w.itl) ≡ Err halt → Err halt ≡ rounds round (suc first) first whole
unfolding rounds
goes_to_halt round first whole last w halt goes is =
    sym (ap (goes_on (λ p. rounds round last (p.undo.version - 1) (taken p w)) w) is) ∙ goes.same

-- the ITL slots of a block can be looked up
pub are_named : (itl : List ItlSlot) → AllByRecursion IsItl itl → AreNamed itl
are_named [] each = tt
are_named (slot ∷ slots) each = (here each.0.content, are_named slots each.1)
  where
    here : (slot ≡ unused_itl) ⊎ IsUsedItl slot → IsNamed slot
    here (inl e) = rw e (record { segment = omega arith; slot_no = omega arith; seq = λ used. absurd (omega (arith, used)) })
    here (inr used) = record { segment = used.segment; slot_no = used.slot; seq = λ _. used.seq }

-- eight rows by their numbers
pub eight_values : (rows : List Row) → length rows ≡ 8
    → (row_at rows 0).value ∷ (row_at rows 1).value ∷ (row_at rows 2).value ∷ (row_at rows 3).value ∷ (row_at rows 4).value ∷ (row_at rows 5).value ∷ (row_at rows 6).value ∷ (row_at rows 7).value ∷ [] ≡ values_of rows
eight_values [] eight = absurd (omega arith)
eight_values (a ∷ []) eight = absurd (omega arith)
eight_values (a ∷ b ∷ []) eight = absurd (omega arith)
eight_values (a ∷ b ∷ c ∷ []) eight = absurd (omega arith)
eight_values (a ∷ b ∷ c ∷ d ∷ []) eight = absurd (omega arith)
eight_values (a ∷ b ∷ c ∷ d ∷ e ∷ []) eight = absurd (omega arith)
eight_values (a ∷ b ∷ c ∷ d ∷ e ∷ f ∷ []) eight = absurd (omega arith)
eight_values (a ∷ b ∷ c ∷ d ∷ e ∷ f ∷ g ∷ []) eight = absurd (omega arith)
eight_values (a ∷ b ∷ c ∷ d ∷ e ∷ f ∷ g ∷ h ∷ []) eight = refl
eight_values (a ∷ b ∷ c ∷ d ∷ e ∷ f ∷ g ∷ h ∷ i ∷ more) eight = absurd (omega arith)
