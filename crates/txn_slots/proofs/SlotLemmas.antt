-- The ITL slots of a block, and what answers say of them.
use Rattle.std.proofs.Common.{◌≡◌, ◌≢◌, ℕ, zero, suc, ◌+◌, ◌-◌, ◌<◌, ◌≤◌, Bool, true, false, cond, not, ◌⊎◌, inl, inr, List, [], ◌∷◌, length, get_or, map, refl, sym, ap, subst, ◌∙◌, arith}
use Rattle.std.specs.Prelude.{Option, Some, None, is_some, nat_lt}
use Rattle.std.specs.List.{AllByRecursion, position, position_or_len}
use Rattle.std.proofs.lemmas.Bool.{ltb-true, ltb-false}
use Rattle.std.proofs.lemmas.List.Sums.{prefix_len_passes}
use Rattle.base_types.specs.declared.names.Xid.{Xid}
use Rattle.redo_types.specs.declared.blocks.ItlSlot.{ItlSlot}
use Rattle.part_image.specs.Slots.{IsItl, IsUsedItl, unused_itl}
use Rattle.block_image.specs.Block.{slot_at}

-- four slots by their numbers
pub four_slots : (itl : List ItlSlot) → length itl ≡ 4 → slot_at itl 1 ∷ slot_at itl 2 ∷ slot_at itl 3 ∷ slot_at itl 4 ∷ [] ≡ itl
four_slots [] four = absurd (omega arith)
four_slots (a ∷ []) four = absurd (omega arith)
four_slots (a ∷ b ∷ []) four = absurd (omega arith)
four_slots (a ∷ b ∷ c ∷ []) four = absurd (omega arith)
four_slots (a ∷ b ∷ c ∷ d ∷ []) four = refl
four_slots (a ∷ b ∷ c ∷ d ∷ e ∷ more) four = absurd (omega arith)

-- a slot of a transaction table is named
pub slot_named : (s : ItlSlot) → IsItl s → s.xid.slot < 8
slot_named s is = here is.content
  where
    here : (s ≡ unused_itl) ⊎ IsUsedItl s → s.xid.slot < 8
    here (inl e) = rw e (omega arith)
    here (inr used) = used.slot

-- each of four slots is one
pub each_slot : (P : ItlSlot → Type 0) (itl : List ItlSlot) → length itl ≡ 4 → AllByRecursion P itl → P (slot_at itl 1) × (P (slot_at itl 2) × (P (slot_at itl 3) × P (slot_at itl 4)))
each_slot P [] four all = absurd (omega arith)
each_slot P (a ∷ []) four all = absurd (omega arith)
each_slot P (a ∷ b ∷ []) four all = absurd (omega arith)
each_slot P (a ∷ b ∷ c ∷ []) four all = absurd (omega arith)
each_slot P (a ∷ b ∷ c ∷ d ∷ []) four all = (all.0, (all.1.0, (all.1.1.0, all.1.1.1.0)))
each_slot P (a ∷ b ∷ c ∷ d ∷ e ∷ more) four all = absurd (omega arith)

-- of all, one at a place
pub all_at : {V : Type 0} (P : V → Type 0) (vs : List V) (i : ℕ) (d : V) → i < length vs → AllByRecursion P vs → P (get_or vs i d)
all_at P [] i d within all = absurd (omega arith)
all_at P (v ∷ vs) zero d within all = all.0
all_at P (v ∷ vs) (suc i) d within all = all_at P vs i d (omega arith) all.1

-- where no place passes, none does
pub position_none : {X : Type 0} (p : X → Bool) (xs : List X) (k : ℕ) (d : X) → position p xs ≡ None → k < length xs → p (get_or xs k d) ≡ false
position_none p xs k d none within = here (nat_lt (position_or_len p xs) (length xs)) refl none
  where
    off : (b : Bool) → not b ≡ true → b ≡ false
    off true e = sym e
    off false e = refl

    here : (t : Bool) → nat_lt (position_or_len p xs) (length xs) ≡ t → cond t (Some (position_or_len p xs)) None ≡ None → p (get_or xs k d) ≡ false
    here true e none = absurd (cc)
    here false e none =
        let past = ltb-false (position_or_len p xs) (length xs) e in
        off (p (get_or xs k d)) (prefix_len_passes (λ x. not (p x)) xs k d (omega arith))
