-- Of several slots the one whose transaction ended first, and what may be taken.
use Rattle.std.proofs.Common.{◌≡◌, ℕ, zero, suc, ◌+◌, ◌-◌, ◌<◌, ◌≤◌, Bool, true, false, cond, ◌⊎◌, inl, inr, List, [], ◌∷◌, length, get_or, map, refl, sym, ap, subst, ◌∙◌, arith}
use Rattle.std.specs.Prelude.{Option, Some, None, is_some, nat_lt}
use Rattle.std.specs.List.{position}
use Rattle.std.proofs.lemmas.List.{get_or-map, length-map}
use Rattle.std.proofs.lemmas.List.Quantifiers.{position-Some}
use Rattle.base_types.specs.declared.names.Xid.{Xid}
use Rattle.redo_types.specs.declared.blocks.ItlSlot.{ItlSlot}
use Rattle.part_image.specs.Slots.{unused_itl}
use Rattle.block_image.specs.Block.{slot_at}
use Rattle.undo_segment.specs.declared.look.Look.{Look}
use Rattle.undo_segment.specs.declared.look.Look.TheVariants.{Unlooked}
use Rattle.txn_slots.specs.declared.choice.Ending.{Ending}
use Rattle.txn_slots.specs.declared.choice.SlotAnswer.{SlotAnswer}
use Rattle.txn_slots.specs.declared.choice.SlotAnswer.TheVariants.{Take}
use Rattle.txn_slots.specs.Choice.{MayTake, TakesWhatItMay, choose_slot, earlier, end_of, ended_or, ending_of, is_own_slot, is_unlooked, is_unused, least, take_ended, take_own, take_unused}
use Rattle.txn_slots.proofs.SlotLemmas.{position_none}

-- a slot of one that has ended, by its number where the first has number k
pub record EndedAt (k : ℕ) (looks : List Look) (d : Look) (itl : ℕ) : Type 0 where
  pub at : ℕ
  pub within : at < length looks
  pub number : itl ≡ k + at
  pub ended : is_some (end_of (get_or looks at d)) ≡ true

-- the one that ended first is one of them, and has ended
pub least_at : (k : ℕ) (looks : List Look) (e : Ending) (d : Look) → least k looks ≡ Some e → EndedAt k looks d e.itl
least_at k [] e d is = absurd (let no : ◌≡◌ {A = Option Ending} None (Some e) = is in cc)
least_at k (look ∷ looks) e d is = here (end_of look) refl (least (k + 1) looks) refl is (least_at (k + 1) looks)
  where
    behind : (itl : ℕ) → EndedAt (k + 1) looks d itl → EndedAt k (look ∷ looks) d itl
    behind itl x = record { at = suc x.at; within = omega (arith, x.within); number = omega (arith, x.number); ended = x.ended }

    first : (n : ℕ) → end_of look ≡ Some n → EndedAt k (look ∷ looks) d k
    first n ends = record { at = zero; within = omega arith; number = omega arith; ended = rw ends refl }

    here : (o : Option ℕ) → end_of look ≡ o → (r : Option Ending) → least (k + 1) looks ≡ r → earlier (ending_of k o) r ≡ Some e
        → ((b : Ending) (d : Look) → least (k + 1) looks ≡ Some b → EndedAt (k + 1) looks d b.itl) → EndedAt k (look ∷ looks) d e.itl
    here None ends r rest is later = behind e.itl (later e d (rest ∙ is))
    here (Some n) ends None rest is later =
        let same : record { itl = k; end = n } ≡ e = cc in
        subst (EndedAt k (look ∷ looks) d) (ap (λ (x : Ending). x.itl) same) (first n ends)
    here (Some n) ends (Some b) rest is later = either (nat_lt b.end n) is
      where
        either : (t : Bool) → cond t (Some b) (Some (record { itl = k; end = n })) ≡ Some e → EndedAt k (look ∷ looks) d e.itl
        either true is = let same : b ≡ e = cc in subst (EndedAt k (look ∷ looks) d) (ap (λ (x : Ending). x.itl) same) (behind b.itl (later b d rest))
        either false is =
            let same : record { itl = k; end = n } ≡ e = cc in
            subst (EndedAt k (look ∷ looks) d) (ap (λ (x : Ending). x.itl) same) (first n ends)

-- a slot by its place
slot_by_place : (itl : List ItlSlot) (at : ℕ) → slot_at itl (at + 1) ≡ get_or itl at unused_itl
slot_by_place itl at = let back : at + 1 - 1 ≡ at = omega arith in rw back refl

-- the own slot may be taken
pub takes_own : (me : Option Xid) (look : Xid → Look) (itl : List ItlSlot) (at : ℕ) → length itl ≡ 4 → position (is_own_slot me) itl ≡ Some at
    → TakesWhatItMay me look itl (Take (at + 1) false)
takes_own me look itl at four is =
    let there = position-Some (is_own_slot me) itl at unused_itl is in
    let within = there.0 in
    (omega arith, omega arith, rw (slot_by_place itl at) there.1)

-- a slot that was never used may be taken where none is the own one
pub takes_unused : (me : Option Xid) (look : Xid → Look) (itl : List ItlSlot) (at : ℕ) → length itl ≡ 4 → position (is_own_slot me) itl ≡ None
    → position is_unused itl ≡ Some at → TakesWhatItMay me look itl (Take (at + 1) true)
takes_unused me look itl at four none is =
    let there = position-Some is_unused itl at unused_itl is in
    let within = there.0 in
    (omega arith, omega arith, rw (slot_by_place itl at) (position_none (is_own_slot me) itl at unused_itl none within, inl there.1))

-- the slot of one that has ended may be taken where none is the own one
pub takes_ended : (me : Option Xid) (look : Xid → Look) (itl : List ItlSlot) → length itl ≡ 4 → position (is_own_slot me) itl ≡ None
    → TakesWhatItMay me look itl (take_ended itl (map (λ slot. look slot.xid) itl))
takes_ended me look itl four none = here (position is_unlooked looks) (least 1 looks) refl
  where
    looks : List Look
    looks = map (λ slot. look slot.xid) itl

    at_end : (e : Ending) → EndedAt 1 looks Unlooked e.itl → TakesWhatItMay me look itl (Take e.itl true)
    at_end e x =
        let same : e.itl ≡ x.at + 1 = omega (arith, x.number) in
        let long = length-map {A = ItlSlot} {B = Look} itl (λ slot. look slot.xid) in
        let within : x.at < length itl = omega (arith, x.within) in
        let told = get_or-map (λ slot. look slot.xid) itl x.at unused_itl Unlooked within in (
          omega arith,
          omega arith,
          rw (same, slot_by_place itl x.at) (position_none (is_own_slot me) itl x.at unused_itl none within, inr (rw (sym told) x.ended)),
        )

    here : (o : Option ℕ) (e : Option Ending) → least 1 looks ≡ e → TakesWhatItMay me look itl (ended_or itl o e)
    here (Some at) e is = tt
    here None None is = tt
    here None (Some e) is = at_end e (least_at 1 looks e Unlooked is)
