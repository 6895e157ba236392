-- What the choice of an ITL slot tells of the four.
use Rattle.std.proofs.Common.{◌≡◌, ℕ, ◌+◌, ◌-◌, ◌<◌, ◌≤◌, Bool, true, false, cond, List, [], ◌∷◌, length, get_or, map, refl, sym, subst, ◌∙◌, arith}
use Rattle.std.specs.Prelude.{Option, Some, None, nat_lt, zero, suc}
use Rattle.std.specs.List.{position}
use Rattle.std.proofs.lemmas.List.{get_or-map, length-map}
use Rattle.base_types.specs.declared.names.Xid.{Xid}
use Rattle.redo_types.specs.declared.blocks.ItlSlot.{ItlSlot}
use Rattle.part_image.specs.Slots.{unused_itl}
use Rattle.block_image.specs.Block.{slot_at}
use Rattle.undo_segment.specs.declared.look.Look.{Look}
use Rattle.undo_segment.specs.declared.look.Look.TheVariants.{Active, Ended, ReusedBelow, Unlooked}
use Rattle.txn_slots.specs.declared.choice.Ending.{Ending}
use Rattle.txn_slots.specs.declared.choice.SlotAnswer.TheVariants.{Need, NoItl, Take}
use Rattle.txn_slots.specs.declared.wanted.Wanted.TheVariants.{Head}
use Rattle.txn_slots.specs.Choice.{choose_slot, earlier, end_of, ended_or, ending_of, is_own_slot, is_unlooked, is_unused, least, MayTake, take_ended, take_own, take_unused, TakesWhatItMay}
use Rattle.txn_slots.proofs.ChoiceLemmas.{takes_ended, takes_own, takes_unused}
use Rattle.txn_slots.proofs.SlotLemmas.{position_none}
use Rattle.board_slots.proofs.Rounds.{no-answer}

-- none of four passes
pub all-fail : (test : ItlSlot → Bool) (itl : List ItlSlot) → length itl ≡ 4 → position test itl ≡ None → (j : ℕ) → 1 ≤ j → j ≤ 4 → test (slot_at itl j) ≡ false
all-fail test itl four none j low high = position_none test itl (j - 1) unused_itl none (omega arith)

module _ (me : Option Xid) (look : Xid → Look) (itl : List ItlSlot) (four : length itl ≡ 4) where
  -- a slot that is taken, and where it is taken anew none is the own one
  pub record Chosen (k : ℕ) (fresh : Bool) : Type 0 where
    pub first : 1 ≤ k
    pub last : k ≤ 4
    pub may : MayTake me look fresh (slot_at itl k)
    pub none : fresh ≡ true → (j : ℕ) → 1 ≤ j → j ≤ 4 → is_own_slot me (slot_at itl j) ≡ false

  pub chosen : (k : ℕ) (fresh : Bool) → choose_slot me look itl ≡ Take k fresh → Chosen k fresh
  chosen k fresh e = here (position (is_own_slot me) itl) refl (position is_unused itl) refl e
    where
      looks : List Look
      looks = map (λ slot. look slot.xid) itl

      with : TakesWhatItMay me look itl (Take k fresh) → (fresh ≡ true → (j : ℕ) → 1 ≤ j → j ≤ 4 → is_own_slot me (slot_at itl j) ≡ false) → Chosen k fresh
      with may none = record { first = may.0; last = may.1; may = may.2; none = none }

      here : (a : Option ℕ) → position (is_own_slot me) itl ≡ a → (b : Option ℕ) → position is_unused itl ≡ b → take_own a (take_unused b (take_ended itl looks)) ≡ Take k fresh → Chosen k fresh
      here (Some at) f b g e =
          let fresh_is : false ≡ fresh = cc in
          with (subst (TakesWhatItMay me look itl) e (takes_own me look itl at four f)) (λ anew. absurd (let bad : false ≡ true = fresh_is ∙ anew in cc))
      here None f (Some at) g e = with (subst (TakesWhatItMay me look itl) e (takes_unused me look itl at four f g)) (λ anew. all-fail (is_own_slot me) itl four f)
      here None f None g e = with (subst (TakesWhatItMay me look itl) e (takes_ended me look itl four f)) (λ anew. all-fail (is_own_slot me) itl four f)

  -- a slot of another that is active
  pub record Refused (k : ℕ) : Type 0 where
    pub other : is_own_slot me (slot_at itl k) ≡ false
    pub used : is_unused (slot_at itl k) ≡ false
    pub active : look (slot_at itl k).xid ≡ Active

  earlier-none : (a b : Option Ending) → earlier a b ≡ None → (a ≡ None) × (b ≡ None)
  earlier-none None b e = (refl, e)
  earlier-none (Some a) None e = no-answer Ending a (sym e)
  earlier-none (Some a) (Some b) e = here (nat_lt b.end a.end) e
    where
      here : (t : Bool) → cond t (Some b) (Some a) ≡ None → (Some a ≡ None) × (Some b ≡ None)
      here true e = no-answer Ending b (sym e)
      here false e = no-answer Ending a (sym e)

  least-none : (k : ℕ) (looks : List Look) (at : ℕ) (d : Look) → least k looks ≡ None → at < length looks → end_of (get_or looks at d) ≡ None
  least-none k [] at d e lt = absurd (omega arith)
  least-none k (l ∷ looks) zero d e lt = here (end_of l) (earlier-none (ending_of k (end_of l)) (least (k + 1) looks) e).0
    where
      here : (o : Option ℕ) → ending_of k o ≡ None → o ≡ None
      here None f = refl
      here (Some n) f = no-answer Ending (record { itl = k; end = n }) (sym f)
  least-none k (l ∷ looks) (suc at) d e lt = least-none (k + 1) looks at d (earlier-none (ending_of k (end_of l)) (least (k + 1) looks) e).1 (omega (arith, lt))

  is-active : (l : Look) → is_unlooked l ≡ false → end_of l ≡ None → l ≡ Active
  is-active Unlooked u e = absurd (let bad : true ≡ false = u in cc)
  is-active Active u e = refl
  is-active (Ended d) u e = no-answer ℕ d (sym e)
  is-active (ReusedBelow d found) u e = no-answer ℕ d (sym e)

  pub refused : (holders : List Xid) → choose_slot me look itl ≡ NoItl holders → (k : ℕ) → 1 ≤ k → k ≤ 4 → Refused k
  refused holders e k low high = here (position (is_own_slot me) itl) refl (position is_unused itl) refl (position is_unlooked looks) refl (least 1 looks) refl e
    where
      looks : List Look
      looks = map (λ slot. look slot.xid) itl

      within : k - 1 < length itl
      within = omega (arith, four, low, high)

      long : k - 1 < length looks
      long = let same = length-map {A = ItlSlot} {B = Look} itl (λ slot. look slot.xid) in omega (arith, within)

      told : get_or looks (k - 1) Unlooked ≡ look (slot_at itl k).xid
      told = get_or-map (λ (slot : ItlSlot). look slot.xid) itl (k - 1) unused_itl Unlooked within

      here : (a : Option ℕ) → position (is_own_slot me) itl ≡ a → (b : Option ℕ) → position is_unused itl ≡ b → (u : Option ℕ) → position is_unlooked looks ≡ u → (l : Option Ending) → least 1 looks ≡ l
          → take_own a (take_unused b (ended_or itl u l)) ≡ NoItl holders → Refused k
      here (Some at) f b g u i l h e = absurd (let bad : Take (at + 1) false ≡ NoItl holders = e in cc)
      here None f (Some at) g u i l h e = absurd (let bad : Take (at + 1) true ≡ NoItl holders = e in cc)
      here None f None g (Some at) i l h e = absurd (let bad : Need (Head (slot_at itl (at + 1)).xid.seg) ≡ NoItl holders = e in cc)
      here None f None g None i (Some a) h e = absurd (let bad : Take a.itl true ≡ NoItl holders = e in cc)
      here None f None g None i None h e =
          record {
            other = all-fail (is_own_slot me) itl four f k low high;
            used = all-fail is_unused itl four g k low high;
            active = sym told ∙ is-active (get_or looks (k - 1) Unlooked) (position_none is_unlooked looks (k - 1) Unlooked i long) (least-none 1 looks (k - 1) Unlooked h long);
          }
