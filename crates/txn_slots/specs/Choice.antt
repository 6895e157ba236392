-- Which ITL slot a transaction takes in a block.
use Rattle.std.specs.Prelude.{◌≡◌, ℕ, ◌+◌, ◌≤◌, ◌⊎◌, ◌==◌, nat_lt, Bool, true, false, if◌then◌else◌, List, [], ◌∷◌, Option, None, Some, is_some, map}
use Rattle.std.specs.List.{position}
use Rattle.base_types.specs.declared.names.Xid.{Xid}
use Rattle.redo_types.specs.declared.blocks.ItlSlot.{ItlSlot}
use Rattle.block_image.specs.Block.{slot_at}
use Rattle.undo_segment.specs.declared.look.Look.{Look}
use Rattle.undo_segment.specs.declared.look.Look.TheVariants.{Active, Ended, ReusedBelow, Unlooked}
use Rattle.txn_slots.specs.declared.choice.SlotAnswer.{SlotAnswer}
use Rattle.txn_slots.specs.declared.choice.SlotAnswer.TheVariants.{Need, NoItl, Take}
use Rattle.txn_slots.specs.declared.choice.Ending.{Ending}
use Rattle.txn_slots.specs.declared.wanted.Wanted.TheVariants.{Head}
use Rattle.txn_slots.specs.Own.{is_own}

-- The slot has the transaction that asks.
abbrev pub is_own_slot : Option Xid → ItlSlot → Bool
is_own_slot me slot = is_own me slot.xid

-- No transaction ever had the slot.
abbrev pub is_unused : ItlSlot → Bool
is_unused slot = slot.xid.wrap == 0

-- The header isn't at hand.
abbrev pub is_unlooked : Look → Bool
is_unlooked Unlooked = true
is_unlooked _ = false

-- the SCN of an end, or the SCN that it isn't above
abbrev pub end_of : Look → Option ℕ
end_of (Ended e) = Some e
end_of (ReusedBelow e found) = Some e
end_of _ = None

-- a slot by its number, with the end of its transaction
abbrev pub ending_of : ℕ → Option ℕ → Option Ending
ending_of k None = None
ending_of k (Some e) = Some (record { itl = k; end = e })

-- the one that ended first, of two at one SCN the former
abbrev pub earlier : Option Ending → Option Ending → Option Ending
earlier None b = b
earlier (Some a) None = Some a
earlier (Some a) (Some b) = if nat_lt b.end a.end then Some b else Some a

-- of the slots from number k on, by what their transactions' headers tell, the one whose transaction ended first
abbrev pub least : ℕ → List Look → Option Ending
least k [] = None
least k (look ∷ looks) = earlier (ending_of k (end_of look)) (least (k + 1) looks)

-- A header that isn't at hand is wanted first. Then it is the slot of the transaction that ended first.
abbrev pub ended_or : List ItlSlot → Option ℕ → Option Ending → SlotAnswer
ended_or itl (Some at) ended = Need (Head (slot_at itl (at + 1)).xid.seg)
ended_or itl None (Some ended) = Take ended.itl true
ended_or itl None None = NoItl (map (λ slot. slot.xid) itl)

-- the slot of a transaction that has ended, by what the headers tell of those that have the slots
abbrev pub take_ended : List ItlSlot → List Look → SlotAnswer
take_ended itl looks = ended_or itl (position is_unlooked looks) (least 1 looks)

-- the slot at a place that no transaction ever had, where there is one
abbrev pub take_unused : Option ℕ → SlotAnswer → SlotAnswer
take_unused (Some at) otherwise = Take (at + 1) true
take_unused None otherwise = otherwise

-- the own slot at a place, where there is one
abbrev pub take_own : Option ℕ → SlotAnswer → SlotAnswer
take_own (Some at) otherwise = Take (at + 1) false
take_own None otherwise = otherwise

-- The own slot, else the lowest never used, else of those of ended transactions the one with the least end. Slots are
-- numbered from 1, places from 0.
abbrev pub choose_slot : Option Xid → (Xid → Look) → List ItlSlot → SlotAnswer
choose_slot me look itl =
    take_own (position (is_own_slot me) itl)
    (take_unused (position is_unused itl)
    (take_ended itl (map (λ slot. look slot.xid) itl)))

-- A slot that may be taken: the own one; or one of another that was never used or whose transaction has ended.
abbrev pub MayTake : Option Xid → (Xid → Look) → Bool → ItlSlot → Type 0
MayTake me look false slot = is_own_slot me slot ≡ true
MayTake me look true slot =
    (is_own_slot me slot ≡ false) × ((is_unused slot ≡ true) ⊎ (is_some (end_of (look slot.xid)) ≡ true))

-- An answer takes one of the four slots, which may be taken.
abbrev pub TakesWhatItMay : Option Xid → (Xid → Look) → List ItlSlot → SlotAnswer → Type 0
TakesWhatItMay me look itl (Take k fresh) = (1 ≤ k) × (k ≤ 4) × MayTake me look fresh (slot_at itl k)
TakesWhatItMay me look itl _ = Unit {0}
