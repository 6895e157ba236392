-- What is read of a change of a header.
use Rattle.std.proofs.Common.{◌≡◌, ℕ, ◌≤◌, List, [], ◌∷◌, drop, length, slice_index, refl, sym, ◌∙◌, arith}
use Rattle.redo_types.specs.declared.redo.HeadChange.{HeadChange}
use Rattle.base_types.specs.Bytes.{number_at}
use Rattle.part_image.specs.Cells.{Begins, Byte, Cell, Number, StandsAt, spelled}
use Rattle.part_image.specs.Undo.{IsTxnSlot, txn_slot_bytes, txn_slot_cells}
use Rattle.part_image.proofs.CellLemmas.{AllFit-append, AllFit-left, AllStand, all_stand_where_spelled, fit_where_all_stand, spelled_where_all_stand}
use Rattle.part_image.proofs.Numbers.{IsBytes}
use Rattle.part_image.proofs.OneValue.{one_txn_slot}
use Rattle.redo_record.specs.Parts.{HasHeadRanges}
use Rattle.redo_record.specs.Redo.{IsHeadChange, head_cells}
use Rattle.redo_record.proofs.Joined.{put_together, taken_apart}

-- the cells before the slot
abbrev numbers : HeadChange → List Cell
numbers h = Byte 1 ∷ Number 2 h.block ∷ Number 8 h.version ∷ Byte h.slot ∷ Number 8 h.next ∷ []

-- where the numbers of a change of a header stand
pub record HeadParts (bytes : List ℕ) (h : HeadChange) : Type 0 where
  pub letter : slice_index bytes 0 ≡ 1
  pub block : number_at 2 bytes 1 ≡ h.block
  pub version : number_at 8 bytes 3 ≡ h.version
  pub slot : slice_index bytes 11 ≡ h.slot
  pub next : number_at 8 bytes 12 ≡ h.next
  pub to : StandsAt bytes 20 (txn_slot_bytes h.to)

pub head_parts : (bytes : List ℕ) (h : HeadChange) → IsHeadChange h → Begins bytes (spelled (head_cells h)) → HeadParts bytes h
head_parts bytes h is begins =
    let both = taken_apart bytes 0 20 (numbers h) (txn_slot_cells h.to) refl begins in
    let all = all_stand_where_spelled bytes 0 (numbers h) (AllFit-left (numbers h) (txn_slot_cells h.to) is.fits) both.0 in
    record { letter = all.0; block = all.1.0; version = all.1.1.0; slot = all.1.1.1.0; next = all.1.1.1.1.0; to = both.1 }

-- what was read is a change of a header whose bytes stand there
pub head_read : (bytes : List ℕ) (h : HeadChange) → IsBytes bytes → 60 ≤ length bytes → HeadParts bytes h → HasHeadRanges bytes h → IsTxnSlot h.to → IsHeadChange h × Begins bytes (spelled (head_cells h))
head_read bytes h fits long parts ranges to =
    let all : AllStand bytes 0 (numbers h) = (parts.letter, (parts.block, (parts.version, (parts.slot, (parts.next, tt))))) in
    let first = spelled_where_all_stand bytes 0 (numbers h) fits (omega arith) all in (
      record { fits = AllFit-append (numbers h) (txn_slot_cells h.to) (fit_where_all_stand bytes 0 (numbers h) fits all) to.fits; version = ranges.1; slot = ranges.2; next = ranges.3; to = to },
      put_together bytes 0 20 (numbers h) (txn_slot_cells h.to) refl first parts.to,
    )

-- the ranges are those of three numbers
pub head_ranges : (bytes : List ℕ) (h v : HeadChange) → h.version ≡ v.version → h.slot ≡ v.slot → h.next ≡ v.next → slice_index bytes 0 ≡ 1 → IsHeadChange v → HasHeadRanges bytes h
head_ranges bytes h v version slot next letter is = (letter, omega (arith, is.version), omega (arith, is.slot), omega (arith, is.next))

pub one_head : (bytes : List ℕ) (v w : HeadChange) → IsHeadChange v → IsHeadChange w → Begins bytes (spelled (head_cells v)) → Begins bytes (spelled (head_cells w)) → v ≡ w
one_head bytes v w is_v is_w begins_v begins_w =
    let a = head_parts bytes v is_v begins_v in
    let b = head_parts bytes w is_w begins_w in
    let to = one_txn_slot (drop 20 bytes) v.to w.to is_v.to is_w.to a.to b.to in
    rw (sym a.block ∙ b.block, sym a.version ∙ b.version, sym a.slot ∙ b.slot, sym a.next ∙ b.next, to) refl
