-- The header of an undo segment, as bytes.
use Rattle.std.specs.Prelude.{◌≡◌, ℕ, ◌+◌, List, [], ◌∷◌, ◌++◌, length, replicate, slice_index_or, slice_set}
use Rattle.std.specs.List.{AllByRecursion, flat_map}
use Rattle.base_types.specs.declared.names.Scn.{Scn}
use Rattle.redo_types.specs.declared.undo.TxnSlot.{TxnSlot}
use Rattle.redo_types.specs.declared.undo.TxnState.TheVariants.{Never}
use Rattle.part_image.specs.declared.front.BlockFront.{BlockFront}
use Rattle.part_image.specs.declared.front.BlockKind.TheVariants.{Header}
use Rattle.part_image.specs.Cells.{Cell, Zeros, first_fields, spelled}
use Rattle.part_image.specs.Front.{IsFront, front_fields}
use Rattle.part_image.specs.Undo.{IsTxnSlot, txn_slot_cells}

-- what a header has: the front of a block, and the slots of the transaction table
pub record HeaderContent : Type 0 where
  pub front : BlockFront
  pub slots : List TxnSlot

-- the cells of slots, one behind the other
abbrev pub slots_cells : List TxnSlot → List Cell
slots_cells slots = flat_map txn_slot_cells slots

-- Fields 1 to 9: the front, the slots, and zeros up to the end of the block.
abbrev pub header_fields : HeaderContent → List (List Cell)
header_fields h = front_fields Header h.front ++ slots_cells h.slots ∷ (Zeros 160 ∷ []) ∷ []

-- the 512 bytes of a header
abbrev pub header_bytes : HeaderContent → List ℕ
header_bytes h = spelled (first_fields 9 (header_fields h))

-- eight slots of a transaction table
pub record AreSlots (slots : List TxnSlot) : Type 0 where
  pub eight : length slots ≡ 8
  pub each : AllByRecursion IsTxnSlot slots

-- A header has the front of a header and eight slots.
pub record IsHeader (h : HeaderContent) : Type 0 where
  pub front : IsFront Header h.front
  pub slots : AreSlots h.slots

-- the slot that no transaction ever took
abbrev pub never_slot : TxnSlot
never_slot = record { wrap = 0; state = Never; first = 0; last = 0; scn = 0; prev = 0 }

-- the slot with this number
abbrev pub slot_at : HeaderContent → ℕ → TxnSlot
slot_at h k = slice_index_or h.slots k never_slot

-- the header of a segment that no transaction ever used
abbrev pub empty_header : ℕ → ℕ → HeaderContent
empty_header number seg = record {
  front = record {
    number = number;
    seg = seg;
    version = 0;
    scn = 0;
    next = 1;
  };
  slots = replicate 8 never_slot;
}

-- A record with this SCN touched the header: it has one version more, this next sequence number, and this slot there.
abbrev pub with_slot : HeaderContent → ℕ → TxnSlot → ℕ → Scn → HeaderContent
with_slot h k s next scn = record {
  front = record h.front { version = h.front.version + 1; scn = scn; next = next };
  slots = slice_set h.slots k s;
}
