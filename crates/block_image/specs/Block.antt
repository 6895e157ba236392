-- Data blocks, and their 512 bytes.
use Rattle.std.specs.Prelude.{◌≡◌, ℕ, ◌-◌, ◌≤◌, ◌⊎◌, List, [], ◌∷◌, ◌++◌, length, slice_index_or}
use Rattle.std.specs.List.{flat_map, AllByRecursion}
use Rattle.redo_types.specs.declared.blocks.ItlSlot.{ItlSlot}
use Rattle.base_types.specs.declared.value.Value.TheVariants.{Absent}
use Rattle.part_image.specs.declared.front.BlockFront.{BlockFront}
use Rattle.part_image.specs.declared.front.BlockKind.TheVariants.{Data}
use Rattle.part_image.specs.Cells.{AllFit, Byte, Cell, Number, Zeros, first_fields, spelled}
use Rattle.part_image.specs.Front.{IsFront, front_fields}
use Rattle.part_image.specs.Slots.{IsItl, IsValue, bits_of, flag_of, itl_cells, unused_itl}
use Rattle.block_image.specs.declared.row.Row.{Row}

-- What a data block holds: the front of each block, its ITL slots, and its rows.
pub record BlockContent : Type 0 where
  pub front : BlockFront
  pub itl : List ItlSlot
  pub rows : List Row

-- A row has 16 bytes: a flag, its lock byte, and what it holds.
abbrev pub row_cells : Row → List Cell
row_cells r = Byte (flag_of r.value) ∷ Byte r.lock ∷ Zeros 6 ∷ Number 8 (bits_of r.value) ∷ []

-- Fields 1 to 10: the seven of the front, the four ITL slots, the eight rows, and zeros to the end.
abbrev pub data_fields : BlockContent → List (List Cell)
data_fields b =
    front_fields Data b.front
    ++ flat_map itl_cells b.itl
    ∷ flat_map row_cells b.rows
    ∷ (Zeros 288 ∷ [])
    ∷ []

-- the 512 bytes of a data block
abbrev pub block_bytes : BlockContent → List ℕ
block_bytes b = spelled (first_fields 10 (data_fields b))

-- a row that is absent and not locked
abbrev pub clear_row : Row
clear_row = record { value = Absent; lock = 0 }

-- the ITL slot with this number, from 1
abbrev pub slot_at : List ItlSlot → ℕ → ItlSlot
slot_at itl k = slice_index_or itl (k - 1) unused_itl

-- the row with this number, from 0
abbrev pub row_at : List Row → ℕ → Row
row_at rows r = slice_index_or rows r clear_row

-- a row holds a number of 64 bits or nothing, and its lock is a byte
pub record IsRow (r : Row) : Type 0 where
  pub fits : AllFit (row_cells r)
  pub value : IsValue r.value

-- a lock byte is 0, or names one of the four ITL slots, and that one is used
abbrev pub NamesSlot : List ItlSlot → ℕ → Type 0
NamesSlot itl lock = (lock ≡ 0) ⊎ ((1 ≤ lock) × (lock ≤ 4) × (1 ≤ (slot_at itl lock).xid.wrap))

-- A data block has the front of one, four ITL slots, and eight rows whose lock bytes name slots of its own.
pub record IsBlock (b : BlockContent) : Type 0 where
  pub front : IsFront Data b.front
  pub four_slots : length b.itl ≡ 4
  pub slots : AllByRecursion IsItl b.itl
  pub eight_rows : length b.rows ≡ 8
  pub rows : AllByRecursion IsRow b.rows
  pub locks : AllByRecursion (λ r. NamesSlot b.itl r.lock) b.rows
