-- What the parts of a data block are read and written as.
use Rattle.std.specs.Prelude.{◌≡◌, List, length}
use Rattle.std.specs.List.{flat_map, AllByRecursion}
use Rattle.redo_types.specs.declared.blocks.ItlSlot.{ItlSlot}
use Rattle.part_image.specs.Cells.{Cell}
use Rattle.part_image.specs.Slots.{IsItl, itl_cells}
use Rattle.block_image.specs.declared.row.Row.{Row}
use Rattle.block_image.specs.Block.{IsRow, NamesSlot, row_cells}

-- the cells of ITL slots, one behind the other
abbrev pub slots_cells : List ItlSlot → List Cell
slots_cells slots = flat_map itl_cells slots

-- the cells of rows, one behind the other
abbrev pub rows_cells : List Row → List Cell
rows_cells rows = flat_map row_cells rows

-- the four ITL slots of a block
pub record AreSlots (slots : List ItlSlot) : Type 0 where
  pub four : length slots ≡ 4
  pub each : AllByRecursion IsItl slots

-- a row of a block with these ITL slots
pub record IsRowOf (itl : List ItlSlot) (row : Row) : Type 0 where
  pub is : IsRow row
  pub lock : NamesSlot itl row.lock

-- the eight rows of a block with these ITL slots
pub record AreRows (itl : List ItlSlot) (rows : List Row) : Type 0 where
  pub eight : length rows ≡ 8
  pub each : AllByRecursion (IsRowOf itl) rows
