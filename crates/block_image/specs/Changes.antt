-- What redo and undo do to a data block.
use Rattle.std.specs.Prelude.{ℕ, ◌+◌, ◌-◌, ◌==◌, Bool, true, false, List, map, replicate, slice_set}
use Rattle.std.specs.Bool.{if◌then◌else◌}
use Rattle.redo_types.specs.declared.blocks.ItlSlot.{ItlSlot}
use Rattle.redo_types.specs.declared.blocks.RowChange.{RowChange}
use Rattle.base_types.specs.declared.names.BlockNo.{BlockNo}
use Rattle.base_types.specs.declared.names.Scn.{Scn}
use Rattle.base_types.specs.declared.value.Value.{Value}
use Rattle.part_image.specs.Slots.{unused_itl}
use Rattle.block_image.specs.declared.row.Row.{Row}
use Rattle.block_image.specs.Block.{BlockContent, clear_row, row_at, slot_at}

-- the block with this number that no record touched: its ITL slots are unused, and its rows absent and not locked
abbrev pub empty_block : BlockNo → BlockContent
empty_block number = record {
  front = record { number = number; seg = 0; version = 0; scn = 0; next = 0 };
  itl = replicate 4 unused_itl;
  rows = replicate 8 clear_row;
}

-- the row, without its lock where that names the ITL slot with this number
abbrev pub unlocked : ℕ → Row → Row
unlocked k row = if row.lock == k then record row { lock = 0 } else row

-- the rows, without the locks that name this ITL slot where the slot is let go
abbrev pub let_go : Bool → ℕ → List Row → List Row
let_go true k rows = map (unlocked k) rows
let_go false k rows = rows

-- The block after a change by a record with this SCN. Where the ITL slot is taken anew, no row keeps a lock by it, and
-- then the row gets its value and its lock.
abbrev pub applied : BlockContent → RowChange → Scn → BlockContent
applied b c scn = record {
  front = record b.front { version = b.front.version + 1; scn = scn };
  itl = slice_set b.itl (c.itl - 1) c.slot;
  rows = slice_set (let_go c.fresh c.itl b.rows) c.row (record { value = c.value; lock = c.lock });
}

-- The block with an ITL slot and a row's value as they were before a change. Where the slot was unused, no row keeps a
-- lock by it.
abbrev pub restored : BlockContent → ℕ → ItlSlot → ℕ → Value → BlockContent
restored b k slot row value = record {
  front = b.front;
  itl = slice_set b.itl (k - 1) slot;
  rows = let_go (slot.xid.wrap == 0) k (slice_set b.rows row (record (row_at b.rows row) { value = value }));
}

-- the block after a change that was made and taken back
abbrev pub taken_back : BlockContent → RowChange → Scn → BlockContent
taken_back b c scn = restored (applied b c scn) c.itl (slot_at b.itl c.itl) c.row (row_at b.rows c.row).value

-- what the rows hold, without their locks
abbrev pub values_of : List Row → List Value
values_of rows = map (λ r. r.value) rows
