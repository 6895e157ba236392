-- The image of a data block, as the rules see it, and the content of a block by the records on it.
use Rattle.std.specs.Prelude.{ℕ, ◌<◌, ◌≤◌, ◌≡◌, List, [], ◌∷◌, length}
use Rattle.block_image.specs.Block.{BlockContent, row_at, slot_at}
use Rattle.block_image.specs.Changes.{applied, empty_block}
use Rattle.board_slots.specs.Block.{Image, Record, Does, TakesBack, change_of}

-- A block has what an image says, by row and by number of its ITL slots.
pub record IsSeen (block : BlockContent) (image : Image) : Type 0 where
  pub four_slots : length block.itl ≡ 4
  pub eight_rows : length block.rows ≡ 8
  pub version : block.front.version ≡ image.version
  pub scn : block.front.scn ≡ image.scn
  pub value : (row : ℕ) → row < 8 → (row_at block.rows row).value ≡ image.value row
  pub lock : (row : ℕ) → row < 8 → (row_at block.rows row).lock ≡ image.lock row
  pub slot : (itl : ℕ) → 1 ≤ itl → itl ≤ 4 → slot_at block.itl itl ≡ image.slot itl

-- what a record does to a block
abbrev pub block_after : Record → BlockContent → BlockContent
block_after (Does deed) block = applied block (change_of deed) deed.scn
block_after (TakesBack inst xid seq scn change) block = applied block change scn
block_after _ block = block

-- the block with this number after these records, the newest first
abbrev pub block_of : ℕ → List Record → BlockContent
block_of number [] = empty_block number
block_of number (latest ∷ older) = block_after latest (block_of number older)
