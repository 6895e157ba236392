-- What an image must be that is read from the disk, and what a read of one gives.
use Rattle.std.specs.Prelude.{◌≡◌, ℕ, ◌^◌, ◌==◌, ◌&&◌, nat_lt, Bool, true, List}
use Rattle.std.specs.List.{list_all}
use Rattle.redo_types.specs.declared.blocks.ItlSlot.{ItlSlot}
use Rattle.block_image.specs.Block.{BlockContent, IsBlock, block_bytes}
use Rattle.rac_disk.specs.Content.{Content, block_at}
use Rattle.undo_image.specs.Header.{HeaderContent, IsHeader, header_bytes}
use Rattle.undo_image.specs.UndoBlock.{IsUndoBlock, UndoContent, undo_bytes}

-- No run comes near what an SCN, a version or a sequence number must be below.
abbrev pub is_small : ℕ → Bool
is_small n = nat_lt n (2 ^ 62)

-- Each number of an ITL slot is small.
abbrev pub is_small_slot : ItlSlot → Bool
is_small_slot slot = is_small slot.seq && nat_lt slot.xid.wrap (2 ^ 31)

-- An image is of the data block with this number, and its numbers are small.
abbrev pub is_data_of : ℕ → BlockContent → Bool
is_data_of number b =
    b.front.number == number && is_small b.front.version && is_small b.front.scn && list_all is_small_slot b.itl

-- A header is in the block with this number and of this segment, and its numbers are small.
abbrev pub is_head_of : ℕ → ℕ → HeaderContent → Bool
is_head_of number seg h =
    h.front.number == number && h.front.seg == seg && is_small h.front.version && is_small h.front.next

-- An undo block has this number and is of this segment, and its version is small.
abbrev pub is_undo_of : ℕ → ℕ → UndoContent → Bool
is_undo_of number seg b = b.front.number == number && b.front.seg == seg && is_small b.front.version

-- These bytes are those of a data block of this number.
pub record IsData (number : ℕ) (bytes : List ℕ) (b : BlockContent) : Type 0 where
  pub is : IsBlock b
  pub bytes_are : bytes ≡ block_bytes b
  pub fits : is_data_of number b ≡ true

-- These bytes are those of a header of this segment.
pub record IsHead (number seg : ℕ) (bytes : List ℕ) (h : HeaderContent) : Type 0 where
  pub is : IsHeader h
  pub bytes_are : bytes ≡ header_bytes h
  pub fits : is_head_of number seg h ≡ true

-- These bytes are those of an undo block of this segment.
pub record IsUndo (number seg : ℕ) (bytes : List ℕ) (b : UndoContent) : Type 0 where
  pub is : IsUndoBlock b
  pub bytes_are : bytes ≡ undo_bytes b
  pub fits : is_undo_of number seg b ≡ true

-- The block with this number isn't one that a run leaves there.
abbrev pub IsBadBy : {B : Type 0} → ℕ → (List ℕ → B → Type 0) → ℕ → Content → Type 0
IsBadBy {B} number Is block it = (block ≡ number) × ((b : B) → Is (block_at it block) b → ⊥)
