-- The images of blocks, whatever stands in them.
use Rattle.std.specs.Prelude.{◌≡◌, ℕ, ◌-◌, ◌/◌, ◌%◌, ◌==◌, if◌then◌else◌, nat_lt, Bool, false, List, Option, Some, Result}
use Rattle.std.specs.Option.{option_map}
use Rattle.base_types.specs.declared.layout.Layout.{Layout}
use Rattle.base_types.specs.Layout.{segment_blocks}
use Rattle.block_image.specs.Block.{BlockContent, block_bytes}
use Rattle.undo_image.specs.Header.{header_bytes}
use Rattle.undo_image.specs.UndoBlock.{undo_bytes}
use Rattle.rac_disk.specs.Content.{block_at}
use Rattle.rac_disk.specs.State.{State}
use Rattle.redo_merge.specs.declared.tagged.Tagged.{Tagged}
use Rattle.recovery.specs.Roll.{block_rolled_by, header_rolled_by, rolled, undo_rolled_by}
use Rattle.undo_segment.specs.declared.error.LoadError.{LoadError}
use Rattle.undo_segment.specs.Load.{Loads}
use Rattle.disk_calls.specs.Images.{IsBadBy, IsData, IsHead, IsUndo, is_data_of, is_head_of, is_undo_of}
use Rattle.rebuild_steps.specs.declared.images.Image.{Image}
use Rattle.rebuild_steps.specs.declared.images.Image.TheVariants as image
use Rattle.rebuild_steps.specs.declared.images.Kind.{Kind}
use Rattle.rebuild_steps.specs.declared.images.Kind.TheVariants as kind

-- what stands in a block of a segment, by its place there
abbrev pub kind_at : ℕ → ℕ → Kind
kind_at seg place = if place == 0 then kind.Head seg else kind.Undo seg

-- what stands in a block behind so many others, by the number of blocks that a segment has
abbrev pub kind_behind : ℕ → ℕ → Kind
kind_behind count at = kind_at (at / count) (at % count)

-- what stands in a block, by its place on the disk
abbrev pub kind_of : Layout → ℕ → Kind
kind_of layout block =
    if nat_lt block layout.blocks then kind.Data else kind_behind (segment_blocks layout) (block - layout.blocks)

-- the bytes of an image
abbrev pub bytes_of : Image → List ℕ
bytes_of (image.Data b) = block_bytes b
bytes_of (image.Head h) = header_bytes h
bytes_of (image.Undo u) = undo_bytes u

-- the version of an image
abbrev pub version_of : Image → ℕ
version_of (image.Data b) = b.front.version
version_of (image.Head h) = h.front.version
version_of (image.Undo u) = u.front.version

-- An image is of the block with this number, in which this is to stand, and its numbers are small.
abbrev pub is_image_of : ℕ → Kind → Image → Bool
is_image_of number kind.Data (image.Data b) = is_data_of number b
is_image_of number (kind.Head seg) (image.Head h) = is_head_of number seg h
is_image_of number (kind.Undo seg) (image.Undo u) = is_undo_of number seg u
is_image_of number _ _ = false

-- These bytes are those of an image of the block with this number, in which this is to stand.
abbrev pub IsImage : ℕ → Kind → List ℕ → Image → Type 0
IsImage number kind.Data bytes (image.Data b) = IsData number bytes b
IsImage number (kind.Head seg) bytes (image.Head h) = IsHead number seg bytes h
IsImage number (kind.Undo seg) bytes (image.Undo u) = IsUndo number seg bytes u
IsImage number _ bytes _ = ⊥

-- What a read of the image of a block gives.
abbrev pub LoadsImage : Layout → ℕ → Result Image LoadError → State → State → Type 0
LoadsImage layout block result old new =
    Loads (λ it disk. block_at disk block ≡ bytes_of it) (IsBadBy block (IsImage block (kind_of layout block))) result old new

-- an image after the changes of its block by these records that it doesn't have yet
abbrev pub image_rolled : List Tagged → Image → Option Image
image_rolled its (image.Data b) = option_map image.Data (rolled block_rolled_by its b)
image_rolled its (image.Head h) = option_map image.Head (rolled header_rolled_by its h)
image_rolled its (image.Undo u) = option_map image.Undo (rolled undo_rolled_by its u)

-- the newer one of a data block that stands on the disk and its past image
abbrev pub newer_data : BlockContent → BlockContent → BlockContent
newer_data past b = if nat_lt b.front.version past.front.version then past else b

-- the newer one of the image that stands on the disk and the past image of the block, if one is there
abbrev pub newer : Option BlockContent → Image → Image
newer (Some past) (image.Data b) = image.Data (newer_data past b)
newer past it = it

-- What redo makes of a block, by the image that stands on the disk and its past image, if one is there.
abbrev pub rolled_from : List Tagged → Option BlockContent → Image → Option Image
rolled_from its past it = image_rolled its (newer past it)
