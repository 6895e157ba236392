-- Which blocks records name, and which versions these have on the disk.
use Rattle.std.specs.Prelude.{◌≡◌, ℕ, ◌<◌, ◌==◌, ◌||◌, Bool, false, List, filter, length, map, slice_index_or, Option, None, Some}
use Rattle.std.specs.List.{All, list_any, range_with_len}
use Rattle.base_types.specs.declared.layout.Layout.{Layout}
use Rattle.redo_types.specs.declared.redo.DataChange.{DataChange}
use Rattle.redo_types.specs.declared.redo.Redo.{Redo}
use Rattle.redo_types.specs.declared.redo.UndoChange.{UndoChange}
use Rattle.block_image.specs.Block.{BlockContent}
use Rattle.undo_image.specs.Header.{HeaderContent}
use Rattle.undo_image.specs.UndoBlock.{UndoContent}
use Rattle.rac_disk.specs.Content.{Content, block_at}
use Rattle.disk_calls.specs.Images.{IsData, IsHead, IsUndo}
use Rattle.thread_steps.specs.declared.found.BlockVersion.{BlockVersion}
use Rattle.thread_steps.specs.declared.kinds.BlockKind.{BlockKind}
use Rattle.thread_steps.specs.declared.kinds.BlockKind.TheVariants.{Data, Head, Undo}
use Rattle.thread_steps.specs.Kinds.{kind_of}

-- A change, if it is there, is of this undo block.
abbrev pub undo_names : Option UndoChange → ℕ → Bool
undo_names None block = false
undo_names (Some change) block = change.block == block

-- A change, if it is there, is of this data block.
abbrev pub row_names : Option DataChange → ℕ → Bool
row_names None block = false
row_names (Some change) block = change.block == block

-- A record changes a block.
abbrev pub names : ℕ → Redo → Bool
names block redo = redo.head.block == block || undo_names redo.undo block || row_names redo.row block

-- One of these records changes a block.
abbrev pub is_named : List Redo → ℕ → Bool
is_named records block = list_any (names block) records

-- the blocks that records change, ascending; no disk has more than 200
abbrev pub named_blocks : List Redo → List ℕ
named_blocks records = filter (is_named records) (range_with_len 0 200)

-- A data block has a version on the disk.
abbrev pub HasDataVersion : ℕ → ℕ → Content → Type 0
HasDataVersion block version it =
    (image : BlockContent) × IsData block (block_at it block) image × (version ≡ image.front.version)

-- A header has a version on the disk.
abbrev pub HasHeadVersion : ℕ → ℕ → ℕ → Content → Type 0
HasHeadVersion block seg version it =
    (head : HeaderContent) × IsHead block seg (block_at it block) head × (version ≡ head.front.version)

-- An undo block has a version on the disk.
abbrev pub HasUndoVersion : ℕ → ℕ → ℕ → Content → Type 0
HasUndoVersion block seg version it =
    (undo : UndoContent) × IsUndo block seg (block_at it block) undo × (version ≡ undo.front.version)

-- No data block stands in the place of this one.
abbrev pub HasNoData : ℕ → Content → Type 0
HasNoData block it = (image : BlockContent) → IsData block (block_at it block) image → ⊥

-- No header of the segment stands in the place of this one.
abbrev pub HasNoHead : ℕ → ℕ → Content → Type 0
HasNoHead block seg it = (head : HeaderContent) → IsHead block seg (block_at it block) head → ⊥

-- No undo block of the segment stands in the place of this one.
abbrev pub HasNoUndo : ℕ → ℕ → Content → Type 0
HasNoUndo block seg it = (undo : UndoContent) → IsUndo block seg (block_at it block) undo → ⊥

-- A block that is laid out for something has a version on the disk.
abbrev pub HasVersionAs : BlockKind → ℕ → ℕ → Content → Type 0
HasVersionAs Data block version it = HasDataVersion block version it
HasVersionAs (Head seg) block version it = HasHeadVersion block seg version it
HasVersionAs (Undo seg) block version it = HasUndoVersion block seg version it

-- A block isn't on the disk what it is laid out for.
abbrev pub HasNoVersionAs : BlockKind → ℕ → Content → Type 0
HasNoVersionAs Data block it = HasNoData block it
HasNoVersionAs (Head seg) block it = HasNoHead block seg it
HasNoVersionAs (Undo seg) block it = HasNoUndo block seg it

-- A block has a version on the disk.
abbrev pub HasVersion : Layout → ℕ → ℕ → Content → Type 0
HasVersion layout block version it = HasVersionAs (kind_of layout block) block version it

-- A block isn't on the disk what it is to be.
abbrev pub HasNoVersion : Layout → ℕ → Content → Type 0
HasNoVersion layout block it = HasNoVersionAs (kind_of layout block) block it

-- These are the versions that these blocks have on the disk, in their order.
pub record HaveVersions (layout : Layout) (blocks : List ℕ) (versions : List BlockVersion) (it : Content) : Type 0 where
  pub blocks_are : map (λ (one : BlockVersion). one.block) versions ≡ blocks
  pub each : All (λ (one : BlockVersion). HasVersion layout one.block one.version it) versions

-- One of these blocks isn't on the disk what it is to be.
abbrev pub HasBadOne : Layout → List ℕ → Content → Type 0
HasBadOne layout blocks it = (k : ℕ) × (k < length blocks) × HasNoVersion layout (slice_index_or blocks k 0) it
