-- Which blocks are to be rebuilt.
use Rattle.std.specs.Prelude.{ℕ, zero, suc, ◌==◌, ◌&&◌, ◌||◌, nat_lt, not, Bool, true, false, if◌then◌else◌, List, [], ◌∷◌, ◌++◌, Option, None, Some, filter, slice_index_or}
use Rattle.std.specs.List.{list_any}
use Rattle.base_types.specs.declared.layout.Layout.{Layout}
use Rattle.base_types.specs.Layout.{total_of}
use Rattle.redo_types.specs.declared.redo.DataChange.{DataChange}
use Rattle.redo_types.specs.declared.redo.Redo.{Redo}
use Rattle.redo_types.specs.declared.redo.UndoChange.{UndoChange}
use Rattle.redo_merge.specs.declared.tagged.Tagged.{Tagged}
use Rattle.recovery.specs.declared.reports.Reports.{Reports}
use Rattle.recovery.specs.Reports.{has_past, is_held}

-- A change, if it is there, makes a version of this data block that is later than the disk's.
abbrev pub changes_data_by : Option DataChange → ℕ → ℕ → Bool
changes_data_by None block disk = false
changes_data_by (Some change) block disk = change.block == block && nat_lt disk change.version

-- A record makes a version of this data block that is later than the disk's.
abbrev pub changes_data : Redo → ℕ → ℕ → Bool
changes_data redo block disk = changes_data_by redo.row block disk

-- A change, if it is there, makes a version of this undo block that is later than the disk's.
abbrev pub changes_segment_by : Option UndoChange → ℕ → ℕ → Bool
changes_segment_by None block disk = false
changes_segment_by (Some change) block disk = change.block == block && nat_lt disk change.version

-- A record makes a version of this header or undo block that is later than the disk's.
abbrev pub changes_segment : Redo → ℕ → ℕ → Bool
changes_segment redo block disk = (redo.head.block == block && nat_lt disk redo.head.version) || changes_segment_by redo.undo block disk

-- One of these records makes a version of this data block that is later than the disk's.
abbrev pub some_changes_data : List Tagged → ℕ → ℕ → Bool
some_changes_data lost block disk = list_any (λ it. changes_data it.redo block disk) lost

-- A data block is to be rebuilt where nobody has a current image, and a past image or a later record is there.
abbrev pub is_data_to_recover : Reports → List Tagged → ℕ → ℕ → Bool
is_data_to_recover reports lost block disk =
    not (is_held reports block) && (has_past reports block || some_changes_data lost block disk)

-- A header or undo block is to be rebuilt where a later record is there.
abbrev pub is_segment_to_recover : List Tagged → ℕ → ℕ → Bool
is_segment_to_recover lost block disk = list_any (λ it. changes_segment it.redo block disk) lost

-- A block is to be rebuilt, by the records of the lost instances and its version on the disk.
abbrev pub is_to_recover : Layout → Reports → List Tagged → ℕ → ℕ → Bool
is_to_recover layout reports lost block disk =
    if nat_lt block layout.blocks then is_data_to_recover reports lost block disk else is_segment_to_recover lost block disk

-- the version of a block on the disk, 0 where it isn't told
abbrev pub version_at : List ℕ → ℕ → ℕ
version_at disk block = slice_index_or disk block 0

-- the numbers below this one, ascending
abbrev pub below : ℕ → List ℕ
below zero = []
below (suc n) = below n ++ n ∷ []

-- the blocks of the disk that are to be rebuilt, ascending
abbrev pub blocks_to_recover : Layout → Reports → List Tagged → List ℕ → List ℕ
blocks_to_recover layout reports lost disk =
    filter (λ block. is_to_recover layout reports lost block (version_at disk block)) (below (total_of layout))
