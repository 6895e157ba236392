-- A database is made anew on a disk.
use Rattle.std.specs.Prelude.{◌≡◌, ℕ, ◌-◌, ◌/◌, ◌%◌, ◌⊎◌, ◌==◌, if◌then◌else◌, nat_lt, ◌<◌, List, [], ◌∷◌, ◌++◌, map}
use Rattle.std.specs.List.{range_with_len}
use Rattle.base_types.specs.declared.layout.Layout.{Layout}
use Rattle.base_types.specs.Layout.{segment_blocks, total_of}
use Rattle.block_image.specs.Block.{block_bytes}
use Rattle.block_image.specs.Changes.{empty_block}
use Rattle.undo_image.specs.Header.{empty_header, header_bytes}
use Rattle.undo_image.specs.UndoBlock.{empty_undo_block, undo_bytes}
use Rattle.control_image.specs.declared.entry.ControlEntry.{ControlEntry}
use Rattle.control_image.specs.declared.entry.ThreadStatus.{ThreadStatus}
use Rattle.control_image.specs.declared.entry.ThreadStatus.TheVariants.{Closed, Running}
use Rattle.control_image.specs.Entry.{entry_bytes}
use Rattle.rac_disk.specs.Content.{Content, block_at, control_at, log_at}
use Rattle.rac_disk.specs.State.{Change, CutTo, HadFault, IsCalm, Makes, PutBlock, PutControl, State}
use Rattle.disk_calls.specs.Calls.{done, failed}
use Rattle.first_state.specs.declared.creation.Created.{Created}
use Rattle.first_state.specs.declared.creation.Created.TheVariants.{Failed, Whole}

-- a block of a segment at a place in it, the header first and then the undo blocks, of which none was ever used
abbrev pub segment_block : ℕ → ℕ → ℕ → List ℕ
segment_block number seg place =
    if place == 0 then header_bytes (empty_header number seg) else undo_bytes (empty_undo_block number seg)

-- a block of a new database: the data blocks come first, and then the segments
abbrev pub first_block : Layout → ℕ → List ℕ
first_block layout number =
    if nat_lt number layout.blocks then block_bytes (empty_block number)
    else segment_block number ((number - layout.blocks) / segment_blocks layout) ((number - layout.blocks) % segment_blocks layout)

-- The thread of an instance that is there is in use.
abbrev pub first_status : Layout → ℕ → ThreadStatus
first_status layout thread = if nat_lt thread layout.instances then Running else Closed

-- the control entry of a thread in which nothing was recorded
abbrev pub first_entry : Layout → ℕ → ControlEntry
first_entry layout thread =
    record { status = first_status layout thread; position = 0; highest_scn = 0; highest_end_scn = 0 }

-- the bytes of that entry
unfoldable pub entry_bytes_of : Layout → ℕ → List ℕ
entry_bytes_of layout thread = entry_bytes (first_entry layout thread)

-- a thread's log is emptied
abbrev pub empties : ℕ → Change
empties thread = CutTo thread 0

-- a block of a new database is written
abbrev pub puts_block : Layout → ℕ → Change
puts_block layout number = PutBlock number (first_block layout number)

-- a control entry of a new database is written
abbrev pub puts_entry : Layout → ℕ → Change
puts_entry layout thread = PutControl thread (entry_bytes_of layout thread)

-- what is changed for so many numbers
unfoldable pub for_each : (ℕ → Change) → ℕ → List Change
for_each change count = map change (range_with_len 0 count)

-- What a creation changes, in its order: the logs, the blocks, and the control entries.
abbrev pub creation : Layout → List Change
creation layout =
    for_each empties 8 ++ (for_each (puts_block layout) (total_of layout) ++ for_each (puts_entry layout) 8)

-- These changes were made by one call each, in this order, up to the first that failed.
abbrev pub MakesEach : List Change → Created → State → State → Type 0
MakesEach [] Whole old new = new ≡ old
MakesEach [] Failed old new = ⊥
MakesEach (change ∷ more) how old new =
    ((mid : State) × Makes change done old mid × MakesEach more how mid new)
    ⊎ ((how ≡ Failed) × Makes change failed old new)

-- A disk holds a new database: all logs are empty, and each block and each control entry is the first one.
pub record IsNew (layout : Layout) (it : Content) : Type 0 where
  pub logs : (thread : ℕ) → thread < 8 → log_at it thread ≡ []
  pub blocks : (number : ℕ) → number < total_of layout → block_at it number ≡ first_block layout number
  pub entries : (thread : ℕ) → thread < 8 → control_at it thread ≡ entry_bytes_of layout thread

-- Each log, block and control entry of a disk is as it was, or as a new database has it.
pub record IsPartlyNew (layout : Layout) (old new : Content) : Type 0 where
  pub logs : (thread : ℕ) → (log_at new thread ≡ log_at old thread) ⊎ (log_at new thread ≡ [])
  pub blocks : (number : ℕ) → (block_at new number ≡ block_at old number) ⊎ (block_at new number ≡ first_block layout number)
  pub entries : (thread : ℕ) → (control_at new thread ≡ control_at old thread) ⊎ (control_at new thread ≡ entry_bytes_of layout thread)

-- what a creation leaves on the disk that went so
abbrev pub LeavesNew : Layout → Created → Content → Content → Type 0
LeavesNew layout Whole old new = IsNew layout new
LeavesNew layout Failed old new = IsPartlyNew layout old new

-- what a creation counts that went so: a fault where a call failed
abbrev pub CountsFaults : Created → State → State → Type 0
CountsFaults Whole old new = IsCalm old new
CountsFaults Failed old new = HadFault old new
