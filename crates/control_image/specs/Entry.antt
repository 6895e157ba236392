-- The control entry of a redo thread, as bytes.
use Rattle.std.specs.Prelude.{◌≡◌, ℕ, List, [], ◌∷◌, Option, None, Some}
use Rattle.part_image.specs.Cells.{Cell, Byte, Number, Zeros, spelled, AllFit}
use Rattle.control_image.specs.declared.entry.ControlEntry.{ControlEntry}
use Rattle.control_image.specs.declared.entry.ThreadStatus.{ThreadStatus}
use Rattle.control_image.specs.declared.entry.ThreadStatus.TheVariants.{Running, Closed}

-- the number of a status
abbrev pub status_number : ThreadStatus → ℕ
status_number Running = 1
status_number Closed = 2

-- A number is read as the status that it stands for, or as none where it stands for none.
abbrev pub IsReadStatus : ℕ → Option ThreadStatus → Type 0
IsReadStatus number (Some status) = number ≡ status_number status
IsReadStatus number None = (status : ThreadStatus) → number ≡ status_number status → ⊥

-- An entry has 32 bytes: its kind, which is 4, its status, six zeros, its position, and the two SCNs.
abbrev pub entry_cells : ControlEntry → List Cell
entry_cells it =
    Byte 4 ∷ Byte (status_number it.status) ∷ Zeros 6 ∷ Number 8 it.position ∷ Number 8 it.highest_scn ∷ Number 8 it.highest_end_scn ∷ []

-- the bytes of an entry
abbrev pub entry_bytes : ControlEntry → List ℕ
entry_bytes it = spelled (entry_cells it)

-- each number of an entry has room
abbrev pub IsEntry : ControlEntry → Type 0
IsEntry it = AllFit (entry_cells it)
