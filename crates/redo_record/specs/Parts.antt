-- The parts of a redo record: what stands before its changes, and the changes that not each kind has.
use Rattle.std.specs.Prelude.{◌≡◌, ℕ, ◌<◌, ◌≤◌, List, [], ◌∷◌, ◌++◌, drop, replicate, slice_index, take, Option, None, Some, IfSome}
use Rattle.base_types.specs.Bytes.{number_at}
use Rattle.redo_types.specs.declared.redo.DataChange.{DataChange}
use Rattle.redo_types.specs.declared.redo.HeadChange.{HeadChange}
use Rattle.redo_types.specs.declared.redo.Redo.{Redo}
use Rattle.redo_types.specs.declared.redo.RedoKind.{RedoKind}
use Rattle.redo_types.specs.declared.redo.RedoKind.TheVariants.{Change, Commit, Lock, RollbackEnd, StepBack}
use Rattle.redo_types.specs.declared.redo.UndoChange.{UndoChange}
use Rattle.part_image.specs.Cells.{Cell, Byte, Number, AllFit}
use Rattle.part_image.specs.Slots.{xid_cells}
use Rattle.redo_record.specs.declared.start.Start.{Start}
use Rattle.redo_record.specs.Redo.{IsDataChange, IsMissing, IsThere, IsUndoChange, IsXid, NamesUndo, change_count, kind_number, length_of}

-- A byte is read as the kind that has this number, or as none where no kind has.
abbrev pub IsReadKind : ℕ → Option RedoKind → Type 0
IsReadKind number (Some kind) = number ≡ kind_number kind
IsReadKind number None = (kind : RedoKind) → number ≡ kind_number kind → ⊥

-- What stands before the changes of a record has 28 bytes.
abbrev pub start_cells : Start → List Cell
start_cells s =
    Number 2 (length_of s.kind) ∷ Byte (kind_number s.kind) ∷ Byte (change_count s.kind)
    ∷ xid_cells s.xid ++ Number 8 s.scn ∷ Number 8 s.seq ∷ []

-- the numbers of a record are in their ranges
pub record HasRanges (s : Start) : Type 0 where
  pub xid : IsXid s.xid
  pub scn : 1 ≤ s.scn
  pub seq : NamesUndo s.kind s.seq

-- the length and the count are those of the kind, and the bytes that no number has are zero
abbrev pub HasForm : RedoKind → List ℕ → Type 0
HasForm kind bytes =
    (number_at 2 bytes 0 ≡ length_of kind) × (slice_index bytes 3 ≡ change_count kind)
    × (take 2 (drop 6 bytes) ≡ replicate 2 0)

-- what stands before the changes of a record
pub record IsStart (s : Start) : Type 0 where
  pub fits : AllFit (start_cells s)
  pub ranges : HasRanges s

-- the start of a record
abbrev pub start_of : Redo → Start
start_of r = record { kind = r.kind; xid = r.xid; scn = r.scn; seq = r.seq }

-- A Change and a Lock have a change of an undo block, and no other kind has.
abbrev pub HasUndo : RedoKind → Option UndoChange → Type 0
HasUndo Change undo = IsThere undo
HasUndo Lock undo = IsThere undo
HasUndo StepBack undo = IsMissing undo
HasUndo Commit undo = IsMissing undo
HasUndo RollbackEnd undo = IsMissing undo

-- A Change, a Lock and a StepBack have a change of a data block, and an end has none.
abbrev pub HasRow : RedoKind → Option DataChange → Type 0
HasRow Change row = IsThere row
HasRow Lock row = IsThere row
HasRow StepBack row = IsThere row
HasRow Commit row = IsMissing row
HasRow RollbackEnd row = IsMissing row

-- what a record of a kind has as its change of an undo block
pub record IsUndoOf (kind : RedoKind) (undo : Option UndoChange) : Type 0 where
  pub has : HasUndo kind undo
  pub is : IfSome undo IsUndoChange

-- what a record of a kind has as its change of a data block
pub record IsRowOf (kind : RedoKind) (row : Option DataChange) : Type 0 where
  pub has : HasRow kind row
  pub is : IfSome row IsDataChange

-- the place of the change of a data block in a record of a kind
abbrev pub row_place : RedoKind → ℕ
row_place Change = 196
row_place Lock = 196
row_place StepBack = 88
row_place Commit = 88
row_place RollbackEnd = 88

-- the letter and the ranges of a change of a header
abbrev pub HasHeadRanges : List ℕ → HeadChange → Type 0
HasHeadRanges bytes h = (slice_index bytes 0 ≡ 1) × (1 ≤ h.version) × (h.slot < 8) × (1 ≤ h.next)

-- the letter and the ranges of a change of an undo block
abbrev pub HasUndoRanges : List ℕ → UndoChange → Type 0
HasUndoRanges bytes u = (slice_index bytes 0 ≡ 2) × (1 ≤ u.version) × (u.place < 4)

-- the letter and the ranges of a change of a data block
pub record HasDataRanges (bytes : List ℕ) (d : DataChange) : Type 0 where
  pub letter : slice_index bytes 0 ≡ 3
  pub version : 1 ≤ d.version
  pub block : d.block < 64
  pub row : d.to.row < 8
  pub lock : d.to.lock ≤ 4
  pub some_itl : 1 ≤ d.to.itl
  pub itl : d.to.itl ≤ 4
