-- Redo records as bytes.
use Rattle.std.specs.Prelude.{◌≡◌, ℕ, ◌<◌, ◌≤◌, List, [], ◌∷◌, ◌++◌, Option, None, Some, IfSome}
use Rattle.base_types.specs.declared.names.Xid.{Xid}
use Rattle.redo_types.specs.declared.redo.DataChange.{DataChange}
use Rattle.redo_types.specs.declared.redo.HeadChange.{HeadChange}
use Rattle.redo_types.specs.declared.redo.Redo.{Redo}
use Rattle.redo_types.specs.declared.redo.RedoKind.{RedoKind}
use Rattle.redo_types.specs.declared.redo.RedoKind.TheVariants.{Change, Commit, Lock, RollbackEnd, StepBack}
use Rattle.redo_types.specs.declared.redo.UndoChange.{UndoChange}
use Rattle.part_image.specs.Cells.{Cell, Byte, Number, AllFit, spelled}
use Rattle.part_image.specs.Slots.{IsItl, IsValue, bit, bits_of, flag_of, itl_cells, xid_cells}
use Rattle.part_image.specs.Undo.{IsTxnSlot, IsUndoRecord, txn_slot_cells, undo_record_cells}

-- the number of a kind of record
abbrev pub kind_number : RedoKind → ℕ
kind_number Change = 1
kind_number Lock = 2
kind_number StepBack = 3
kind_number Commit = 4
kind_number RollbackEnd = 5

-- how many changes a record of a kind has
abbrev pub change_count : RedoKind → ℕ
change_count Change = 3
change_count Lock = 3
change_count StepBack = 2
change_count Commit = 1
change_count RollbackEnd = 1

-- how many bytes a record of a kind has
abbrev pub length_of : RedoKind → ℕ
length_of Change = 236
length_of Lock = 236
length_of StepBack = 128
length_of Commit = 88
length_of RollbackEnd = 88

-- A change of a header has 60 bytes.
abbrev pub head_cells : HeadChange → List Cell
head_cells h = Byte 1 ∷ Number 2 h.block ∷ Number 8 h.version ∷ Byte h.slot ∷ Number 8 h.next ∷ txn_slot_cells h.to

-- A change of an undo block has 108 bytes.
abbrev pub undo_cells : UndoChange → List Cell
undo_cells u = Byte 2 ∷ Number 2 u.block ∷ Number 8 u.version ∷ Byte u.place ∷ undo_record_cells u.to

-- A change of a data block has 40 bytes.
abbrev pub data_cells : DataChange → List Cell
data_cells d =
    Byte 3 ∷ Number 2 d.block ∷ Number 8 d.version ∷ Byte d.to.row ∷ Byte d.to.lock ∷ Byte d.to.itl ∷ Byte (bit d.to.fresh)
    ∷ itl_cells d.to.slot ++ Byte (flag_of d.to.value) ∷ Number 8 (bits_of d.to.value) ∷ []

-- the cells of a change that not each kind has
abbrev pub cells_of : {V : Type 0} → (V → List Cell) → Option V → List Cell
cells_of cells (Some v) = cells v
cells_of cells None = []

-- A record has its length, its kind, the number of its changes, its transaction, its SCN, the sequence number of its
-- undo record, and then its changes.
abbrev pub redo_cells : Redo → List Cell
redo_cells r =
    Number 2 (length_of r.kind) ∷ Byte (kind_number r.kind) ∷ Byte (change_count r.kind)
    ∷ xid_cells r.xid ++ Number 8 r.scn ∷ Number 8 r.seq
    ∷ head_cells r.head ++ cells_of undo_cells r.undo ++ cells_of data_cells r.row

-- the spelling of a record
abbrev pub redo_bytes : Redo → List ℕ
redo_bytes r = spelled (redo_cells r)

-- a change that a kind has
abbrev pub IsThere : {V : Type 0} → Option V → Type 0
IsThere (Some v) = Unit {0}
IsThere None = ⊥

-- a change that a kind hasn't
abbrev pub IsMissing : {V : Type 0} → Option V → Type 0
IsMissing (Some v) = ⊥
IsMissing None = Unit {0}

-- A Change and a Lock change all three blocks, a StepBack no undo block, and an end the header alone.
abbrev pub HasChanges : RedoKind → Redo → Type 0
HasChanges Change r = IsThere r.undo × IsThere r.row
HasChanges Lock r = IsThere r.undo × IsThere r.row
HasChanges StepBack r = IsMissing r.undo × IsThere r.row
HasChanges Commit r = IsMissing r.undo × IsMissing r.row
HasChanges RollbackEnd r = IsMissing r.undo × IsMissing r.row

-- A change, a lock and a step back name an undo record, and an end names none.
abbrev pub NamesUndo : RedoKind → ℕ → Type 0
NamesUndo Change seq = 1 ≤ seq
NamesUndo Lock seq = 1 ≤ seq
NamesUndo StepBack seq = 1 ≤ seq
NamesUndo Commit seq = seq ≡ 0
NamesUndo RollbackEnd seq = seq ≡ 0

-- the name of a transaction that began
pub record IsXid (x : Xid) : Type 0 where
  pub segment : x.seg < 8
  pub slot : x.slot < 8
  pub wrap : 1 ≤ x.wrap

-- a change of a header
pub record IsHeadChange (h : HeadChange) : Type 0 where
  pub fits : AllFit (head_cells h)
  pub version : 1 ≤ h.version
  pub slot : h.slot < 8
  pub next : 1 ≤ h.next
  pub to : IsTxnSlot h.to

-- a change of an undo block
pub record IsUndoChange (u : UndoChange) : Type 0 where
  pub fits : AllFit (undo_cells u)
  pub version : 1 ≤ u.version
  pub place : u.place < 4
  pub to : IsUndoRecord u.to

-- a change of a data block
pub record IsDataChange (d : DataChange) : Type 0 where
  pub fits : AllFit (data_cells d)
  pub version : 1 ≤ d.version
  pub block : d.block < 64
  pub row : d.to.row < 8
  pub lock : d.to.lock ≤ 4
  pub some_itl : 1 ≤ d.to.itl
  pub itl : d.to.itl ≤ 4
  pub slot : IsItl d.to.slot
  pub value : IsValue d.to.value

-- A record has the changes of its kind, and each of its fields is within its range.
pub record IsRedo (r : Redo) : Type 0 where
  pub fits : AllFit (redo_cells r)
  pub changes : HasChanges r.kind r
  pub xid : IsXid r.xid
  pub scn : 1 ≤ r.scn
  pub seq : NamesUndo r.kind r.seq
  pub head : IsHeadChange r.head
  pub undo : IfSome r.undo IsUndoChange
  pub row : IfSome r.row IsDataChange
