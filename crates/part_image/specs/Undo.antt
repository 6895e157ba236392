-- Slots of the transaction table and undo records, as bytes.
use Rattle.std.specs.Prelude.{◌≡◌, ℕ, ◌<◌, ◌≤◌, ◌⊎◌, ◌↔◌, List, [], ◌∷◌, ◌++◌, drop, replicate, take, Option, None, Some}
use Rattle.redo_types.specs.declared.undo.TxnSlot.{TxnSlot}
use Rattle.redo_types.specs.declared.undo.TxnState.{TxnState}
use Rattle.redo_types.specs.declared.undo.TxnState.TheVariants.{Never, Active, Committed, RolledBack}
use Rattle.redo_types.specs.declared.undo.UndoRecord.{UndoRecord}
use Rattle.part_image.specs.Cells.{Cell, Byte, Number, Zeros, spelled, AllFit}
use Rattle.part_image.specs.Slots.{IsItl, IsValue, bit, bits_of, flag_of, itl_cells}

-- the number of a state
abbrev pub state_number : TxnState → ℕ
state_number Never = 0
state_number Active = 1
state_number Committed = 2
state_number RolledBack = 3

-- A slot of the transaction table has 40 bytes.
abbrev pub txn_slot_cells : TxnSlot → List Cell
txn_slot_cells s = Number 4 s.wrap ∷ Byte (state_number s.state) ∷ Zeros 3 ∷ Number 8 s.first ∷ Number 8 s.last ∷ Number 8 s.scn ∷ Number 8 s.prev ∷ []

-- the bytes of a slot of the transaction table
abbrev pub txn_slot_bytes : TxnSlot → List ℕ
txn_slot_bytes s = spelled (txn_slot_cells s)

-- What a slot has in each state. A slot never used has nothing. An active transaction has a first undo record, and a
-- last one that isn't before it, or none. One that has ended has the SCN of its end.
abbrev pub HasState : TxnState → TxnSlot → Type 0
HasState Never s = (s.wrap ≡ 0) × (s.first ≡ 0) × (s.last ≡ 0) × (s.scn ≡ 0)
HasState Active s = (1 ≤ s.wrap) × (1 ≤ s.first) × ((s.last ≡ 0) ⊎ (s.first ≤ s.last)) × (s.scn ≡ 0)
HasState Committed s = (1 ≤ s.wrap) × (s.first ≡ 0) × (s.last ≡ 0) × (1 ≤ s.scn)
HasState RolledBack s = (1 ≤ s.wrap) × (s.first ≡ 0) × (s.last ≡ 0) × (1 ≤ s.scn)

-- A slot names no end before its transaction exactly where there was none: it was taken once or never.
abbrev pub NamesEndBefore : TxnSlot → Type 0
NamesEndBefore s = (s.wrap ≤ 1) ↔ (s.prev ≡ 0)

-- A slot of the transaction table is as its state says, and names the end before its transaction.
pub record IsTxnSlot (s : TxnSlot) : Type 0 where
  pub fits : AllFit (txn_slot_cells s)
  pub state : HasState s.state s
  pub prev : NamesEndBefore s

-- A byte is read as the state that has this number, or as none where no state has.
abbrev pub IsReadState : ℕ → Option TxnState → Type 0
IsReadState number (Some state) = number ≡ state_number state
IsReadState number None = (state : TxnState) → number ≡ state_number state → ⊥

-- An undo record has 96 bytes.
abbrev pub undo_record_cells : UndoRecord → List Cell
undo_record_cells u =
    Number 8 u.seq ∷ Byte u.slot ∷ Byte u.itl ∷ Byte u.row ∷ Byte (bit u.mine) ∷ Number 4 u.wrap ∷ Number 2 u.block ∷ Zeros 6
    ∷ Number 8 u.version ∷ Number 8 u.prev
    ∷ itl_cells u.old_itl ++ Byte (flag_of u.old) ∷ Zeros 7 ∷ Number 8 (bits_of u.old) ∷ Zeros 24 ∷ []

-- the bytes of an undo record
abbrev pub undo_record_bytes : UndoRecord → List ℕ
undo_record_bytes u = spelled (undo_record_cells u)

-- the ranges of the numbers of an undo record
pub record HasRanges (u : UndoRecord) : Type 0 where
  pub seq : 1 ≤ u.seq
  pub slot : u.slot < 8
  pub some_itl : 1 ≤ u.itl
  pub itl : u.itl ≤ 4
  pub row : u.row < 8
  pub wrap : 1 ≤ u.wrap
  pub version : 1 ≤ u.version

-- the bytes of an undo record that no number has are zero
abbrev pub HasClearSpaces : List ℕ → Type 0
HasClearSpaces bytes = (take 6 (drop 18 bytes) ≡ replicate 6 0) × (take 7 (drop 57 bytes) ≡ replicate 7 0) × (take 24 (drop 72 bytes) ≡ replicate 24 0)

-- An undo record that was written.
pub record IsUndoRecord (u : UndoRecord) : Type 0 where
  pub fits : AllFit (undo_record_cells u)
  pub ranges : HasRanges u
  pub old_itl : IsItl u.old_itl
  pub old : IsValue u.old

-- the place of an undo record has its cells, or 96 zeros where none was written
abbrev pub undo_place_cells : Option UndoRecord → List Cell
undo_place_cells (Some u) = undo_record_cells u
undo_place_cells None = Zeros 96 ∷ []

-- a place has an undo record or none
abbrev pub IsUndoPlace : Option UndoRecord → Type 0
IsUndoPlace (Some u) = IsUndoRecord u
IsUndoPlace None = Unit {0}
