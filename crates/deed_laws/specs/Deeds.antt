-- The redo record of a deed, and that of a step back.
use Rattle.std.specs.Prelude.{ℕ, ◌≡◌, if◌then◌else◌, IsSomeAnd}
use Rattle.redo_types.specs.declared.blocks.RowChange.{RowChange}
use Rattle.redo_types.specs.declared.redo.DataChange.{DataChange}
use Rattle.redo_types.specs.declared.redo.Redo.{Redo}
use Rattle.redo_types.specs.declared.redo.RedoKind.TheVariants.{Change, Lock, StepBack}
use Rattle.redo_types.specs.declared.redo.UndoChange.{UndoChange}
use Rattle.board_slots.specs.Block.{change_of, Deed}
use Rattle.board_slots.specs.Views.{undo_of}

-- A redo record is that of a deed in the block with this number: it writes the deed's undo record, and does to the block
-- what the deed does.
pub record IsRedoOf (number : ℕ) (deed : Deed) (redo : Redo) : Type 0 where
  pub kind : redo.kind ≡ (if deed.puts then Change else Lock)
  pub xid : redo.xid ≡ deed.xid
  pub scn : redo.scn ≡ deed.scn
  pub seq : redo.seq ≡ deed.seq
  pub undo : IsSomeAnd redo.undo (λ (change : UndoChange). change.to ≡ undo_of number deed)
  pub row : IsSomeAnd redo.row (λ (change : DataChange). (change.block ≡ number) × (change.to ≡ change_of deed))

-- A redo record is a step back, and P holds of what it does to the block.
pub record TakesBackBy (P : RowChange → Type 0) (redo : Redo) : Type 0 where
  pub kind : redo.kind ≡ StepBack
  pub row : IsSomeAnd redo.row (λ (change : DataChange). P change.to)
