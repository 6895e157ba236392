-- The turns of a transaction's slot, as redo records take them.
use Rattle.std.specs.Prelude.{◌≡◌, List}
use Rattle.redo_types.specs.declared.redo.Redo.{Redo}
use Rattle.redo_types.specs.declared.undo.TxnSlot.{TxnSlot}
use Rattle.board_slots.specs.Header.{IsSlotOf, table_slot, Turn, Turns}

-- A slot of the transaction table is what these turns left, each of which might come.
pub record IsTurned (slot : TxnSlot) (turns : List Turn) : Type 0 where
  pub in_turn : Turns turns
  pub is : IsSlotOf slot (table_slot turns)

-- A redo record leaves its transaction's slot as these turns do, the last of which is the transaction's.
pub record LeavesTurned (redo : Redo) (turns : List Turn) : Type 0 where
  pub slot_no : redo.head.slot ≡ redo.xid.slot
  pub after : IsTurned redo.head.to turns
  pub wrap : redo.xid.wrap ≡ (table_slot turns).wrap
