-- Whether the parts of a redo record are such as stand in blocks.
use Rattle.std.specs.Prelude.{ℕ, ◌==◌, ◌&&◌, ◌||◌, nat_le, nat_lt, Bool, if◌then◌else◌}
use Rattle.redo_types.specs.declared.blocks.ItlSlot.{ItlSlot}
use Rattle.redo_types.specs.declared.undo.TxnSlot.{TxnSlot}
use Rattle.redo_types.specs.declared.undo.TxnState.{TxnState}
use Rattle.redo_types.specs.declared.undo.TxnState.TheVariants.{Active, Committed, Never, RolledBack}
use Rattle.redo_types.specs.declared.undo.UndoRecord.{UndoRecord}

-- An ITL slot is all zero, or is that of a transaction of one of the eight segments.
abbrev pub is_itl : ItlSlot → Bool
is_itl slot =
    if slot.xid.wrap == 0 then slot.xid.seg == 0 && (slot.xid.slot == 0 && slot.seq == 0)
    else nat_lt slot.xid.seg 8 && (nat_lt slot.xid.slot 8 && nat_le 1 slot.seq)

-- A slot of the transaction table has what its state asks for.
abbrev pub has_state : TxnState → TxnSlot → Bool
has_state Never slot = slot.wrap == 0 && (slot.first == 0 && (slot.last == 0 && slot.scn == 0))
has_state Active slot = nat_le 1 slot.wrap && (nat_le 1 slot.first && ((slot.last == 0 || nat_le slot.first slot.last) && slot.scn == 0))
has_state Committed slot = nat_le 1 slot.wrap && (slot.first == 0 && (slot.last == 0 && nat_le 1 slot.scn))
has_state RolledBack slot = nat_le 1 slot.wrap && (slot.first == 0 && (slot.last == 0 && nat_le 1 slot.scn))

-- A slot that was taken twice or more names the end of the transaction before, and no other slot names one.
abbrev pub names_end_before : TxnSlot → Bool
names_end_before slot = if nat_le slot.wrap 1 then slot.prev == 0 else nat_le 1 slot.prev

-- A slot of the transaction table is as its state says, and names the end before its transaction.
abbrev pub is_txn_slot : TxnSlot → Bool
is_txn_slot slot = has_state slot.state slot && names_end_before slot

-- The numbers of an undo record are in their ranges.
abbrev pub has_ranges : UndoRecord → Bool
has_ranges undo =
    nat_le 1 undo.seq
    && (nat_lt undo.slot 8
    && (nat_le 1 undo.itl
    && (nat_le undo.itl 4
    && (nat_lt undo.row 8
    && (nat_le 1 undo.wrap
    && nat_le 1 undo.version)))))

-- An undo record is in its ranges, and the ITL slot in it is one.
abbrev pub is_undo_record : UndoRecord → Bool
is_undo_record undo = has_ranges undo && is_itl undo.old_itl
