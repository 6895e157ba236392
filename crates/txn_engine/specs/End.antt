-- The end of a transaction.
use Rattle.std.specs.Prelude.{ℕ, ◌+◌, ◌==◌, ◌&&◌, Bool, true, if◌then◌else◌, Option, None, Some}
use Rattle.base_types.specs.declared.names.Scn.{Scn}
use Rattle.base_types.specs.declared.names.Xid.{Xid}
use Rattle.redo_types.specs.declared.redo.Redo.{Redo}
use Rattle.redo_types.specs.declared.redo.RedoKind.{RedoKind}
use Rattle.redo_types.specs.declared.redo.RedoKind.TheVariants as kind
use Rattle.redo_types.specs.declared.undo.TxnSlot.{TxnSlot}
use Rattle.redo_types.specs.declared.undo.TxnState.{TxnState}
use Rattle.redo_types.specs.declared.undo.TxnState.TheVariants as state
use Rattle.undo_image.specs.Header.{HeaderContent, slot_at}
use Rattle.undo_segment.specs.Segment.{SegmentState}
use Rattle.scn_clock.specs.declared.clock.Clock.{Clock}
use Rattle.txn_engine.specs.declared.end.EndKind.{EndKind}
use Rattle.txn_engine.specs.declared.end.EndKind.TheVariants.{Commit, RollbackEnd}
use Rattle.txn_engine.specs.Limits.{is_under_way, may_rise}
use Rattle.txn_engine.specs.Parts.{head_change}

-- what becomes of a transaction by its end
abbrev pub state_after : EndKind → TxnState
state_after Commit = state.Committed
state_after RollbackEnd = state.RolledBack

-- the kind of record of an end
abbrev pub kind_of_end : EndKind → RedoKind
kind_of_end Commit = kind.Commit
kind_of_end RollbackEnd = kind.RollbackEnd

-- the slot of a transaction that ended at this SCN
unfoldable pub ended_slot : TxnSlot → EndKind → Scn → TxnSlot
ended_slot slot end scn =
    record { wrap = slot.wrap; state = state_after end; first = 0; last = 0; scn = scn; prev = slot.prev }

-- the record of an end at this SCN
unfoldable pub end_record : Xid → EndKind → HeaderContent → Scn → Redo
end_record x end head scn =
    record {
      kind = kind_of_end end;
      xid = x;
      scn = scn;
      seq = 0;
      head = head_change head x.slot head.front.next (ended_slot (slot_at head x.slot) end scn);
      undo = None;
      row = None;
    }

-- A whole rollback ends where nothing of the transaction stands.
abbrev pub allows_end : EndKind → TxnSlot → Bool
allows_end Commit slot = true
allows_end RollbackEnd slot = slot.last == 0

-- A transaction may end: it is under way, its end is allowed, and no number is at its limit.
abbrev pub may_end : Xid → EndKind → HeaderContent → Clock → Bool
may_end x end head clock =
    is_under_way head x && allows_end end (slot_at head x.slot) && may_rise clock.scn && may_rise head.front.version

-- the record of the end of a transaction, where it may end
abbrev pub end_decision : Xid → EndKind → SegmentState → Clock → Option Redo
end_decision x end segment clock =
    if may_end x end segment.head clock then Some (end_record x end segment.head (clock.scn + 1)) else None
