-- What the slot of a transaction in the header of its segment tells of it.
use Rattle.std.specs.Prelude.{◌≡◌, ◌≢◌, ◌+◌, ◌≤◌, ◌⊎◌}
use Rattle.base_types.specs.declared.names.Xid.{Xid}
use Rattle.redo_types.specs.declared.undo.TxnSlot.{TxnSlot}
use Rattle.redo_types.specs.declared.undo.TxnState.TheVariants as state
use Rattle.undo_image.specs.declared.status.Status.{Status}
use Rattle.undo_image.specs.declared.status.Status.TheVariants.{Active, Ended, ReusedBelow}

-- The transaction is active; or it ended at this SCN, as the slot tells while it or the very next transaction has the
-- slot; or the slot was taken twice or more since, and it ended below this SCN.
abbrev pub IsStatus : TxnSlot → Xid → Status → Type 0
IsStatus slot x Active = (slot.wrap ≡ x.wrap) × (slot.state ≡ state.Active)
IsStatus slot x (Ended e) =
    ((slot.wrap ≡ x.wrap) × (slot.state ≢ state.Active) × (e ≡ slot.scn))
    ⊎ ((slot.wrap ≡ x.wrap + 1) × (e ≡ slot.prev))
IsStatus slot x (ReusedBelow e) = (x.wrap + 2 ≤ slot.wrap) × (e ≡ slot.prev)
