-- What the slot of a transaction tells of it.
use Rattle.std.specs.Prelude.{ℕ, ◌+◌, ◌==◌, nat_lt, Bool, true, false, if◌then◌else◌, Option, None, Some}
use Rattle.base_types.specs.declared.names.Xid.{Xid}
use Rattle.redo_types.specs.declared.undo.TxnSlot.{TxnSlot}
use Rattle.redo_types.specs.declared.undo.TxnState.{TxnState}
use Rattle.redo_types.specs.declared.undo.TxnState.TheVariants as state
use Rattle.undo_image.specs.Header.{HeaderContent, slot_at}
use Rattle.undo_segment.specs.declared.look.Look.{Look}
use Rattle.undo_segment.specs.declared.look.Look.TheVariants.{Active, Ended, ReusedBelow, Unlooked}

-- The transaction that has the slot is under way.
abbrev pub is_active : TxnState → Bool
is_active state.Active = true
is_active _ = false

-- What a slot of the transaction table tells of a transaction. A wrap above the slot's, which no run leaves, counts as
-- active.
abbrev pub told_of : TxnSlot → Xid → Look
told_of slot x =
    if nat_lt slot.wrap x.wrap then Active
    else if slot.wrap == x.wrap then (if is_active slot.state then Active else Ended slot.scn)
    else if slot.wrap == x.wrap + 1 then Ended slot.prev
    else ReusedBelow slot.prev slot.wrap

-- What a header tells of a transaction of its segment, where it is at hand.
abbrev pub look_in : Option HeaderContent → Xid → Look
look_in None x = Unlooked
look_in (Some h) x = told_of (slot_at h x.slot) x
