-- What an answer says of the transaction that a lock byte names.
use Rattle.std.proofs.Common.{◌≡◌, ℕ, Bool, true, false, cond, refl, sym}
use Rattle.std.specs.Prelude.{Option, Some, None}
use Rattle.base_types.specs.declared.names.Xid.{Xid}
use Rattle.undo_segment.specs.declared.look.Look.{Look}
use Rattle.undo_segment.specs.declared.look.Look.TheVariants.{Active, Ended, ReusedBelow, Unlooked}
use Rattle.txn_slots.specs.declared.lock.LockAnswer.TheVariants.{Mine}
use Rattle.txn_slots.specs.Own.{is_own}
use Rattle.txn_slots.specs.Lock.{TellsLocker, lock_by, lock_named}

pub lock_tells : (me : Option Xid) (look : Xid → Look) (scn : ℕ) (named : Option Xid) → TellsLocker me look named (lock_named me look scn named)
lock_tells me look scn None = tt
lock_tells me look scn (Some x) = here (is_own me x) refl (look x) refl
  where
    here : (own : Bool) → is_own me x ≡ own → (told : Look) → look x ≡ told → TellsLocker me look (Some x) (cond own Mine (lock_by x told))
    here true own told is = own
    here false own Unlooked is = tt
    here false own Active is = (refl, own, is)
    here false own (Ended e) is = (refl, own, is)
    here false own (ReusedBelow e found) is = tt
