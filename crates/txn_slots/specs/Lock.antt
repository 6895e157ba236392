-- Who holds a row.
use Rattle.std.specs.Prelude.{◌≡◌, ℕ, ◌==◌, true, false, if◌then◌else◌, Option, None, Some, IfSome}
use Rattle.base_types.specs.declared.names.Xid.{Xid}
use Rattle.block_image.specs.Block.{BlockContent, row_at, slot_at}
use Rattle.undo_segment.specs.declared.look.Look.{Look}
use Rattle.undo_segment.specs.declared.look.Look.TheVariants.{Active, Ended, ReusedBelow, Unlooked}
use Rattle.txn_slots.specs.declared.lock.LockAnswer.{LockAnswer}
use Rattle.txn_slots.specs.declared.lock.LockAnswer.TheVariants.{Free, Held, Mine, Need}
use Rattle.txn_slots.specs.declared.lock.Released.{Released}
use Rattle.txn_slots.specs.declared.lock.Released.TheVariants.{Below, Exactly}
use Rattle.txn_slots.specs.declared.wanted.Wanted.TheVariants.{Head}
use Rattle.txn_slots.specs.Own.{is_own}

-- The row is held by a transaction that is active. It is free where that one has ended.
abbrev pub lock_by : Xid → Look → LockAnswer
lock_by x Unlooked = Need (Head x.seg)
lock_by x Active = Held x
lock_by x (Ended e) = Free (Exactly x e)
lock_by x (ReusedBelow e found) = Free (Below e)

-- The row that a transaction locked is its own, or goes by what its header tells.
abbrev pub lock_of : Option Xid → (Xid → Look) → Xid → LockAnswer
lock_of me look x = if is_own me x then Mine else lock_by x (look x)

-- the transaction whose slot a lock byte names; none where the byte is 0
abbrev pub named_by : BlockContent → ℕ → Option Xid
named_by block lock = if lock == 0 then None else Some (slot_at block.itl lock).xid

-- the transaction whose slot the lock byte of a row names
abbrev pub locker : BlockContent → ℕ → Option Xid
locker block r = named_by block (row_at block.rows r).lock

-- Who holds a row by the transaction that its lock byte names. Where it names none, the row is free since the block's SCN
-- or before.
abbrev pub lock_named : Option Xid → (Xid → Look) → ℕ → Option Xid → LockAnswer
lock_named me look scn None = Free (Below scn)
lock_named me look scn (Some x) = lock_of me look x

-- who holds a row of a block
abbrev pub lock_row : Option Xid → (Xid → Look) → BlockContent → ℕ → LockAnswer
lock_row me look block r = lock_named me look block.front.scn (locker block r)

-- the SCN at or below which the row was last let go
abbrev pub released_at : Released → ℕ
released_at (Exactly x e) = e
released_at (Below e) = e

-- What an answer says of the transaction that the lock byte names.
abbrev pub TellsLocker : Option Xid → (Xid → Look) → Option Xid → LockAnswer → Type 0
TellsLocker me look named (Free (Exactly x e)) = (named ≡ Some x) × (is_own me x ≡ false) × (look x ≡ Ended e)
TellsLocker me look named Mine = IfSome named (λ x. is_own me x ≡ true)
TellsLocker me look named (Held x) = (named ≡ Some x) × (is_own me x ≡ false) × (look x ≡ Active)
TellsLocker me look named _ = Unit {0}
