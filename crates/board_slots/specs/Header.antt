-- A slot of a transaction table, by the transactions that took it.
use Rattle.std.specs.Prelude.{ℕ, ◌+◌, ◌≤◌, ◌≡◌, ◌==◌, if◌then◌else◌, Bool, true, false, List, [], ◌∷◌, Option, Some, None}
use Rattle.redo_types.specs.declared.undo.TxnSlot.{TxnSlot}
use Rattle.undo_segment.specs.Look.{is_active}

-- A transaction begins in a slot, or ends there.
pub data Turn : Type 0 where
  Begins : Turn
  Ends : (scn : ℕ) → Turn

-- what a slot has of its transactions
pub record TableSlot : Type 0 where
  pub wrap : ℕ
  pub active : Bool
  pub scn : ℕ  -- of the last end
  pub prev : ℕ  -- of the end before the last begin

-- the slot after a turn
abbrev pub slot_after : Turn → TableSlot → TableSlot
slot_after Begins table = record { wrap = table.wrap + 1; active = true; scn = 0; prev = table.scn }
slot_after (Ends scn) table = record { wrap = table.wrap; active = false; scn = scn; prev = table.prev }

-- the slot after these turns, the newest first
abbrev pub table_slot : List Turn → TableSlot
table_slot [] = record { wrap = 0; active = false; scn = 0; prev = 0 }
table_slot (turn ∷ older) = slot_after turn (table_slot older)

-- the end of the transaction with a wrap after a turn of the slot, which has another or the same wrap now
abbrev pub end_after : ℕ → ℕ → Turn → Option ℕ → Option ℕ
end_after wrap now Begins before = before
end_after wrap now (Ends scn) before = if now == wrap then Some scn else before

-- the end of the transaction with this wrap by these turns
abbrev pub end_in : ℕ → List Turn → Option ℕ
end_in wrap [] = None
end_in wrap (turn ∷ older) = end_after wrap (table_slot older).wrap turn (end_in wrap older)

-- A slot is taken once it is free, and its transaction ends above the end before it.
abbrev pub MayTurn : Turn → TableSlot → Type 0
MayTurn Begins table = table.active ≡ false
MayTurn (Ends scn) table = (table.active ≡ true) × (table.prev ≤ scn)

-- Each turn may come after the older ones.
abbrev pub Turns : List Turn → Type 0
Turns [] = Unit {0}
Turns (turn ∷ older) = MayTurn turn (table_slot older) × Turns older

-- A slot of the transaction table of a header is what these turns left.
pub record IsSlotOf (slot : TxnSlot) (table : TableSlot) : Type 0 where
  pub wrap : slot.wrap ≡ table.wrap
  pub active : is_active slot.state ≡ table.active
  pub scn : slot.scn ≡ table.scn
  pub prev : slot.prev ≡ table.prev
