-- What a table ends as, where a reference to one of its items is handed out.
use Rattle.std.specs.Prelude.{ℕ, List, ◌++◌, drop, length, Option, slice_set, take}
use Rattle.std.specs.Borrow.{Array, Lends, LendsIf, Fml, RattleType, MutBor}
use Rattle.inst_state.specs.contracts.table.Table.{the_row}

-- the items of a table with these in their places, of which there are as many
abbrev pub with_items : {A : Type 0} → List A → List A → List A
with_items old now = take (length old) (now ++ drop (length now) old)

-- once a reference to all items is given back, the table has their last values
abbrev pub lends_all : (T : RattleType) → MutBor (List T.Denot) → MutBor (List T.Denot) → Fml
lends_all T table items = Lends (the_row T) (Array T 0) table items (with_items table.now)

module _ (T : RattleType) (table : MutBor (List T.Denot)) (at : ℕ) where
  -- once the reference is given back, the table has its last value at the place; without one it stays as it is
  abbrev pub lends_item : Option (MutBor T.Denot) → Fml
  lends_item item = LendsIf (the_row T) T table item (slice_set table.now at) table.now
