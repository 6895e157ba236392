-- Which ITL slots can be looked up, and what can be taken back.
use Rattle.std.specs.Prelude.{ℕ, ◌<◌, ◌≤◌, List}
use Rattle.std.specs.List.{AllByRecursion}
use Rattle.redo_types.specs.declared.blocks.ItlSlot.{ItlSlot}
use Rattle.cr_copy.specs.declared.copy.Pick.{Pick}

-- A slot can be looked up: its segment and its place in a transaction table are among the eight, and a used one has a
-- sequence number.
pub record IsNamed (slot : ItlSlot) : Type 0 where
  pub segment : slot.xid.seg < 8
  pub slot_no : slot.xid.slot < 8
  pub seq : 1 ≤ slot.xid.wrap → 1 ≤ slot.seq

-- Each of these slots can be looked up.
abbrev pub AreNamed : List ItlSlot → Type 0
AreNamed slots = AllByRecursion IsNamed slots

-- What is picked is one of four slots and of eight rows, and gives a slot back that can be looked up.
pub record CanGoBack (p : Pick) : Type 0 where
  pub some_itl : 1 ≤ p.itl
  pub last_itl : p.itl ≤ 4
  pub row : p.undo.row < 8
  pub named : IsNamed p.undo.old_itl
