-- What redo makes of an older image of a block.
use Rattle.std.specs.Prelude.{◌≡◌, ℕ, ◌+◌, ◌^◌, ◌==◌, ◌&&◌, ◌||◌, nat_le, nat_lt, Bool, true, if◌then◌else◌, List, [], ◌∷◌, Option, None, Some, option_and_then}
use Rattle.std.specs.List.{list_all}
use Rattle.redo_types.specs.declared.blocks.ItlSlot.{ItlSlot}
use Rattle.redo_types.specs.declared.blocks.RowChange.{RowChange}
use Rattle.redo_types.specs.declared.redo.DataChange.{DataChange}
use Rattle.redo_types.specs.declared.redo.HeadChange.{HeadChange}
use Rattle.redo_types.specs.declared.redo.Redo.{Redo}
use Rattle.redo_types.specs.declared.redo.UndoChange.{UndoChange}
use Rattle.redo_merge.specs.declared.tagged.Tagged.{Tagged}
use Rattle.block_image.specs.Block.{BlockContent, slot_at}
use Rattle.block_image.specs.Changes.{applied}
use Rattle.undo_image.specs.Header.{HeaderContent, with_slot}
use Rattle.undo_image.specs.UndoBlock.{UndoContent, with_record}
use Rattle.recovery.specs.Parts.{is_itl, is_txn_slot, is_undo_record}

-- A version that comes next after another; none is 2^62 or more.
abbrev pub is_next : ℕ → ℕ → Bool
is_next version next = next == version + 1 && nat_lt next (2 ^ 62)

-- A lock byte is 0 or names a used one of these ITL slots.
abbrev pub names_slot : List ItlSlot → ℕ → Bool
names_slot slots lock = lock == 0 || (nat_le lock 4 && nat_le 1 (slot_at slots lock).xid.wrap)

-- After a change of a row each lock byte of the block is 0 or names a used ITL slot of it.
abbrev pub locks_name_slots : BlockContent → RowChange → Bool
locks_name_slots b change = let after = applied b change 0 in list_all (λ row. names_slot after.itl row.lock) after.rows

-- The numbers of a change of a row are in their ranges, and the SCN of its record is one.
abbrev pub is_in_range : RowChange → ℕ → Bool
is_in_range change scn = nat_le 1 scn && (nat_lt change.row 8 && (nat_le 1 change.itl && nat_le change.itl 4))

-- A change of a row by a record with this SCN can be made: it leaves a block.
abbrev pub can_change : BlockContent → RowChange → ℕ → Bool
can_change b change scn = is_in_range change scn && (is_itl change.slot && locks_name_slots b change)

-- A data block after a change of it by a record with this SCN. It stays where it has that version already; None where the
-- version isn't the next or the change can't be made.
abbrev pub block_changed : DataChange → ℕ → BlockContent → Option BlockContent
block_changed change scn b =
    if nat_le change.version b.front.version then Some b
    else if is_next b.front.version change.version && can_change b change.to scn then Some (applied b change.to scn)
    else None

-- A data block after what a record changes of some data block, if it changes one.
abbrev pub block_after : Option DataChange → ℕ → BlockContent → Option BlockContent
block_after None scn b = Some b
block_after (Some change) scn b = if change.block == b.front.number then block_changed change scn b else Some b

-- A data block after a redo record.
abbrev pub block_rolled_by : Redo → BlockContent → Option BlockContent
block_rolled_by redo b = block_after redo.row redo.scn b

-- A change of a header by a record with this SCN can be made: it leaves a header.
abbrev pub can_change_head : HeadChange → ℕ → Bool
can_change_head change scn = nat_lt change.slot 8 && (nat_le 1 change.next && (nat_le 1 scn && is_txn_slot change.to))

-- A header after a change of it by a record with this SCN, as for a data block.
abbrev pub header_changed : HeadChange → ℕ → HeaderContent → Option HeaderContent
header_changed change scn h =
    if nat_le change.version h.front.version then Some h
    else if is_next h.front.version change.version && can_change_head change scn
    then Some (with_slot h change.slot change.to change.next scn)
    else None

-- A header after a redo record.
abbrev pub header_rolled_by : Redo → HeaderContent → Option HeaderContent
header_rolled_by redo h = if redo.head.block == h.front.number then header_changed redo.head redo.scn h else Some h

-- A change of an undo block by a record with this SCN can be made: it leaves an undo block.
abbrev pub can_change_undo : UndoChange → ℕ → Bool
can_change_undo change scn = nat_lt change.place 4 && (nat_le 1 scn && is_undo_record change.to)

-- An undo block after a change of it by a record with this SCN, as for a data block.
abbrev pub undo_changed : UndoChange → ℕ → UndoContent → Option UndoContent
undo_changed change scn u =
    if nat_le change.version u.front.version then Some u
    else if is_next u.front.version change.version && can_change_undo change scn
    then Some (with_record u change.place change.to scn)
    else None

-- An undo block after what a record changes of some undo block, if it changes one.
abbrev pub undo_after : Option UndoChange → ℕ → UndoContent → Option UndoContent
undo_after None scn u = Some u
undo_after (Some change) scn u = if change.block == u.front.number then undo_changed change scn u else Some u

-- An undo block after a redo record.
abbrev pub undo_rolled_by : Redo → UndoContent → Option UndoContent
undo_rolled_by redo u = undo_after redo.undo redo.scn u

-- A block after records, one after the other, by what one record makes of it; None where one of them makes nothing.
abbrev pub rolled : {B : Type 0} → (Redo → B → Option B) → List Tagged → B → Option B
rolled by [] b = Some b
rolled by (it ∷ its) b = option_and_then (rolled by its) (by it.redo b)

-- a data block after a change of some data block, if there is one and it is of this block
abbrev pub block_applied_if : Option DataChange → ℕ → BlockContent → BlockContent
block_applied_if None scn b = b
block_applied_if (Some change) scn b = if change.block == b.front.number then applied b change.to scn else b

-- a data block after what a record changes of it
abbrev pub block_applied : Redo → BlockContent → BlockContent
block_applied redo b = block_applied_if redo.row redo.scn b

-- A change of some data block, if there is one and it is of this block, is of the next version and can be made.
abbrev pub IsNextIfData : Option DataChange → ℕ → BlockContent → Type 0
IsNextIfData None scn b = Unit {0}
IsNextIfData (Some change) scn b =
    change.block ≡ b.front.number → (is_next b.front.version change.version ≡ true) × (can_change b change.to scn ≡ true)

-- What a record changes of a data block is of the next version and can be made.
abbrev pub IsNextData : Redo → BlockContent → Type 0
IsNextData redo b = IsNextIfData redo.row redo.scn b

-- a header after what a record changes of it
abbrev pub header_applied : Redo → HeaderContent → HeaderContent
header_applied redo h =
    if redo.head.block == h.front.number then with_slot h redo.head.slot redo.head.to redo.head.next redo.scn else h

-- What a record changes of a header is of the next version and can be made.
abbrev pub IsNextHead : Redo → HeaderContent → Type 0
IsNextHead redo h =
    redo.head.block ≡ h.front.number → (is_next h.front.version redo.head.version ≡ true) × (can_change_head redo.head redo.scn ≡ true)

-- an undo block after a change of some undo block, if there is one and it is of this block
abbrev pub undo_applied_if : Option UndoChange → ℕ → UndoContent → UndoContent
undo_applied_if None scn u = u
undo_applied_if (Some change) scn u = if change.block == u.front.number then with_record u change.place change.to scn else u

-- an undo block after what a record changes of it
abbrev pub undo_applied : Redo → UndoContent → UndoContent
undo_applied redo u = undo_applied_if redo.undo redo.scn u

-- A change of some undo block, if there is one and it is of this block, is of the next version and can be made.
abbrev pub IsNextIfUndo : Option UndoChange → ℕ → UndoContent → Type 0
IsNextIfUndo None scn u = Unit {0}
IsNextIfUndo (Some change) scn u =
    change.block ≡ u.front.number → (is_next u.front.version change.version ≡ true) × (can_change_undo change scn ≡ true)

-- What a record changes of an undo block is of the next version and can be made.
abbrev pub IsNextUndo : Redo → UndoContent → Type 0
IsNextUndo redo u = IsNextIfUndo redo.undo redo.scn u

-- a block after records, what each of them changes of it applied one after the other
abbrev pub all_applied : {B : Type 0} → (Redo → B → B) → List Tagged → B → B
all_applied by [] b = b
all_applied by (it ∷ its) b = all_applied by its (by it.redo b)

-- What records change of a block comes next, each from the version that those before it leave.
abbrev pub AreNext : {B : Type 0} → (Redo → B → Type 0) → (Redo → B → B) → List Tagged → B → Type 0
AreNext is by [] b = Unit {0}
AreNext is by (it ∷ its) b = is it.redo b × AreNext is by its (by it.redo b)
