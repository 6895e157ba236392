-- What a block says of what stands in it.
use Rattle.std.specs.Prelude.{ℕ, ◌<◌, ◌≤◌, ◌≡◌, ◌⊎◌, ◌==◌, ◌&&◌, ◌+◌, if◌then◌else◌, true, false, List, [], ◌∷◌, Option, Some, None, IfSome, is_some}
use Rattle.std.specs.List.{AllByRecursion}
use Rattle.base_types.specs.declared.names.Xid.{Xid}
use Rattle.redo_types.specs.declared.blocks.ItlSlot.{ItlSlot}
use Rattle.redo_types.specs.declared.blocks.RowChange.{RowChange}
use Rattle.journal.specs.Past.{same_xid}
use Rattle.cr_copy.specs.Named.{IsNamed}
use Rattle.board_slots.specs.Block.{CommittedBelow, Deed, newest, on_row, by, slot_of, slot_by, value_by, Image, held_by}

-- A newer deed and an older one, which is under it. Where they share a row or a slot, they are of one transaction, or the
-- older one's had committed before. One transaction has one slot. Versions rise.
pub record IsUnder (committed : Xid → Option ℕ) (deed under : Deed) : Type 0 where
  pub row : (deed.row == under.row) ≡ true → same_xid deed.xid under.xid ≡ false → CommittedBelow committed under.xid deed.scn
  pub slot : (deed.itl == under.itl) ≡ true → same_xid deed.xid under.xid ≡ false → CommittedBelow committed under.xid deed.scn
  pub one : same_xid deed.xid under.xid ≡ true → deed.itl ≡ under.itl
  pub rises : under.version < deed.version

-- undo keeps what stood
pub record IsUndone (deed : Deed) (older : List Deed) : Type 0 where
  pub old : deed.old ≡ value_by deed.row older
  pub slot : deed.old_itl ≡ slot_by deed.itl older
  pub mine : deed.mine ≡ is_some (newest (λ under. on_row deed.row under && by deed.xid under) older)

-- A deed is of one of eight rows and of four ITL slots, and the slot that it leaves is used and can be looked up.
pub record IsPlaced (deed : Deed) : Type 0 where
  pub row : deed.row < 8
  pub first : 1 ≤ deed.itl
  pub last : deed.itl ≤ 4
  pub wrap : 1 ≤ deed.xid.wrap
  pub named : IsNamed (slot_of (Some deed))

-- A deed is placed, its block has a version, and its transaction commits above it, if it does.
pub record IsFair (committed : Xid → Option ℕ) (deed : Deed) : Type 0 where
  pub placed : IsPlaced deed
  pub version : 1 ≤ deed.version
  pub below : IfSome (committed deed.xid) (λ end. deed.scn < end)

-- A deed is as those that are older leave it.
pub record IsIn (committed : Xid → Option ℕ) (deed : Deed) (older : List Deed) : Type 0 where
  pub under : AllByRecursion (IsUnder committed deed) older
  pub undo : IsUndone deed older
  pub fair : IsFair committed deed

-- what stands in a block is in order
abbrev pub Orderly : (Xid → Option ℕ) → List Deed → Type 0
Orderly committed [] = Unit {0}
Orderly committed (deed ∷ deeds) = IsIn committed deed deeds × Orderly committed deeds

-- The lock byte of a row, where this is the newest change or lock that stands on it: it names the slot that its
-- transaction has, or it is 0, and that transaction has committed below the SCN.
abbrev pub IsLocked : (Xid → Option ℕ) → ℕ → (ℕ → ItlSlot) → ℕ → Option Deed → Type 0
IsLocked committed scn slot lock None = lock ≡ 0
IsLocked committed scn slot lock (Some deed) =
    ((lock ≡ 0) × CommittedBelow committed deed.xid scn)
    ⊎ ((lock ≡ deed.itl) × ((slot deed.itl).xid ≡ deed.xid))

-- a block says what stands in it
pub record Shows (committed : Xid → Option ℕ) (image : Image) (deeds : List Deed) : Type 0 where
  pub values : (row : ℕ) → image.value row ≡ value_by row deeds
  pub slots : (itl : ℕ) → image.slot itl ≡ slot_by itl deeds
  pub locks : (row : ℕ) → IsLocked committed image.scn image.slot (image.lock row) (newest (on_row row) deeds)
  pub low : AllByRecursion (λ deed. (deed.scn ≤ image.scn) × (deed.version ≤ image.version)) deeds

-- what a step back of this one does, on the block as it stands
abbrev pub back_of : Deed → Image → RowChange
back_of deed image =
    record {
      row = deed.row;
      lock = if deed.mine then image.lock deed.row else 0;
      itl = deed.itl;
      fresh = false;
      slot = deed.old_itl;
      value = deed.old;
    }

-- Who has the lock of a row is the transaction itself, or committed below an SCN, or nobody.
abbrev pub IsFree : (Xid → Option ℕ) → Image → ℕ → Xid → ℕ → Type 0
IsFree committed image row xid scn =
    (image.lock row ≡ 0)
    ⊎ (((image.slot (image.lock row)).xid ≡ xid) ⊎ CommittedBelow committed (image.slot (image.lock row)).xid scn)

-- The slot is the own one; or no slot is, and it was never used, or its transaction committed below an SCN.
abbrev pub IsChosen : (Xid → Option ℕ) → Image → ℕ → Xid → ℕ → Type 0
IsChosen committed image itl xid scn =
    ((image.slot itl).xid ≡ xid)
    ⊎ (((other : ℕ) → 1 ≤ other → other ≤ 4 → same_xid xid (image.slot other).xid ≡ false)
    × (((image.slot itl).xid.wrap ≡ 0) ⊎ CommittedBelow committed (image.slot itl).xid scn))

-- undo keeps what the block has
pub record KeepsUndo (image : Image) (deed : Deed) : Type 0 where
  pub old : deed.old ≡ image.value deed.row
  pub slot : deed.old_itl ≡ image.slot deed.itl
  pub mine : deed.mine ≡ held_by deed.xid image deed.row

-- A deed is one that the rules make on the block as it stands.
pub record IsMade (committed : Xid → Option ℕ) (image : Image) (deed : Deed) : Type 0 where
  pub goes_on : committed deed.xid ≡ None
  pub placed : IsPlaced deed
  pub scn : image.scn < deed.scn
  pub version : deed.version ≡ image.version + 1
  pub undo : KeepsUndo image deed
  pub value : deed.puts ≡ false → deed.value ≡ image.value deed.row
  pub free : IsFree committed image deed.row deed.xid deed.scn
  pub chosen : IsChosen committed image deed.itl deed.xid deed.scn
