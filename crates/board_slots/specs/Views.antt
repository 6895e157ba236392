-- What a reader sees of the deeds that stand, and the undo of a deed.
use Rattle.std.specs.Prelude.{ℕ, ◌≡◌, ◌==◌, ◌&&◌, true, false, Bool, List, [], ◌∷◌, Option, slice_index_or}
use Rattle.std.specs.List.{AllByRecursion}
use Rattle.base_types.specs.declared.names.Xid.{Xid}
use Rattle.base_types.specs.declared.value.Value.{Value}
use Rattle.base_types.specs.declared.value.Value.TheVariants.{Absent}
use Rattle.redo_types.specs.declared.undo.UndoRecord.{UndoRecord}
use Rattle.journal.specs.Past.{same_xid}
use Rattle.undo_segment.specs.declared.fetch.Fetch.{Fetch}
use Rattle.undo_segment.specs.declared.fetch.Fetch.TheVariants.{Has, Never}
use Rattle.txn_slots.specs.Own.{is_own}
use Rattle.board_slots.specs.Block.{CommittedUpTo, Deed, newest, puts_on, value_of}

-- the view: what a row holds by the changes of the transactions that a test admits
abbrev pub view : (Xid → Bool) → List Deed → ℕ → Value
view test deeds row = value_of (newest (λ deed. puts_on row deed && test deed.xid) deeds)

-- a row of a copy, by its number
abbrev pub value_at : List Value → ℕ → Value
value_at rows row = slice_index_or rows row Absent

-- the undo record of a deed in the block with this number
abbrev pub undo_of : ℕ → Deed → UndoRecord
undo_of number deed =
    record {
      seq = deed.seq;
      slot = deed.xid.slot;
      itl = deed.itl;
      row = deed.row;
      mine = deed.mine;
      wrap = deed.xid.wrap;
      block = number;
      version = deed.version;
      prev = deed.prev;
      old_itl = deed.old_itl;
      old = deed.old;
    }

-- What stands in the place of an undo record, where that is at hand, is this one or another one, and never nothing.
abbrev pub IsWritten : UndoRecord → Fetch → Type 0
IsWritten undo (Has found) = found ≡ undo
IsWritten undo Never = ⊥
IsWritten undo _ = Unit {0}

-- Where an older deed of another transaction is on a deed's row, that one has committed at the snapshot or before.
abbrev pub IsSeenUnder : (Xid → Option ℕ) → ℕ → Deed → Deed → Type 0
IsSeenUnder committed snapshot deed under =
    (deed.row == under.row) ≡ true → same_xid deed.xid under.xid ≡ false → CommittedUpTo committed under.xid snapshot

-- Whoever changed or locked a row before the reader did had committed up to the snapshot.
abbrev pub ReaderFollows : (Xid → Option ℕ) → ℕ → Option Xid → List Deed → Type 0
ReaderFollows committed snapshot me [] = Unit {0}
ReaderFollows committed snapshot me (deed ∷ deeds) =
    (is_own me deed.xid ≡ true → AllByRecursion (IsSeenUnder committed snapshot deed) deeds)
    × ReaderFollows committed snapshot me deeds
