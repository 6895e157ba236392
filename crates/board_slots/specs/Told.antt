-- What headers and undo blocks of the image's moment or a later one tell a reader.
use Rattle.std.specs.Prelude.{ℕ, ◌<◌, ◌≤◌, ◌≡◌, nat_le, if◌then◌else◌, Bool, false, List, [], ◌∷◌, Option, Some, None, IsSomeAnd, IfSome}
use Rattle.std.specs.List.{Any}
use Rattle.base_types.specs.declared.names.Xid.{Xid}
use Rattle.journal.specs.Past.{same_xid}
use Rattle.board_slots.specs.Block.{Deed, Record, Commits, RollsBack}
use Rattle.journal.specs.declared.cause.Cause.{Cause}
use Rattle.journal.specs.declared.cause.Cause.TheVariants.{OldSlot, OldUndo}
use Rattle.undo_segment.specs.declared.fetch.Fetch.{Fetch}
use Rattle.undo_segment.specs.declared.fetch.Fetch.TheVariants.{Reused, Unfetched}
use Rattle.undo_segment.specs.declared.look.Look.{Look}
use Rattle.undo_segment.specs.declared.look.Look.TheVariants.{Active, Ended, ReusedBelow, Unlooked}
use Rattle.txn_slots.specs.declared.wanted.Wanted.{Wanted}
use Rattle.txn_slots.specs.declared.wanted.Wanted.TheVariants.{Head, Undo}
use Rattle.cr_copy.specs.declared.made.Made.{Made}
use Rattle.cr_copy.specs.declared.made.Made.TheVariants.{Need, Rows, TooOld}
use Rattle.board_slots.specs.Views.{IsWritten, undo_of}

-- an end, if there is one, is at the snapshot or before
abbrev pub is_up_to : ℕ → Option ℕ → Bool
is_up_to snapshot None = false
is_up_to snapshot (Some end) = nat_le end snapshot

-- whether a transaction ended at the snapshot or before
abbrev pub ended_by : ℕ → (Xid → Option ℕ) → Xid → Bool
ended_by snapshot ended xid = is_up_to snapshot (ended xid)

-- a header tells the end of a transaction, exactly or by a bound
abbrev pub IsLook : Option ℕ → Look → Type 0
IsLook end Unlooked = Unit {0}
IsLook end Active = end ≡ None
IsLook end (Ended told) = end ≡ Some told
IsLook end (ReusedBelow bound found) = IsSomeAnd end (λ scn. scn ≤ bound)

-- What is told of a change that stands in the image: the end of its transaction at the moment of its header. Who had
-- committed at the image's moment has that end; each end is above what its transaction did.
pub record IsTold (number : ℕ) (committed ended : Xid → Option ℕ) (look : Xid → Look) (fetch : Xid → ℕ → Fetch)
    (deed : Deed) : Type 0 where
  pub stays : (scn : ℕ) → committed deed.xid ≡ Some scn → ended deed.xid ≡ Some scn
  pub above : IfSome (ended deed.xid) (λ end. deed.scn < end)
  pub looks : IsLook (ended deed.xid) (look deed.xid)
  pub fetched : IsWritten (undo_of number deed) (fetch deed.xid deed.seq)

-- the SCN of a transaction's end, by the records up to a moment
abbrev pub end_after : Xid → Record → Option ℕ → Option ℕ
end_after xid (Commits scn other) before = if same_xid xid other then Some scn else before
end_after xid (RollsBack inst scn other) before = if same_xid xid other then Some scn else before
end_after xid _ before = before

-- the SCN of a transaction's end by these records
abbrev pub ended : List Record → Xid → Option ℕ
ended [] xid = None
ended (latest ∷ older) xid = end_after xid latest (ended older xid)

-- The slot of a transaction was used again at least twice, and it ended at or below an SCN that is above the snapshot.
abbrev pub IsReusedAbove : ℕ → ℕ → Look → Type 0
IsReusedAbove snapshot found (ReusedBelow bound now) = (snapshot < bound) × (now ≡ found)
IsReusedAbove snapshot found _ = ⊥

-- What is wanted is the header or the undo record of a deed, and it isn't at hand.
abbrev pub IsWanted : (Xid → Look) → (Xid → ℕ → Fetch) → Deed → Wanted → Type 0
IsWanted look fetch deed (Head seg) = (deed.xid.seg ≡ seg) × (look deed.xid ≡ Unlooked)
IsWanted look fetch deed (Undo at) =
    (at ≡ record { seg = deed.xid.seg; seq = deed.seq }) × (fetch deed.xid deed.seq ≡ Unfetched)

-- What is gone is the end of a deed's transaction, or its undo record.
abbrev pub IsGone : ℕ → (Xid → Look) → (Xid → ℕ → Fetch) → Deed → Cause → Type 0
IsGone snapshot look fetch deed (OldSlot xid found) = (deed.xid ≡ xid) × IsReusedAbove snapshot found (look deed.xid)
IsGone snapshot look fetch deed (OldUndo xid wanted found) =
    (deed.xid ≡ xid) × (deed.seq ≡ wanted) × (fetch deed.xid deed.seq ≡ Reused found)
IsGone snapshot look fetch deed _ = ⊥

-- A deed is why a copy has no rows.
abbrev pub Stops : ℕ → (Xid → Look) → (Xid → ℕ → Fetch) → Made → Deed → Type 0
Stops snapshot look fetch (Need wanted) deed = IsWanted look fetch deed wanted
Stops snapshot look fetch (TooOld cause) deed = IsGone snapshot look fetch deed cause
Stops snapshot look fetch _ deed = ⊥

-- A copy has rows, or one of the deeds that stand is why it has none.
abbrev pub HasReason : ℕ → (Xid → Look) → (Xid → ℕ → Fetch) → List Deed → Made → Type 0
HasReason snapshot look fetch deeds (Rows rows) = Unit {0}
HasReason snapshot look fetch deeds made = Any (Stops snapshot look fetch made) deeds
