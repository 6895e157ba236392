-- Which transaction of a lost instance is rolled back next.
use Rattle.std.specs.Prelude.{ℕ, ◌==◌, ◌&&◌, Bool, true, false, if◌then◌else◌, List, [], ◌∷◌, Option, None, Some, position}
use Rattle.base_types.specs.declared.names.Xid.{Xid}
use Rattle.redo_types.specs.declared.undo.TxnState.{TxnState}
use Rattle.redo_types.specs.declared.undo.TxnState.TheVariants.{Active, Committed, Never, RolledBack}
use Rattle.undo_image.specs.Header.{HeaderContent, slot_at}
use Rattle.undo_segment.specs.declared.fetch.Fetch.{Fetch}
use Rattle.undo_segment.specs.declared.fetch.Fetch.TheVariants as found
use Rattle.undo_segment.specs.Segment.{SegmentState, fetch_own}
use Rattle.recovery.specs.declared.dead.NextBack.{NextBack}
use Rattle.recovery.specs.declared.dead.NextBack.TheVariants.{Bad, Change, End, Nothing}

-- The transaction that has the slot is under way.
abbrev pub is_active : TxnState → Bool
is_active Active = true
is_active Never = false
is_active Committed = false
is_active RolledBack = false

-- the lowest slot whose transaction is under way
abbrev pub first_active : HeaderContent → Option ℕ
first_active h = position (λ slot. is_active slot.state) h.slots

-- What is to be rolled back next of a transaction, by what stands in the place of its last undo record: that record, if
-- it is one of the transaction.
abbrev pub back_by : Xid → Fetch → NextBack
back_by x (found.Has undo) = if undo.slot == x.slot && undo.wrap == x.wrap then Change x undo.block else Bad x
back_by x (found.Reused seq) = Bad x
back_by x found.Never = Bad x
back_by x found.Unfetched = Bad x

-- What is to be rolled back next of the transaction in this slot: its last undo record that stands, or its end.
abbrev pub back_of : SegmentState → ℕ → NextBack
back_of own k =
    let slot = slot_at own.head k in
    let x : Xid = record { seg = own.head.front.seg; slot = k; wrap = slot.wrap } in
    if slot.last == 0 then End x else back_by x (fetch_own own slot.last)

-- what is to be rolled back next of the transaction in this slot, if there is one, and else this
abbrev pub back_or : NextBack → SegmentState → Option ℕ → NextBack
back_or later own None = later
back_or later own (Some k) = back_of own k

-- What is to be rolled back next: in the first segment that has a transaction under way, that in the lowest slot.
abbrev pub next_back : List SegmentState → NextBack
next_back [] = Nothing
next_back (own ∷ others) = back_or (next_back others) own (first_active own.head)
