-- Taking a change or a lock back for good.
use Rattle.std.specs.Prelude.{◌≡◌, ℕ, ◌+◌, ◌==◌, ◌&&◌, ◌||◌, not, nat_le, Bool, true, false, if◌then◌else◌, List, map, Option, None, Some, slice_set}
use Rattle.std.specs.List.{list_all}
use Rattle.base_types.specs.declared.names.Scn.{Scn}
use Rattle.base_types.specs.declared.names.Xid.{Xid}
use Rattle.redo_types.specs.declared.blocks.RowChange.{RowChange}
use Rattle.redo_types.specs.declared.redo.Redo.{Redo}
use Rattle.redo_types.specs.declared.redo.RedoKind.TheVariants.{StepBack}
use Rattle.redo_types.specs.declared.undo.TxnSlot.{TxnSlot}
use Rattle.redo_types.specs.declared.undo.UndoRecord.{UndoRecord}
use Rattle.part_image.specs.Undo.{IsUndoRecord}
use Rattle.block_image.specs.declared.row.Row.{Row}
use Rattle.block_image.specs.Block.{BlockContent, row_at}
use Rattle.block_image.specs.Block.{slot_at as itl_at}
use Rattle.undo_image.specs.Header.{HeaderContent, slot_at}
use Rattle.undo_segment.specs.Segment.{SegmentState}
use Rattle.scn_clock.specs.declared.clock.Clock.{Clock}
use Rattle.journal.specs.Past.{same_xid}
use Rattle.txn_engine.specs.declared.back.BackTo.{BackTo}
use Rattle.txn_engine.specs.declared.back.BackTo.TheVariants as to
use Rattle.txn_engine.specs.declared.back.NextBack.{NextBack}
use Rattle.txn_engine.specs.declared.back.NextBack.TheVariants.{Bad, Nothing, Undo}
use Rattle.txn_engine.specs.Limits.{is_data_block, is_under_way, may_rise}
use Rattle.txn_engine.specs.Parts.{data_change, head_change, undo_at}

-- An undo record is the one with this number that a transaction wrote.
abbrev pub is_undo_of : Xid → ℕ → UndoRecord → Bool
is_undo_of x seq u = u.seq == seq && u.slot == x.slot && u.wrap == x.wrap

-- what is taken back next, by what stands in the place of the last undo record
abbrev pub next_of : Xid → ℕ → Option UndoRecord → NextBack
next_of x seq None = Bad
next_of x seq (Some u) = if is_undo_of x seq u then Undo u else Bad

-- what is taken back next, by the number of the last undo record that stands
abbrev pub next_from : Xid → SegmentState → ℕ → NextBack
next_from x segment last = if last == 0 then Nothing else next_of x last (undo_at segment last)

-- The last undo record of a transaction that stands, or nothing where none does. It is bad where the transaction isn't
-- under way, or where the place doesn't have that record.
abbrev pub next_back : Xid → SegmentState → NextBack
next_back x segment =
    if is_under_way segment.head x then next_from x segment (slot_at segment.head x.slot).last else Bad

-- the block in which a change or a lock is taken back
abbrev pub block_of : NextBack → BackTo
block_of (Undo u) = to.Block u.block
block_of Nothing = to.Nothing
block_of Bad = to.Bad

-- what is taken back next is an undo record
abbrev pub IsNext : NextBack → Type 0
IsNext (Undo u) = IsUndoRecord u
IsNext _ = Unit {0}

-- A transaction of which something is taken back is under way.
abbrev pub IsGoing : HeaderContent → Xid → NextBack → Type 0
IsGoing head x (Undo u) = is_under_way head x ≡ true
IsGoing head x _ = Unit {0}

-- The ITL slot of an undo record names it.
abbrev pub names_undo : BlockContent → Xid → UndoRecord → Bool
names_undo image x u = same_xid (itl_at image.itl u.itl).xid x && (itl_at image.itl u.itl).seq == u.seq

-- the lock byte of the row after a step back: 0, or as it stands where the transaction held the row before the change
abbrev pub lock_back : BlockContent → UndoRecord → ℕ
lock_back image u = if u.mine then (row_at image.rows u.row).lock else 0

-- the lock bytes of a block
abbrev pub locks_of : BlockContent → List ℕ
locks_of image = map (λ (row : Row). row.lock) image.rows

-- No lock byte names the ITL slot after a step back.
abbrev pub lets_go : BlockContent → UndoRecord → Bool
lets_go image u = list_all (λ lock. not (lock == u.itl)) (slice_set (locks_of image) u.row (lock_back image u))

-- Where the ITL slot becomes one that was never used, no lock byte names it.
abbrev pub keeps_locks : BlockContent → UndoRecord → Bool
keeps_locks image u = not (u.old_itl.xid.wrap == 0) || lets_go image u

-- What stands of a transaction after a step back is nothing, or not before its first undo record.
abbrev pub stands_from : TxnSlot → UndoRecord → Bool
stands_from slot u = u.prev == 0 || nat_le slot.first u.prev

-- An undo record may be taken back in an image of its block: the ITL slot names it, locks stay in order, what stands
-- before it is the transaction's, and no number is at its limit.
abbrev pub may_step_back : Xid → UndoRecord → HeaderContent → BlockContent → Clock → Bool
may_step_back x u head image clock =
    is_data_block image && u.block == image.front.number && names_undo image x u && keeps_locks image u
    && stands_from (slot_at head x.slot) u
    && may_rise clock.scn && may_rise head.front.version && may_rise image.front.version

-- the slot of a transaction after a step back
unfoldable pub slot_back : TxnSlot → UndoRecord → TxnSlot
slot_back slot u =
    record { wrap = slot.wrap; state = slot.state; first = slot.first; last = u.prev; scn = slot.scn; prev = slot.prev }

-- What a step back does to the row: it has its old value, and the ITL slot its old content.
unfoldable pub row_back : BlockContent → UndoRecord → RowChange
row_back image u =
    record { row = u.row; lock = lock_back image u; itl = u.itl; fresh = false; slot = u.old_itl; value = u.old }

-- the record of a step back with this SCN
unfoldable pub back_record : Xid → UndoRecord → HeaderContent → BlockContent → Scn → Redo
back_record x u head image scn =
    record {
      kind = StepBack;
      xid = x;
      scn = scn;
      seq = u.seq;
      head = head_change head x.slot head.front.next (slot_back (slot_at head x.slot) u);
      undo = None;
      row = Some (data_change image (row_back image u));
    }

-- the record of a step back, by what is taken back next
abbrev pub back_of : NextBack → Xid → HeaderContent → BlockContent → Clock → Option Redo
back_of (Undo u) x head image clock =
    if may_step_back x u head image clock then Some (back_record x u head image (clock.scn + 1)) else None
back_of _ x head image clock = None

-- the record by which the last change or lock of a transaction that stands is taken back, where it may be
abbrev pub back_decision : Xid → SegmentState → BlockContent → Clock → Option Redo
back_decision x segment image clock = back_of (next_back x segment) x segment.head image clock
