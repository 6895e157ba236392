-- What the places of a segment's undo hold.
use Rattle.std.specs.Prelude.{ℕ, ◌-◌, ◌%◌, ◌<◌, ◌≡◌, List}
use Rattle.std.specs.List.{AllByRecursion}
use Rattle.redo_types.specs.declared.undo.UndoRecord.{UndoRecord}
use Rattle.undo_segment.specs.Segment.{SegmentState}
use Rattle.txn_engine.specs.Parts.{undo_at}
use Rattle.board_slots.specs.Ring.{in_place, Rising}

-- A segment holds in each place of its ring the newest of these undo records that was written there, and the next one
-- comes after them.
pub record HoldsUndo (own : SegmentState) (written : List UndoRecord) : Type 0 where
  pub rises : Rising written
  pub below : AllByRecursion (λ (undo : UndoRecord). undo.seq < own.head.front.next) written
  pub places : (seq : ℕ) → undo_at own seq ≡ in_place own.layout.undo ((seq - 1) % own.layout.undo) written
