-- What the next undo record of a segment would overwrite.
use Rattle.std.specs.Prelude.{◌≡◌, ℕ, ◌-◌, ◌%◌, ◌<◌, ◌≤◌, IsTrue}
use Rattle.undo_image.specs.Header.{slot_at}
use Rattle.undo_segment.specs.Look.{is_active}
use Rattle.undo_segment.specs.Segment.{SegmentState}

-- The next undo record would take the place of the one with this sequence number, which is no earlier than the first of
-- the open transaction in this slot.
pub record Overwrites (own : SegmentState) (slot seq : ℕ) : Type 0 where
  pub within : slot < 8
  pub active : IsTrue (is_active (slot_at own.head slot).state)
  pub from_first : (slot_at own.head slot).first ≤ seq
  pub before_next : seq < own.head.front.next
  pub one_place : (seq - 1) % own.layout.undo ≡ (own.head.front.next - 1) % own.layout.undo

-- the next undo record would take the place of one from the first of an open transaction on
abbrev pub OverwritesOpenUndo : SegmentState → Type 0
OverwritesOpenUndo own = (slot : ℕ) × (seq : ℕ) × Overwrites own slot seq
