-- The place of an undo block in the ring is found by its number.
use Rattle.std.proofs.Common.{◌≡◌, ℕ, ◌+◌, ◌-◌, ◌/◌, ◌%◌, ◌<◌, ◌≤◌, true, cond, length, refl, sym, ap, ◌∙◌, arith}
use Rattle.std.specs.Prelude.{nat_lt}
use Rattle.std.proofs.Math.Nat.{mod-lt}
use Rattle.std.proofs.lemmas.Bool.{lt-ltb}
use Rattle.undo_image.specs.UndoBlock.{UndoContent}
use Rattle.undo_segment.specs.Apply.{ring_place}
use Rattle.undo_segment.specs.Segment.{IsSegment, SegmentState, ring_block}
use Rattle.txn_engine.specs.Parts.{undo_block_at}

-- the undo block of a sequence number is within the ring
pub place_within : (segment : SegmentState) (seq : ℕ) → IsSegment segment → (seq - 1) % segment.layout.undo / 4 < segment.layout.undo / 4
place_within segment seq is =
    let some = is.layout.some_undo in
    let by_four = is.layout.undo_by_four in
    let below : (seq - 1) % segment.layout.undo < segment.layout.undo = mod-lt (seq - 1) (omega arith) in
    omega arith

placed_by : (head number k rest : ℕ) → number ≡ head + 1 + k → cond (nat_lt head number) (number - head - 1) rest ≡ k
placed_by head number k rest is =
    let above = lt-ltb head number (omega arith) in
    rw above (omega arith)

-- the place of the block that has the place of a sequence number
pub ring_place_is : (segment : SegmentState) (seq : ℕ) → IsSegment segment → ring_place segment (undo_block_at segment seq).front.number ≡ (seq - 1) % segment.layout.undo / 4
ring_place_is segment seq is =
    let k = (seq - 1) % segment.layout.undo / 4 in
    placed_by segment.head.front.number (undo_block_at segment seq).front.number k (length segment.blocks) (is.each k (place_within segment seq is)).number

pub version_at : (segment : SegmentState) (seq : ℕ) → IsSegment segment → (ring_block segment (ring_place segment (undo_block_at segment seq).front.number)).front.version ≡ (undo_block_at segment seq).front.version
version_at segment seq is = ap (λ (k : ℕ). (ring_block segment k).front.version) (ring_place_is segment seq is)
