-- What a redo record leaves in its segment.
use Rattle.std.proofs.Common.{◌≡◌, ℕ, ◌-◌, ◌/◌, ◌%◌, ◌<◌, length, set, ap, ◌∙◌, arith, None, Some}
use Rattle.std.proofs.Math.Nat.{mod-lt}
use Rattle.std.proofs.lemmas.List.{get_or-set_same}
use Rattle.base_types.specs.declared.names.Scn.{Scn}
use Rattle.redo_types.specs.declared.redo.HeadChange.{HeadChange}
use Rattle.redo_types.specs.declared.undo.UndoRecord.{UndoRecord}
use Rattle.undo_image.specs.UndoBlock.{UndoContent, empty_undo_block, record_at, with_record}
use Rattle.undo_segment.specs.Apply.{head_applied, undo_applied}
use Rattle.undo_segment.specs.Segment.{IsSegment, SegmentState, block_in, ring_block}
use Rattle.txn_engine.specs.Parts.{undo_at, undo_block_at}
use Rattle.txn_engine.proofs.RingPlaces.{place_within, ring_place_is}

-- an undo record that is written into its undo block stands in its place afterwards
pub undo_stands : (segment : SegmentState) (head : HeadChange) (seq version : ℕ) (to : UndoRecord) (scn : Scn) (at : ℕ) → IsSegment segment → length (undo_block_at segment seq).places ≡ 4
    → undo_at (undo_applied (head_applied segment head scn at) (Some (record { block = (undo_block_at segment seq).front.number; version = version; place = (seq - 1) % 4; to = to })) scn at) seq ≡ Some to
undo_stands segment head seq version to scn at is four =
    let k = (seq - 1) % segment.layout.undo / 4 in
    let place = (seq - 1) % 4 in
    let few : (seq - 1) % 4 < 4 = mod-lt (seq - 1) (omega arith) in
    let within = place_within segment seq is in
    let blocks = is.blocks in
    ap (λ (n : ℕ). record_at (block_in (set segment.blocks n (with_record (ring_block segment n) place to scn)) k) place) (ring_place_is segment seq is)
    ∙ ap (λ (b : UndoContent). record_at b place) (get_or-set_same segment.blocks k (with_record (ring_block segment k) place to scn) (empty_undo_block 0 0) (omega arith))
    ∙ get_or-set_same (undo_block_at segment seq).places place (Some to) None (omega arith)
