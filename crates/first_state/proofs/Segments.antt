-- The segments of a new database.
use Rattle.std.proofs.Common.{◌≡◌, ◌+◌, ◌-◌, ◌*◌, ◌/◌, ◌%◌, ◌<◌, ◌≤◌, ◌==◌, ◌∙◌, ℕ, Bool, false, if◌then◌else◌, nat_lt, sym, ap, subst, arith}
use Rattle.std.proofs.Math.Nat.{mul-le-mul_right}
use Rattle.std.proofs.lemmas.List.FromFn.{get_or-map-range_with_len, length-map-range_with_len}
use Rattle.std.proofs.lemmas.Nat.{div-mul-add, mod-mul-add}
use Rattle.base_types.specs.declared.layout.Layout.{Layout}
use Rattle.base_types.specs.Layout.{head_block_of, segment_blocks, total_of}
use Rattle.block_image.specs.Block.{block_bytes}
use Rattle.block_image.specs.Changes.{empty_block}
use Rattle.rac_disk.specs.Content.{Content, block_at}
use Rattle.undo_image.specs.Header.{empty_header, header_bytes}
use Rattle.undo_image.specs.UndoBlock.{empty_undo_block, undo_bytes}
use Rattle.undo_segment.specs.Load.{HoldsSegment}
use Rattle.undo_segment.specs.New.{empty_ring, new_segment}
use Rattle.undo_segment.specs.Segment.{block_in}
use Rattle.first_state.specs.Create.{IsNew, first_block, segment_block}

-- the block at a place of a segment
placed : (layout : Layout) (seg place : ℕ) → place < segment_blocks layout
    → first_block layout (head_block_of layout seg + place) ≡ segment_block (head_block_of layout seg + place) seg place
placed layout seg place within =
    let size : ℕ = segment_blocks layout in
    let number : ℕ = head_block_of layout seg + place in
    let after : nat_lt number layout.blocks ≡ false = grind arith in
    let from_data : number - layout.blocks ≡ seg * size + place = omega arith in
    ap (λ (b : Bool). if b then block_bytes (empty_block number) else segment_block number ((number - layout.blocks) / size) ((number - layout.blocks) % size)) after
    ∙ ap (λ m. segment_block number (m / size) (m % size)) from_data
    ∙ ap (λ q. segment_block number q ((seg * size + place) % size)) (div-mul-add seg size place within)
    ∙ ap (λ r. segment_block number seg r) (mod-mul-add seg size place within)

-- a block of a segment is on the disk
on_disk : (layout : Layout) (seg place : ℕ) → seg < layout.instances → place < segment_blocks layout → head_block_of layout seg + place < total_of layout
on_disk layout seg place known within =
    let later : (seg + 1) * segment_blocks layout ≤ layout.instances * segment_blocks layout = mul-le-mul_right (segment_blocks layout) (omega arith) in
    omega arith

-- the block at a place of a segment stands on the disk
stands : (layout : Layout) (it : Content) (seg place number : ℕ) → seg < layout.instances → place < segment_blocks layout → number ≡ head_block_of layout seg + place → IsNew layout it
    → block_at it number ≡ segment_block number seg place
stands layout it seg place number known within is new =
    subst (λ n. block_at it n ≡ segment_block n seg place) (sym is)
    (new.blocks (head_block_of layout seg + place) (on_disk layout seg place known within) ∙ placed layout seg place within)

-- a later block is an undo block
undo_at : (number seg k : ℕ) → segment_block number seg (1 + k) ≡ undo_bytes (empty_undo_block number seg)
undo_at number seg k =
    let later : ((1 + k) == 0) ≡ false = grind arith in
    ap (λ (b : Bool). if b then header_bytes (empty_header number seg) else undo_bytes (empty_undo_block number seg)) later

-- the undo block at a place of the ring
in_ring : (head seg count k : ℕ) → k < count → block_in (empty_ring head seg count) k ≡ empty_undo_block (head + 1 + k) seg
in_ring head seg count k within = get_or-map-range_with_len (λ j. empty_undo_block (head + 1 + j) seg) 0 count k k (empty_undo_block 0 0) within (omega arith)

-- a new database holds the segment of an instance
pub holds_segment : (layout : Layout) (it : Content) (seg : ℕ) → seg < layout.instances → IsNew layout it → HoldsSegment (new_segment layout seg) it
holds_segment layout it seg known new =
    let head : ℕ = head_block_of layout seg in
    record {
      head = stands layout it seg 0 head known (omega arith) (omega arith) new;
      blocks = λ k within.
          let few : k < layout.undo / 4 = subst (λ n. k < n) (length-map-range_with_len (λ j. empty_undo_block (head + 1 + j) seg) 0 (layout.undo / 4)) within in
          stands layout it seg (1 + k) (head + 1 + k) known (omega (arith, few)) (omega arith) new
          ∙ undo_at (head + 1 + k) seg k
          ∙ ap undo_bytes (sym (in_ring head seg (layout.undo / 4) k few));
    }
