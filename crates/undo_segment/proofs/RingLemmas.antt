-- Undo blocks one behind the other.
use Rattle.std.proofs.Common.{◌≡◌, ℕ, ◌+◌, ◌/◌, ◌<◌, List, [], ◌∷◌, ◌++◌, length, None, refl, sym, subst, ◌∙◌, arith, below_more, length-append}
use Rattle.std.proofs.lemmas.List.{get_or_append_left, get_or-append-add}
use Rattle.std.proofs.lemmas.List.FromFn.{get_or-map-range_with_len, length-map-range_with_len}
use Rattle.std.proofs.lemmas.List.{length-replicate}
use Rattle.base_types.specs.declared.layout.Layout.{Layout}
use Rattle.base_types.specs.Layout.{IsLayout, head_block_of}
use Rattle.undo_image.specs.Header.{HeaderContent, empty_header}
use Rattle.undo_image.specs.UndoBlock.{UndoContent, empty_undo_block}
use Rattle.undo_segment.specs.Faults.{AreFaultless, undo_fault}
use Rattle.undo_segment.specs.New.{clean_segment, empty_ring, new_segment}
use Rattle.undo_segment.specs.Segment.{IsBlockOf, IsSegment, block_in}

-- what holds of each block and of one more, each with its place, holds of all
pub each_more : (P : ℕ → UndoContent → Type 0) (blocks : List UndoContent) (u : UndoContent) → ((j : ℕ) → j < length blocks → P j (block_in blocks j)) → P (length blocks) u
    → (j : ℕ) → j < length (blocks ++ u ∷ []) → P j (block_in (blocks ++ u ∷ []) j)
each_more P blocks u each here =
    let all = blocks ++ u ∷ [] in
    let last : block_in all (length blocks) ≡ u = subst (λ n. block_in all n ≡ u) (omega arith) (get_or-append-add blocks (u ∷ []) 0 (empty_undo_block 0 0)) in
    let more = below_more (λ j. P j (block_in all j)) (length blocks)
    (λ j few. subst (P j) (sym (get_or_append_left blocks (u ∷ []) (empty_undo_block 0 0) j few)) (each j few))
    (subst (P (length blocks)) (sym last) here) in
    λ j few. more j (omega (arith, length-append blocks (u ∷ [])))

-- the empty blocks behind a header are its segment's
empty_block : (head seg count k : ℕ) → k < count → IsBlockOf (head + 1 + k) seg (block_in (empty_ring head seg count) k)
empty_block head seg count k few =
    let is : block_in (empty_ring head seg count) k ≡ empty_undo_block (head + 1 + k) seg = get_or-map-range_with_len (λ j. empty_undo_block (head + 1 + j) seg) 0 count k k (empty_undo_block 0 0) few (omega arith) in
    subst (IsBlockOf (head + 1 + k) seg) (sym is) (record { number = refl; seg = refl })

-- a new segment is one
pub new_is : (layout : Layout) (seg : ℕ) → IsLayout layout → seg < layout.instances → IsSegment (new_segment layout seg)
new_is layout seg is few =
    let head = head_block_of layout seg in
    let count = layout.undo / 4 in
    let long : length (empty_ring head seg count) ≡ count = length-map-range_with_len (λ k. empty_undo_block (head + 1 + k) seg) 0 count in
    record {
      layout = is;
      seg = few;
      number = refl;
      blocks = long;
      since = length-replicate (1 + length (empty_ring head seg count)) None ∙ omega (arith, long);
      each = λ k within. empty_block head seg count k within;
    }
