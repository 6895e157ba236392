use Rattle.std.proofs.Common.{◌≡◌, ◌+◌, ◌∙◌, ℕ, List, [], ◌∷◌, ◌++◌, sym, ap, subst, arith}
use Rattle.std.proofs.lemmas.List.FromFn.{map-range_with_len_more}
use Rattle.undo_image.specs.UndoBlock.{UndoContent, empty_undo_block}
use Rattle.undo_segment.specs.New.{empty_ring}
use Rattle.undo_segment.proofs.load.empty_ring.Goals as goal

-- one empty block more
more : (head seg k : ℕ) (blocks new : List UndoContent) (u : UndoContent) → blocks ≡ empty_ring head seg k → u ≡ empty_undo_block (head + 1 + k) seg → new ≡ blocks ++ u ∷ [] → new ≡ empty_ring head seg (k + 1)
more head seg k blocks new u are is made =
    made ∙ ap (λ (xs : List UndoContent). xs ++ u ∷ []) are ∙ ap (λ (x : UndoContent). empty_ring head seg k ++ x ∷ []) is
    ∙ sym (map-range_with_len_more (λ j. empty_undo_block (head + 1 + j) seg) 0 k k (omega arith))

pub loop-k-preserved : goal.loop-k-preserved
loop-k-preserved c =
    more c.args.head c.args.seg c.loop-k.k c.loop-k.blocks.items c.push.new.self.items c.empty.result c.loop-k.invariant (rw c.get.ensures at c.empty.ensures) c.in_ok-push.ensures.items

pub returns : goal.returns
returns c = subst (λ (n : ℕ). c.loop-k.blocks.items ≡ empty_ring c.args.head c.args.seg n) (omega arith) c.loop-k.invariant
