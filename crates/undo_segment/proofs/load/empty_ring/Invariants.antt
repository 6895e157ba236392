use Rattle.std.proofs.Common.{◌≡◌}
use Rattle.undo_segment.specs.New.{empty_ring}
use Rattle.undo_segment.proofs.load.empty_ring.Given as goal

abbrev pub invariant-loop-k : goal.invariant-loop-k
invariant-loop-k l = l.blocks.items ≡ empty_ring l.head l.seg l.k
