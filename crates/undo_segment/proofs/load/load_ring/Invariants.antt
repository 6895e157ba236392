use Rattle.undo_segment.proofs.LoadLemmas.{RingRead}
use Rattle.undo_segment.proofs.load.load_ring.Given as goal

abbrev pub invariant-loop-k : goal.invariant-loop-k
invariant-loop-k g l = RingRead l.head l.seg l.k l.blocks.items (g.D.SharedDisk.state l.fn.disk) (g.D.SharedDisk.state l.disk)
