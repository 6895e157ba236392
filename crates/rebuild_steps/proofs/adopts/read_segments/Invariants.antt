use Rattle.std.proofs.Common.{take}
use Rattle.rebuild_steps.specs.Adopt.{ReadsEach}
use Rattle.rebuild_steps.proofs.adopts.read_segments.Given as goal

abbrev pub invariant-loop-seg : goal.invariant-loop-seg
invariant-loop-seg g l = ReadsEach l.layout (take l.seg-index l.segs) l.read.items (g.D.SharedDisk.state l.fn.disk) (g.D.SharedDisk.state l.disk)
