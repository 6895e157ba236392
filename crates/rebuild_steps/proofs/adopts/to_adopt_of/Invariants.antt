use Rattle.std.proofs.Common.{◌≡◌, take}
use Rattle.std.specs.Prelude.{filter}
use Rattle.rebuild_steps.specs.Adopt.{is_to_adopt}
use Rattle.rebuild_steps.proofs.adopts.to_adopt_of.Given as goal

abbrev pub invariant-loop-seg : goal.invariant-loop-seg
invariant-loop-seg l = l.segs.items ≡ filter (is_to_adopt l.inst l.core) (take l.seg-index l.insts)
