use Rattle.std.proofs.Common.{false}
use Rattle.wave_steps.specs.Begins.{waits_for_undo}
use Rattle.wave_steps.proofs.Filled.{filled_more}
use Rattle.wave_steps.proofs.begins.awaited_undo.Goals as goal

pub loop-k-preserved : goal.loop-k-preserved
loop-k-preserved c =
    rw c.from.ensures
    (rw c.waits_for_undo.ensures
    (filled_more (waits_for_undo c.args.inst.now) false 17 c.loop-k.k _ c.loop-k-test.true c.loop-k.invariant))
