use Rattle.std.proofs.Common.{None}
use Rattle.wave_steps.specs.Begins.{waits_for_past}
use Rattle.wave_steps.proofs.Filled.{filled_more}
use Rattle.wave_steps.proofs.begins.awaited_pasts.Goals as goal

pub loop-block-preserved : goal.loop-block-preserved
loop-block-preserved c =
    rw c.from.ensures
    (rw c.waits_for_past.ensures
    (filled_more (waits_for_past c.args.inst.now) None 64 c.loop-block.block _ c.loop-block-test.true c.loop-block.invariant))
