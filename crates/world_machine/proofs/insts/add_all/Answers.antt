use Rattle.world_machine.proofs.EnabledLemmas.{enabled_next}
use Rattle.world_machine.proofs.insts.add_all.Goals as goal

pub loop-i-preserved : goal.loop-i-preserved
loop-i-preserved c =
    enabled_next c.args.core.now c.args.insts.now c.loop-i.i c.index-insts-i.result _ _ _ c.loop-i-test.true c.index-insts-i.is
    c.in_ok-add_choices.ensures c.loop-i.invariant
