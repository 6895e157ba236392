use Rattle.cluster_run.proofs.Firsts.{first_next}
use Rattle.cluster_run.proofs.first_worlds.first_insts.Goals as goal

pub loop-me-preserved : goal.loop-me-preserved
loop-me-preserved c =
    let ensured = c.in_ok-inst.ensures in
    first_next c.args.script.now c.args.masters.now c.loop-me.insts c.push.new.self c.loop-me.me c.in_ok-inst.inst c.loop-me.invariant
    (record { plan = ensured.plan; part = ensured.part }) c.in_ok-push.ensures
