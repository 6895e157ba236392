use Rattle.cluster_run.proofs.Firsts.{is_first_world}
use Rattle.cluster_run.proofs.first_worlds.first_world.Goals as goal

pub returns : goal.returns
returns c =
    let insts = c.in_ok-insts.ensures in
    is_first_world c.args.script.now (record { insts = c.in_ok-insts.insts; core = c.in_ok-core.core }) c.in_ok-core.ensures insts.count insts.insts
