use Rattle.cluster_run.proofs.Whole.{is_created}
use Rattle.cluster_run.proofs.script_runs.create_for.Goals as goal

pub returns : goal.returns
returns g c =
    let state = λ (d : g.row.D.Denot). g.D.SharedDisk.state d in
    let made = c.create.ensures in
    is_created c.args.script.now c.layout_of.result c.create.result (state c.args.disk.now) (state c.create.new.disk) c.layout_of.ensures.layout made.calls made.disk
    made.counts
