use Rattle.std.proofs.Common.{ap}
use Rattle.script_text.specs.declared.script.Settings.{Settings}
use Rattle.cluster_run.proofs.Whole.{is_run_of}
use Rattle.cluster_run.proofs.script_runs.run_world.Goals as goal

pub returns : goal.returns
returns g c =
    let state = λ (d : g.row.D.Denot). g.D.SharedDisk.state d in
    let seed_is = ap (λ (it : Settings). it.seed) c.settings-seed.ensures in
    let ran = c.in_ok-ran.ensures in
    is_run_of c.args.script.now (record { world = c.run.new.world; ran = c.in_ok-ran.ran; finish = c.finish_of-finish.result }) c.args.first
    (state c.args.disk.now) (state c.run.new.disk) _ _ seed_is c.step_limit-limit.ensures c.requires ran.run ran.ends ran.few c.finish_of-finish.ensures
