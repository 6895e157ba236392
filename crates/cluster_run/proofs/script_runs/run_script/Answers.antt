use Rattle.cluster_run.proofs.script_runs.run_script.Goals as goal

pub returns-in_ok-run_world-in-Whole : goal.returns-in_ok-run_world-in-Whole
returns-in_ok-run_world-in-Whole g c =
    let state = λ (d : g.row.D.Denot). g.D.SharedDisk.state d in
    (state c.create_for.new.disk, c.in-Whole.ensures, c.in_ok-run_world-in-Whole.ensures)
