use Rattle.run_laws.proofs.RunEnds.{calm_runs}
use Rattle.run_laws.proofs.laws.a_calm_run_ends_nobody.Goals as goal

pub returns : goal.returns
returns c = calm_runs
