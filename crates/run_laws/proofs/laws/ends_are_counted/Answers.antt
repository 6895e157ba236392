use Rattle.run_laws.proofs.RunEnds.{runs_count}
use Rattle.run_laws.proofs.laws.ends_are_counted.Goals as goal

pub returns : goal.returns
returns c = runs_count
