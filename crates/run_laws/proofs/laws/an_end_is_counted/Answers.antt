use Rattle.run_laws.proofs.RunEnds.{steps_count}
use Rattle.run_laws.proofs.laws.an_end_is_counted.Goals as goal

pub returns : goal.returns
returns c = steps_count
