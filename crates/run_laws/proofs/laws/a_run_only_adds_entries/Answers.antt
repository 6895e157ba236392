use Rattle.run_laws.proofs.Added.{run_adds}
use Rattle.run_laws.proofs.laws.a_run_only_adds_entries.Goals as goal

pub returns : goal.returns
returns c = run_adds
