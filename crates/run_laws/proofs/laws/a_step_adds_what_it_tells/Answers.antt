use Rattle.run_laws.proofs.ToldByKind.{journal_told}
use Rattle.run_laws.proofs.laws.a_step_adds_what_it_tells.Goals as goal

pub returns : goal.returns
returns c = journal_told
