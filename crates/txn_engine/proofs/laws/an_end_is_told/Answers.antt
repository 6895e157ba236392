use Rattle.txn_engine.proofs.EndLaws.{end_is_told}
use Rattle.txn_engine.proofs.laws.an_end_is_told.Goals as goal

pub returns : goal.returns
returns c = end_is_told
