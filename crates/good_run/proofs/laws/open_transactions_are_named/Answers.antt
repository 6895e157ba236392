use Rattle.good_run.proofs.OpenLemmas.{open-named}
use Rattle.good_run.proofs.laws.open_transactions_are_named.Goals as goal

pub returns : goal.returns
returns c x past h = open-named x past h
