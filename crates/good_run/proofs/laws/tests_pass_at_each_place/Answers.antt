use Rattle.good_run.proofs.EachLemmas.{passes-places}
use Rattle.good_run.proofs.laws.tests_pass_at_each_place.Goals as goal

pub returns : goal.returns
returns c test past = passes-places test past
