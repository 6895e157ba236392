use Rattle.cr_copy.proofs.CopyLemmas.{are_named}
use Rattle.cr_copy.proofs.copy.work_of.Goals as goal

pub returns-clause-named : goal.returns-clause-named
returns-clause-named c = are_named c.slots_of.result c.slots_of.ensures.each
