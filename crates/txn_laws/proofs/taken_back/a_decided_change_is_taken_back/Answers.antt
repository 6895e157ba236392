use Rattle.txn_laws.proofs.ComesLemmas.{comes_back}
use Rattle.txn_laws.proofs.HeldLemmas.{held_as_before}
use Rattle.txn_laws.proofs.LawLemmas.{last_as_before, locks_as_left, slots_as_before, values_as_before}
use Rattle.txn_laws.proofs.taken_back.a_decided_change_is_taken_back.Goals as goal

pub returns-clause-values : goal.returns-clause-values
returns-clause-values c = values_as_before

pub returns-clause-slots : goal.returns-clause-slots
returns-clause-slots c = slots_as_before

pub returns-clause-locks : goal.returns-clause-locks
returns-clause-locks c = locks_as_left

pub returns-clause-last : goal.returns-clause-last
returns-clause-last c = last_as_before

pub returns-clause-comes : goal.returns-clause-comes
returns-clause-comes c = comes_back

pub returns-clause-held : goal.returns-clause-held
returns-clause-held c = held_as_before
