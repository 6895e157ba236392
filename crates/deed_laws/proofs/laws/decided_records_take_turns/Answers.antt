use Rattle.deed_laws.proofs.TurnLemmas.{begins, ends, goes-on, steps-back}
use Rattle.deed_laws.proofs.laws.decided_records_take_turns.Goals as goal

pub returns-clause-begins : goal.returns-clause-begins
returns-clause-begins c = begins

pub returns-clause-goes_on : goal.returns-clause-goes_on
returns-clause-goes_on c = goes-on

pub returns-clause-steps_back : goal.returns-clause-steps_back
returns-clause-steps_back c = steps-back

pub returns-clause-ends : goal.returns-clause-ends
returns-clause-ends c = ends
