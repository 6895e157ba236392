use Rattle.deed_laws.proofs.StepLemmas.{decided-back}
use Rattle.deed_laws.proofs.laws.decided_steps_back_are_made_by_the_rules.Goals as goal

pub returns : goal.returns
returns c records x m image segment clock redo sound seen goes_on newest_own next up e = decided-back records x m image segment clock sound seen goes_on newest_own redo next up e
