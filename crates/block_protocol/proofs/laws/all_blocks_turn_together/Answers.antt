-- A step at one block is, at each other, a rise of a clock and of what is on disk.
use Rattle.block_protocol.proofs.AllBlocksLemmas.{turns-of-all, invariant-of-all, invariant-of-run, invariant-first}
use Rattle.block_protocol.proofs.laws.all_blocks_turn_together.Goals as goal

pub returns-clause-turns : goal.returns-clause-turns
returns-clause-turns c before after turn m b = turns-of-all turn m b

pub returns-clause-keeps : goal.returns-clause-keeps
returns-clause-keeps c before after turn m b = invariant-of-all turn m b

pub returns-clause-always : goal.returns-clause-always
returns-clause-always c n master whole run b = invariant-of-run run (invariant-first n master) b
