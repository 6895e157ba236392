-- Each group of the invariant is kept by each step.
use Rattle.block_protocol.proofs.Whole.{Whole-start, Whole-step}
use Rattle.block_protocol.proofs.laws.a_step_keeps_the_invariant.Goals as goal

pub returns-clause-start : goal.returns-clause-start
returns-clause-start c master = Whole-start master

pub returns-clause-step : goal.returns-clause-step
returns-clause-step c before after step w = Whole-step step w
