-- The state after the first loss of the sample run.
use Rattle.block_protocol.proofs.SampleRebuilt.{lost_state, is-lost, stale-base-gaps, gap-below, early-close}
use Rattle.std.proofs.Common.{refl}
use Rattle.block_protocol.proofs.samples.states_that_would_lose.Goals as goal

pub returns-clause-stale_base : goal.returns-clause-stale_base
returns-clause-stale_base c = (lost_state, is-lost, refl, stale-base-gaps)

pub returns-clause-early_close : goal.returns-clause-early_close
returns-clause-early_close c = (lost_state, is-lost, early-close)

pub returns-clause-late_force : goal.returns-clause-late_force
returns-clause-late_force c = gap-below
