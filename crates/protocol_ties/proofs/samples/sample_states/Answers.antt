-- The sample states.
use Rattle.protocol_ties.proofs.SampleStates.{first-ask, next-in-line, order-came-back, plea, reported, among-all, on-links}
use Rattle.protocol_ties.proofs.samples.sample_states.Goals as goal

pub returns : goal.returns
returns c = record { first_ask = first-ask; next_in_line = next-in-line; order_came_back = order-came-back; plea = plea; reported = reported; among_all = among-all; on_links = on-links }
