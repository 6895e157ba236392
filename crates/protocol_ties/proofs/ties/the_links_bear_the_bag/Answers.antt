-- The links bear the bag.
use Rattle.protocol_ties.proofs.Links.{sent-comes-in, taken-has-gone, nothing-is-borne}
use Rattle.protocol_ties.proofs.ties.the_links_bear_the_bag.Goals as goal

pub returns : goal.returns
returns c = record { sent = sent-comes-in; taken = taken-has-gone; empty = nothing-is-borne }
