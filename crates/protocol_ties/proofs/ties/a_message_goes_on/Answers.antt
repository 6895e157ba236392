-- A message goes on to the master.
use Rattle.protocol_ties.proofs.Passes.{message-goes-on}
use Rattle.protocol_ties.proofs.ties.a_message_goes_on.Goals as goal

pub returns : goal.returns
returns c = message-goes-on
