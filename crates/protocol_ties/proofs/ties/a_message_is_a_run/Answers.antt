-- What a master does with a message is a run.
use Rattle.protocol_ties.proofs.Reacts.{message-is-a-run}
use Rattle.protocol_ties.proofs.Among.{sends-are-of-the-block}
use Rattle.protocol_ties.proofs.ties.a_message_is_a_run.Goals as goal

pub returns : goal.returns
returns c = record { run = message-is-a-run; sends = sends-are-of-the-block }
