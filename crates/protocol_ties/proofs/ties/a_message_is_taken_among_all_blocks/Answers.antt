-- A message is taken among all blocks.
use Rattle.protocol_ties.proofs.Among.{message-is-taken-among-all}
use Rattle.protocol_ties.proofs.ties.a_message_is_taken_among_all_blocks.Goals as goal

pub returns : goal.returns
returns c = message-is-taken-among-all
