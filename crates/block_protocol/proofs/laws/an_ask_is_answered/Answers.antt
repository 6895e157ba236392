-- The asker steps back where it holds nothing, and is answered.
use Rattle.block_protocol.proofs.Handler.{answers}
use Rattle.block_protocol.proofs.laws.an_ask_is_answered.Goals as goal

pub returns : goal.returns
returns c = answers
