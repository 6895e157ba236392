use Rattle.board_slots.proofs.Headers.{slot-tells}
use Rattle.board_slots.proofs.laws.headers_tell_ends.Goals as goal

pub returns : goal.returns
returns c slot turns x h is used = slot-tells slot turns x h is used
