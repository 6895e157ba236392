use Rattle.board_slots.proofs.AtHand.{may-read, shows-at-hand}
use Rattle.board_slots.proofs.laws.what_is_at_hand_tells_readers.Goals as goal

pub returns-clause-told : goal.returns-clause-told
returns-clause-told c = may-read

pub returns-clause-rows : goal.returns-clause-rows
returns-clause-rows c = shows-at-hand
