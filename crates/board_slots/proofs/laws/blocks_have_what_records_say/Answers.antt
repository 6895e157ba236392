use Rattle.board_slots.proofs.Seen.{blocks-numbered, blocks-seen}
use Rattle.board_slots.proofs.laws.blocks_have_what_records_say.Goals as goal

pub returns-clause-seen : goal.returns-clause-seen
returns-clause-seen c = blocks-seen

pub returns-clause-number : goal.returns-clause-number
returns-clause-number c = blocks-numbered
