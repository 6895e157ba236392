use Rattle.board_slots.proofs.Lost.{kept-made}
use Rattle.board_slots.proofs.laws.losses_leave_what_the_rules_make.Goals as goal

pub returns : goal.returns
returns c keep records reasons made = kept-made keep records reasons made
