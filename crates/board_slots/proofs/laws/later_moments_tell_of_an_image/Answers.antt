use Rattle.board_slots.proofs.Moments.{told-later}
use Rattle.board_slots.proofs.Rings.{ring-holds}
use Rattle.board_slots.proofs.laws.later_moments_tell_of_an_image.Goals as goal

pub returns-clause-headers : goal.returns-clause-headers
returns-clause-headers c = told-later

pub returns-clause-undo : goal.returns-clause-undo
returns-clause-undo c = ring-holds
