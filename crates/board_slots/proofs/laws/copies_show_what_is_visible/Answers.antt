use Rattle.board_slots.proofs.Shows.{copies-good, copies-halt, copies-show}
use Rattle.board_slots.proofs.laws.copies_show_what_is_visible.Goals as goal

pub returns-clause-rows : goal.returns-clause-rows
returns-clause-rows c = copies-show

pub returns-clause-good : goal.returns-clause-good
returns-clause-good c = copies-good

pub returns-clause-halts : goal.returns-clause-halts
returns-clause-halts c = copies-halt
