use Rattle.cr_copy.proofs.CopyLemmas.{rounds_more}
use Rattle.board_slots.proofs.laws.copies_end.Goals as goal

pub returns : goal.returns
returns c round fuel more last work few enough = rounds_more round fuel more last work few enough
