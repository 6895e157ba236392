use Rattle.std.proofs.Common.{ℕ, List, subst}
use Rattle.std.proofs.lemmas.List.{take_rest}
use Rattle.part_image.specs.Cells.{Reads}
use Rattle.redo_record.specs.Redo.{IsHeadChange, head_cells}
use Rattle.redo_record.proofs.head.read_head.Goals as goal

pub returns : goal.returns
returns c = subst (λ (part : List ℕ). Reads IsHeadChange head_cells part c.first_head.result) (take_rest c.args.bytes.now c.args.at) c.first_head.ensures
