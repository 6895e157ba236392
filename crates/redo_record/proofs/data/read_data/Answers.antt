use Rattle.std.proofs.Common.{ℕ, List, subst}
use Rattle.std.proofs.lemmas.List.{take_rest}
use Rattle.part_image.specs.Cells.{Reads}
use Rattle.redo_record.specs.Redo.{IsDataChange, data_cells}
use Rattle.redo_record.proofs.data.read_data.Goals as goal

pub returns : goal.returns
returns c = subst (λ (part : List ℕ). Reads IsDataChange data_cells part c.first_data.result) (take_rest c.args.bytes.now c.args.at) c.first_data.ensures
