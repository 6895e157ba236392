use Rattle.std.proofs.Common.{ℕ, List, subst}
use Rattle.std.proofs.lemmas.List.{take_rest}
use Rattle.part_image.specs.Cells.{Reads}
use Rattle.part_image.specs.Undo.{IsUndoRecord, undo_record_cells}
use Rattle.part_image.proofs.undo_record.read_undo_record.Goals as goal

pub returns : goal.returns
returns c = subst (λ (part : List ℕ). Reads IsUndoRecord undo_record_cells part c.first_undo_record.result) (take_rest c.args.bytes.now c.args.at) c.first_undo_record.ensures
