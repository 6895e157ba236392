use Rattle.std.proofs.Common.{ℕ, List, subst}
use Rattle.std.proofs.lemmas.List.{take_rest}
use Rattle.part_image.specs.Cells.{Reads}
use Rattle.redo_record.specs.Redo.{IsUndoChange, undo_cells}
use Rattle.redo_record.proofs.undo.read_undo.Goals as goal

pub returns : goal.returns
returns c = subst (λ (part : List ℕ). Reads IsUndoChange undo_cells part c.first_undo.result) (take_rest c.args.bytes.now c.args.at) c.first_undo.ensures
