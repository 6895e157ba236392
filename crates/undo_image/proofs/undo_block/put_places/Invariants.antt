use Rattle.std.proofs.Common.{take}
use Rattle.base_types.specs.Bytes.{Puts}
use Rattle.part_image.specs.Cells.{spelled}
use Rattle.undo_image.specs.UndoBlock.{places_cells}
use Rattle.undo_image.proofs.undo_block.put_places.Given as goal

abbrev pub invariant-loop-k : goal.invariant-loop-k
invariant-loop-k l = Puts l.initial.out l.out 32 (spelled (places_cells (take l.k l.places)))
