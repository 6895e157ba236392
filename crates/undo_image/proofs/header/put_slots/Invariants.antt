use Rattle.std.proofs.Common.{take}
use Rattle.base_types.specs.Bytes.{Puts}
use Rattle.part_image.specs.Cells.{spelled}
use Rattle.undo_image.specs.Header.{slots_cells}
use Rattle.undo_image.proofs.header.put_slots.Given as goal

abbrev pub invariant-loop-k : goal.invariant-loop-k
invariant-loop-k l = Puts l.initial.out l.out 32 (spelled (slots_cells (take l.k l.slots)))
