use Rattle.std.proofs.Common.{take}
use Rattle.base_types.specs.Bytes.{Puts}
use Rattle.part_image.specs.Cells.{spelled}
use Rattle.block_image.specs.Parts.{slots_cells}
use Rattle.block_image.proofs.itl.put_slots.Given as goal

abbrev pub invariant-loop-k : goal.invariant-loop-k
invariant-loop-k l = Puts l.initial.out l.out l.at (spelled (slots_cells (take l.k l.slots)))
