use Rattle.std.proofs.Common.{take}
use Rattle.base_types.specs.Bytes.{Puts}
use Rattle.part_image.specs.Cells.{spelled}
use Rattle.block_image.specs.Parts.{rows_cells}
use Rattle.block_image.proofs.row.put_rows.Given as goal

abbrev pub invariant-loop-k : goal.invariant-loop-k
invariant-loop-k l = Puts l.initial.out l.out l.at (spelled (rows_cells (take l.k l.rows)))
