use Rattle.std.proofs.Common.{refl, ◌∙◌}
use Rattle.block_image.specs.Block.{clear_row}
use Rattle.recovery.proofs.Changes.{eight}
use Rattle.recovery.proofs.fitting.rows_of.Goals as goal

pub returns : goal.returns
returns c =
    rw (c.row_in.ensures, c.row_in-2.ensures, c.row_in-3.ensures, c.row_in-4.ensures, c.row_in-5.ensures, c.row_in-6.ensures, c.row_in-7.ensures, c.row_in-8.ensures)
    (eight c.args.block.now.rows clear_row c.always_is_block.ensures.eight_rows)
