use Rattle.cr_copy.proofs.CopyLemmas.{eight_values}
use Rattle.cr_copy.proofs.copy.values_of.Goals as goal

pub returns : goal.returns
returns c =
    rw (c.row.ensures, c.row-2.ensures, c.row-3.ensures, c.row-4.ensures, c.row-5.ensures, c.row-6.ensures, c.row-7.ensures, c.row-8.ensures, c.copy-block.ensures.equal)
    (eight_values c.args.image.now.rows c.copy-block.ensures.block.eight_rows)
