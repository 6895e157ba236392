use Rattle.std.proofs.Common.{refl}
use Rattle.block_image.specs.Block.{clear_row, row_cells}
use Rattle.block_image.proofs.EachLemmas.{put_more}
use Rattle.block_image.proofs.row.put_rows.Goals as goal

pub loop-k-preserved : goal.loop-k-preserved
loop-k-preserved c = put_more row_cells (λ r. refl) c.args.out.now c.loop-k.out c.put_row.new.out c.args.at c.loop-k.k c.args.rows.now clear_row c.loop-k-test.true c.requires c.loop-k.invariant c.put_row.ensures
