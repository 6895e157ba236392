use Rattle.std.proofs.Common.{refl}
use Rattle.part_image.specs.Slots.{itl_cells}
use Rattle.block_image.proofs.EachLemmas.{put_more}
use Rattle.block_image.proofs.itl.put_slots.Goals as goal

pub loop-k-preserved : goal.loop-k-preserved
loop-k-preserved c = put_more itl_cells (λ s. refl) c.args.out.now c.loop-k.out c.put_itl.new.out c.args.at c.loop-k.k c.args.slots.now c.index-slots-k.result c.loop-k-test.true c.requires c.loop-k.invariant (rw (← c.index-slots-k.is) c.put_itl.ensures)
