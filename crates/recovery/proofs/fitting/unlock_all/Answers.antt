use Rattle.block_image.specs.Block.{clear_row}
use Rattle.block_image.specs.Changes.{unlocked}
use Rattle.recovery.proofs.Changes.{mapped_more}
use Rattle.recovery.proofs.fitting.unlock_all.Goals as goal

pub loop-row-preserved : goal.loop-row-preserved
loop-row-preserved c =
    rw c.without_lock.ensures (mapped_more (unlocked c.args.itl) c.args.rows.now c.loop-row.rows c.loop-row.row-index clear_row c.loop-row-test.true c.loop-row.invariant)
