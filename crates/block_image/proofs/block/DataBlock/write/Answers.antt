use Rattle.std.proofs.Common.{◌≡◌, arith, subst}
use Rattle.block_image.specs.Block.{BlockContent, block_bytes}
use Rattle.block_image.proofs.BlockLemmas.{written}
use Rattle.block_image.proofs.block.DataBlock.write.Goals as goal

pub returns : goal.returns
returns c =
    subst (λ (b : BlockContent). c.put_zeros.new.out ≡ block_bytes b) c.self.view_is
    (written c.args.out.now c.put_front.new.out c.put_slots.new.out c.put_rows.new.out c.put_zeros.new.out _ (omega arith) c.self.invariant c.put_front.ensures c.put_slots.ensures c.put_rows.ensures c.put_zeros.ensures)
