use Rattle.block_image.proofs.ChangeLemmas.{restored_is}
use Rattle.block_image.proofs.block.DataBlock.restore.Goals as goal

pub invariant_of-self : goal.invariant_of-self
invariant_of-self c =
    rw (c.unlock.ensures, c.from.ensures, c.from-2.ensures)
    (restored_is _ c.args.itl c.args.slot c.args.row c.args.value c.self.invariant c.requires.slot c.requires.value c.requires.some_itl c.requires.itl c.requires.row)
