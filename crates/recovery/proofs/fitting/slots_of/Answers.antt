use Rattle.part_image.specs.Slots.{unused_itl}
use Rattle.recovery.proofs.Changes.{four}
use Rattle.recovery.proofs.fitting.slots_of.Goals as goal

pub returns : goal.returns
returns c =
    rw (c.itl.ensures, c.itl-2.ensures, c.itl-3.ensures, c.itl-4.ensures)
    (four c.args.block.now.itl unused_itl c.always_is_block.ensures.four_slots)
