use Rattle.undo_image.specs.Header.{never_slot}
use Rattle.recovery.proofs.Changes.{eight}
use Rattle.recovery.proofs.dead.slots_of.Goals as goal

pub returns : goal.returns
returns c =
    rw (c.slot.ensures, c.slot-2.ensures, c.slot-3.ensures, c.slot-4.ensures, c.slot-5.ensures, c.slot-6.ensures, c.slot-7.ensures, c.slot-8.ensures)
    (eight c.args.head.now.slots never_slot c.always_is_header.ensures.slots.eight)
