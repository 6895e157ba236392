use Rattle.std.proofs.Common.{refl, ◌∙◌, length-set}
use Rattle.undo_image.proofs.Headers.{a_slot_is_wrong, all_slots_read, more_slots_read}
use Rattle.undo_image.proofs.header.read_slots.Goals as goal

pub loop-k-init : goal.loop-k-init
loop-k-init c = (refl, record { each = tt; stand = refl })

pub returns-in_err-slot : goal.returns-in_err-slot
returns-in_err-slot c =
    rw c.from_residual.ensures (λ slots are stand. a_slot_is_wrong c.args.bytes.now c.loop-k.k c.loop-k-test.true c.in_err-slot.ensures slots are stand)

pub loop-k-preserved : goal.loop-k-preserved
loop-k-preserved c = (
  length-set c.loop-k.slot-items c.loop-k.k c.in_ok-slot.field-0 ∙ c.loop-k.invariant.0,
  more_slots_read c.args.bytes.now c.loop-k.slot-items c.loop-k.k c.in_ok-slot.field-0 c.loop-k.invariant.0 c.loop-k-test.true c.loop-k.invariant.1 c.in_ok-slot.ensures.0 c.in_ok-slot.ensures.1,
)

pub returns : goal.returns
returns c = all_slots_read c.args.bytes.now c.loop-k.slot-items c.loop-k.k c.loop-k.invariant.0 c.loop-k-test.false c.loop-k.invariant.1
