use Rattle.std.proofs.Common.{refl, ◌∙◌, length-set}
use Rattle.undo_image.proofs.UndoBlocks.{a_place_is_wrong, all_places_read, more_places_read}
use Rattle.undo_image.proofs.undo_block.read_places.Goals as goal

pub loop-k-init : goal.loop-k-init
loop-k-init c = (refl, record { each = tt; stand = refl })

pub returns-in_err-place : goal.returns-in_err-place
returns-in_err-place c =
    rw c.from_residual.ensures (λ places are stand. a_place_is_wrong c.args.bytes.now c.loop-k.k c.loop-k-test.true c.in_err-place.ensures places are stand)

pub loop-k-preserved : goal.loop-k-preserved
loop-k-preserved c = (
  length-set c.loop-k.place-items c.loop-k.k c.in_ok-place.field-0 ∙ c.loop-k.invariant.0,
  more_places_read c.args.bytes.now c.loop-k.place-items c.loop-k.k c.in_ok-place.field-0 c.loop-k.invariant.0 c.loop-k-test.true c.loop-k.invariant.1 c.in_ok-place.ensures.0 c.in_ok-place.ensures.1,
)

pub returns : goal.returns
returns c = all_places_read c.args.bytes.now c.loop-k.place-items c.loop-k.k c.loop-k.invariant.0 c.loop-k-test.false c.loop-k.invariant.1
