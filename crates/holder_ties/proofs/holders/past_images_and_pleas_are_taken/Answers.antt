-- Past images are dropped, and pleas to write are taken.
use Rattle.holder_ties.proofs.Pasts.{past-is-dropped, plea-comes-back, plea-is-met, plea-is-noted}
use Rattle.holder_ties.proofs.holders.past_images_and_pleas_are_taken.Goals as goal

pub returns : goal.returns
returns c = record { drops = past-is-dropped; back = plea-comes-back; notes = plea-is-noted; meets = plea-is-met }
