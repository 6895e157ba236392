use Rattle.stmt_steps.proofs.backs.apply_dead.Goals as goal

pub apply_adopted-requires-clause-fits : goal.apply_adopted-requires-clause-fits
apply_adopted-requires-clause-fits c = rw c.dead_place-place.ensures c.requires.fits.segment
