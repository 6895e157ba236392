use Rattle.stmt_steps.proofs.marks.make_dead_end.Goals as goal

pub apply_adopted-requires-clause-fits : goal.apply_adopted-requires-clause-fits
apply_adopted-requires-clause-fits c = rw c.dead_place-place.ensures c.requires.fits
