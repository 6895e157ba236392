-- A decision was made on the image in hand, and the line doesn't read.
use Rattle.std.proofs.Common.{◌≡◌, ℕ, Some, false, refl, subst, sym}
use Rattle.inst_state.specs.Hand.{image_in_hand}
use Rattle.inst_state.specs.State.{asks_at}
use Rattle.stmt_steps.specs.Change.{IfFits, block_at}
use Rattle.stmt_steps.specs.Visit.{reads}
use Rattle.stmt_steps.proofs.Fits.{decided_fits}
use Rattle.stmt_steps.proofs.changes.change_decided.Goals as goal

pub returns-in-Some-clause-fits : goal.returns-in-Some-clause-fits
returns-in-Some-clause-fits c =
    let other : reads (asks_at c.args.inst.now c.from-z.result) ≡ false = rw (← c.in-Some-Change.ensures) (rw c.in-Some-Change.field-0-is refl) in
    let hand : image_in_hand c.args.inst.now c.from-z.result ≡ Some c.in-Some.image.now = sym c.in-Some.ensures in
    subst (λ (z : ℕ). IfFits c.args.inst.now (block_at c.args.inst.now z) (Some c.decided_on.result)) c.from-z.ensures (decided_fits c.args.inst.now c.from-z.result c.in-Some.image.now c.decided_on.result other hand c.decided_on.ensures.fits)
