-- A step back was decided on the image in hand.
use Rattle.std.proofs.Common.{◌≡◌, ℕ, Some, true, subst, sym, arith}
use Rattle.inst_state.specs.Hand.{image_in_hand}
use Rattle.inst_state.specs.Needs.{goes_back}
use Rattle.stmt_steps.specs.Back.{IfBackFits}
use Rattle.stmt_steps.specs.Change.{block_at}
use Rattle.stmt_steps.proofs.Fits.{back_fits}
use Rattle.stmt_steps.proofs.backs.back_decided.Goals as goal

pub returns-in-Some-Some-clause-fits : goal.returns-in-Some-Some-clause-fits
returns-in-Some-Some-clause-fits c =
    let goes : goes_back c.args.inst.now c.from-z.result ≡ true = grind (arith, c.if-not-goes_back.false, c.goes_back.ensures) in
    let hand : image_in_hand c.args.inst.now c.from-z.result ≡ Some c.in-Some-Some.image.now = sym (rw c.in-Some-Some.is-1 at c.image_in_hand.ensures) in
    subst (λ (z : ℕ). IfBackFits c.args.inst.now (block_at c.args.inst.now z) (Some c.decide_back.result)) c.from-z.ensures (back_fits c.args.inst.now c.from-z.result c.in-Some-Some.image.now c.decide_back.result goes hand c.decide_back.ensures.fits)
