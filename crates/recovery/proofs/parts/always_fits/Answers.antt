use Rattle.std.proofs.Common.{arith}
use Rattle.recovery.proofs.Changes.{state_fits}
use Rattle.recovery.proofs.parts.always_fits.Goals as goal

pub returns : goal.returns
returns c = (omega arith, (state_fits c.args.slot.now.state, (tt, (omega arith, (omega arith, (omega arith, (omega arith, tt)))))))
