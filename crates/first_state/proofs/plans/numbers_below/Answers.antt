use Rattle.std.proofs.Common.{arith}
use Rattle.std.proofs.lemmas.Grind.{common_steps}
use Rattle.first_state.proofs.Numbered.{range_more}
use Rattle.first_state.proofs.plans.numbers_below.Goals as goal

pub loop-z-preserved : goal.loop-z-preserved
loop-z-preserved c = grind (arith, common_steps, range_more 0 c.loop-z.z)
