use Rattle.std.proofs.Common.{arith}
use Rattle.std.proofs.lemmas.Grind.{common_steps}
use Rattle.first_state.proofs.Numbered.{numbered_more}
use Rattle.first_state.proofs.plans.openings_of.Goals as goal

pub loop-at-preserved : goal.loop-at-preserved
loop-at-preserved c =
    let more = numbered_more 1 c.args.waves.now c.loop-at.at c.index-waves-at.result (omega arith) in
    grind (arith, common_steps, more, c.index-waves-at.is)
