use Rattle.report_steps.proofs.TakenOver.{meets-each-block}
use Rattle.report_steps.proofs.laws.a_take_over_meets_each_block.Goals as goal

pub returns : goal.returns
returns c = meets-each-block
