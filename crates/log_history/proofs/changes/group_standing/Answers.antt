use Rattle.std.proofs.Common.{arith}
use Rattle.std.proofs.lemmas.Grind.{common_steps}
use Rattle.std.proofs.lemmas.List.Elements.{filter_more}
use Rattle.log_history.proofs.changes.group_standing.Goals as goal

pub loop-change-preserved : goal.loop-change-preserved
loop-change-preserved c = λ n. grind (arith, common_steps, filter_more, c.loop-change.invariant n)
