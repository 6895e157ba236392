use Rattle.std.proofs.Common.{◌∙◌}
use Rattle.rebuild_steps.proofs.Restored.{with_closed, without_closed}
use Rattle.rebuild_steps.proofs.thaws.is_restored.Goals as goal

pub returns-then-all_closed : goal.returns-then-all_closed
returns-then-all_closed c =
    with_closed c.args.inst.now c.args.core.now c.all_closed.result c.are_rebuilt.result c.all_closed.ensures c.if-all_closed.true c.are_rebuilt.ensures

pub returns-else-all_closed : goal.returns-else-all_closed
returns-else-all_closed c =
    c.if-all_closed.false ∙ without_closed c.args.inst.now c.args.core.now c.all_closed.result c.all_closed.ensures c.if-all_closed.false
