use Rattle.std.proofs.Common.{[], ◌∙◌, ap}
use Rattle.log_history.specs.LogHistory.{in_order}
use Rattle.log_history.proofs.history.history.Goals as goal

pub returns : goal.returns
returns c = c.in_ok-lines.ensures ∙ ap (in_order []) (c.in_ok-standing.ensures 0)
