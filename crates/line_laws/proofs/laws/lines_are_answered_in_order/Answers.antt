use Rattle.line_laws.proofs.Worlds.{run_lines}
use Rattle.line_laws.proofs.laws.lines_are_answered_in_order.Goals as goal

pub returns : goal.returns
returns c script g first disk book h w disk_now fit starts run =
    (run_lines script g first disk book h w disk_now fit starts run).turns
