use Rattle.line_laws.proofs.Once.{once}
use Rattle.line_laws.proofs.Worlds.{run_lines}
use Rattle.line_laws.proofs.laws.each_line_is_answered_once.Goals as goal

pub returns : goal.returns
returns c script g first disk book h w disk_now fit starts run =
    once script w.core.journal (run_lines script g first disk book h w disk_now fit starts run).turns
