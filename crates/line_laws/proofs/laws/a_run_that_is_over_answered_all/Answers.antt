use Rattle.line_laws.proofs.All.{all}
use Rattle.line_laws.proofs.Worlds.{run_lines}
use Rattle.line_laws.proofs.laws.a_run_that_is_over_answered_all.Goals as goal

pub returns : goal.returns
returns c script g first disk book h w disk_now fit starts run over =
    all script w fit (run_lines script g first disk book h w disk_now fit starts run) over
