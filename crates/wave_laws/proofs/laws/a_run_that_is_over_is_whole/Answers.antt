use Rattle.wave_laws.proofs.Over.{run_overs, whole}
use Rattle.wave_laws.proofs.laws.a_run_that_is_over_is_whole.Goals as goal

pub returns : goal.returns
returns c script g first disk book h w disk_now fit starts run over =
    whole script w fit (run_overs script g first disk book h w disk_now fit starts run) over
