use Rattle.line_laws.proofs.Earlier.{earlier}
use Rattle.line_laws.proofs.Worlds.{run_lines}
use Rattle.line_laws.proofs.laws.a_wave_rises_once_the_earlier_are_answered.Goals as goal

pub returns : goal.returns
returns c script g first disk book h w disk_now fit starts run =
    earlier script w fit (run_lines script g first disk book h w disk_now fit starts run)
