use Rattle.wave_laws.proofs.Commands.{run_commands}
use Rattle.wave_laws.proofs.laws.each_control_line_is_answered_once.Goals as goal

pub returns : goal.returns
returns c script g first disk book h w disk_now fit starts run =
    (run_commands script g first disk book h w disk_now fit starts run).holds.asked
