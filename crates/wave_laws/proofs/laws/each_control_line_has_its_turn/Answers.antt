use Rattle.wave_laws.proofs.Waved.{asked_in_waves, run_waved}
use Rattle.wave_laws.proofs.laws.each_control_line_has_its_turn.Goals as goal

pub returns : goal.returns
returns c script g first disk book h w disk_now fit starts run =
    asked_in_waves script w fit (run_waved script g first disk book h w disk_now fit starts run)
