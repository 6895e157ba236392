use Rattle.wave_laws.proofs.Turns.{kept, run_turns}
use Rattle.wave_laws.proofs.laws.each_line_has_its_turn.Goals as goal

pub returns : goal.returns
returns c script g first disk book h w disk_now fit starts run =
    kept script w fit (run_turns script g first disk book h w disk_now fit starts run)
