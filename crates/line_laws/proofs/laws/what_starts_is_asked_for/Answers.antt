use Rattle.line_laws.proofs.Openings.{run_asked}
use Rattle.line_laws.proofs.laws.what_starts_is_asked_for.Goals as goal

pub returns : goal.returns
returns c script g first disk book h w disk_now fit starts run =
    run_asked script g first disk book h w disk_now fit starts run
