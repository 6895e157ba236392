use Rattle.end_laws.proofs.OwnWorlds.{calm_owns, run_owning}
use Rattle.end_laws.proofs.laws.a_session_owns_what_the_journal_says.Goals as goal

pub returns : goal.returns
returns c script g first disk book h w disk_now fit starts run =
    calm_owns script w (run_owning script g first disk book h w disk_now fit starts run)
