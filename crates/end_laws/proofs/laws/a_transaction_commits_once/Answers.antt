use Rattle.end_laws.proofs.CalmWorlds.{calm_proper, run_known}
use Rattle.end_laws.proofs.laws.a_transaction_commits_once.Goals as goal

pub returns : goal.returns
returns c script g first disk book h w disk_now fit starts run =
    calm_proper script w (run_known script g first disk book h w disk_now fit starts run)
