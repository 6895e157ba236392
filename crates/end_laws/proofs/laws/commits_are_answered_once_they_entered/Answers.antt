use Rattle.end_laws.proofs.Worlds.{run_backed}
use Rattle.end_laws.proofs.laws.commits_are_answered_once_they_entered.Goals as goal

pub returns : goal.returns
returns c script g first disk book h w disk_now fit starts run =
    (run_backed script g first disk book h w disk_now starts run).proper
