use Rattle.rac_disk.specs.Content.{Content}
use Rattle.log_laws.specs.Logs.{HasGoodLogs}
use Rattle.log_laws.proofs.Cluster.{Logs, files_of, own_of, shared_of}
use Rattle.log_laws.proofs.Firsts.{good_logs}
use Rattle.log_laws.proofs.Keeps.{and_on}
use Rattle.log_laws.proofs.Runs.{logs_after}
use Rattle.std.proofs.Common.{map}
use Rattle.log_laws.proofs.laws.logs_stay_right.Goals as goal

pub returns : goal.returns
returns c script g first disk created book h w disk_now run fit starts told new short =
    and_on (λ (it : Content). Logs (shared_of w.core) (map own_of w.insts) (files_of it)) HasGoodLogs disk_now.told (good_logs w)
    (logs_after script g first disk created book h w disk_now run fit starts told new short)
