use Rattle.std.proofs.Common.{map}
use Rattle.log_laws.proofs.Cluster.{own_of, shared_of}
use Rattle.log_laws.proofs.Reading.{finds_right}
use Rattle.log_laws.proofs.Runs.{logs_after}
use Rattle.log_laws.proofs.laws.a_dead_thread_is_read.Goals as goal

pub returns : goal.returns
returns c script g first disk created book h w disk_now later layout thread found run fit starts told new short few finds =
    finds_right (shared_of w.core) (map own_of w.insts) layout thread found disk_now later few
    (logs_after script g first disk created book h w disk_now run fit starts told new short) finds
