use Rattle.log_laws.proofs.Runs.{run_has_good_logs}
use Rattle.log_laws.proofs.laws.a_run_leaves_good_logs.Goals as goal

pub returns : goal.returns
returns c script it disk created disk_now fit told new runs = run_has_good_logs script it disk created disk_now fit told new runs
