use Rattle.log_history.proofs.OneWay.{one_way}
use Rattle.log_history.proofs.laws.a_log_reads_one_way.Goals as goal

pub returns : goal.returns
returns c = one_way
