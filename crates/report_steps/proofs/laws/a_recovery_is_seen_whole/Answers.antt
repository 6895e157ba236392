use Rattle.report_steps.proofs.Seen.{seen-whole}
use Rattle.report_steps.proofs.laws.a_recovery_is_seen_whole.Goals as goal

pub returns : goal.returns
returns c = seen-whole
