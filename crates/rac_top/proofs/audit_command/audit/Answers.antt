-- What an audit tells, it tells of good logs.
use Rattle.rac_top.proofs.AuditLemmas.{told-good}
use Rattle.rac_top.proofs.audit_command.audit.Goals as goal

pub returns-in-Ok-clause-good_logs : goal.returns-in-Ok-clause-good_logs
returns-in-Ok-clause-good_logs g c = λ _. told-good (g.D.SharedDisk.state c.args.disk.now).told c.in-Ok.text.items c.in-Ok.ensures.told
