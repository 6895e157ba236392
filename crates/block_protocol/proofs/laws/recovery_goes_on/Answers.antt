-- Who is live forces and writes what it has to, and the newest base is found among the live instances.
use Rattle.block_protocol.proofs.Progress.{can-report, ready-or-rebuilt}
use Rattle.block_protocol.proofs.laws.recovery_goes_on.Goals as goal

pub returns-clause-reports : goal.returns-clause-reports
returns-clause-reports c w i m frozen up unreported = can-report w i m.holds frozen up unreported

pub returns-clause-rebuilds : goal.returns-clause-rebuilds
returns-clause-rebuilds c w n few m frozen led all = ready-or-rebuilt w n few m.holds m.located frozen led all
