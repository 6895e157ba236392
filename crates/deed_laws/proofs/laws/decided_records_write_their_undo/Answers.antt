use Rattle.deed_laws.proofs.RingLemmas.{decided-writes, keeps-undo}
use Rattle.deed_laws.proofs.laws.decided_records_write_their_undo.Goals as goal

pub returns-clause-writes : goal.returns-clause-writes
returns-clause-writes c = decided-writes

pub returns-clause-keeps : goal.returns-clause-keeps
returns-clause-keeps c = keeps-undo
