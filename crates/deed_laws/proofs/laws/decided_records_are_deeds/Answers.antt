use Rattle.deed_laws.proofs.DeedLemmas.{decided-deed}
use Rattle.deed_laws.proofs.laws.decided_records_are_deeds.Goals as goal

pub returns : goal.returns
returns c records ask image segment handed clock on_disk redo sound seen e is may = decided-deed records sound ask image segment handed clock seen on_disk redo e is may
