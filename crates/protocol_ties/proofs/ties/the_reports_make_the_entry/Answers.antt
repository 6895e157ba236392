-- The reports make the entry.
use Rattle.protocol_ties.proofs.Reports.{reports-make-the-entry, new-block-is-shown}
use Rattle.protocol_ties.proofs.ties.the_reports_make_the_entry.Goals as goal

pub returns : goal.returns
returns c = record { thaw = reports-make-the-entry; new = new-block-is-shown }
