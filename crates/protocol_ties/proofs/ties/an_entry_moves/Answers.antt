-- A bucket moves whole, and at each of its blocks the entry does.
use Rattle.protocol_ties.proofs.Directories.{buckets-move-whole, entry-leaves, entry-comes, entry-stays-shown}
use Rattle.protocol_ties.proofs.ties.an_entry_moves.Goals as goal

pub returns : goal.returns
returns c = record { whole = buckets-move-whole; leaves = entry-leaves; comes = entry-comes; shown = entry-stays-shown }
