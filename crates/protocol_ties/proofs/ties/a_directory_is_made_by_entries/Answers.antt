-- A directory is made by entries.
use Rattle.protocol_ties.proofs.Made.{directory-is-made-by-entries}
use Rattle.protocol_ties.proofs.ties.a_directory_is_made_by_entries.Goals as goal

pub returns : goal.returns
returns c = directory-is-made-by-entries
