-- A message changes one entry.
use Rattle.protocol_ties.proofs.Directories.{directory-takes-at-one, directory-drops}
use Rattle.protocol_ties.proofs.ties.a_directory_takes_at_one_entry.Goals as goal

pub returns : goal.returns
returns c = record { takes = directory-takes-at-one; drops = directory-drops }
