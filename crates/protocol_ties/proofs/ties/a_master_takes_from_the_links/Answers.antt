-- A master takes the first packet of a link.
use Rattle.protocol_ties.proofs.OnLinks.{master-takes-from-links}
use Rattle.protocol_ties.proofs.ties.a_master_takes_from_the_links.Goals as goal

pub returns : goal.returns
returns c = master-takes-from-links
