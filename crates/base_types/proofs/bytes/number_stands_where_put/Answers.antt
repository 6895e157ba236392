use Rattle.base_types.proofs.BytesLemmas.{number_at-Puts}
use Rattle.base_types.proofs.bytes.number_stands_where_put.Goals as goal

pub returns : goal.returns
returns c = number_at-Puts c.args.old.now c.args.new.now c.args.at c.args.size c.args.number c.requires.fits c.requires.small c.requires.put
