use Rattle.std.proofs.Common.{arith}
use Rattle.base_types.proofs.BytesLemmas.{xid_at-Puts}
use Rattle.base_types.proofs.bytes.xid_stands_where_put.Goals as goal

pub returns : goal.returns
returns c = xid_at-Puts c.args.old.now c.args.new.now c.args.at c.args.xid c.requires.fits (omega arith) c.requires.put
