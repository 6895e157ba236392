use Rattle.std.proofs.Common.{arith}
use Rattle.base_types.proofs.BytesLemmas.{number_at-apart, xid_at-apart}
use Rattle.base_types.proofs.bytes.put_leaves_others.Goals as goal

pub returns-clause-number : goal.returns-clause-number
returns-clause-number c = number_at-apart c.args.old.now c.args.new.now c.args.text.now c.args.at c.args.place c.args.size c.args.size c.requires.fits c.requires.put c.requires.apart (omega arith)

pub returns-clause-xid : goal.returns-clause-xid
returns-clause-xid c = xid_at-apart c.args.old.now c.args.new.now c.args.text.now c.args.at c.args.place c.args.size c.requires.fits c.requires.put c.requires.apart
