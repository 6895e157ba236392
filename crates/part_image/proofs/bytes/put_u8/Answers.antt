use Rattle.std.proofs.Common.{arith}
use Rattle.base_types.proofs.BytesLemmas.{Puts-set}
use Rattle.part_image.proofs.bytes.put_u8.Goals as goal

pub returns : goal.returns
returns c = Puts-set c.args.out.now c.args.at c.args.byte (omega (arith, c.requires))
