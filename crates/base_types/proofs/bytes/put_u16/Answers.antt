use Rattle.byteorder.specs.Endian.{big_bytes}
use Rattle.base_types.proofs.BytesLemmas.{Puts-put_mid}
use Rattle.base_types.proofs.bytes.put_u16.Goals as goal

pub returns : goal.returns
returns c = Puts-put_mid c.args.out.now (big_bytes 2 c.args.number) c.write_u16.new.buf c.args.at c.requires c.write_u16.ensures
