use Rattle.std.proofs.Common.{◌+◌, arith, refl}
use Rattle.base_types.specs.Bytes.{big_bytes, xid_bytes}
use Rattle.base_types.proofs.BytesLemmas.{Puts-append}
use Rattle.part_image.proofs.itl.put_itl.Goals as goal

pub returns : goal.returns
returns c =
    Puts-append c.args.out.now c.put_xid.new.out c.put_u64.new.out (xid_bytes c.args.slot.xid) (big_bytes 8 c.args.slot.seq) c.args.at (c.args.at + 8) refl (omega (arith, c.requires)) c.put_xid.ensures c.put_u64.ensures
