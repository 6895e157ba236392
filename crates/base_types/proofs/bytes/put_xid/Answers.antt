use Rattle.std.proofs.Common.{ℕ, List, [], ◌∷◌, ◌+◌, ◌≤◌, length, set, refl, arith, length-set}
use Rattle.byteorder.specs.Endian.{big_bytes}
use Rattle.base_types.specs.declared.names.Xid.{Xid}
use Rattle.base_types.specs.Bytes.{Puts, xid_bytes}
use Rattle.base_types.proofs.BytesLemmas.{Puts-append, Puts-set}
use Rattle.base_types.proofs.bytes.put_xid.Goals as goal

-- the four writes of a transaction's name, one right behind the other, put its bytes
whole : (old zeros new : List ℕ) (at : ℕ) (x : Xid) → at + 8 ≤ length old → Puts (set (set old at x.seg) (at + 1) x.slot) zeros (at + 2) (0 ∷ 0 ∷ []) → Puts zeros new (at + 4) (big_bytes 4 x.wrap) → Puts old new at (xid_bytes x)
whole old zeros new at x fits put_zeros put_wrap =
    let seg = set old at x.seg in
    let slot = set seg (at + 1) x.slot in
    let put_seg = Puts-set old at x.seg (omega arith) in
    let put_slot = Puts-set seg (at + 1) x.slot (omega (arith, length-set old at x.seg)) in
    let two = Puts-append old seg slot (x.seg ∷ []) (x.slot ∷ []) at (at + 1) refl (omega arith) put_seg put_slot in
    let four = Puts-append old slot zeros (x.seg ∷ x.slot ∷ []) (0 ∷ 0 ∷ []) at (at + 2) refl (omega arith) two put_zeros in
    Puts-append old zeros new (x.seg ∷ x.slot ∷ 0 ∷ 0 ∷ []) (big_bytes 4 x.wrap) at (at + 4) refl (omega arith) four put_wrap

pub returns : goal.returns
returns c =
    whole c.args.out.now c.put_u16.new.out c.put_u32.new.out c.args.at c.args.xid c.requires
    (rw (← c.seg.view_is) c.put_u16.ensures) c.put_u32.ensures
