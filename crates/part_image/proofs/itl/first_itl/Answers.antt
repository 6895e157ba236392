use Rattle.std.proofs.Common.{arith, refl}
use Rattle.part_image.proofs.SlotLemmas.{itl_read}
use Rattle.part_image.proofs.itl.first_itl.Goals as goal

pub returns-then-is_slot : goal.returns-then-is_slot
returns-then-is_slot c =
    itl_read c.args.bytes.now _ (rw (c.get_xid.ensures, c.get_u64.ensures) refl) (λ i. omega (arith, c.type_inv.bytes i)) c.requires
    (c.are_zeros.ensures.0 c.if-are_zeros.true) (c.is_slot.ensures.0 c.if-is_slot.true)
