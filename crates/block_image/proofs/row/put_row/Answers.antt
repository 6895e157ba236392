use Rattle.std.proofs.Common.{ℕ, ◌+◌, ◌≤◌, List, [], ◌∷◌, length, replicate, arith, refl}
use Rattle.base_types.specs.Bytes.{Puts, big_bytes}
use Rattle.base_types.proofs.BytesLemmas.{Puts-append}
use Rattle.part_image.specs.Cells.{spelled}
use Rattle.part_image.specs.Slots.{bits_of, flag_of}
use Rattle.block_image.specs.declared.row.Row.{Row}
use Rattle.block_image.specs.Block.{row_cells}
use Rattle.block_image.proofs.row.put_row.Goals as goal

-- the four writes, one right behind the other
whole : (s0 s1 s2 s3 s4 : List ℕ) (at : ℕ) (r : Row) → at + 16 ≤ length s0
    → Puts s0 s1 at (flag_of r.value ∷ []) → Puts s1 s2 (at + 1) (r.lock ∷ []) → Puts s2 s3 (at + 2) (replicate 6 0) → Puts s3 s4 (at + 8) (big_bytes 8 (bits_of r.value))
    → Puts s0 s4 at (spelled (row_cells r))
whole s0 s1 s2 s3 s4 at r fits p1 p2 p3 p4 =
    let a2 = Puts-append s0 s1 s2 (flag_of r.value ∷ []) (r.lock ∷ []) at (at + 1) refl (omega arith) p1 p2 in
    let a3 = Puts-append s0 s2 s3 _ (replicate 6 0) at (at + 2) refl (omega arith) a2 p3 in
    Puts-append s0 s3 s4 _ (big_bytes 8 (bits_of r.value)) at (at + 8) refl (omega arith) a3 p4

pub returns : goal.returns
returns c =
    whole c.args.out.now c.put_u8.new.out c.put_u8-2.new.out c.put_zeros.new.out c.put_u64.new.out c.args.at c.args.row c.requires
    (rw (← c.flag_of.ensures) c.put_u8.ensures) c.put_u8-2.ensures c.put_zeros.ensures (rw (← c.bits_of.ensures) c.put_u64.ensures)
