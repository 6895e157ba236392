use Rattle.std.proofs.Common.{ℕ, ◌+◌, ◌≤◌, List, [], ◌∷◌, length, arith, refl}
use Rattle.redo_types.specs.declared.redo.DataChange.{DataChange}
use Rattle.base_types.specs.Bytes.{Puts, big_bytes}
use Rattle.base_types.proofs.BytesLemmas.{Puts-append}
use Rattle.part_image.specs.Cells.{spelled}
use Rattle.part_image.specs.Slots.{bit, bits_of, flag_of, itl_bytes}
use Rattle.redo_record.specs.Redo.{data_cells}
use Rattle.redo_record.proofs.data.put_some_data.Goals as goal

-- the ten writes, one right behind the other
whole : (s0 s1 s2 s3 s4 s5 s6 s7 s8 s9 s10 : List ℕ) (at : ℕ) (d : DataChange) → at + 40 ≤ length s0
    → Puts s0 s1 at (3 ∷ []) → Puts s1 s2 (at + 1) (big_bytes 2 d.block) → Puts s2 s3 (at + 3) (big_bytes 8 d.version) → Puts s3 s4 (at + 11) (d.to.row ∷ [])
    → Puts s4 s5 (at + 12) (d.to.lock ∷ []) → Puts s5 s6 (at + 13) (d.to.itl ∷ []) → Puts s6 s7 (at + 14) (bit d.to.fresh ∷ []) → Puts s7 s8 (at + 15) (itl_bytes d.to.slot)
    → Puts s8 s9 (at + 31) (flag_of d.to.value ∷ []) → Puts s9 s10 (at + 32) (big_bytes 8 (bits_of d.to.value))
    → Puts s0 s10 at (spelled (data_cells d))
whole s0 s1 s2 s3 s4 s5 s6 s7 s8 s9 s10 at d fits p1 p2 p3 p4 p5 p6 p7 p8 p9 p10 =
    let a2 = Puts-append s0 s1 s2 (3 ∷ []) (big_bytes 2 d.block) at (at + 1) refl (omega arith) p1 p2 in
    let a3 = Puts-append s0 s2 s3 _ (big_bytes 8 d.version) at (at + 3) refl (omega arith) a2 p3 in
    let a4 = Puts-append s0 s3 s4 _ (d.to.row ∷ []) at (at + 11) refl (omega arith) a3 p4 in
    let a5 = Puts-append s0 s4 s5 _ (d.to.lock ∷ []) at (at + 12) refl (omega arith) a4 p5 in
    let a6 = Puts-append s0 s5 s6 _ (d.to.itl ∷ []) at (at + 13) refl (omega arith) a5 p6 in
    let a7 = Puts-append s0 s6 s7 _ (bit d.to.fresh ∷ []) at (at + 14) refl (omega arith) a6 p7 in
    let a8 = Puts-append s0 s7 s8 _ (itl_bytes d.to.slot) at (at + 15) refl (omega arith) a7 p8 in
    let a9 = Puts-append s0 s8 s9 _ (flag_of d.to.value ∷ []) at (at + 31) refl (omega arith) a8 p9 in
    Puts-append s0 s9 s10 _ (big_bytes 8 (bits_of d.to.value)) at (at + 32) refl (omega arith) a9 p10

pub returns : goal.returns
returns c =
    whole c.args.out.now c.put_u8.new.out c.put_u16.new.out c.put_u64.new.out c.put_u8-2.new.out c.put_u8-3.new.out c.put_u8-4.new.out c.put_u8-5.new.out c.put_itl.new.out c.put_u8-6.new.out c.put_u64-2.new.out c.args.at c.args.change.now c.requires
    c.put_u8.ensures (rw (← c.get.ensures) c.put_u16.ensures) c.put_u64.ensures c.put_u8-2.ensures c.put_u8-3.ensures c.put_u8-4.ensures
    (rw (← c.bit_of.ensures) c.put_u8-5.ensures) c.put_itl.ensures (rw (← c.flag_of.ensures) c.put_u8-6.ensures) (rw (← c.bits_of.ensures) c.put_u64-2.ensures)
