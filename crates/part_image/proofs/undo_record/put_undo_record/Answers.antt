use Rattle.std.proofs.Common.{ℕ, ◌+◌, ◌≤◌, List, [], ◌∷◌, ◌++◌, length, replicate, arith, refl}
use Rattle.redo_types.specs.declared.undo.UndoRecord.{UndoRecord}
use Rattle.base_types.specs.Bytes.{Puts, big_bytes}
use Rattle.base_types.proofs.BytesLemmas.{Puts-append}
use Rattle.part_image.specs.Slots.{bit, bits_of, flag_of, itl_bytes}
use Rattle.part_image.specs.Undo.{undo_record_bytes}
use Rattle.part_image.proofs.undo_record.put_undo_record.Goals as goal

-- the first five writes, one right behind the other
first : (s0 s1 s2 s3 s4 s5 : List ℕ) (at : ℕ) (u : UndoRecord) → at + 96 ≤ length s0
    → Puts s0 s1 at (big_bytes 8 u.seq) → Puts s1 s2 (at + 8) (u.slot ∷ []) → Puts s2 s3 (at + 9) (u.itl ∷ []) → Puts s3 s4 (at + 10) (u.row ∷ []) → Puts s4 s5 (at + 11) (bit u.mine ∷ [])
    → Puts s0 s5 at (big_bytes 8 u.seq ++ u.slot ∷ u.itl ∷ u.row ∷ bit u.mine ∷ [])
first s0 s1 s2 s3 s4 s5 at u fits p1 p2 p3 p4 p5 =
    let a2 = Puts-append s0 s1 s2 (big_bytes 8 u.seq) (u.slot ∷ []) at (at + 8) refl (omega arith) p1 p2 in
    let a3 = Puts-append s0 s2 s3 _ (u.itl ∷ []) at (at + 9) refl (omega arith) a2 p3 in
    let a4 = Puts-append s0 s3 s4 _ (u.row ∷ []) at (at + 10) refl (omega arith) a3 p4 in
    Puts-append s0 s4 s5 _ (bit u.mine ∷ []) at (at + 11) refl (omega arith) a4 p5

-- the other ten, one right behind the other
whole : (s0 s5 s6 s7 s8 s9 s10 s11 s12 s13 s14 s15 : List ℕ) (at : ℕ) (u : UndoRecord) → at + 96 ≤ length s0
    → Puts s0 s5 at (big_bytes 8 u.seq ++ u.slot ∷ u.itl ∷ u.row ∷ bit u.mine ∷ [])
    → Puts s5 s6 (at + 12) (big_bytes 4 u.wrap) → Puts s6 s7 (at + 16) (big_bytes 2 u.block) → Puts s7 s8 (at + 18) (replicate 6 0) → Puts s8 s9 (at + 24) (big_bytes 8 u.version)
    → Puts s9 s10 (at + 32) (big_bytes 8 u.prev) → Puts s10 s11 (at + 40) (itl_bytes u.old_itl) → Puts s11 s12 (at + 56) (flag_of u.old ∷ []) → Puts s12 s13 (at + 57) (replicate 7 0)
    → Puts s13 s14 (at + 64) (big_bytes 8 (bits_of u.old)) → Puts s14 s15 (at + 72) (replicate 24 0)
    → Puts s0 s15 at (undo_record_bytes u)
whole s0 s5 s6 s7 s8 s9 s10 s11 s12 s13 s14 s15 at u fits a5 p6 p7 p8 p9 p10 p11 p12 p13 p14 p15 =
    let a6 = Puts-append s0 s5 s6 _ (big_bytes 4 u.wrap) at (at + 12) refl (omega arith) a5 p6 in
    let a7 = Puts-append s0 s6 s7 _ (big_bytes 2 u.block) at (at + 16) refl (omega arith) a6 p7 in
    let a8 = Puts-append s0 s7 s8 _ (replicate 6 0) at (at + 18) refl (omega arith) a7 p8 in
    let a9 = Puts-append s0 s8 s9 _ (big_bytes 8 u.version) at (at + 24) refl (omega arith) a8 p9 in
    let a10 = Puts-append s0 s9 s10 _ (big_bytes 8 u.prev) at (at + 32) refl (omega arith) a9 p10 in
    let a11 = Puts-append s0 s10 s11 _ (itl_bytes u.old_itl) at (at + 40) refl (omega arith) a10 p11 in
    let a12 = Puts-append s0 s11 s12 _ (flag_of u.old ∷ []) at (at + 56) refl (omega arith) a11 p12 in
    let a13 = Puts-append s0 s12 s13 _ (replicate 7 0) at (at + 57) refl (omega arith) a12 p13 in
    let a14 = Puts-append s0 s13 s14 _ (big_bytes 8 (bits_of u.old)) at (at + 64) refl (omega arith) a13 p14 in
    Puts-append s0 s14 s15 _ (replicate 24 0) at (at + 72) refl (omega arith) a14 p15

pub returns : goal.returns
returns c =
    let u = c.args.undo.now in
    let at = c.args.at in
    let front = first c.args.out.now c.put_u64.new.out c.put_u8.new.out c.put_u8-2.new.out c.put_u8-3.new.out c.put_u8-4.new.out at u c.requires
    c.put_u64.ensures c.put_u8.ensures c.put_u8-2.ensures c.put_u8-3.ensures (rw (← c.bit_of.ensures) c.put_u8-4.ensures) in
    whole c.args.out.now c.put_u8-4.new.out c.put_u32.new.out c.put_u16.new.out c.put_zeros.new.out c.put_u64-2.new.out c.put_u64-3.new.out c.put_itl.new.out c.put_u8-5.new.out c.put_zeros-2.new.out c.put_u64-4.new.out c.put_zeros-3.new.out at u c.requires
    front c.put_u32.ensures (rw (← c.get.ensures) c.put_u16.ensures) c.put_zeros.ensures c.put_u64-2.ensures c.put_u64-3.ensures c.put_itl.ensures
    (rw (← c.flag_of.ensures) c.put_u8-5.ensures) c.put_zeros-2.ensures (rw (← c.bits_of.ensures) c.put_u64-4.ensures) c.put_zeros-3.ensures
