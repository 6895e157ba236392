use Rattle.std.proofs.Common.{ℕ, ◌+◌, ◌≤◌, List, [], ◌∷◌, length, replicate, arith, refl}
use Rattle.redo_types.specs.declared.undo.TxnSlot.{TxnSlot}
use Rattle.base_types.specs.Bytes.{Puts, big_bytes}
use Rattle.base_types.proofs.BytesLemmas.{Puts-append}
use Rattle.part_image.specs.Undo.{state_number, txn_slot_bytes}
use Rattle.part_image.proofs.txn_slot.put_txn_slot.Goals as goal

-- the seven writes, one right behind the other
whole : (s0 s1 s2 s3 s4 s5 s6 s7 : List ℕ) (at : ℕ) (s : TxnSlot) → at + 40 ≤ length s0
    → Puts s0 s1 at (big_bytes 4 s.wrap) → Puts s1 s2 (at + 4) (state_number s.state ∷ []) → Puts s2 s3 (at + 5) (replicate 3 0)
    → Puts s3 s4 (at + 8) (big_bytes 8 s.first) → Puts s4 s5 (at + 16) (big_bytes 8 s.last) → Puts s5 s6 (at + 24) (big_bytes 8 s.scn) → Puts s6 s7 (at + 32) (big_bytes 8 s.prev)
    → Puts s0 s7 at (txn_slot_bytes s)
whole s0 s1 s2 s3 s4 s5 s6 s7 at s fits p1 p2 p3 p4 p5 p6 p7 =
    let a2 = Puts-append s0 s1 s2 (big_bytes 4 s.wrap) (state_number s.state ∷ []) at (at + 4) refl (omega arith) p1 p2 in
    let a3 = Puts-append s0 s2 s3 _ (replicate 3 0) at (at + 5) refl (omega arith) a2 p3 in
    let a4 = Puts-append s0 s3 s4 _ (big_bytes 8 s.first) at (at + 8) refl (omega arith) a3 p4 in
    let a5 = Puts-append s0 s4 s5 _ (big_bytes 8 s.last) at (at + 16) refl (omega arith) a4 p5 in
    let a6 = Puts-append s0 s5 s6 _ (big_bytes 8 s.scn) at (at + 24) refl (omega arith) a5 p6 in
    Puts-append s0 s6 s7 _ (big_bytes 8 s.prev) at (at + 32) refl (omega arith) a6 p7

pub returns : goal.returns
returns c =
    whole c.args.out.now c.put_u32.new.out c.put_u8.new.out c.put_zeros.new.out c.put_u64.new.out c.put_u64-2.new.out c.put_u64-3.new.out c.put_u64-4.new.out c.args.at c.args.slot c.requires
    c.put_u32.ensures (rw (← c.number_of.ensures) c.put_u8.ensures) c.put_zeros.ensures c.put_u64.ensures c.put_u64-2.ensures (rw (← c.get.ensures) c.put_u64-3.ensures) (rw (← c.get-2.ensures) c.put_u64-4.ensures)
