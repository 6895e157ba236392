use Rattle.std.proofs.Common.{ℕ, ◌+◌, ◌≤◌, List, [], ◌∷◌, length, arith, refl}
use Rattle.redo_types.specs.declared.redo.HeadChange.{HeadChange}
use Rattle.base_types.specs.Bytes.{Puts, big_bytes}
use Rattle.base_types.proofs.BytesLemmas.{Puts-append}
use Rattle.part_image.specs.Cells.{spelled}
use Rattle.part_image.specs.Undo.{txn_slot_bytes}
use Rattle.redo_record.specs.Redo.{head_cells}
use Rattle.redo_record.proofs.head.put_head.Goals as goal

-- the six writes, one right behind the other
whole : (s0 s1 s2 s3 s4 s5 s6 : List ℕ) (at : ℕ) (h : HeadChange) → at + 60 ≤ length s0
    → Puts s0 s1 at (1 ∷ []) → Puts s1 s2 (at + 1) (big_bytes 2 h.block) → Puts s2 s3 (at + 3) (big_bytes 8 h.version) → Puts s3 s4 (at + 11) (h.slot ∷ [])
    → Puts s4 s5 (at + 12) (big_bytes 8 h.next) → Puts s5 s6 (at + 20) (txn_slot_bytes h.to)
    → Puts s0 s6 at (spelled (head_cells h))
whole s0 s1 s2 s3 s4 s5 s6 at h fits p1 p2 p3 p4 p5 p6 =
    let a2 = Puts-append s0 s1 s2 (1 ∷ []) (big_bytes 2 h.block) at (at + 1) refl (omega arith) p1 p2 in
    let a3 = Puts-append s0 s2 s3 _ (big_bytes 8 h.version) at (at + 3) refl (omega arith) a2 p3 in
    let a4 = Puts-append s0 s3 s4 _ (h.slot ∷ []) at (at + 11) refl (omega arith) a3 p4 in
    let a5 = Puts-append s0 s4 s5 _ (big_bytes 8 h.next) at (at + 12) refl (omega arith) a4 p5 in
    Puts-append s0 s5 s6 _ (txn_slot_bytes h.to) at (at + 20) refl (omega arith) a5 p6

pub returns : goal.returns
returns c =
    whole c.args.out.now c.put_u8.new.out c.put_u16.new.out c.put_u64.new.out c.put_u8-2.new.out c.put_u64-2.new.out c.put_txn_slot.new.out c.args.at c.args.change.now c.requires
    c.put_u8.ensures (rw (← c.get.ensures) c.put_u16.ensures) c.put_u64.ensures c.put_u8-2.ensures c.put_u64-2.ensures c.put_txn_slot.ensures
