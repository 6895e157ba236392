use Rattle.std.proofs.Common.{ℕ, ◌+◌, ◌≤◌, List, [], ◌∷◌, length, arith, refl}
use Rattle.redo_types.specs.declared.redo.UndoChange.{UndoChange}
use Rattle.base_types.specs.Bytes.{Puts, big_bytes}
use Rattle.base_types.proofs.BytesLemmas.{Puts-append}
use Rattle.part_image.specs.Cells.{spelled}
use Rattle.part_image.specs.Undo.{undo_record_bytes}
use Rattle.redo_record.specs.Redo.{undo_cells}
use Rattle.redo_record.proofs.undo.put_some_undo.Goals as goal

-- the five writes, one right behind the other
whole : (s0 s1 s2 s3 s4 s5 : List ℕ) (at : ℕ) (u : UndoChange) → at + 108 ≤ length s0
    → Puts s0 s1 at (2 ∷ []) → Puts s1 s2 (at + 1) (big_bytes 2 u.block) → Puts s2 s3 (at + 3) (big_bytes 8 u.version) → Puts s3 s4 (at + 11) (u.place ∷ [])
    → Puts s4 s5 (at + 12) (undo_record_bytes u.to)
    → Puts s0 s5 at (spelled (undo_cells u))
whole s0 s1 s2 s3 s4 s5 at u fits p1 p2 p3 p4 p5 =
    let a2 = Puts-append s0 s1 s2 (2 ∷ []) (big_bytes 2 u.block) at (at + 1) refl (omega arith) p1 p2 in
    let a3 = Puts-append s0 s2 s3 _ (big_bytes 8 u.version) at (at + 3) refl (omega arith) a2 p3 in
    let a4 = Puts-append s0 s3 s4 _ (u.place ∷ []) at (at + 11) refl (omega arith) a3 p4 in
    Puts-append s0 s4 s5 _ (undo_record_bytes u.to) at (at + 12) refl (omega arith) a4 p5

pub returns : goal.returns
returns c =
    whole c.args.out.now c.put_u8.new.out c.put_u16.new.out c.put_u64.new.out c.put_u8-2.new.out c.put_undo_record.new.out c.args.at c.args.change.now c.requires
    c.put_u8.ensures (rw (← c.get.ensures) c.put_u16.ensures) c.put_u64.ensures c.put_u8-2.ensures c.put_undo_record.ensures
