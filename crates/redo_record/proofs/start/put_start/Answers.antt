use Rattle.std.proofs.Common.{ℕ, ◌+◌, ◌≤◌, List, [], ◌∷◌, length, arith, refl}
use Rattle.base_types.specs.Bytes.{Puts, big_bytes, xid_bytes}
use Rattle.base_types.proofs.BytesLemmas.{Puts-append}
use Rattle.part_image.specs.Cells.{spelled}
use Rattle.redo_record.specs.declared.start.Start.{Start}
use Rattle.redo_record.specs.Parts.{start_cells, start_of}
use Rattle.redo_record.specs.Redo.{change_count, kind_number, length_of}
use Rattle.redo_record.proofs.start.put_start.Goals as goal

-- the six writes, one right behind the other
whole : (s0 s1 s2 s3 s4 s5 s6 : List ℕ) (at : ℕ) (s : Start) → at + 28 ≤ length s0
    → Puts s0 s1 at (big_bytes 2 (length_of s.kind)) → Puts s1 s2 (at + 2) (kind_number s.kind ∷ []) → Puts s2 s3 (at + 3) (change_count s.kind ∷ [])
    → Puts s3 s4 (at + 4) (xid_bytes s.xid) → Puts s4 s5 (at + 12) (big_bytes 8 s.scn) → Puts s5 s6 (at + 20) (big_bytes 8 s.seq)
    → Puts s0 s6 at (spelled (start_cells s))
whole s0 s1 s2 s3 s4 s5 s6 at s fits p1 p2 p3 p4 p5 p6 =
    let a2 = Puts-append s0 s1 s2 (big_bytes 2 (length_of s.kind)) (kind_number s.kind ∷ []) at (at + 2) refl (omega arith) p1 p2 in
    let a3 = Puts-append s0 s2 s3 _ (change_count s.kind ∷ []) at (at + 3) refl (omega arith) a2 p3 in
    let a4 = Puts-append s0 s3 s4 _ (xid_bytes s.xid) at (at + 4) refl (omega arith) a3 p4 in
    let a5 = Puts-append s0 s4 s5 _ (big_bytes 8 s.scn) at (at + 12) refl (omega arith) a4 p5 in
    Puts-append s0 s5 s6 _ (big_bytes 8 s.seq) at (at + 20) refl (omega arith) a5 p6

pub returns : goal.returns
returns c =
    whole c.args.out.now c.put_u16.new.out c.put_u8.new.out c.put_u8-2.new.out c.put_xid.new.out c.put_u64.new.out c.put_u64-2.new.out c.args.at (start_of c.args.redo.now) c.requires
    (rw (← c.length_of.ensures) c.put_u16.ensures) (rw (← c.number_of.ensures) c.put_u8.ensures) (rw (← c.count_of.ensures) c.put_u8-2.ensures) c.put_xid.ensures (rw (← c.get.ensures) c.put_u64.ensures) c.put_u64-2.ensures
