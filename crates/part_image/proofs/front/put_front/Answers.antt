use Rattle.std.proofs.Common.{ℕ, ◌+◌, ◌≤◌, List, [], ◌∷◌, length, replicate, arith, refl}
use Rattle.base_types.specs.Bytes.{Puts, big_bytes}
use Rattle.base_types.proofs.BytesLemmas.{Puts-append}
use Rattle.part_image.specs.declared.front.BlockFront.{BlockFront}
use Rattle.part_image.specs.declared.front.BlockKind.{BlockKind}
use Rattle.part_image.specs.Front.{front_bytes, kind_number}
use Rattle.part_image.proofs.front.put_front.Goals as goal

-- the eight writes, one right behind the other
whole : (s0 s1 s2 s3 s4 s5 s6 s7 s8 : List ℕ) (at : ℕ) (kind : BlockKind) (f : BlockFront) → at + 32 ≤ length s0
    → Puts s0 s1 at (kind_number kind ∷ []) → Puts s1 s2 (at + 1) (1 ∷ []) → Puts s2 s3 (at + 2) (big_bytes 2 f.number) → Puts s3 s4 (at + 4) (f.seg ∷ []) → Puts s4 s5 (at + 5) (replicate 3 0)
    → Puts s5 s6 (at + 8) (big_bytes 8 f.version) → Puts s6 s7 (at + 16) (big_bytes 8 f.scn) → Puts s7 s8 (at + 24) (big_bytes 8 f.next)
    → Puts s0 s8 at (front_bytes kind f)
whole s0 s1 s2 s3 s4 s5 s6 s7 s8 at kind f fits p1 p2 p3 p4 p5 p6 p7 p8 =
    let a2 = Puts-append s0 s1 s2 (kind_number kind ∷ []) (1 ∷ []) at (at + 1) refl (omega arith) p1 p2 in
    let a3 = Puts-append s0 s2 s3 _ (big_bytes 2 f.number) at (at + 2) refl (omega arith) a2 p3 in
    let a4 = Puts-append s0 s3 s4 _ (f.seg ∷ []) at (at + 4) refl (omega arith) a3 p4 in
    let a5 = Puts-append s0 s4 s5 _ (replicate 3 0) at (at + 5) refl (omega arith) a4 p5 in
    let a6 = Puts-append s0 s5 s6 _ (big_bytes 8 f.version) at (at + 8) refl (omega arith) a5 p6 in
    let a7 = Puts-append s0 s6 s7 _ (big_bytes 8 f.scn) at (at + 16) refl (omega arith) a6 p7 in
    Puts-append s0 s7 s8 _ (big_bytes 8 f.next) at (at + 24) refl (omega arith) a7 p8

pub returns : goal.returns
returns c =
    whole c.args.out.now c.put_u8.new.out c.put_u8-2.new.out c.put_u16.new.out c.put_u8-3.new.out c.put_zeros.new.out c.put_u64.new.out c.put_u64-2.new.out c.put_u64-3.new.out 0 c.args.kind c.args.front.now c.requires
    (rw (← c.number_of.ensures) c.put_u8.ensures) c.put_u8-2.ensures (rw (← c.get.ensures) c.put_u16.ensures) (rw (← c.get-2.ensures) c.put_u8-3.ensures) c.put_zeros.ensures c.put_u64.ensures
    (rw (← c.get-3.ensures) c.put_u64-2.ensures) c.put_u64-3.ensures
