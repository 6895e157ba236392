-- Bytes are those of one value at most.
use Rattle.std.proofs.Common.{◌≡◌, ℕ, ◌≤◌, List, drop, length, ℤ, refl, sym, ap, ◌∙◌}
use Rattle.std.proofs.lemmas.Int.{to_z-of_z}
use Rattle.std.specs.Int.{w64, cast_signed}
use Rattle.redo_types.specs.declared.blocks.ItlSlot.{ItlSlot}
use Rattle.redo_types.specs.declared.undo.TxnSlot.{TxnSlot}
use Rattle.redo_types.specs.declared.undo.UndoRecord.{UndoRecord}
use Rattle.base_types.specs.declared.value.Value.{Value}
use Rattle.base_types.specs.declared.value.Value.TheVariants.{Absent, Num}
use Rattle.part_image.specs.declared.front.BlockFront.{BlockFront}
use Rattle.part_image.specs.declared.front.BlockKind.{BlockKind}
use Rattle.part_image.specs.Cells.{Begins}
use Rattle.part_image.specs.Front.{IsFront, front_bytes, front_fields}
use Rattle.part_image.specs.Cells.{first_fields}
use Rattle.part_image.specs.Slots.{IsItl, IsValue, bits_of, flag_of, itl_bytes}
use Rattle.part_image.specs.Undo.{IsTxnSlot, IsUndoRecord, txn_slot_bytes, txn_slot_cells, undo_record_bytes}
use Rattle.part_image.proofs.CellLemmas.{all_stand_where_spelled}
use Rattle.part_image.proofs.Numbers.{IsBytes}
use Rattle.part_image.proofs.SlotLemmas.{itl_is}
use Rattle.part_image.proofs.UndoLemmas.{parts_where_spelled, same_bit, same_state}

pub one_itl : (bytes : List ℕ) (v w : ItlSlot) → IsItl v → IsItl w → Begins bytes (itl_bytes v) → Begins bytes (itl_bytes w) → v ≡ w
one_itl bytes v w is_v is_w begins_v begins_w = sym (itl_is bytes v is_v begins_v).0 ∙ (itl_is bytes w is_w begins_w).0

pub one_value : (v w : Value) → IsValue v → IsValue w → flag_of v ≡ flag_of w → bits_of v ≡ bits_of w → v ≡ w
one_value Absent Absent is_v is_w flag bits = refl
one_value Absent (Num n) is_v is_w flag bits = absurd cc
one_value (Num m) Absent is_v is_w flag bits = absurd cc
one_value (Num m) (Num n) is_v is_w flag bits = ap (λ (z : ℤ). Num z) (sym (to_z-of_z w64 m is_v) ∙ ap (cast_signed w64) bits ∙ to_z-of_z w64 n is_w)

pub one_txn_slot : (bytes : List ℕ) (v w : TxnSlot) → IsTxnSlot v → IsTxnSlot w → Begins bytes (txn_slot_bytes v) → Begins bytes (txn_slot_bytes w) → v ≡ w
one_txn_slot bytes v w is_v is_w begins_v begins_w =
    let a = all_stand_where_spelled bytes 0 (txn_slot_cells v) is_v.fits begins_v in
    let b = all_stand_where_spelled bytes 0 (txn_slot_cells w) is_w.fits begins_w in
    let wrap = sym a.0 ∙ b.0 in
    let state = same_state v.state w.state (sym a.1.0 ∙ b.1.0) in
    let first = sym a.1.1.1.0 ∙ b.1.1.1.0 in
    let last = sym a.1.1.1.1.0 ∙ b.1.1.1.1.0 in
    let scn = sym a.1.1.1.1.1.0 ∙ b.1.1.1.1.1.0 in
    let prev = sym a.1.1.1.1.1.1.0 ∙ b.1.1.1.1.1.1.0 in
    rw (wrap, state, first, last, scn, prev) refl

pub one_undo_record : (bytes : List ℕ) (v w : UndoRecord) → IsBytes bytes → 96 ≤ length bytes → IsUndoRecord v → IsUndoRecord w → Begins bytes (undo_record_bytes v) → Begins bytes (undo_record_bytes w) → v ≡ w
one_undo_record bytes v w fits long is_v is_w begins_v begins_w =
    let a = parts_where_spelled bytes v fits long is_v begins_v in
    let b = parts_where_spelled bytes w fits long is_w begins_w in
    let old_itl = one_itl (drop 40 bytes) v.old_itl w.old_itl is_v.old_itl is_w.old_itl a.old_itl b.old_itl in
    let old = one_value v.old w.old is_v.old is_w.old (sym a.flag ∙ b.flag) (sym a.bits ∙ b.bits) in
    let mine = same_bit v.mine w.mine (sym a.mine ∙ b.mine) in
    rw (sym a.seq ∙ b.seq, sym a.slot ∙ b.slot, sym a.itl ∙ b.itl, sym a.row ∙ b.row, mine, sym a.wrap ∙ b.wrap, sym a.block ∙ b.block, sym a.version ∙ b.version, sym a.prev ∙ b.prev, old_itl, old) refl

pub one_front : (kind : BlockKind) (bytes : List ℕ) (v w : BlockFront) → IsFront kind v → IsFront kind w → Begins bytes (front_bytes kind v) → Begins bytes (front_bytes kind w) → v ≡ w
one_front kind bytes v w is_v is_w begins_v begins_w =
    let a = all_stand_where_spelled bytes 0 (first_fields 7 (front_fields kind v)) is_v.fits begins_v in
    let b = all_stand_where_spelled bytes 0 (first_fields 7 (front_fields kind w)) is_w.fits begins_w in
    let number = sym a.1.1.0 ∙ b.1.1.0 in
    let seg = sym a.1.1.1.0 ∙ b.1.1.1.0 in
    let version = sym a.1.1.1.1.1.0 ∙ b.1.1.1.1.1.0 in
    let scn = sym a.1.1.1.1.1.1.0 ∙ b.1.1.1.1.1.1.0 in
    let next = sym a.1.1.1.1.1.1.1.0 ∙ b.1.1.1.1.1.1.1.0 in
    rw (number, seg, version, scn, next) refl
