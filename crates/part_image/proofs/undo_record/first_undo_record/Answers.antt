use Rattle.std.proofs.Common.{[], ◌∷◌, ◌++◌, slice_index, arith, refl, sym, ◌∙◌}
use Rattle.redo_types.specs.declared.undo.UndoRecord.{UndoRecord}
use Rattle.part_image.specs.Undo.{HasRanges, undo_record_cells}
use Rattle.part_image.specs.Cells.{Byte, Number, Zeros}
use Rattle.part_image.specs.Slots.{bits_of, flag_of, itl_cells}
use Rattle.part_image.proofs.CellLemmas.{AllStand, all_stand_where_spelled, fit_where_all_stand, spelled_where_all_stand}
use Rattle.part_image.proofs.Numbers.{IsBytes}
use Rattle.part_image.proofs.UndoLemmas.{parts_where_spelled, same_ranges}
use Rattle.part_image.proofs.undo_record.first_undo_record.Goals.{else-has_clear_spaces-via-then-has_clear_spaces+else-has_ranges, else-has_clear_spaces-via-else-has_clear_spaces}
use Rattle.part_image.proofs.undo_record.first_undo_record.Goals as goal

pub returns-in_default-read_itl : goal.returns-in_default-read_itl
returns-in_default-read_itl c = λ v is begins.
    let fits : IsBytes c.args.bytes.now = λ i. omega (arith, c.type_inv.bytes i) in
    let parts = parts_where_spelled c.args.bytes.now v fits c.requires is begins in
    c.in_default-read_itl.ensures v.old_itl is.old_itl parts.old_itl

pub returns-in_default-value_of : goal.returns-in_default-value_of
returns-in_default-value_of c = λ v is begins.
    let fits : IsBytes c.args.bytes.now = λ i. omega (arith, c.type_inv.bytes i) in
    let parts = parts_where_spelled c.args.bytes.now v fits c.requires is begins in
    c.in_default-value_of.ensures v.old is.old parts.flag (c.get_u64.ensures ∙ parts.bits)

pub returns-then-has_ranges : goal.returns-then-has_ranges
returns-then-has_ranges c =
    let bytes = c.args.bytes.now in
    let fits : IsBytes bytes = λ i. omega (arith, c.type_inv.bytes i) in
    let slot = c.in-Some-read_itl.old_itl in
    let old = c.in-Some-value_of.old in
    let itl = all_stand_where_spelled bytes 40 (itl_cells slot) c.in-Some-read_itl.ensures.0.fits c.in-Some-read_itl.ensures.1 in
    let spaces = c.has_clear_spaces.ensures.0 c.if-has_clear_spaces.true in
    let ranges = c.has_ranges.ensures.0 c.if-has_ranges.true in
    let value = c.in-Some-value_of.ensures in
    let undo : UndoRecord = record { seq = c.get_u64-2.result; slot = slice_index bytes 8; itl = slice_index bytes 9; row = slice_index bytes 10; mine = c.in-Some.mine; wrap = c.get_u32.result; block = c.get_u16.result; version = c.get_u64-3.result; prev = c.get_u64-4.result; old_itl = slot; old = old } in
    let last : AllStand bytes 56 (Byte (flag_of old) ∷ Zeros 7 ∷ Number 8 (bits_of old) ∷ Zeros 24 ∷ []) =
    (value.1, (spaces.1, (sym c.get_u64.ensures ∙ value.2, (spaces.2, tt)))) in
    let behind : AllStand bytes 40 (itl_cells slot ++ Byte (flag_of old) ∷ Zeros 7 ∷ Number 8 (bits_of old) ∷ Zeros 24 ∷ []) =
    (itl.0, (itl.1.0, (itl.1.1.0, (itl.1.1.1.0, (itl.1.1.1.1.0, last))))) in
    let all : AllStand bytes 0 (undo_record_cells undo) =
    (sym c.get_u64-2.ensures, (refl, (refl, (refl, (c.in-Some.ensures, (sym c.get_u32.ensures, (sym c.get_u16.ensures, (spaces.0, (sym c.get_u64-3.ensures, (sym c.get_u64-4.ensures, behind)))))))))) in (
      record { fits = fit_where_all_stand bytes 0 (undo_record_cells undo) fits all; ranges = ranges; old_itl = c.in-Some-read_itl.ensures.0; old = value.0 },
      spelled_where_all_stand bytes 0 (undo_record_cells undo) fits c.requires all,
    )

pub returns-else-has_clear_spaces : goal.returns-else-has_clear_spaces
returns-else-has_clear_spaces c = λ v is begins.
    let bytes = c.args.bytes.now in
    let fits : IsBytes bytes = λ i. omega (arith, c.type_inv.bytes i) in
    let parts = parts_where_spelled bytes v fits c.requires is begins in
    let ranges : HasRanges v = is.ranges in
    elim c.else-has_clear_spaces.branch [
      | else-has_clear_spaces-via-then-has_clear_spaces+else-has_ranges w ↦ absurd (let told = w.has_ranges.ensures.1 (same_ranges _ v (c.get_u64-2.ensures ∙ parts.seq) parts.slot parts.itl parts.row (c.get_u32.ensures ∙ parts.wrap) (c.get_u64-3.ensures ∙ parts.version) ranges) in cc (told, w.if-has_ranges.false))
      | else-has_clear_spaces-via-else-has_clear_spaces w ↦ absurd (let told = c.has_clear_spaces.ensures.1 parts.spaces in cc (told, w.if-has_clear_spaces.false))
    ]
