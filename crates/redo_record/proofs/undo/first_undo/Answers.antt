use Rattle.std.proofs.Common.{slice_index, arith, refl, sym, ◌∙◌}
use Rattle.redo_types.specs.declared.redo.UndoChange.{UndoChange}
use Rattle.part_image.proofs.Numbers.{IsBytes}
use Rattle.redo_record.proofs.UndoLemmas.{UndoParts, undo_parts, undo_ranges, undo_read}
use Rattle.redo_record.proofs.undo.first_undo.Goals as goal

pub returns-then-has_ranges : goal.returns-then-has_ranges
returns-then-has_ranges c =
    let bytes = c.args.bytes.now in
    let fits : IsBytes bytes = λ i. omega (arith, c.type_inv.bytes i) in
    let change : UndoChange = record { block = c.get_u16.result; version = c.get_u64.result; place = slice_index bytes 11; to = c.in-Some.to } in
    let ranges = c.has_ranges.ensures.0 c.if-has_ranges.true in
    let parts : UndoParts bytes change = record { letter = ranges.0; block = sym c.get_u16.ensures; version = sym c.get_u64.ensures; place = refl; to = c.in-Some.ensures.1 } in
    undo_read bytes change fits c.requires parts ranges c.in-Some.ensures.0

pub returns-else-has_ranges : goal.returns-else-has_ranges
returns-else-has_ranges c = λ v is begins.
    let bytes = c.args.bytes.now in
    let parts = undo_parts bytes v is begins in
    let change : UndoChange = record { block = c.get_u16.result; version = c.get_u64.result; place = slice_index bytes 11; to = c.in-Some.to } in
    let told = c.has_ranges.ensures.1 (undo_ranges bytes change v (c.get_u64.ensures ∙ parts.version) parts.place parts.letter is) in
    cc (told, c.if-has_ranges.false)
