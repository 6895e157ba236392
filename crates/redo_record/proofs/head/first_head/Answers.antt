use Rattle.std.proofs.Common.{slice_index, arith, refl, sym, ◌∙◌}
use Rattle.redo_types.specs.declared.redo.HeadChange.{HeadChange}
use Rattle.part_image.proofs.Numbers.{IsBytes}
use Rattle.redo_record.proofs.HeadLemmas.{HeadParts, head_parts, head_ranges, head_read}
use Rattle.redo_record.proofs.head.first_head.Goals as goal

pub returns-then-has_ranges : goal.returns-then-has_ranges
returns-then-has_ranges c =
    let bytes = c.args.bytes.now in
    let fits : IsBytes bytes = λ i. omega (arith, c.type_inv.bytes i) in
    let change : HeadChange = record { block = c.get_u16.result; version = c.get_u64.result; slot = slice_index bytes 11; next = c.get_u64-2.result; to = c.in-Some.to } in
    let ranges = c.has_ranges.ensures.0 c.if-has_ranges.true in
    let parts : HeadParts bytes change = record { letter = ranges.0; block = sym c.get_u16.ensures; version = sym c.get_u64.ensures; slot = refl; next = sym c.get_u64-2.ensures; to = c.in-Some.ensures.1 } in
    head_read bytes change fits c.requires parts ranges c.in-Some.ensures.0

pub returns-else-has_ranges : goal.returns-else-has_ranges
returns-else-has_ranges c = λ v is begins.
    let bytes = c.args.bytes.now in
    let parts = head_parts bytes v is begins in
    let change : HeadChange = record { block = c.get_u16.result; version = c.get_u64.result; slot = slice_index bytes 11; next = c.get_u64-2.result; to = c.in-Some.to } in
    let told = c.has_ranges.ensures.1 (head_ranges bytes change v (c.get_u64.ensures ∙ parts.version) parts.slot (c.get_u64-2.ensures ∙ parts.next) parts.letter is) in
    cc (told, c.if-has_ranges.false)
