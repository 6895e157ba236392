use Rattle.std.proofs.Common.{slice_index, arith, refl, sym, ◌∙◌}
use Rattle.redo_types.specs.declared.redo.DataChange.{DataChange}
use Rattle.part_image.proofs.Numbers.{IsBytes}
use Rattle.redo_record.proofs.DataLemmas.{DataParts, data_parts, data_ranges, data_read}
use Rattle.redo_record.proofs.data.first_data.Goals as goal

pub returns-in_default-read_itl : goal.returns-in_default-read_itl
returns-in_default-read_itl c = λ v is begins. c.in_default-read_itl.ensures v.to.slot is.slot (data_parts c.args.bytes.now v is begins).slot

pub returns-in_default-value_of : goal.returns-in_default-value_of
returns-in_default-value_of c = λ v is begins.
    let parts = data_parts c.args.bytes.now v is begins in
    c.in_default-value_of.ensures v.to.value is.value parts.flag (c.get_u64.ensures ∙ parts.bits)

pub returns-then-has_ranges : goal.returns-then-has_ranges
returns-then-has_ranges c =
    let bytes = c.args.bytes.now in
    let fits : IsBytes bytes = λ i. omega (arith, c.type_inv.bytes i) in
    let slot = c.in-Some-read_itl in
    let value = c.in-Some-value_of in
    let change : DataChange = record { block = c.get_u16.result; version = c.get_u64-2.result; to = record { row = slice_index bytes 11; lock = slice_index bytes 12; itl = slice_index bytes 13; fresh = c.in-Some.fresh; slot = slot.slot; value = value.value } } in
    let ranges = c.has_ranges.ensures.0 c.if-has_ranges.true in
    let parts : DataParts bytes change = record {
      letter = ranges.letter;
      block = sym c.get_u16.ensures;
      version = sym c.get_u64-2.ensures;
      row = refl;
      lock = refl;
      itl = refl;
      fresh = c.in-Some.ensures;
      slot = slot.ensures.1;
      flag = value.ensures.1;
      bits = sym c.get_u64.ensures ∙ value.ensures.2;
    } in
    data_read bytes change fits c.requires parts ranges slot.ensures.0 value.ensures.0

pub returns-else-has_ranges : goal.returns-else-has_ranges
returns-else-has_ranges c = λ v is begins.
    let bytes = c.args.bytes.now in
    let parts = data_parts bytes v is begins in
    let told = c.has_ranges.ensures.1 (data_ranges bytes _ v (c.get_u16.ensures ∙ parts.block) (c.get_u64-2.ensures ∙ parts.version) parts.row parts.lock parts.itl parts.letter is) in
    cc (told, c.if-has_ranges.false)
