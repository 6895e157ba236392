use Rattle.std.proofs.Common.{arith, refl, sym, ◌∙◌}
use Rattle.block_image.specs.declared.row.Row.{Row}
use Rattle.block_image.specs.Block.{row_cells}
use Rattle.part_image.proofs.CellLemmas.{AllStand, fit_where_all_stand, spelled_where_all_stand}
use Rattle.part_image.proofs.Numbers.{IsBytes}
use Rattle.std.proofs.Common.{slice_index}
use Rattle.block_image.proofs.row.first_row.Goals as goal

pub returns-then-names_slot : goal.returns-then-names_slot
returns-then-names_slot c =
    let bytes = c.args.bytes.now in
    let fits : IsBytes bytes = λ i. omega (arith, c.type_inv.bytes i) in
    let read = c.in_ok-value.ensures in
    let row : Row = record { value = c.in_ok-value.value; lock = slice_index bytes 1 } in
    let all : AllStand bytes 0 (row_cells row) = (read.1, (refl, (c.are_zeros.ensures.0 c.if-are_zeros.true, (sym c.get_u64.ensures ∙ read.2, tt)))) in (
      record {
        is = record { fits = fit_where_all_stand bytes 0 (row_cells row) fits all; value = read.0 };
        lock = c.names_slot.ensures.0 c.if-names_slot.true;
      },
      spelled_where_all_stand bytes 0 (row_cells row) fits c.requires all,
    )
