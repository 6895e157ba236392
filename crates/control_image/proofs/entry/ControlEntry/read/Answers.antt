use Rattle.std.proofs.Common.{arith, rules, sym, ◌≤◌, length}
use Rattle.part_image.proofs.CellLemmas.{AllStand, fit_where_all_stand, spelled_where_all_stand}
use Rattle.part_image.proofs.Numbers.{IsBytes}
use Rattle.control_image.specs.declared.entry.ControlEntry.{ControlEntry}
use Rattle.control_image.specs.Entry.{entry_cells}
use Rattle.control_image.proofs.entry.ControlEntry.read.Goals as goal

pub returns : goal.returns
returns c =
    let bytes = c.args.bytes.now in
    let entry : ControlEntry = record { status = c.in_ok-status_of.field-0; position = c.get_u64.result; highest_scn = c.get_u64-2.result; highest_end_scn = c.get_u64-3.result } in
    let all : AllStand bytes 0 (entry_cells entry) =
    (search rules, (search rules, (search rules, (sym c.get_u64.ensures, (sym c.get_u64-2.ensures, (sym c.get_u64-3.ensures, tt)))))) in
    let fits : IsBytes bytes = c.fits-bytes in
    let long : 32 ≤ length bytes = omega (arith, c.told-bytes) in
    (fit_where_all_stand bytes 0 (entry_cells entry) fits all, spelled_where_all_stand bytes 0 (entry_cells entry) fits long all)
