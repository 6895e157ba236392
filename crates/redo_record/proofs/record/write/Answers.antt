use Rattle.std.proofs.Common.{◌+◌, ◌≤◌, length, refl}
use Rattle.part_image.specs.Cells.{spelled}
use Rattle.redo_record.specs.Parts.{start_cells, start_of}
use Rattle.redo_record.specs.Redo.{cells_of, data_cells, head_cells, undo_cells}
use Rattle.redo_record.proofs.RecordLemmas.{record_size, row_in_room, written}
use Rattle.redo_record.proofs.record.write.Goals as goal

pub returns-clause-bytes : goal.returns-clause-bytes
returns-clause-bytes c =
    let r = c.args.redo.now in
    let next = c.put_undo-next.result in
    let room : next + length (spelled (cells_of data_cells r.row)) ≤ length c.args.out.now = row_in_room r next _ c.requires c.put_undo-next.ensures.next c.told-out in
    written c.args.out.now c.put_start.new.out c.put_head.new.out c.put_undo-next.new.out c.put_data.new.out next
    (start_cells (start_of r)) (head_cells r.head) (cells_of undo_cells r.undo) (cells_of data_cells r.row) refl refl c.put_undo-next.ensures.next room
    c.put_start.ensures c.put_head.ensures c.put_undo-next.ensures.puts c.put_data.ensures

pub returns-clause-size : goal.returns-clause-size
returns-clause-size c = record_size c.args.redo.now c.requires
