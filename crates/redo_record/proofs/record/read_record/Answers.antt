use Rattle.std.proofs.Common.{subst}
use Rattle.redo_types.specs.declared.redo.Redo.{Redo}
use Rattle.redo_types.specs.declared.redo.RedoKind.{RedoKind}
use Rattle.part_image.specs.Cells.{StandsAt, spelled}
use Rattle.redo_record.specs.Parts.{IsRowOf, IsUndoOf, row_place, start_of}
use Rattle.redo_record.specs.Redo.{cells_of, data_cells}
use Rattle.redo_record.proofs.RecordLemmas.{RecordParts, kind_is, record_of_parts, record_parts}
use Rattle.redo_record.proofs.record.read_record.Goals as goal

pub returns-in_default : goal.returns-in_default
returns-in_default c = λ r is begins.
    let parts = record_parts c.args.bytes.now r is begins in
    c.in_default.ensures (start_of r) parts.is_start parts.start

pub returns-in_default-read_head : goal.returns-in_default-read_head
returns-in_default-read_head c = λ r is begins.
    let parts = record_parts c.args.bytes.now r is begins in
    c.in_default-read_head.ensures r.head parts.is_head parts.head

pub returns-in_default-read_undo_of : goal.returns-in_default-read_undo_of
returns-in_default-read_undo_of c = λ r is begins.
    let bytes = c.args.bytes.now in
    let parts = record_parts bytes r is begins in
    let start = c.in-Some in
    let kind = kind_is bytes start.start r start.ensures.0 start.ensures.1 parts in
    c.in_default-read_undo_of.ensures r.undo (subst (λ (k : RedoKind). IsUndoOf k r.undo) kind parts.is_undo) parts.undo

pub returns-in_default-read_row_of : goal.returns-in_default-read_row_of
returns-in_default-read_row_of c = λ r is begins.
    let bytes = c.args.bytes.now in
    let parts = record_parts bytes r is begins in
    let start = c.in-Some in
    let kind = kind_is bytes start.start r start.ensures.0 start.ensures.1 parts in
    c.in_default-read_row_of.ensures r.row (subst (λ (k : RedoKind). IsRowOf k r.row) kind parts.is_row)
    (subst (λ (k : RedoKind). StandsAt bytes (row_place k) (spelled (cells_of data_cells r.row))) kind parts.row)

pub returns : goal.returns
returns c =
    let bytes = c.args.bytes.now in
    let start = c.in-Some.start in
    let redo : Redo = record { kind = start.kind; xid = start.xid; scn = start.scn; seq = start.seq; head = c.in-Some-read_head.head; undo = c.in-Some-read_undo_of.undo; row = c.in-Some-read_row_of.row } in
    let parts : RecordParts bytes redo = record {
      is_start = c.in-Some.ensures.0;
      start = c.in-Some.ensures.1;
      is_head = c.in-Some-read_head.ensures.0;
      head = c.in-Some-read_head.ensures.1;
      is_undo = c.in-Some-read_undo_of.ensures.0;
      undo = c.in-Some-read_undo_of.ensures.1;
      is_row = c.in-Some-read_row_of.ensures.0;
      row = c.in-Some-read_row_of.ensures.1;
    } in
    record_of_parts bytes redo parts
