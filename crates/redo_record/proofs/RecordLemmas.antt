-- A record is its start and its changes.
use Rattle.std.proofs.Common.{◌≡◌, ℕ, ◌+◌, ◌≤◌, List, ◌++◌, drop, length, refl, sym, ap, subst, ◌∙◌, arith, Option, None, Some, IfSome}
use Rattle.std.proofs.lemmas.List.{append_assoc, length-append}
use Rattle.base_types.specs.Bytes.{Puts}
use Rattle.redo_types.specs.declared.redo.DataChange.{DataChange}
use Rattle.redo_types.specs.declared.redo.Redo.{Redo}
use Rattle.redo_types.specs.declared.redo.RedoKind.{RedoKind}
use Rattle.redo_types.specs.declared.redo.RedoKind.TheVariants.{Change, Commit, Lock, RollbackEnd, StepBack}
use Rattle.redo_types.specs.declared.redo.UndoChange.{UndoChange}
use Rattle.part_image.specs.Cells.{AllFit, Begins, Cell, StandsAt, spelled}
use Rattle.part_image.proofs.CellLemmas.{AllFit-append, AllFit-left}
use Rattle.part_image.proofs.Numbers.{IsBytes, IsBytes-drop}
use Rattle.redo_record.specs.declared.start.Start.{Start}
use Rattle.redo_record.specs.Parts.{HasRow, HasUndo, IsRowOf, IsStart, IsUndoOf, row_place, start_cells, start_of}
use Rattle.redo_record.specs.Redo.{HasChanges, IsDataChange, IsHeadChange, IsRedo, IsUndoChange, cells_of, data_cells, head_cells, length_of, redo_bytes, redo_cells, undo_cells}
use Rattle.redo_record.proofs.DataLemmas.{one_data}
use Rattle.redo_record.proofs.HeadLemmas.{one_head}
use Rattle.redo_record.proofs.Joined.{put_together, puts_together, spelled-append, taken_apart}
use Rattle.redo_record.proofs.StartLemmas.{one_start}
use Rattle.redo_record.proofs.UndoLemmas.{one_undo}

-- the cells behind the change of the header, and all the changes
abbrev pub later_cells : Redo → List Cell
later_cells r = cells_of undo_cells r.undo ++ cells_of data_cells r.row

abbrev pub change_cells : Redo → List Cell
change_cells r = head_cells r.head ++ later_cells r

pub cells_are : (r : Redo) → redo_cells r ≡ start_cells (start_of r) ++ change_cells r
cells_are r = refl

-- the changes of a kind, one by one
pub undo_of : (kind : RedoKind) (r : Redo) → HasChanges kind r → HasUndo kind r.undo
undo_of Change r has = has.0
undo_of Lock r has = has.0
undo_of StepBack r has = has.0
undo_of Commit r has = has.0
undo_of RollbackEnd r has = has.0

pub row_of : (kind : RedoKind) (r : Redo) → HasChanges kind r → HasRow kind r.row
row_of Change r has = has.1
row_of Lock r has = has.1
row_of StepBack r has = has.1
row_of Commit r has = has.1
row_of RollbackEnd r has = has.1

pub both_of : (kind : RedoKind) (r : Redo) → HasUndo kind r.undo → HasRow kind r.row → HasChanges kind r
both_of Change r undo row = (undo, row)
both_of Lock r undo row = (undo, row)
both_of StepBack r undo row = (undo, row)
both_of Commit r undo row = (undo, row)
both_of RollbackEnd r undo row = (undo, row)

-- where the change of a data block begins
pub row_behind : (kind : RedoKind) (undo : Option UndoChange) → HasUndo kind undo → row_place kind ≡ 88 + length (spelled (cells_of undo_cells undo))
row_behind Change (Some u) has = refl
row_behind Change None has = absurd has
row_behind Lock (Some u) has = refl
row_behind Lock None has = absurd has
row_behind StepBack (Some u) has = absurd has
row_behind StepBack None has = refl
row_behind Commit (Some u) has = absurd has
row_behind Commit None has = refl
row_behind RollbackEnd (Some u) has = absurd has
row_behind RollbackEnd None has = refl

-- and ends
pub row_ends : (kind : RedoKind) (row : Option DataChange) → HasRow kind row → row_place kind + length (spelled (cells_of data_cells row)) ≡ length_of kind
row_ends Change (Some d) has = refl
row_ends Change None has = absurd has
row_ends Lock (Some d) has = refl
row_ends Lock None has = absurd has
row_ends StepBack (Some d) has = refl
row_ends StepBack None has = absurd has
row_ends Commit (Some d) has = absurd has
row_ends Commit None has = refl
row_ends RollbackEnd (Some d) has = absurd has
row_ends RollbackEnd None has = refl

undo_fits : (undo : Option UndoChange) → IfSome undo IsUndoChange → AllFit (cells_of undo_cells undo)
undo_fits (Some u) is = is.fits
undo_fits None is = tt

row_fits : (row : Option DataChange) → IfSome row IsDataChange → AllFit (cells_of data_cells row)
row_fits (Some d) is = is.fits
row_fits None is = tt

-- where the start and the changes of a record stand
pub record RecordParts (bytes : List ℕ) (r : Redo) : Type 0 where
  pub is_start : IsStart (start_of r)
  pub start : Begins bytes (spelled (start_cells (start_of r)))
  pub is_head : IsHeadChange r.head
  pub head : StandsAt bytes 28 (spelled (head_cells r.head))
  pub is_undo : IsUndoOf r.kind r.undo
  pub undo : StandsAt bytes 88 (spelled (cells_of undo_cells r.undo))
  pub is_row : IsRowOf r.kind r.row
  pub row : StandsAt bytes (row_place r.kind) (spelled (cells_of data_cells r.row))

pub record_parts : (bytes : List ℕ) (r : Redo) → IsRedo r → Begins bytes (redo_bytes r) → RecordParts bytes r
record_parts bytes r is begins =
    let undo = undo_of r.kind r is.changes in
    let all : StandsAt bytes 0 (spelled (start_cells (start_of r) ++ change_cells r)) = subst (λ (cells : List Cell). StandsAt bytes 0 (spelled cells)) (cells_are r) begins in
    let start = taken_apart bytes 0 28 (start_cells (start_of r)) (change_cells r) refl all in
    let head = taken_apart bytes 28 88 (head_cells r.head) (later_cells r) refl start.1 in
    let rest = taken_apart bytes 88 (row_place r.kind) (cells_of undo_cells r.undo) (cells_of data_cells r.row) (row_behind r.kind r.undo undo) head.1 in
    let fits : AllFit (start_cells (start_of r) ++ change_cells r) = subst AllFit (cells_are r) is.fits in
    record {
      is_start = record { fits = AllFit-left (start_cells (start_of r)) (change_cells r) fits; ranges = record { xid = is.xid; scn = is.scn; seq = is.seq } };
      start = start.0;
      is_head = is.head;
      head = head.0;
      is_undo = record { has = undo; is = is.undo };
      undo = rest.0;
      is_row = record { has = row_of r.kind r is.changes; is = is.row };
      row = rest.1;
    }

pub record_of_parts : (bytes : List ℕ) (r : Redo) → RecordParts bytes r → IsRedo r × Begins bytes (redo_bytes r)
record_of_parts bytes r parts =
    let later = put_together bytes 88 (row_place r.kind) (cells_of undo_cells r.undo) (cells_of data_cells r.row) (row_behind r.kind r.undo parts.is_undo.has) parts.undo parts.row in
    let changes = put_together bytes 28 88 (head_cells r.head) (later_cells r) refl parts.head later in
    let all = put_together bytes 0 28 (start_cells (start_of r)) (change_cells r) refl parts.start changes in
    let later_fit = AllFit-append (cells_of undo_cells r.undo) (cells_of data_cells r.row) (undo_fits r.undo parts.is_undo.is) (row_fits r.row parts.is_row.is) in
    let changes_fit = AllFit-append (head_cells r.head) (later_cells r) parts.is_head.fits later_fit in
    let fit = AllFit-append (start_cells (start_of r)) (change_cells r) parts.is_start.fits changes_fit in (
      record {
        fits = subst AllFit (sym (cells_are r)) fit;
        changes = both_of r.kind r parts.is_undo.has parts.is_row.has;
        xid = parts.is_start.ranges.xid;
        scn = parts.is_start.ranges.scn;
        seq = parts.is_start.ranges.seq;
        head = parts.is_head;
        undo = parts.is_undo.is;
        row = parts.is_row.is;
      },
      subst (λ (cells : List Cell). StandsAt bytes 0 (spelled cells)) (sym (cells_are r)) all,
    )

-- a kind has a change or hasn't
some_and_none : (kind : RedoKind) (u : UndoChange) → HasUndo kind (Some u) → HasUndo kind None → ⊥
some_and_none Change u some none = none
some_and_none Lock u some none = none
some_and_none StepBack u some none = some
some_and_none Commit u some none = some
some_and_none RollbackEnd u some none = some

some_row_and_none : (kind : RedoKind) (d : DataChange) → HasRow kind (Some d) → HasRow kind None → ⊥
some_row_and_none Change d some none = none
some_row_and_none Lock d some none = none
some_row_and_none StepBack d some none = none
some_row_and_none Commit d some none = some
some_row_and_none RollbackEnd d some none = some

one_undo_of : (bytes : List ℕ) (kind : RedoKind) (v w : Option UndoChange) → IsBytes bytes → IsUndoOf kind v → IsUndoOf kind w → Begins bytes (spelled (cells_of undo_cells v)) → Begins bytes (spelled (cells_of undo_cells w)) → v ≡ w
one_undo_of bytes kind (Some v) (Some w) fits is_v is_w begins_v begins_w = ap (λ (u : UndoChange). Some u) (one_undo bytes v w fits is_v.is is_w.is begins_v begins_w)
one_undo_of bytes kind (Some v) None fits is_v is_w begins_v begins_w = absurd (some_and_none kind v is_v.has is_w.has)
one_undo_of bytes kind None (Some w) fits is_v is_w begins_v begins_w = absurd (some_and_none kind w is_w.has is_v.has)
one_undo_of bytes kind None None fits is_v is_w begins_v begins_w = refl

one_row_of : (bytes : List ℕ) (kind : RedoKind) (v w : Option DataChange) → IsRowOf kind v → IsRowOf kind w → Begins bytes (spelled (cells_of data_cells v)) → Begins bytes (spelled (cells_of data_cells w)) → v ≡ w
one_row_of bytes kind (Some v) (Some w) is_v is_w begins_v begins_w = ap (λ (d : DataChange). Some d) (one_data bytes v w is_v.is is_w.is begins_v begins_w)
one_row_of bytes kind (Some v) None is_v is_w begins_v begins_w = absurd (some_row_and_none kind v is_v.has is_w.has)
one_row_of bytes kind None (Some w) is_v is_w begins_v begins_w = absurd (some_row_and_none kind w is_w.has is_v.has)
one_row_of bytes kind None None is_v is_w begins_v begins_w = refl

-- a record that stands there has the kind that was read
pub kind_is : (bytes : List ℕ) (s : Start) (r : Redo) → IsStart s → Begins bytes (spelled (start_cells s)) → RecordParts bytes r → r.kind ≡ s.kind
kind_is bytes s r is begins parts = ap (λ (x : Start). x.kind) (one_start bytes (start_of r) s parts.is_start is parts.start begins)

-- bytes begin with one record at most
pub one_redo : (bytes : List ℕ) (v w : Redo) → IsBytes bytes → IsRedo v → IsRedo w → Begins bytes (redo_bytes v) → Begins bytes (redo_bytes w) → v ≡ w
one_redo bytes v w fits is_v is_w begins_v begins_w =
    let a = record_parts bytes v is_v begins_v in
    let b = record_parts bytes w is_w begins_w in
    let start = one_start bytes (start_of v) (start_of w) a.is_start b.is_start a.start b.start in
    let kind : w.kind ≡ v.kind = ap (λ (s : Start). s.kind) (sym start) in
    let head = one_head (drop 28 bytes) v.head w.head a.is_head b.is_head a.head b.head in
    let undo = one_undo_of (drop 88 bytes) v.kind v.undo w.undo (IsBytes-drop 88 bytes fits) a.is_undo (subst (λ (k : RedoKind). IsUndoOf k w.undo) kind b.is_undo) a.undo b.undo in
    let there : StandsAt bytes (row_place v.kind) (spelled (cells_of data_cells w.row)) = subst (λ (k : RedoKind). StandsAt bytes (row_place k) (spelled (cells_of data_cells w.row))) kind b.row in
    let row = one_row_of (drop (row_place v.kind) bytes) v.kind v.row w.row a.is_row (subst (λ (k : RedoKind). IsRowOf k w.row) kind b.is_row) a.row there in
    let xid = ap (λ (s : Start). s.xid) start in
    let scn = ap (λ (s : Start). s.scn) start in
    let seq = ap (λ (s : Start). s.seq) start in
    rw (sym kind, xid, scn, seq, head, undo, row) refl

-- the texts of rows of cells, one behind the other, have the length of all
sizes : (start head undo row : List Cell) (a b : ℕ) → length (spelled start) ≡ 28 → length (spelled head) ≡ 60 → a ≡ 88 + length (spelled undo) → a + length (spelled row) ≡ b
    → length (spelled (start ++ (head ++ (undo ++ row)))) ≡ b
sizes start head undo row a b has_start has_head behind ends =
    let one = ap length (spelled-append start (head ++ (undo ++ row))) ∙ length-append (spelled start) (spelled (head ++ (undo ++ row))) in
    let two = ap length (spelled-append head (undo ++ row)) ∙ length-append (spelled head) (spelled (undo ++ row)) in
    let three = ap length (spelled-append undo row) ∙ length-append (spelled undo) (spelled row) in
    omega arith

-- how many bytes a record has
pub record_size : (r : Redo) → IsRedo r → length (redo_bytes r) ≡ length_of r.kind
record_size r is =
    sizes (start_cells (start_of r)) (head_cells r.head) (cells_of undo_cells r.undo) (cells_of data_cells r.row) (row_place r.kind) (length_of r.kind) refl refl
    (row_behind r.kind r.undo (undo_of r.kind r is.changes)) (row_ends r.kind r.row (row_of r.kind r is.changes))

-- the four parts, one right behind the other, are the record
pub written : (s0 s1 s2 s3 s4 : List ℕ) (next : ℕ) (start head undo row : List Cell) → length (spelled start) ≡ 28 → length (spelled head) ≡ 60 → next ≡ 88 + length (spelled undo) → next + length (spelled row) ≤ length s0
    → Puts s0 s1 0 (spelled start) → Puts s1 s2 28 (spelled head) → Puts s2 s3 88 (spelled undo) → Puts s3 s4 next (spelled row)
    → Puts s0 s4 0 (spelled (start ++ (head ++ (undo ++ row))))
written s0 s1 s2 s3 s4 next start head undo row has_start has_head behind fits p1 p2 p3 p4 =
    let two = ap length (spelled-append start head) ∙ length-append (spelled start) (spelled head) in
    let three = ap length (spelled-append (start ++ head) undo) ∙ length-append (spelled (start ++ head)) (spelled undo) in
    let a2 = puts_together s0 s1 s2 0 28 start head (omega arith) (omega arith) p1 p2 in
    let a3 = puts_together s0 s2 s3 0 88 (start ++ head) undo (omega arith) (omega arith) a2 p3 in
    let a4 = puts_together s0 s3 s4 0 next ((start ++ head) ++ undo) row (omega arith) fits a3 p4 in
    let same : ((start ++ head) ++ undo) ++ row ≡ start ++ (head ++ (undo ++ row)) = append_assoc (start ++ head) undo row ∙ append_assoc start head (undo ++ row) in
    subst (λ (cells : List Cell). Puts s0 s4 0 (spelled cells)) same a4

most : (kind : RedoKind) → length_of kind ≤ 236
most Change = omega arith
most Lock = omega arith
most StepBack = omega arith
most Commit = omega arith
most RollbackEnd = omega arith

-- the change of a data block behind that of an undo block has room
pub row_in_room : (r : Redo) (next room : ℕ) → IsRedo r → next ≡ 88 + length (spelled (cells_of undo_cells r.undo)) → room ≡ 236 → next + length (spelled (cells_of data_cells r.row)) ≤ room
row_in_room r next room is behind is_room =
    let place = row_behind r.kind r.undo (undo_of r.kind r is.changes) in
    let ends = row_ends r.kind r.row (row_of r.kind r is.changes) in
    let small = most r.kind in
    let same : next ≡ row_place r.kind = behind ∙ sym place in
    omega arith
