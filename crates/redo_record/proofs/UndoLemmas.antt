-- What is read of a change of an undo block.
use Rattle.std.proofs.Common.{◌≡◌, ℕ, ◌≤◌, List, [], ◌∷◌, drop, length, slice_index, refl, sym, ◌∙◌, arith}
use Rattle.redo_types.specs.declared.redo.UndoChange.{UndoChange}
use Rattle.base_types.specs.Bytes.{number_at}
use Rattle.part_image.specs.Cells.{Begins, Byte, Cell, Number, StandsAt, spelled}
use Rattle.part_image.specs.Undo.{IsUndoRecord, undo_record_bytes, undo_record_cells}
use Rattle.part_image.proofs.CellLemmas.{AllFit-append, AllFit-left, AllStand, all_stand_where_spelled, fit_where_all_stand, spelled_where_all_stand}
use Rattle.part_image.proofs.Numbers.{IsBytes, IsBytes-drop}
use Rattle.part_image.proofs.OneValue.{one_undo_record}
use Rattle.redo_record.specs.Parts.{HasUndoRanges}
use Rattle.redo_record.specs.Redo.{IsUndoChange, undo_cells}
use Rattle.redo_record.proofs.Joined.{long_where_begun, put_together, taken_apart}

-- the cells before the undo record
abbrev numbers : UndoChange → List Cell
numbers u = Byte 2 ∷ Number 2 u.block ∷ Number 8 u.version ∷ Byte u.place ∷ []

-- where the numbers of a change of an undo block stand
pub record UndoParts (bytes : List ℕ) (u : UndoChange) : Type 0 where
  pub letter : slice_index bytes 0 ≡ 2
  pub block : number_at 2 bytes 1 ≡ u.block
  pub version : number_at 8 bytes 3 ≡ u.version
  pub place : slice_index bytes 11 ≡ u.place
  pub to : StandsAt bytes 12 (undo_record_bytes u.to)

pub undo_parts : (bytes : List ℕ) (u : UndoChange) → IsUndoChange u → Begins bytes (spelled (undo_cells u)) → UndoParts bytes u
undo_parts bytes u is begins =
    let both = taken_apart bytes 0 12 (numbers u) (undo_record_cells u.to) refl begins in
    let all = all_stand_where_spelled bytes 0 (numbers u) (AllFit-left (numbers u) (undo_record_cells u.to) is.fits) both.0 in
    record { letter = all.0; block = all.1.0; version = all.1.1.0; place = all.1.1.1.0; to = both.1 }

-- what was read is a change of an undo block whose bytes stand there
pub undo_read : (bytes : List ℕ) (u : UndoChange) → IsBytes bytes → 108 ≤ length bytes → UndoParts bytes u → HasUndoRanges bytes u → IsUndoRecord u.to → IsUndoChange u × Begins bytes (spelled (undo_cells u))
undo_read bytes u fits long parts ranges to =
    let all : AllStand bytes 0 (numbers u) = (parts.letter, (parts.block, (parts.version, (parts.place, tt)))) in
    let first = spelled_where_all_stand bytes 0 (numbers u) fits (omega arith) all in (
      record { fits = AllFit-append (numbers u) (undo_record_cells u.to) (fit_where_all_stand bytes 0 (numbers u) fits all) to.fits; version = ranges.1; place = ranges.2; to = to },
      put_together bytes 0 12 (numbers u) (undo_record_cells u.to) refl first parts.to,
    )

-- the ranges are those of two numbers
pub undo_ranges : (bytes : List ℕ) (u v : UndoChange) → u.version ≡ v.version → u.place ≡ v.place → slice_index bytes 0 ≡ 2 → IsUndoChange v → HasUndoRanges bytes u
undo_ranges bytes u v version place letter is = (letter, omega (arith, is.version), omega (arith, is.place))

pub one_undo : (bytes : List ℕ) (v w : UndoChange) → IsBytes bytes → IsUndoChange v → IsUndoChange w → Begins bytes (spelled (undo_cells v)) → Begins bytes (spelled (undo_cells w)) → v ≡ w
one_undo bytes v w fits is_v is_w begins_v begins_w =
    let a = undo_parts bytes v is_v begins_v in
    let b = undo_parts bytes w is_w begins_w in
    let long : 96 ≤ length (drop 12 bytes) = long_where_begun (drop 12 bytes) (undo_record_bytes v.to) a.to in
    let to = one_undo_record (drop 12 bytes) v.to w.to (IsBytes-drop 12 bytes fits) long is_v.to is_w.to a.to b.to in
    rw (sym a.block ∙ b.block, sym a.version ∙ b.version, sym a.place ∙ b.place, to) refl
