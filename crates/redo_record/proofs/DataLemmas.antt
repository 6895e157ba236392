-- What is read of a change of a data block.
use Rattle.std.proofs.Common.{◌≡◌, ℕ, ◌≤◌, List, [], ◌∷◌, ◌++◌, drop, length, slice_index, refl, sym, ◌∙◌, arith}
use Rattle.redo_types.specs.declared.redo.DataChange.{DataChange}
use Rattle.base_types.specs.Bytes.{number_at}
use Rattle.part_image.specs.Cells.{Begins, Byte, Cell, Number, StandsAt, spelled}
use Rattle.part_image.specs.Slots.{IsItl, IsValue, bit, bits_of, flag_of, itl_bytes, itl_cells}
use Rattle.part_image.proofs.CellLemmas.{AllFit-append, AllFit-left, AllFit-right, AllStand, all_stand_where_spelled, fit_where_all_stand, spelled_where_all_stand}
use Rattle.part_image.proofs.Numbers.{IsBytes}
use Rattle.part_image.proofs.OneValue.{one_itl, one_value}
use Rattle.part_image.proofs.UndoLemmas.{same_bit}
use Rattle.redo_record.specs.Parts.{HasDataRanges}
use Rattle.redo_record.specs.Redo.{IsDataChange, data_cells}
use Rattle.redo_record.proofs.Joined.{put_together, taken_apart}

-- the cells before the ITL slot, and those behind it
abbrev numbers : DataChange → List Cell
numbers d = Byte 3 ∷ Number 2 d.block ∷ Number 8 d.version ∷ Byte d.to.row ∷ Byte d.to.lock ∷ Byte d.to.itl ∷ Byte (bit d.to.fresh) ∷ []

abbrev held : DataChange → List Cell
held d = Byte (flag_of d.to.value) ∷ Number 8 (bits_of d.to.value) ∷ []

-- where the numbers of a change of a data block stand
pub record DataParts (bytes : List ℕ) (d : DataChange) : Type 0 where
  pub letter : slice_index bytes 0 ≡ 3
  pub block : number_at 2 bytes 1 ≡ d.block
  pub version : number_at 8 bytes 3 ≡ d.version
  pub row : slice_index bytes 11 ≡ d.to.row
  pub lock : slice_index bytes 12 ≡ d.to.lock
  pub itl : slice_index bytes 13 ≡ d.to.itl
  pub fresh : slice_index bytes 14 ≡ bit d.to.fresh
  pub slot : StandsAt bytes 15 (itl_bytes d.to.slot)
  pub flag : slice_index bytes 31 ≡ flag_of d.to.value
  pub bits : number_at 8 bytes 32 ≡ bits_of d.to.value

pub data_parts : (bytes : List ℕ) (d : DataChange) → IsDataChange d → Begins bytes (spelled (data_cells d)) → DataParts bytes d
data_parts bytes d is begins =
    let rest = itl_cells d.to.slot ++ held d in
    let both = taken_apart bytes 0 15 (numbers d) rest refl begins in
    let behind = taken_apart bytes 15 31 (itl_cells d.to.slot) (held d) refl both.1 in
    let all = all_stand_where_spelled bytes 0 (numbers d) (AllFit-left (numbers d) rest is.fits) both.0 in
    let last = all_stand_where_spelled bytes 31 (held d) (AllFit-right (itl_cells d.to.slot) (held d) (AllFit-right (numbers d) rest is.fits)) behind.1 in
    record {
      letter = all.0;
      block = all.1.0;
      version = all.1.1.0;
      row = all.1.1.1.0;
      lock = all.1.1.1.1.0;
      itl = all.1.1.1.1.1.0;
      fresh = all.1.1.1.1.1.1.0;
      slot = behind.0;
      flag = last.0;
      bits = last.1.0;
    }

-- what was read is a change of a data block whose bytes stand there
pub data_read : (bytes : List ℕ) (d : DataChange) → IsBytes bytes → 40 ≤ length bytes → DataParts bytes d → HasDataRanges bytes d → IsItl d.to.slot → IsValue d.to.value → IsDataChange d × Begins bytes (spelled (data_cells d))
data_read bytes d fits long parts ranges slot value =
    let all : AllStand bytes 0 (numbers d) = (parts.letter, (parts.block, (parts.version, (parts.row, (parts.lock, (parts.itl, (parts.fresh, tt))))))) in
    let last : AllStand bytes 31 (held d) = (parts.flag, (parts.bits, tt)) in
    let first = spelled_where_all_stand bytes 0 (numbers d) fits (omega arith) all in
    let end = spelled_where_all_stand bytes 31 (held d) fits (omega arith) last in
    let rest = put_together bytes 15 31 (itl_cells d.to.slot) (held d) refl parts.slot end in
    let rest_fits = AllFit-append (itl_cells d.to.slot) (held d) slot.fits (fit_where_all_stand bytes 31 (held d) fits last) in (
      record {
        fits = AllFit-append (numbers d) (itl_cells d.to.slot ++ held d) (fit_where_all_stand bytes 0 (numbers d) fits all) rest_fits;
        version = ranges.version;
        block = ranges.block;
        row = ranges.row;
        lock = ranges.lock;
        some_itl = ranges.some_itl;
        itl = ranges.itl;
        slot = slot;
        value = value;
      },
      put_together bytes 0 15 (numbers d) (itl_cells d.to.slot ++ held d) refl first rest,
    )

-- the ranges are those of five numbers
pub data_ranges : (bytes : List ℕ) (d v : DataChange) → d.block ≡ v.block → d.version ≡ v.version → d.to.row ≡ v.to.row → d.to.lock ≡ v.to.lock → d.to.itl ≡ v.to.itl → slice_index bytes 0 ≡ 3 → IsDataChange v → HasDataRanges bytes d
data_ranges bytes d v block version row lock itl letter is = record {
  letter = letter;
  version = omega (arith, is.version);
  block = omega (arith, is.block);
  row = omega (arith, is.row);
  lock = omega (arith, is.lock);
  some_itl = omega (arith, is.some_itl);
  itl = omega (arith, is.itl);
}

pub one_data : (bytes : List ℕ) (v w : DataChange) → IsDataChange v → IsDataChange w → Begins bytes (spelled (data_cells v)) → Begins bytes (spelled (data_cells w)) → v ≡ w
one_data bytes v w is_v is_w begins_v begins_w =
    let a = data_parts bytes v is_v begins_v in
    let b = data_parts bytes w is_w begins_w in
    let fresh = same_bit v.to.fresh w.to.fresh (sym a.fresh ∙ b.fresh) in
    let slot = one_itl (drop 15 bytes) v.to.slot w.to.slot is_v.slot is_w.slot a.slot b.slot in
    let value = one_value v.to.value w.to.value is_v.value is_w.value (sym a.flag ∙ b.flag) (sym a.bits ∙ b.bits) in
    rw (sym a.block ∙ b.block, sym a.version ∙ b.version, sym a.row ∙ b.row, sym a.lock ∙ b.lock, sym a.itl ∙ b.itl, fresh, slot, value) refl
