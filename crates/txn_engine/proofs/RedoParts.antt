-- The parts of a redo record make it one.
use Rattle.std.proofs.Common.{◌≡◌, ℕ, ◌+◌, ◌^◌, ◌<◌, ◌≤◌, Bool, true, false, List, [], ◌∷◌, ◌++◌, arith, Option, None, Some, IfSome}
use Rattle.std.specs.Int.{w64}
use Rattle.std.proofs.Math.Facts.{Fits-of_z}
use Rattle.base_types.specs.declared.names.Xid.{Xid}
use Rattle.base_types.specs.declared.value.Value.{Value}
use Rattle.base_types.specs.declared.value.Value.TheVariants.{Absent, Num}
use Rattle.redo_types.specs.declared.blocks.ItlSlot.{ItlSlot}
use Rattle.redo_types.specs.declared.redo.DataChange.{DataChange}
use Rattle.redo_types.specs.declared.redo.HeadChange.{HeadChange}
use Rattle.redo_types.specs.declared.redo.Redo.{Redo}
use Rattle.redo_types.specs.declared.redo.RedoKind.{RedoKind}
use Rattle.redo_types.specs.declared.redo.RedoKind.TheVariants.{Change, Commit, Lock, RollbackEnd, StepBack}
use Rattle.redo_types.specs.declared.redo.UndoChange.{UndoChange}
use Rattle.redo_types.specs.declared.undo.UndoRecord.{UndoRecord}
use Rattle.part_image.specs.Cells.{AllFit, Byte, Cell, Number, Zeros}
use Rattle.part_image.specs.Slots.{IsItl, IsValue, bit, bits_of, flag_of, itl_cells}
use Rattle.part_image.specs.Undo.{HasRanges, IsTxnSlot, IsUndoRecord, txn_slot_cells, undo_record_cells}
use Rattle.part_image.proofs.CellLemmas.{AllFit-append}
use Rattle.redo_record.specs.Redo.{HasChanges, IsDataChange, IsHeadChange, IsRedo, IsUndoChange, IsXid, NamesUndo, cells_of, change_count, data_cells, head_cells, kind_number, length_of, redo_cells, undo_cells}

pub flag_fits : (v : Value) → flag_of v < 256
flag_fits Absent = omega arith
flag_fits (Num n) = omega arith

pub bits_fit : (v : Value) → IsValue v → bits_of v < 256 ^ 8
bits_fit Absent is = omega arith
bits_fit (Num n) is = (Fits-of_z {w = w64} {z = n} is).fits

bit_fits : (b : Bool) → bit b < 256
bit_fits true = omega arith
bit_fits false = omega arith

-- the numbers of a change of a header have room
pub head_is : (h : HeadChange) → h.block < 2 ^ 16 → 1 ≤ h.version → h.version < 2 ^ 64 → h.slot < 8 → 1 ≤ h.next → h.next < 2 ^ 64 → IsTxnSlot h.to → IsHeadChange h
head_is h block some version slot some_next next to = record {
  fits = (omega arith, (omega arith, (omega arith, (omega arith, (omega arith, to.fits)))));
  version = some;
  slot = slot;
  next = some_next;
  to = to;
}

-- an undo record by its numbers
pub undo_record_is : (u : UndoRecord) → HasRanges u → u.seq < 2 ^ 64 → u.wrap < 2 ^ 32 → u.block < 2 ^ 16 → u.version < 2 ^ 64 → u.prev < 2 ^ 64 → IsItl u.old_itl → IsValue u.old → IsUndoRecord u
undo_record_is u ranges seq wrap block version prev old_itl old =
    let slot = ranges.slot in
    let itl = ranges.itl in
    let row = ranges.row in
    let front : AllFit (Number 8 u.seq ∷ Byte u.slot ∷ Byte u.itl ∷ Byte u.row ∷ Byte (bit u.mine) ∷ Number 4 u.wrap ∷ Number 2 u.block ∷ Zeros 6 ∷ Number 8 u.version ∷ Number 8 u.prev ∷ []) =
    (omega arith, (omega arith, (omega arith, (omega arith, (bit_fits u.mine, (omega arith, (omega arith, (tt, (omega arith, (omega arith, tt)))))))))) in
    let held : AllFit (Byte (flag_of u.old) ∷ Zeros 7 ∷ Number 8 (bits_of u.old) ∷ Zeros 24 ∷ []) = (flag_fits u.old, (tt, (bits_fit u.old old, (tt, tt)))) in
    record {
      fits = AllFit-append (Number 8 u.seq ∷ Byte u.slot ∷ Byte u.itl ∷ Byte u.row ∷ Byte (bit u.mine) ∷ Number 4 u.wrap ∷ Number 2 u.block ∷ Zeros 6 ∷ Number 8 u.version ∷ Number 8 u.prev ∷ [])
          (itl_cells u.old_itl ++ (Byte (flag_of u.old) ∷ Zeros 7 ∷ Number 8 (bits_of u.old) ∷ Zeros 24 ∷ [])) front
          (AllFit-append (itl_cells u.old_itl) (Byte (flag_of u.old) ∷ Zeros 7 ∷ Number 8 (bits_of u.old) ∷ Zeros 24 ∷ []) old_itl.fits held);
      ranges = ranges;
      old_itl = old_itl;
      old = old;
    }

-- the numbers of a change of an undo block have room
pub undo_is : (u : UndoChange) → u.block < 2 ^ 16 → 1 ≤ u.version → u.version < 2 ^ 64 → u.place < 4 → IsUndoRecord u.to → IsUndoChange u
undo_is u block some version place to = record {
  fits = (omega arith, (omega arith, (omega arith, (omega arith, to.fits))));
  version = some;
  place = place;
  to = to;
}

-- what a change of a data block does to a row
pub record HasRowRanges (d : DataChange) : Type 0 where
  pub block : d.block < 64
  pub some_version : 1 ≤ d.version
  pub version : d.version < 2 ^ 64
  pub row : d.to.row < 8
  pub lock : d.to.lock ≤ 4
  pub some_itl : 1 ≤ d.to.itl
  pub itl : d.to.itl ≤ 4

pub data_is : (d : DataChange) → HasRowRanges d → IsItl d.to.slot → IsValue d.to.value → IsDataChange d
data_is d ranges slot value =
    let numbers : AllFit (Byte 3 ∷ Number 2 d.block ∷ Number 8 d.version ∷ Byte d.to.row ∷ Byte d.to.lock ∷ Byte d.to.itl ∷ Byte (bit d.to.fresh) ∷ []) =
    (omega arith, (omega (arith, ranges.block), (omega (arith, ranges.version), (omega (arith, ranges.row), (omega (arith, ranges.lock), (omega (arith, ranges.itl), (bit_fits d.to.fresh, tt))))))) in
    let held : AllFit (Byte (flag_of d.to.value) ∷ Number 8 (bits_of d.to.value) ∷ []) = (flag_fits d.to.value, (bits_fit d.to.value value, tt)) in
    record {
      fits = AllFit-append (Byte 3 ∷ Number 2 d.block ∷ Number 8 d.version ∷ Byte d.to.row ∷ Byte d.to.lock ∷ Byte d.to.itl ∷ Byte (bit d.to.fresh) ∷ [])
          (itl_cells d.to.slot ++ (Byte (flag_of d.to.value) ∷ Number 8 (bits_of d.to.value) ∷ [])) numbers
          (AllFit-append (itl_cells d.to.slot) (Byte (flag_of d.to.value) ∷ Number 8 (bits_of d.to.value) ∷ []) slot.fits held);
      version = ranges.some_version;
      block = ranges.block;
      row = ranges.row;
      lock = ranges.lock;
      some_itl = ranges.some_itl;
      itl = ranges.itl;
      slot = slot;
      value = value;
    }

length_fits : (kind : RedoKind) → length_of kind < 256 ^ 2
length_fits Change = omega arith
length_fits Lock = omega arith
length_fits StepBack = omega arith
length_fits Commit = omega arith
length_fits RollbackEnd = omega arith

kind_fits : (kind : RedoKind) → kind_number kind < 256
kind_fits Change = omega arith
kind_fits Lock = omega arith
kind_fits StepBack = omega arith
kind_fits Commit = omega arith
kind_fits RollbackEnd = omega arith

count_fits : (kind : RedoKind) → change_count kind < 256
count_fits Change = omega arith
count_fits Lock = omega arith
count_fits StepBack = omega arith
count_fits Commit = omega arith
count_fits RollbackEnd = omega arith

undo_fits : (undo : Option UndoChange) → IfSome undo IsUndoChange → AllFit (cells_of undo_cells undo)
undo_fits (Some u) is = is.fits
undo_fits None is = tt

row_fits : (row : Option DataChange) → IfSome row IsDataChange → AllFit (cells_of data_cells row)
row_fits (Some d) is = is.fits
row_fits None is = tt

-- the numbers before the changes of a record
pub record HasNumbers (r : Redo) : Type 0 where
  pub xid : IsXid r.xid
  pub wrap : r.xid.wrap < 2 ^ 32
  pub some_scn : 1 ≤ r.scn
  pub scn : r.scn < 2 ^ 64
  pub seq : r.seq < 2 ^ 64
  pub names : NamesUndo r.kind r.seq

pub redo_is : (r : Redo) → HasNumbers r → HasChanges r.kind r → IsHeadChange r.head → IfSome r.undo IsUndoChange → IfSome r.row IsDataChange → IsRedo r
redo_is r numbers changes head undo row =
    let seg = numbers.xid.segment in
    let slot = numbers.xid.slot in
    let wrap = numbers.wrap in
    let scn = numbers.scn in
    let seq = numbers.seq in
    record {
      fits = (
        length_fits r.kind,
        (
          kind_fits r.kind,
          (
            count_fits r.kind,
            (
              omega arith,
              (
                omega arith,
                (
                  tt,
                  (
                    omega arith,
                    (
                      omega arith,
                      (
                        omega arith,
                        AllFit-append (head_cells r.head) (cells_of undo_cells r.undo ++ cells_of data_cells r.row) head.fits
                            (AllFit-append (cells_of undo_cells r.undo) (cells_of data_cells r.row) (undo_fits r.undo undo) (row_fits r.row row)),
                      ),
                    ),
                  ),
                ),
              ),
            ),
          ),
        ),
      );
      changes = changes;
      xid = numbers.xid;
      scn = numbers.some_scn;
      seq = numbers.names;
      head = head;
      undo = undo;
      row = row;
    }
