-- What numbers of states and facts tell.
use Rattle.std.proofs.Common.{◌≡◌, ℕ, ◌≤◌, Bool, true, false, List, length, slice_index, refl, arith}
use Rattle.redo_types.specs.declared.undo.TxnState.{TxnState}
use Rattle.redo_types.specs.declared.undo.TxnState.TheVariants.{Never, Active, Committed, RolledBack}
use Rattle.redo_types.specs.declared.undo.UndoRecord.{UndoRecord}
use Rattle.base_types.specs.Bytes.{number_at}
use Rattle.part_image.specs.Cells.{Begins, StandsAt}
use Rattle.part_image.specs.Slots.{bit, bits_of, flag_of, itl_bytes, itl_cells}
use Rattle.part_image.specs.Undo.{HasClearSpaces, HasRanges, IsUndoRecord, state_number, undo_record_bytes, undo_record_cells}
use Rattle.part_image.proofs.CellLemmas.{AllStand, all_stand_where_spelled, spelled_where_all_stand}
use Rattle.part_image.proofs.Numbers.{IsBytes}

-- two states with one number are the same
pub same_state : (a b : TxnState) → state_number a ≡ state_number b → a ≡ b
same_state Never Never h = refl
same_state Active Active h = refl
same_state Committed Committed h = refl
same_state RolledBack RolledBack h = refl
same_state Never Active h = absurd cc
same_state Never Committed h = absurd cc
same_state Never RolledBack h = absurd cc
same_state Active Never h = absurd cc
same_state Active Committed h = absurd cc
same_state Active RolledBack h = absurd cc
same_state Committed Never h = absurd cc
same_state Committed Active h = absurd cc
same_state Committed RolledBack h = absurd cc
same_state RolledBack Never h = absurd cc
same_state RolledBack Active h = absurd cc
same_state RolledBack Committed h = absurd cc

-- two facts with one byte are the same
pub same_bit : (a b : Bool) → bit a ≡ bit b → a ≡ b
same_bit true true h = refl
same_bit false false h = refl
same_bit true false h = absurd cc
same_bit false true h = absurd cc

-- where the numbers of an undo record stand
pub record Parts (bytes : List ℕ) (v : UndoRecord) : Type 0 where
  pub seq : number_at 8 bytes 0 ≡ v.seq
  pub slot : slice_index bytes 8 ≡ v.slot
  pub itl : slice_index bytes 9 ≡ v.itl
  pub row : slice_index bytes 10 ≡ v.row
  pub mine : slice_index bytes 11 ≡ bit v.mine
  pub wrap : number_at 4 bytes 12 ≡ v.wrap
  pub block : number_at 2 bytes 16 ≡ v.block
  pub version : number_at 8 bytes 24 ≡ v.version
  pub prev : number_at 8 bytes 32 ≡ v.prev
  pub old_itl : StandsAt bytes 40 (itl_bytes v.old_itl)
  pub flag : slice_index bytes 56 ≡ flag_of v.old
  pub bits : number_at 8 bytes 64 ≡ bits_of v.old
  pub spaces : HasClearSpaces bytes

pub parts_where_spelled : (bytes : List ℕ) (v : UndoRecord) → IsBytes bytes → 96 ≤ length bytes → IsUndoRecord v → Begins bytes (undo_record_bytes v) → Parts bytes v
parts_where_spelled bytes v fits long is begins =
    let all = all_stand_where_spelled bytes 0 (undo_record_cells v) is.fits begins in
    let five = all.1.1.1.1.1 in
    let ten = five.1.1.1.1.1 in
    let last = ten.1.1.1.1.1 in
    let itl : AllStand bytes 40 (itl_cells v.old_itl) = (ten.0, (ten.1.0, (ten.1.1.0, (ten.1.1.1.0, (ten.1.1.1.1.0, tt))))) in
    record {
      seq = all.0;
      slot = all.1.0;
      itl = all.1.1.0;
      row = all.1.1.1.0;
      mine = all.1.1.1.1.0;
      wrap = five.0;
      block = five.1.0;
      version = five.1.1.1.0;
      prev = five.1.1.1.1.0;
      old_itl = spelled_where_all_stand bytes 40 (itl_cells v.old_itl) fits (omega arith) itl;
      flag = last.0;
      bits = last.1.1.0;
      spaces = (five.1.1.0, last.1.0, last.1.1.1.0);
    }

-- the ranges of an undo record are those of its seven numbers
pub same_ranges : (u v : UndoRecord) → u.seq ≡ v.seq → u.slot ≡ v.slot → u.itl ≡ v.itl → u.row ≡ v.row → u.wrap ≡ v.wrap → u.version ≡ v.version → HasRanges v → HasRanges u
same_ranges u v seq slot itl row wrap version ranges = record {
  seq = omega (arith, ranges.seq);
  slot = omega (arith, ranges.slot);
  some_itl = omega (arith, ranges.some_itl);
  itl = omega (arith, ranges.itl);
  row = omega (arith, ranges.row);
  wrap = omega (arith, ranges.wrap);
  version = omega (arith, ranges.version);
}
