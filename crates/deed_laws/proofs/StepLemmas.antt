-- A step back that was decided is one that the rules make.
use Rattle.std.proofs.Common.{◌≡◌, ◌+◌, ◌<◌, Bool, true, false, cond, List, refl, subst, arith}
use Rattle.std.specs.Prelude.{Option, Some, None}
use Rattle.base_types.specs.declared.names.Xid.{Xid}
use Rattle.redo_types.specs.declared.redo.Redo.{Redo}
use Rattle.block_image.specs.Block.{BlockContent}
use Rattle.undo_segment.specs.Segment.{SegmentState}
use Rattle.scn_clock.specs.declared.clock.Clock.{Clock}
use Rattle.txn_engine.specs.declared.back.NextBack.TheVariants.{Undo}
use Rattle.txn_engine.specs.Back.{back_decision, back_record, may_step_back, next_back, row_back}
use Rattle.txn_engine.specs.Parts.{data_change}
use Rattle.board_slots.specs.Block.{by, committed, content, Deed, newest, Open, Record, stage, stands}
use Rattle.board_slots.specs.Images.{IsSeen}
use Rattle.board_slots.specs.Records.{MayBack, Sound}
use Rattle.board_slots.specs.Slots as slots
use Rattle.board_slots.specs.Slots.{IsFair}
use Rattle.board_slots.specs.Views.{undo_of}
use Rattle.board_slots.proofs.Held.{fair-all}
use Rattle.board_slots.proofs.Newest.{newest-all}
use Rattle.deed_laws.specs.Deeds.{TakesBackBy}

taken : (b : Bool) (r redo : Redo) → cond b (Some r) None ≡ Some redo → r ≡ redo
taken true r redo e = cc
taken false r redo e = absurd (let bad : ◌≡◌ {A = Option Redo} None (Some redo) = e in cc)

module _ (records : List Record) (x : Xid) (m : Deed) (image : BlockContent) (segment : SegmentState) (clock : Clock) (sound : Sound records) (seen : IsSeen image (content records)) (goes_on : stage x records ≡ Open)
    (newest_own : newest (by x) (stands records) ≡ Some m) where
  row-is : row_back image (undo_of image.front.number m) ≡ slots.back_of m (content records)
  unfolding row_back
  row-is = rw (seen.lock m.row placed.row) refl
    where
      placed : slots.IsPlaced m
      placed = (newest-all (IsFair (committed records)) (by x) m (stands records) (fair-all (committed records) (stands records) sound.orderly) newest_own).placed

  made-back : image.front.scn < clock.scn + 1 → TakesBackBy (λ change. MayBack records x m.seq (clock.scn + 1) change) (back_record x (undo_of image.front.number m) segment.head image (clock.scn + 1))
  unfolding back_record data_change
  made-back up = record { kind = refl; row = record { goes_on = goes_on; deed = m; newest_own = newest_own; number = refl; does = row-is; up = (let same = seen.scn in omega arith) } }

  pub decided-back : (redo : Redo) → next_back x segment ≡ Undo (undo_of image.front.number m) → image.front.scn < redo.scn → back_decision x segment image clock ≡ Some redo → TakesBackBy (λ change. MayBack records x redo.seq redo.scn change) redo
  unfolding back_record
  decided-back redo next up e =
      let made : back_record x (undo_of image.front.number m) segment.head image (clock.scn + 1) ≡ redo = taken (may_step_back x (undo_of image.front.number m) segment.head image clock) (back_record x (undo_of image.front.number m) segment.head image (clock.scn + 1)) redo (rw next at e) in
      subst (λ (redo : Redo). image.front.scn < redo.scn → TakesBackBy (λ change. MayBack records x redo.seq redo.scn change) redo) made made-back up
