-- How a record came about that takes a change back.
use Rattle.std.proofs.Common.{◌≡◌, ℕ, ◌+◌, ◌==◌, Bool, true, false, cond, refl, Option, None, Some}
use Rattle.base_types.specs.declared.names.Xid.{Xid}
use Rattle.redo_types.specs.declared.redo.Redo.{Redo}
use Rattle.redo_types.specs.declared.undo.UndoRecord.{UndoRecord}
use Rattle.block_image.specs.Block.{BlockContent}
use Rattle.undo_image.specs.Header.{slot_at}
use Rattle.undo_segment.specs.Segment.{SegmentState}
use Rattle.scn_clock.specs.declared.clock.Clock.{Clock}
use Rattle.txn_engine.specs.declared.back.NextBack.{NextBack}
use Rattle.txn_engine.specs.declared.back.NextBack.TheVariants.{Bad, Nothing, Undo}
use Rattle.txn_engine.specs.Back.{back_decision, back_of, back_record, is_undo_of, may_step_back, next_back, next_from, next_of}
use Rattle.txn_engine.specs.Limits.{is_under_way}
use Rattle.txn_engine.specs.Parts.{undo_at}

-- the record takes this undo record back, which stands in the place of the last one of a transaction that is under way
pub record TakesBack (x : Xid) (segment : SegmentState) (image : BlockContent) (clock : Clock) (back : Redo) (u : UndoRecord) : Type 0 where
  pub under_way : is_under_way segment.head x ≡ true
  pub place : undo_at segment (slot_at segment.head x.slot).last ≡ Some u
  pub is : back_record x u segment.head image (clock.scn + 1) ≡ back

-- it takes some undo record back
pub record TakesSome (x : Xid) (segment : SegmentState) (image : BlockContent) (clock : Clock) (back : Redo) : Type 0 where
  pub undo : UndoRecord
  pub takes : TakesBack x segment image clock back undo

-- what is taken back next stands in its place
record StandsNext (x : Xid) (segment : SegmentState) (u : UndoRecord) : Type 0 where
  pub under_way : is_under_way segment.head x ≡ true
  pub place : undo_at segment (slot_at segment.head x.slot).last ≡ Some u

by_test : (b : Bool) (v u : UndoRecord) → cond b (Undo v) Bad ≡ Undo u → v ≡ u
by_test true v u h = cc
by_test false v u h = absurd cc

by_place : (x : Xid) (seq : ℕ) (place : Option UndoRecord) (u : UndoRecord) → next_of x seq place ≡ Undo u → place ≡ Some u
by_place x seq None u h = absurd cc
by_place x seq (Some v) u h = let same = by_test (is_undo_of x seq v) v u h in cc

by_last : (b : Bool) (next : NextBack) (u : UndoRecord) → cond b Nothing next ≡ Undo u → next ≡ Undo u
by_last true next u h = absurd cc
by_last false next u h = h

by_way : (b : Bool) (next : NextBack) (u : UndoRecord) → cond b next Bad ≡ Undo u → (b ≡ true) × (next ≡ Undo u)
by_way true next u h = (refl, h)
by_way false next u h = absurd cc

next_stands : (x : Xid) (segment : SegmentState) (u : UndoRecord) → next_back x segment ≡ Undo u → StandsNext x segment u
next_stands x segment u h =
    let last = (slot_at segment.head x.slot).last in
    let way = by_way (is_under_way segment.head x) (next_from x segment last) u h in
    record {
      under_way = way.0;
      place = by_place x last (undo_at segment last) u (by_last (last == 0) (next_of x last (undo_at segment last)) u way.1);
    }

by_may : (b : Bool) (one back : Redo) → cond b (Some one) None ≡ Some back → one ≡ back
by_may true one back h = cc
by_may false one back h = absurd cc

by_next : (next : NextBack) (x : Xid) (segment : SegmentState) (image : BlockContent) (clock : Clock) (back : Redo) → next_back x segment ≡ next → back_of next x segment.head image clock ≡ Some back
    → TakesSome x segment image clock back
by_next Nothing x segment image clock back is h = absurd cc
by_next Bad x segment image clock back is h = absurd cc
by_next (Undo u) x segment image clock back is h =
    let stands = next_stands x segment u is in
    record {
      undo = u;
      takes = record {
        under_way = stands.under_way;
        place = stands.place;
        is = by_may (may_step_back x u segment.head image clock) (back_record x u segment.head image (clock.scn + 1)) back h;
      };
    }

-- each record that is decided takes an undo record back
pub decided_takes : (x : Xid) (segment : SegmentState) (image : BlockContent) (clock : Clock) (back : Redo) → back_decision x segment image clock ≡ Some back → TakesSome x segment image clock back
decided_takes x segment image clock back h = by_next (next_back x segment) x segment image clock back refl h
