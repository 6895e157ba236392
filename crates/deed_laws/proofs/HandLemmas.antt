-- The own segment is at hand of its deeds.
use Rattle.std.proofs.Common.{◌≡◌, ℕ, ◌-◌, ◌/◌, ◌%◌, List, refl, sym, ap, ◌∙◌}
use Rattle.std.specs.Prelude.{Option, Some, None, IfSome}
use Rattle.std.specs.List.{Contains}
use Rattle.std.proofs.lemmas.Bool.{eq-eqb}
use Rattle.std.proofs.lemmas.Option.{get_or_from_slice_get}
use Rattle.base_types.specs.declared.names.Xid.{Xid}
use Rattle.redo_types.specs.declared.undo.UndoRecord.{UndoRecord}
use Rattle.undo_image.specs.Header.{slot_at}
use Rattle.undo_image.specs.UndoBlock.{empty_undo_block, record_at, UndoContent}
use Rattle.undo_segment.specs.Handed.{HandedState}
use Rattle.undo_segment.specs.Segment.{own_block_for, SegmentState}
use Rattle.board_slots.specs.Block.{Deed}
use Rattle.board_slots.specs.Hand.{BlockHolds, IsAtHand}
use Rattle.board_slots.specs.Header.{end_in, Turn}
use Rattle.board_slots.specs.Views.{undo_of}
use Rattle.deed_laws.specs.Rings.{HoldsUndo}
use Rattle.deed_laws.specs.Turns.{IsTurned}

own-holds : (own : SegmentState) (u : UndoRecord) (written : List UndoRecord) → HoldsUndo own written → Contains written u → (o : Option UndoContent) → own_block_for own u.seq ≡ o → IfSome o (BlockHolds own.layout.undo u)
own-holds own u written holds there None e = tt
own-holds own u written holds there (Some block) e =
    record {
      written = written;
      rises = holds.rises;
      there = there;
      place = ap (λ (b : UndoContent). record_at b ((u.seq - 1) % 4)) (sym (get_or_from_slice_get own.blocks ((u.seq - 1) % own.layout.undo / 4) block (empty_undo_block 0 0) e)) ∙ holds.places u.seq;
    }

pub own-at-hand : (own : SegmentState) (handed : HandedState) (number : ℕ) (ended : Xid → Option ℕ) (deed : Deed) (written : List UndoRecord) (turns : List Turn) → own.head.front.seg ≡ deed.xid.seg
    → IsTurned (slot_at own.head deed.xid.slot) turns → end_in deed.xid.wrap turns ≡ ended deed.xid → HoldsUndo own written → Contains written (undo_of number deed) → IsAtHand own handed number ended deed
own-at-hand own handed number ended deed written turns own_is turned ends holds there =
    record {
      head = rw (own_is, eq-eqb deed.xid.seg deed.xid.seg refl) (record { turns = turns; in_turn = turned.in_turn; slot = turned.is; ends = ends });
      undo = rw (own_is, eq-eqb deed.xid.seg deed.xid.seg refl) (own-holds own (undo_of number deed) written holds there (own_block_for own deed.seq) refl);
    }
