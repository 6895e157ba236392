-- A record that was decided is that of a deed.
use Rattle.std.proofs.Common.{◌≡◌, ℕ, ◌+◌, ◌%◌, ◌<◌, ◌≤◌, ◌&&◌, ◌==◌, Bool, true, false, cond, not, List, refl, sym, ap, ◌∙◌, subst, arith, mod-lt}
use Rattle.std.specs.Prelude.{Some, None, Ok}
use Rattle.base_types.specs.declared.names.Scn.{Scn}
use Rattle.base_types.specs.declared.value.Value.{Value}
use Rattle.redo_types.specs.declared.redo.Redo.{Redo}
use Rattle.redo_types.specs.declared.redo.RedoKind.TheVariants.{Change, Lock}
use Rattle.block_image.specs.Block.{BlockContent, row_at}
use Rattle.undo_image.specs.Header.{slot_at}
use Rattle.undo_segment.specs.Handed.{HandedState}
use Rattle.undo_segment.specs.Segment.{look, SegmentState}
use Rattle.txn_slots.specs.declared.choice.SlotAnswer.TheVariants.{Take}
use Rattle.txn_slots.specs.Choice.{choose_slot}
use Rattle.txn_slots.specs.Lock.{lock_row}
use Rattle.txn_slots.specs.Own.{is_own}
use Rattle.scn_clock.specs.declared.clock.Clock.{Clock}
use Rattle.redo_record.specs.Redo.{IsRedo, NamesUndo}
use Rattle.journal.specs.Past.{same_xid}
use Rattle.txn_engine.specs.declared.ask.ChangeAsk.{ChangeAsk}
use Rattle.txn_engine.specs.declared.ask.Decision.TheVariants.{Do}
use Rattle.txn_engine.specs.declared.ask.Wish.{Wish}
use Rattle.txn_engine.specs.declared.ask.Wish.TheVariants as wish
use Rattle.txn_engine.specs.declared.made.Plan.{Plan}
use Rattle.txn_engine.specs.Change.{change_decision, change_record, holds, is_lock, kind_of, row_made, stood_last, undo_change, undo_made, value_after}
use Rattle.txn_engine.specs.Parts.{data_change}
use Rattle.board_slots.specs.Block.{change_of, content, Deed, held_by, Record, stands, committed}
use Rattle.board_slots.specs.Decide.{decided, GoesOn, MayDecide, NewestIsFree}
use Rattle.board_slots.specs.Images.{IsSeen}
use Rattle.board_slots.specs.Records.{MayDo, Sound}
use Rattle.board_slots.specs.Slots.{IsChosen}
use Rattle.board_slots.specs.Views.{undo_of}
use Rattle.board_slots.proofs.Deciding.{decides, goes-on, locker-is, newest-free, slot-chosen}
use Rattle.deed_laws.specs.Deeds.{IsRedoOf}
use Rattle.deed_laws.proofs.Decided.{decided_is}

-- a lock leaves the value
lock-leaves : (w : Wish) (found value : Value) → value_after w found ≡ Ok value → is_lock w ≡ true → value ≡ found
lock-leaves (wish.Put v) found value e h = absurd (let bad : false ≡ true = h in cc)
lock-leaves (wish.Add by) found value e h = absurd (let bad : false ≡ true = h in cc)
lock-leaves wish.Del found value e h = absurd (let bad : false ≡ true = h in cc)
lock-leaves wish.Lock found value e h = cc

kind-is : (w : Wish) → kind_of w ≡ cond (not (is_lock w)) Change Lock
kind-is (wish.Put v) = refl
kind-is (wish.Add by) = refl
kind-is wish.Del = refl
kind-is wish.Lock = refl

names-seq : (w : Wish) (seq : ℕ) → NamesUndo (kind_of w) seq → 1 ≤ seq
names-seq (wish.Put v) seq h = h
names-seq (wish.Add by) seq h = h
names-seq wish.Del seq h = h
names-seq wish.Lock seq h = h

module _ (records : List Record) (sound : Sound records) (ask : ChangeAsk) (image : BlockContent) (segment : SegmentState) (handed : HandedState) (clock : Clock) (seen : IsSeen image (content records)) where
  abbrev r : ℕ
  r = ask.row % 8

  small : ask.row % 8 < 8
  small = mod-lt ask.row (omega arith)

  module _ (plan : Plan) (value : value_after ask.wish (row_at image.rows (ask.row % 8)).value ≡ Ok plan.value) where
    abbrev deed : Deed
    deed = decided (content records) plan.xid (stood_last ask.own (slot_at segment.head plan.xid.slot)) segment.head.front.next (clock.scn + 1) (ask.row % 8) plan.itl (not (is_lock ask.wish)) plan.value

    value-is : plan.value ≡ deed.value
    value-is = here (is_lock ask.wish) refl
      where
        here : (b : Bool) → is_lock ask.wish ≡ b → plan.value ≡ cond (not b) plan.value ((content records).value (ask.row % 8))
        here false e = refl
        here true e = lock-leaves ask.wish (row_at image.rows (ask.row % 8)).value plan.value value e ∙ seen.value (ask.row % 8) small

    held-is : holds plan.xid image (ask.row % 8) ≡ held_by plan.xid (content records) (ask.row % 8)
    held-is = ap (λ o. is_own o plan.xid) (locker-is (committed records) image (content records) (stands records) seen sound.orderly sound.shows (ask.row % 8) small) ∙ here ((content records).lock (ask.row % 8) == 0)
      where
        here : (b : Bool) → is_own (cond b None (Some ((content records).slot ((content records).lock (ask.row % 8))).xid)) plan.xid ≡ (not b && same_xid ((content records).slot ((content records).lock (ask.row % 8))).xid plan.xid)
        here true = refl
        here false = refl

    undo-is : 1 ≤ plan.itl → plan.itl ≤ 4 → undo_made ask plan image segment.head ≡ undo_of image.front.number deed
    unfolding undo_made
    undo-is first last = rw (held-is, seen.version, seen.slot plan.itl first last, seen.value (ask.row % 8) small) refl

    row-is : plan.fresh ≡ not (same_xid ((content records).slot plan.itl).xid plan.xid) → row_made ask plan segment.head.front.next ≡ change_of deed
    unfolding row_made
    row-is fresh = rw (fresh, sym value-is) refl

    redo-is : plan.fresh ≡ not (same_xid ((content records).slot plan.itl).xid plan.xid) → 1 ≤ plan.itl → plan.itl ≤ 4 → IsRedoOf image.front.number deed (change_record ask plan image segment (clock.scn + 1))
    unfolding change_record undo_change data_change
    redo-is fresh first last = record { kind = kind-is ask.wish; xid = refl; scn = refl; seq = refl; undo = undo-is first last; row = (refl, row-is fresh) }

  -- the record is a deed's
  made-deed : (plan : Plan) → value_after ask.wish (row_at image.rows (ask.row % 8)).value ≡ Ok plan.value → choose_slot ask.own (look segment handed) image.itl ≡ Take plan.itl plan.fresh
      → IsRedo (change_record ask plan image segment (clock.scn + 1)) → MayDecide records ask.own plan.xid (look segment handed) ask.snapshot (clock.scn + 1) → GoesOn ask.snapshot (lock_row ask.own (look segment handed) image (ask.row % 8))
      → (m : Deed) × IsRedoOf image.front.number m (change_record ask plan image segment (clock.scn + 1)) × MayDo records m × NewestIsFree records plan.xid ask.snapshot m.row
  unfolding change_record
  made-deed plan value slot is may goes = (
    deed plan value,
    redo-is plan value taken.2 taken.1.0 taken.1.1,
    decides records sound ask.own plan.xid (look segment handed) ask.snapshot (clock.scn + 1) may image seen (stood_last ask.own (slot_at segment.head plan.xid.slot)) segment.head.front.next (ask.row % 8) plan.itl plan.fresh (not (is_lock ask.wish)) plan.value small
        (record { segment = is.xid.segment; slot_no = is.xid.slot; seq = λ used. names-seq ask.wish segment.head.front.next is.seq }) goes slot,
    newest-free records sound ask.own plan.xid (look segment handed) ask.snapshot (clock.scn + 1) may (ask.row % 8) (goes-on records sound ask.own plan.xid (look segment handed) ask.snapshot (clock.scn + 1) may image seen (ask.row % 8) small goes),
  )
    where
      taken : IsChosen (committed records) (content records) plan.itl plan.xid (clock.scn + 1) × ((1 ≤ plan.itl) × (plan.itl ≤ 4)) × (plan.fresh ≡ not (same_xid ((content records).slot plan.itl).xid plan.xid))
      taken = slot-chosen records sound ask.own plan.xid (look segment handed) ask.snapshot (clock.scn + 1) may image seen plan.itl plan.fresh slot

  xid-is : (plan : Plan) → (change_record ask plan image segment (clock.scn + 1)).xid ≡ plan.xid
  unfolding change_record
  xid-is plan = refl

  scn-is : (plan : Plan) → (change_record ask plan image segment (clock.scn + 1)).scn ≡ clock.scn + 1
  unfolding change_record
  scn-is plan = refl

  pub decided-deed : (on_disk : Scn) (redo : Redo) → change_decision ask image segment handed clock on_disk ≡ Do redo → IsRedo redo → MayDecide records ask.own redo.xid (look segment handed) ask.snapshot redo.scn
      → (m : Deed) × IsRedoOf image.front.number m redo × MayDo records m × NewestIsFree records redo.xid ask.snapshot m.row
  unfolding change_record
  decided-deed on_disk redo e is may =
      let h = decided_is ask image segment handed clock redo on_disk e in
      of h.1.plan h.1.value h.1.slot redo h.1.is is may h.0
    where
      of : (plan : Plan) → value_after ask.wish (row_at image.rows (ask.row % 8)).value ≡ Ok plan.value → choose_slot ask.own (look segment handed) image.itl ≡ Take plan.itl plan.fresh
          → (redo : Redo) → change_record ask plan image segment (clock.scn + 1) ≡ redo → IsRedo redo → MayDecide records ask.own redo.xid (look segment handed) ask.snapshot redo.scn → GoesOn ask.snapshot (lock_row ask.own (look segment handed) image (ask.row % 8))
          → (m : Deed) × IsRedoOf image.front.number m redo × MayDo records m × NewestIsFree records redo.xid ask.snapshot m.row
      of plan value slot redo made is may goes =
          subst (λ (redo : Redo). IsRedo redo → MayDecide records ask.own redo.xid (look segment handed) ask.snapshot redo.scn → (m : Deed) × IsRedoOf image.front.number m redo × MayDo records m × NewestIsFree records redo.xid ask.snapshot m.row) made
          (λ is may. (rw (xid-is plan) (made-deed plan value slot is (rw (xid-is plan, scn-is plan) at may) goes))) is may
