-- What a decided record does to its transaction's slot is a turn, or none.
use Rattle.std.proofs.Common.{◌≡◌, ℕ, ◌+◌, ◌-◌, ◌^◌, ◌<◌, ◌≤◌, Bool, true, false, cond, not, List, [], ◌∷◌, refl, sym, ap, ◌∙◌, subst, arith}
use Rattle.std.specs.Prelude.{Option, Some, None, min}
use Rattle.std.specs.List.{position}
use Rattle.std.specs.Option.{option_map}
use Rattle.std.proofs.lemmas.Bool.{eqb-true}
use Rattle.std.proofs.lemmas.List.Quantifiers.{position-Some}
use Rattle.base_types.specs.declared.names.Scn.{Scn}
use Rattle.base_types.specs.declared.names.Xid.{Xid}
use Rattle.redo_types.specs.declared.redo.Redo.{Redo}
use Rattle.redo_types.specs.declared.undo.TxnSlot.{TxnSlot}
use Rattle.redo_types.specs.declared.undo.UndoRecord.{UndoRecord}
use Rattle.journal.proofs.XidLemmas.{both_true}
use Rattle.block_image.specs.Block.{BlockContent}
use Rattle.undo_image.specs.Header.{HeaderContent, never_slot, slot_at}
use Rattle.undo_segment.specs.Begin.{ended_first, is_free, next_of_slot}
use Rattle.undo_segment.specs.Handed.{HandedState}
use Rattle.undo_segment.specs.Look.{is_active}
use Rattle.undo_segment.specs.Segment.{SegmentState}
use Rattle.scn_clock.specs.declared.clock.Clock.{Clock}
use Rattle.txn_engine.specs.declared.ask.ChangeAsk.{ChangeAsk}
use Rattle.txn_engine.specs.declared.ask.Decision.TheVariants.{Do}
use Rattle.txn_engine.specs.declared.back.NextBack.{NextBack}
use Rattle.txn_engine.specs.declared.back.NextBack.TheVariants.{Bad, Nothing, Undo}
use Rattle.txn_engine.specs.declared.end.EndKind.{EndKind}
use Rattle.txn_engine.specs.declared.end.EndKind.TheVariants.{Commit, RollbackEnd}
use Rattle.txn_engine.specs.declared.made.Plan.{Plan}
use Rattle.txn_engine.specs.Back.{back_decision, back_of, back_record, may_step_back, next_from, slot_back}
use Rattle.txn_engine.specs.Change.{change_decision, change_record, is_within_limits, own_or_next, slot_after}
use Rattle.txn_engine.specs.End.{end_decision, end_record, ended_slot, may_end}
use Rattle.txn_engine.specs.Limits.{began_before, is_under_way, may_go_on}
use Rattle.txn_engine.specs.Parts.{head_change}
use Rattle.board_slots.specs.Header.{Begins, Ends, table_slot, Turn}
use Rattle.board_slots.proofs.Newest.{clash}
use Rattle.deed_laws.specs.Turns.{IsTurned, LeavesTurned}
use Rattle.deed_laws.proofs.Decided.{decided_is, decided_within, IsPlanned}

-- an active slot has no end yet
no-end : (turns : List Turn) → (table_slot turns).active ≡ true → (table_slot turns).scn ≡ 0
no-end [] e = clash false e refl
no-end (Begins ∷ turns) e = refl
no-end (Ends c ∷ turns) e = clash false e refl

-- a transaction that is under way has its slot
record HasSlot (head : HeaderContent) (x : Xid) : Type 0 where
  pub wrap : (slot_at head x.slot).wrap ≡ x.wrap
  pub active : is_active (slot_at head x.slot).state ≡ true

has-slot : (head : HeaderContent) (x : Xid) → is_under_way head x ≡ true → HasSlot head x
has-slot head x h =
    let a = both_true _ _ h in
    let b = both_true _ _ a.0 in
    record { wrap = eqb-true (slot_at head x.slot).wrap x.wrap b.1; active = a.1 }

module _ (ask : ChangeAsk) (image : BlockContent) (segment : SegmentState) (handed : HandedState) (clock : Clock) (on_disk : Scn) (turns : List Turn) where
  abbrev made : Plan → Redo
  made plan = change_record ask plan image segment (clock.scn + 1)

  -- a transaction begins
  begins-made : (plan : Plan) → ask.own ≡ None → own_or_next ask.own segment ≡ Some plan.xid → IsTurned (slot_at segment.head plan.xid.slot) turns → (table_slot turns).wrap < 2 ^ 32 - 1 → LeavesTurned (made plan) (Begins ∷ turns)
  unfolding change_record head_change slot_after
  begins-made plan new named turned room = here (position (ended_first segment.head.slots) segment.head.slots) refl (sym (ap (λ o. own_or_next o segment) new) ∙ named)
    where
      at-slot : (k : ℕ) → position (ended_first segment.head.slots) segment.head.slots ≡ Some k → next_of_slot segment k ≡ plan.xid → LeavesTurned (made plan) (Begins ∷ turns)
      at-slot k found is =
          let slot_is : k ≡ plan.xid.slot = ap (λ (x : Xid). x.slot) is in
          let first = (position-Some (ended_first segment.head.slots) segment.head.slots k never_slot found).1 in
          let free : is_free (slot_at segment.head k) ≡ true = (both_true _ _ first).0 in
          let wrap_is : min ((slot_at segment.head k).wrap + 1) (2 ^ 32 - 1) ≡ plan.xid.wrap = ap (λ (x : Xid). x.wrap) is in
          of (slot_at segment.head k) (ap (slot_at segment.head) slot_is) free wrap_is
        where
          inactive : (b : Bool) → not b ≡ true → b ≡ false
          inactive true e = sym e
          inactive false e = refl

          of : (slot : TxnSlot) → slot ≡ slot_at segment.head plan.xid.slot → is_free slot ≡ true → min (slot.wrap + 1) (2 ^ 32 - 1) ≡ plan.xid.wrap → LeavesTurned (made plan) (Begins ∷ turns)
          of slot same free wrap =
              let was = subst (λ (slot : TxnSlot). IsTurned slot turns) (sym same) turned in
              let old = was.is.wrap in
              let next : plan.xid.wrap ≡ (table_slot turns).wrap + 1 = omega (arith, wrap, old, room) in
              record {
                slot_no = refl;
                after = record {
                  in_turn = (sym was.is.active ∙ inactive (is_active slot.state) free, was.in_turn);
                  is = rw new (record { wrap = next; active = refl; scn = refl; prev = turned.is.scn });
                };
                wrap = next;
              }

      here : (o : Option ℕ) → position (ended_first segment.head.slots) segment.head.slots ≡ o → option_map (next_of_slot segment) o ≡ Some plan.xid → LeavesTurned (made plan) (Begins ∷ turns)
      here None found e = absurd (let bad : ◌≡◌ {A = Option Xid} None (Some plan.xid) = e in cc)
      here (Some k) found e = let is : next_of_slot segment k ≡ plan.xid = cc in at-slot k found is

  own-goes : is_within_limits ask image segment clock ≡ true → may_go_on segment.head ask.own ≡ true
  own-goes limits =
      let a = both_true _ _ limits in
      let b = both_true _ _ a.0 in
      let c = both_true _ _ b.0 in
      let d = both_true _ _ c.0 in
      let e = both_true _ _ d.0 in
      (both_true _ _ e.0).1

  -- a transaction goes on
  goes-made : (plan : Plan) (x : Xid) → ask.own ≡ Some x → own_or_next ask.own segment ≡ Some plan.xid → is_within_limits ask image segment clock ≡ true → IsTurned (slot_at segment.head plan.xid.slot) turns → LeavesTurned (made plan) turns
  unfolding change_record head_change slot_after
  goes-made plan x own named limits turned =
      let goes : may_go_on segment.head (Some x) ≡ true = subst (λ o. may_go_on segment.head o ≡ true) own (own-goes limits) in
      let same : x ≡ plan.xid = let both : Some x ≡ Some plan.xid = sym (ap (λ o. own_or_next o segment) own) ∙ named in cc in
      let has : HasSlot segment.head plan.xid = subst (HasSlot segment.head) same (has-slot segment.head x (both_true (is_under_way segment.head x) (began_before segment.head x) goes).0) in
      let now : (table_slot turns).active ≡ true = sym turned.is.active ∙ has.active in
      let wrap : plan.xid.wrap ≡ (table_slot turns).wrap = sym has.wrap ∙ turned.is.wrap in
      record {
        slot_no = refl;
        after = record { in_turn = turned.in_turn; is = rw own (record { wrap = wrap; active = sym now; scn = sym (no-end turns now); prev = turned.is.prev }) };
        wrap = wrap;
      }

  xid-is : (plan : Plan) → (made plan).xid ≡ plan.xid
  unfolding change_record
  xid-is plan = refl

  pub begins : (redo : Redo) → change_decision ask image segment handed clock on_disk ≡ Do redo → ask.own ≡ None → IsTurned (slot_at segment.head redo.xid.slot) turns → (table_slot turns).wrap < 2 ^ 32 - 1 → LeavesTurned redo (Begins ∷ turns)
  begins redo e new turned room =
      let p : IsPlanned ask image segment handed clock redo = (decided_is ask image segment handed clock redo on_disk e).1 in
      subst (λ (redo : Redo). IsTurned (slot_at segment.head redo.xid.slot) turns → LeavesTurned redo (Begins ∷ turns)) p.is
      (λ turned. begins-made p.plan new p.xid (rw (xid-is p.plan) at turned) room) turned

  pub goes-on : (redo : Redo) (x : Xid) → change_decision ask image segment handed clock on_disk ≡ Do redo → ask.own ≡ Some x → IsTurned (slot_at segment.head redo.xid.slot) turns → LeavesTurned redo turns
  goes-on redo x e own turned =
      let p : IsPlanned ask image segment handed clock redo = (decided_is ask image segment handed clock redo on_disk e).1 in
      subst (λ (redo : Redo). IsTurned (slot_at segment.head redo.xid.slot) turns → LeavesTurned redo turns) p.is
      (λ turned. goes-made p.plan x own p.xid (decided_within ask image segment handed clock redo on_disk e) (rw (xid-is p.plan) at turned)) turned

some-of : (b : Bool) (r redo : Redo) → cond b (Some r) None ≡ Some redo → (b ≡ true) × (r ≡ redo)
some-of true r redo e = (refl, (cc))
some-of false r redo e = absurd (let bad : ◌≡◌ {A = Option Redo} None (Some redo) = e in cc)

module _ (x : Xid) (segment : SegmentState) (clock : Clock) (turns : List Turn) (turned : IsTurned (slot_at segment.head x.slot) turns) where
  back-made : (image : BlockContent) (u : UndoRecord) → is_under_way segment.head x ≡ true → LeavesTurned (back_record x u segment.head image (clock.scn + 1)) turns
  unfolding back_record head_change slot_back
  back-made image u goes =
      let has = has-slot segment.head x goes in
      record {
        slot_no = refl;
        after = record { in_turn = turned.in_turn; is = record { wrap = turned.is.wrap; active = turned.is.active; scn = turned.is.scn; prev = turned.is.prev } };
        wrap = sym has.wrap ∙ turned.is.wrap;
      }

  pub steps-back : (image : BlockContent) (redo : Redo) → back_decision x segment image clock ≡ Some redo → LeavesTurned redo turns
  steps-back image redo e = here (is_under_way segment.head x) refl e
    where
      of : (next : NextBack) → is_under_way segment.head x ≡ true → back_of next x segment.head image clock ≡ Some redo → LeavesTurned redo turns
      of Bad goes e = absurd (let bad : ◌≡◌ {A = Option Redo} None (Some redo) = e in cc)
      of Nothing goes e = absurd (let bad : ◌≡◌ {A = Option Redo} None (Some redo) = e in cc)
      of (Undo u) goes e = subst (λ (redo : Redo). LeavesTurned redo turns) (some-of (may_step_back x u segment.head image clock) (back_record x u segment.head image (clock.scn + 1)) redo e).1 (back-made image u goes)

      here : (t : Bool) → is_under_way segment.head x ≡ t → back_of (cond t (next_from x segment (slot_at segment.head x.slot).last) Bad) x segment.head image clock ≡ Some redo → LeavesTurned redo turns
      here true f e = of (next_from x segment (slot_at segment.head x.slot).last) f e
      here false f e = absurd (let bad : ◌≡◌ {A = Option Redo} None (Some redo) = e in cc)

  inactive : (end : EndKind) (scn : Scn) → is_active (ended_slot (slot_at segment.head x.slot) end scn).state ≡ false
  unfolding ended_slot
  inactive Commit scn = refl
  inactive RollbackEnd scn = refl

  end-made : (end : EndKind) → is_under_way segment.head x ≡ true → (table_slot turns).prev ≤ clock.scn + 1 → LeavesTurned (end_record x end segment.head (clock.scn + 1)) (Ends (clock.scn + 1) ∷ turns)
  unfolding end_record head_change ended_slot
  end-made end goes low =
      let has = has-slot segment.head x goes in
      record {
        slot_no = refl;
        after = record { in_turn = ((sym turned.is.active ∙ has.active, low), turned.in_turn); is = record { wrap = turned.is.wrap; active = inactive end (clock.scn + 1); scn = refl; prev = turned.is.prev } };
        wrap = sym has.wrap ∙ turned.is.wrap;
      }

  end-scn : (end : EndKind) → (end_record x end segment.head (clock.scn + 1)).scn ≡ clock.scn + 1
  unfolding end_record
  end-scn end = refl

  pub ends : (end : EndKind) (redo : Redo) → end_decision x end segment clock ≡ Some redo → (table_slot turns).prev ≤ redo.scn → LeavesTurned redo (Ends redo.scn ∷ turns)
  unfolding end_record
  ends end redo e low =
      let made = some-of (may_end x end segment.head clock) (end_record x end segment.head (clock.scn + 1)) redo e in
      let a = both_true _ _ made.0 in
      let b = both_true _ _ a.0 in
      let c = both_true _ _ b.0 in
      subst (λ (redo : Redo). (table_slot turns).prev ≤ redo.scn → LeavesTurned redo (Ends redo.scn ∷ turns)) made.1
      (λ low. rw (end-scn end) (end-made end c.0 (rw (end-scn end) at low))) low
