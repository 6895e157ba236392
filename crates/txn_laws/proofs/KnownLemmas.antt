-- What is known of a change that was decided.
use Rattle.std.proofs.Common.{◌≡◌, ◌-◌, ◌%◌, ◌^◌, ◌<◌, ◌≤◌, ◌⊎◌, inl, inr, Bool, true, false, refl, sym, ap, subst, ◌∙◌, arith, Option, None, Some}
use Rattle.std.proofs.Math.Nat.{mod-lt}
use Rattle.base_types.specs.declared.names.Xid.{Xid}
use Rattle.redo_types.specs.declared.redo.Redo.{Redo}
use Rattle.block_image.specs.Block.{slot_at as itl_at}
use Rattle.redo_types.specs.declared.blocks.ItlSlot.{ItlSlot}
use Rattle.undo_segment.specs.declared.look.Look.{Look}
use Rattle.txn_slots.specs.Choice.{MayTake, is_own_slot}
use Rattle.txn_engine.specs.declared.ask.Decision.TheVariants.{Do}
use Rattle.undo_segment.specs.Segment.{SegmentState, look}
use Rattle.txn_slots.specs.declared.choice.SlotAnswer.TheVariants.{Take}
use Rattle.journal.proofs.XidLemmas.{both_true, same_xid-true}
use Rattle.txn_engine.specs.declared.made.Plan.{Plan}
use Rattle.txn_engine.specs.Change.{holds, own_or_next}
use Rattle.txn_engine.specs.Limits.{is_data_block, may_go_on}
use Rattle.txn_laws.specs.TakenBack.{AreWhole, OnHand, decided}
use Rattle.txn_laws.proofs.ChoiceLemmas.{IsTold, chosen, fresh_isnt_held, told, unused_is_fresh}
use Rattle.txn_laws.proofs.LawLemmas.{made_by, xid_of_made}
use Rattle.txn_laws.proofs.MadeLemmas.{decided_is_made, decided_unheld, decided_within}

-- what is known of a change by this plan that was decided
pub record IsKnown (hand : OnHand) (plan : Plan) : Type 0 where
  pub told : IsTold hand.ask.own hand.segment plan.xid
  pub go : may_go_on hand.segment.head hand.ask.own ≡ true
  pub block : is_data_block hand.image ≡ true
  pub some_itl : 1 ≤ plan.itl
  pub itl : plan.itl ≤ 4
  pub unused : (itl_at hand.image.itl plan.itl).xid.wrap ≡ 0 → plan.fresh ≡ true
  pub unheld : plan.fresh ≡ true → holds plan.xid hand.image (hand.ask.row % 8) ≡ false
  pub own : (hand.ask.own ≡ None) ⊎ (hand.ask.own ≡ Some plan.xid)
  pub kept : plan.fresh ≡ false → (itl_at hand.image.itl plan.itl).xid ≡ plan.xid

-- the plan of a change that was decided, and what is known of it
pub record KnownPlan (hand : OnHand) (change : Redo) : Type 0 where
  pub plan : Plan
  pub made : made_by hand plan ≡ change
  pub known : IsKnown hand plan

own_is : (own : Option Xid) (segment : SegmentState) (x : Xid) → own_or_next own segment ≡ Some x → (own ≡ None) ⊎ (own ≡ Some x)
own_is None segment x named = inl refl
own_is (Some y) segment x named = inr named

own_slot : (own : Option Xid) (x : Xid) (slot : ItlSlot) → (own ≡ None) ⊎ (own ≡ Some x) → is_own_slot own slot ≡ true → slot.xid ≡ x
own_slot None x slot named own = absurd cc
own_slot (Some y) x slot (inl none) own = absurd cc
own_slot (Some y) x slot (inr named) own = let same = same_xid-true y slot.xid own in cc

kept_by : (fresh : Bool) (own : Option Xid) (look : Xid → Look) (x : Xid) (slot : ItlSlot) → (own ≡ None) ⊎ (own ≡ Some x) → MayTake own look fresh slot → fresh ≡ false → slot.xid ≡ x
kept_by true own look x slot named takes kept = absurd cc
kept_by false own look x slot named takes kept = own_slot own x slot named takes

pub known_plan : (hand : OnHand) (change : Redo) → AreWhole hand → decided hand ≡ Do change → change.xid.wrap < 2 ^ 32 - 1 → KnownPlan hand change
known_plan hand change whole is wrap =
    let made = decided_is_made hand.ask hand.image hand.segment hand.handed hand.clock hand.on_disk change is in
    let within = decided_within hand.ask hand.image hand.segment hand.handed hand.clock hand.on_disk change is in
    let plan = made.plan in
    let by = made.by in
    let f = both_true _ _ (both_true _ _ (both_true _ _ (both_true _ _ (both_true _ _ (both_true _ _ within).0).0).0).0).0 in
    let same : made_by hand plan ≡ change = by.is in
    let xid : change.xid ≡ plan.xid = ap (λ (r : Redo). r.xid) (sym same) ∙ xid_of_made hand plan in
    let room : plan.xid.wrap < 2 ^ 32 - 1 = subst (λ (x : Xid). x.wrap < 2 ^ 32 - 1) xid wrap in
    let is_told = told hand.ask.own hand.segment plan.xid whole.head f.1 by.xid in
    let slot = chosen hand.ask.own (look hand.segment hand.handed) hand.image.itl plan.itl plan.fresh whole.block.four_slots by.slot in
    let own = own_is hand.ask.own hand.segment plan.xid by.xid in
    record {
      plan = plan;
      made = same;
      known = record {
        told = is_told;
        go = f.1;
        block = (both_true _ _ f.0).0;
        some_itl = slot.0;
        itl = slot.1;
        unused = unused_is_fresh hand.ask.own (look hand.segment hand.handed) hand.segment.head plan.fresh (itl_at hand.image.itl plan.itl) whole.head f.1 slot.2;
        unheld = λ fresh. fresh_isnt_held hand.ask.own hand.segment hand.handed hand.image (hand.ask.row % 8) plan.itl plan.xid whole.block (mod-lt hand.ask.row (omega arith)) by.xid is_told room
            (by.slot ∙ ap (Take plan.itl) fresh) (λ y. decided_unheld hand.ask hand.image hand.segment hand.handed hand.clock hand.on_disk change y is);
        own = own;
        kept = kept_by plan.fresh hand.ask.own (look hand.segment hand.handed) plan.xid (itl_at hand.image.itl plan.itl) own slot.2;
      };
    }
