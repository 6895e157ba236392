-- What the questions of a decision tell.
use Rattle.std.proofs.Common.{◌≡◌, ℕ, ◌+◌, ◌^◌, ◌==◌, ◌<◌, ◌≤◌, ◌⊎◌, ◌&&◌, Bool, true, false, List, length, refl, sym, subst, arith}
use Rattle.std.specs.Prelude.{nat_lt}
use Rattle.std.proofs.lemmas.Bool.{eqb-true, leb-true, ltb-true}
use Rattle.base_types.specs.declared.names.Xid.{Xid}
use Rattle.redo_types.specs.declared.undo.TxnSlot.{TxnSlot}
use Rattle.redo_types.specs.declared.undo.TxnState.{TxnState}
use Rattle.redo_types.specs.declared.undo.TxnState.TheVariants.{Never, Active, Committed, RolledBack}
use Rattle.part_image.specs.Undo.{HasState, IsTxnSlot}
use Rattle.block_image.proofs.EachLemmas.{all_nth}
use Rattle.undo_image.specs.Header.{HeaderContent, IsHeader, never_slot, slot_at}
use Rattle.undo_segment.specs.Look.{is_active}
use Rattle.journal.proofs.XidLemmas.{both_true}
use Rattle.txn_engine.specs.Limits.{is_under_way, may_rise}

-- a transaction that is active in its slot
pub record IsUnderWay (head : HeaderContent) (x : Xid) : Type 0 where
  pub seg : x.seg ≡ head.front.seg
  pub slot : x.slot < 8
  pub wrap : (slot_at head x.slot).wrap ≡ x.wrap
  pub active : is_active (slot_at head x.slot).state ≡ true

pub under_way : (head : HeaderContent) (x : Xid) → is_under_way head x ≡ true → IsUnderWay head x
under_way head x h =
    let a = both_true _ _ h in
    let b = both_true _ _ a.0 in
    let c = both_true _ _ b.0 in
    record { seg = eqb-true x.seg head.front.seg c.0; slot = ltb-true x.slot 8 c.1; wrap = eqb-true (slot_at head x.slot).wrap x.wrap b.1; active = a.1 }

-- each slot of a header is one
pub slot_is : (head : HeaderContent) (k : ℕ) → IsHeader head → k < 8 → IsTxnSlot (slot_at head k)
slot_is head k is within = let eight = is.slots.eight in all_nth IsTxnSlot head.slots k never_slot (omega arith) is.slots.each

pub active_state : (state : TxnState) → is_active state ≡ true → state ≡ Active
active_state Active h = refl
active_state Never h = absurd cc
active_state Committed h = absurd cc
active_state RolledBack h = absurd cc

-- what an active slot has
pub active_has : (slot : TxnSlot) → IsTxnSlot slot → is_active slot.state ≡ true → HasState Active slot
active_has slot is active = subst (λ (s : TxnState). HasState s slot) (active_state slot.state active) is.state

pub rises : (n : ℕ) → may_rise n ≡ true → n < 2 ^ 63
rises n h = ltb-true n (2 ^ 63) h
