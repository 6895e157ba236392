-- The record of an end is a redo record.
use Rattle.std.proofs.Common.{◌≡◌, ℕ, ◌+◌, ◌^◌, ◌<◌, ◌≤◌, true, refl, sym, arith}
use Rattle.base_types.specs.declared.names.Xid.{Xid}
use Rattle.redo_types.specs.declared.undo.TxnSlot.{TxnSlot}
use Rattle.part_image.specs.Undo.{IsTxnSlot}
use Rattle.redo_record.specs.Redo.{HasChanges, IsRedo, NamesUndo}
use Rattle.undo_image.specs.Header.{HeaderContent, IsHeader, slot_at}
use Rattle.undo_segment.specs.Segment.{IsSegment, SegmentState}
use Rattle.scn_clock.specs.declared.clock.Clock.{Clock}
use Rattle.journal.proofs.XidLemmas.{both_true}
use Rattle.txn_engine.specs.declared.end.EndKind.{EndKind}
use Rattle.txn_engine.specs.declared.end.EndKind.TheVariants.{Commit, RollbackEnd}
use Rattle.txn_engine.specs.End.{end_record, ended_slot, kind_of_end, may_end, state_after}
use Rattle.txn_engine.specs.Parts.{FitsSegment, head_change}
use Rattle.txn_engine.proofs.LimitLemmas.{active_has, rises, slot_is, under_way}
use Rattle.txn_engine.proofs.PartLemmas.{head_change_is, xid_is}
use Rattle.txn_engine.proofs.RedoParts.{redo_is}

ended_is : (slot : TxnSlot) (end : EndKind) (scn : ℕ) → IsTxnSlot slot → 1 ≤ slot.wrap → 1 ≤ scn → scn < 2 ^ 64 → IsTxnSlot (ended_slot slot end scn)
unfolding ended_slot
ended_is slot Commit scn is wrap some fits = record {
  fits = (is.fits.0, (omega arith, (tt, (omega arith, (omega arith, (omega arith, is.fits.1.1.1.1.1.1))))));
  state = (wrap, refl, refl, some);
  prev = is.prev;
}
ended_is slot RollbackEnd scn is wrap some fits = record {
  fits = (is.fits.0, (omega arith, (tt, (omega arith, (omega arith, (omega arith, is.fits.1.1.1.1.1.1))))));
  state = (wrap, refl, refl, some);
  prev = is.prev;
}

-- an end names no undo and has no changes but that of the header
end_names : (end : EndKind) → NamesUndo (kind_of_end end) 0
end_names Commit = refl
end_names RollbackEnd = refl

end_changes : (x : Xid) (end : EndKind) (head : HeaderContent) (scn : ℕ) → HasChanges (kind_of_end end) (end_record x end head scn)
unfolding end_record
end_changes x Commit head scn = (tt, tt)
end_changes x RollbackEnd head scn = (tt, tt)

end_is : (x : Xid) (end : EndKind) (head : HeaderContent) (clock : Clock) → IsHeader head → head.front.seg < 8 → may_end x end head clock ≡ true → IsRedo (end_record x end head (clock.scn + 1))
unfolding end_record
end_is x end head clock is seg may =
    let a = both_true _ _ may in
    let b = both_true _ _ a.0 in
    let c = both_true _ _ b.0 in
    let under = under_way head x c.0 in
    let scn = rises clock.scn b.1 in
    let version = rises head.front.version a.1 in
    let name = xid_is head x is seg under in
    let slot = slot_is head x.slot is under.slot in
    let has = active_has (slot_at head x.slot) slot under.active in
    let next = is.front.fits.1.1.1.1.1.1.1.0 in
    redo_is (end_record x end head (clock.scn + 1))
    (record { xid = name.0; wrap = name.1; some_scn = omega arith; scn = omega arith; seq = omega arith; names = end_names end })
    (end_changes x end head (clock.scn + 1))
    (head_change_is head x.slot head.front.next (ended_slot (slot_at head x.slot) end (clock.scn + 1)) is version under.slot is.front.next (omega arith) (ended_is (slot_at head x.slot) end (clock.scn + 1) slot has.0 (omega arith) (omega arith)))
    tt tt

pub end_fits : (x : Xid) (end : EndKind) (segment : SegmentState) (clock : Clock) → IsSegment segment → IsHeader segment.head → may_end x end segment.head clock ≡ true → FitsSegment segment (end_record x end segment.head (clock.scn + 1))
unfolding end_record
end_fits x end segment clock is_segment is may =
    let few = is_segment.layout.few_instances in
    let within = is_segment.seg in
    let version = rises segment.head.front.version (both_true _ _ may).1 in
    record { is = end_is x end segment.head clock is (omega arith) may; head = omega arith; undo = tt }
