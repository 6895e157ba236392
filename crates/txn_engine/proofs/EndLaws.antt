-- What a segment tells of a transaction after the record of its end.
use Rattle.std.proofs.Common.{◌≡◌, ℕ, ◌+◌, ◌<◌, ◌≤◌, Bool, true, false, cond, length, get_or, set, refl, sym, ap, ◌∙◌, arith, Option, Some, None, IfSome}
use Rattle.std.proofs.lemmas.Bool.{eq-eqb, le-ltb}
use Rattle.std.proofs.lemmas.List.{get_or-set_same}
use Rattle.base_types.specs.declared.names.Xid.{Xid}
use Rattle.redo_types.specs.declared.redo.Redo.{Redo}
use Rattle.redo_types.specs.declared.undo.TxnSlot.{TxnSlot}
use Rattle.undo_image.specs.Header.{HeaderContent, IsHeader, never_slot, slot_at}
use Rattle.undo_segment.specs.declared.look.Look.TheVariants.{Ended}
use Rattle.undo_segment.specs.Apply.{applied}
use Rattle.undo_segment.specs.Handed.{HandedState}
use Rattle.undo_segment.specs.Look.{is_active, look_in, told_of}
use Rattle.undo_segment.specs.Segment.{SegmentState, look}
use Rattle.scn_clock.specs.declared.clock.Clock.{Clock}
use Rattle.journal.proofs.XidLemmas.{both_true}
use Rattle.txn_engine.specs.declared.end.EndKind.{EndKind}
use Rattle.txn_engine.specs.declared.end.EndKind.TheVariants.{Commit, RollbackEnd}
use Rattle.txn_engine.specs.End.{end_decision, end_record, ended_slot, may_end, state_after}
use Rattle.txn_engine.specs.Parts.{head_change}
use Rattle.txn_engine.proofs.LimitLemmas.{IsUnderWay, under_way}

-- a slot with the wrap of a transaction that is over tells its end
told_by : (slot : TxnSlot) (x : Xid) → slot.wrap ≡ x.wrap → is_active slot.state ≡ false → told_of slot x ≡ Ended slot.scn
told_by slot x same over =
    let below = le-ltb slot.wrap x.wrap (omega arith) in
    let equal = eq-eqb slot.wrap x.wrap same in
    rw (below, equal, over) refl

over_after : (end : EndKind) → is_active (state_after end) ≡ false
over_after Commit = refl
over_after RollbackEnd = refl

-- the own header is looked at
look_own : (segment : SegmentState) (handed : HandedState) (x : Xid) → x.seg ≡ segment.head.front.seg → look segment handed x ≡ told_of (slot_at segment.head x.slot) x
look_own segment handed x same =
    let own = eq-eqb segment.head.front.seg x.seg (sym same) in
    rw own refl

end_told : (x : Xid) (end : EndKind) (segment : SegmentState) (scn : ℕ) (handed : HandedState) (at : ℕ) → IsHeader segment.head → IsUnderWay segment.head x → look (applied segment (end_record x end segment.head scn) at) handed x ≡ Ended scn
unfolding end_record ended_slot head_change
end_told x end segment scn handed at is under =
    let to : TxnSlot = ended_slot (slot_at segment.head x.slot) end scn in
    let eight = is.slots.eight in
    let within = under.slot in
    let there : get_or (set segment.head.slots x.slot to) x.slot never_slot ≡ to = get_or-set_same segment.head.slots x.slot to never_slot (omega arith) in
    look_own (applied segment (end_record x end segment.head scn) at) handed x under.seg
    ∙ ap (λ (slot : TxnSlot). told_of slot x) there
    ∙ told_by to x under.wrap (over_after end)

told_where : (b : Bool) (r : Redo) (P : Redo → Type 0) → (b ≡ true → P r) → IfSome (cond b (Some r) None) P
told_where true r P holds = holds refl
told_where false r P holds = tt

pub end_is_told : (x : Xid) (end : EndKind) (segment : SegmentState) (clock : Clock) (handed : HandedState) (at : ℕ) → IsHeader segment.head → IfSome (end_decision x end segment clock) (λ r. look (applied segment r at) handed x ≡ Ended r.scn)
unfolding end_record
end_is_told x end segment clock handed at is =
    told_where (may_end x end segment.head clock) (end_record x end segment.head (clock.scn + 1)) (λ r. look (applied segment r at) handed x ≡ Ended r.scn)
    (λ may. end_told x end segment (clock.scn + 1) handed at is (under_way segment.head x (both_true _ _ (both_true _ _ (both_true _ _ may).0).0).0))
