-- A change that was decided can be taken back.
use Rattle.std.proofs.Common.{◌≡◌, ℕ, ◌+◌, ◌-◌, ◌%◌, ◌==◌, ◌<◌, ◌≤◌, ◌⊎◌, inl, inr, Bool, true, not, cond, set, refl, ap, subst, ◌∙◌, arith, Option, None, Some}
use Rattle.std.specs.Prelude.{is_some, nat_le}
use Rattle.std.specs.List.{list_all}
use Rattle.std.proofs.lemmas.Bool.{and_from, cases_eq, eq-eqb, le-leb, lt-ltb, ne_eqb, not_from_false, or_left, or_right}
use Rattle.std.proofs.lemmas.List.{get_or-set_same}
use Rattle.base_types.specs.declared.names.Xid.{Xid}
use Rattle.redo_types.specs.declared.redo.Redo.{Redo}
use Rattle.redo_types.specs.declared.undo.TxnSlot.{TxnSlot}
use Rattle.redo_types.specs.declared.undo.TxnState.TheVariants.{Active}
use Rattle.redo_types.specs.declared.undo.UndoRecord.{UndoRecord}
use Rattle.part_image.specs.Slots.{unused_itl}
use Rattle.block_image.specs.Block.{BlockContent}
use Rattle.block_image.specs.Block.{slot_at as itl_at}
use Rattle.block_image.specs.Changes.{applied}
use Rattle.undo_image.specs.Header.{HeaderContent, IsHeader, slot_at}
use Rattle.undo_segment.specs.Apply.{applied as segment_applied}
use Rattle.undo_segment.specs.Look.{is_active}
use Rattle.undo_segment.specs.Segment.{SegmentState}
use Rattle.scn_clock.specs.declared.clock.Clock.{Clock}
use Rattle.journal.proofs.XidLemmas.{both_true, same_xid-refl}
use Rattle.txn_engine.specs.declared.back.NextBack.TheVariants.{Undo}
use Rattle.txn_engine.specs.declared.made.Plan.{Plan}
use Rattle.txn_engine.specs.Back.{back_decision, is_undo_of, keeps_locks, lets_go, lock_back, locks_of, may_step_back, names_undo, next_back, stands_from}
use Rattle.txn_engine.specs.Change.{change_record, row_made, slot_after, stood_last, undo_made}
use Rattle.txn_engine.specs.Limits.{is_under_way, may_go_on, may_rise}
use Rattle.txn_engine.specs.Parts.{data_change, undo_at}
use Rattle.txn_engine.proofs.LimitLemmas.{active_has, slot_is, under_way}
use Rattle.txn_laws.specs.TakenBack.{AreWhole, MayTakeBack, OnHand, decided_back, image_after}
use Rattle.txn_laws.proofs.BlockLemmas.{none_names}
use Rattle.txn_laws.proofs.KnownLemmas.{IsKnown, known_plan}
use Rattle.txn_laws.proofs.LawLemmas.{last_after, made_by, next_of_slot_after, placed, row_lock_is, undo_by, xid_of_made}

under_way_by : (head : HeaderContent) (x : Xid) → x.seg ≡ head.front.seg → x.slot < 8 → (slot_at head x.slot).wrap ≡ x.wrap → (slot_at head x.slot).state ≡ Active → is_under_way head x ≡ true
under_way_by head x seg slot wrap state =
    let a = eq-eqb x.seg head.front.seg seg in
    let b = lt-ltb x.slot 8 slot in
    let c = eq-eqb (slot_at head x.slot).wrap x.wrap wrap in
    let d = ap is_active state in
    rw (a, b, c, d) refl

wrap_after : (own : Option Xid) (slot : TxnSlot) (wrap next : ℕ) → (slot_after own slot wrap next).wrap ≡ wrap
unfolding slot_after
wrap_after own slot wrap next = refl

state_after : (own : Option Xid) (slot : TxnSlot) (wrap next : ℕ) → (slot_after own slot wrap next).state ≡ Active
unfolding slot_after
state_after own slot wrap next = refl

next_is : (x : Xid) (segment : SegmentState) (u : UndoRecord) → is_under_way segment.head x ≡ true → 1 ≤ (slot_at segment.head x.slot).last → undo_at segment (slot_at segment.head x.slot).last ≡ Some u
    → is_undo_of x (slot_at segment.head x.slot).last u ≡ true → next_back x segment ≡ Undo u
next_is x segment u way some there is =
    let other = ne_eqb (slot_at segment.head x.slot).last 0 (λ none. omega arith) in
    rw (way, other, there, is) refl

undo_is_of : (hand : OnHand) (plan : Plan) → is_undo_of plan.xid hand.segment.head.front.next (undo_by hand plan) ≡ true
unfolding undo_made
undo_is_of hand plan =
    let a = eq-eqb hand.segment.head.front.next hand.segment.head.front.next refl in
    let b = eq-eqb plan.xid.slot plan.xid.slot refl in
    let c = eq-eqb plan.xid.wrap plan.xid.wrap refl in
    rw (a, b, c) refl

next_of_made : (hand : OnHand) (plan : Plan) (at : ℕ) → AreWhole hand → IsKnown hand plan → next_back plan.xid (segment_applied hand.segment (made_by hand plan) at) ≡ Undo (undo_by hand plan)
next_of_made hand plan at whole known =
    let after = segment_applied hand.segment (made_by hand plan) at in
    let x = plan.xid in
    let next = hand.segment.head.front.next in
    let before = slot_at hand.segment.head x.slot in
    let its = last_after hand plan at whole.head.slots.eight known.told.slot in
    let last : (slot_at after.head x.slot).last ≡ next = ap (λ (s : TxnSlot). s.last) its ∙ next_of_slot_after hand plan in
    let some = whole.head.front.next in
    let way = under_way_by after.head x known.told.seg known.told.slot (ap (λ (s : TxnSlot). s.wrap) its ∙ wrap_after hand.ask.own before x.wrap next) (ap (λ (s : TxnSlot). s.state) its ∙ state_after hand.ask.own before x.wrap next) in
    next_is x after (undo_by hand plan) way (omega arith)
    (ap (λ (n : ℕ). undo_at after n) last ∙ placed hand plan at whole)
    (ap (λ (n : ℕ). is_undo_of x n (undo_by hand plan)) last ∙ undo_is_of hand plan)

-- the image after the change
abbrev changed : OnHand → Plan → BlockContent
changed hand plan = applied hand.image (row_made hand.ask plan hand.segment.head.front.next) (hand.clock.scn + 1)

image_is : (hand : OnHand) (plan : Plan) → image_after hand.image (made_by hand plan) ≡ changed hand plan
unfolding change_record data_change
image_is hand plan = refl

block_same : (hand : OnHand) (plan : Plan) → ((undo_by hand plan).block == (changed hand plan).front.number) ≡ true
unfolding undo_made
block_same hand plan = eq-eqb hand.image.front.number hand.image.front.number refl

names_by : (hand : OnHand) (plan : Plan) → AreWhole hand → IsKnown hand plan → names_undo (changed hand plan) plan.xid (undo_by hand plan) ≡ true
unfolding undo_made row_made
names_by hand plan whole known =
    let four = whole.block.four_slots in
    let some = known.some_itl in
    let few = known.itl in
    let next = hand.segment.head.front.next in
    let its = get_or-set_same hand.image.itl (plan.itl - 1) (record { xid = plan.xid; seq = next }) unused_itl (omega arith) in
    let same = same_xid-refl plan.xid in
    let seq = eq-eqb next next refl in
    rw (its, same, seq) refl

lets_by : (hand : OnHand) (plan : Plan) → AreWhole hand → IsKnown hand plan → plan.fresh ≡ true → lets_go (changed hand plan) (undo_by hand plan) ≡ true
unfolding undo_made row_made
lets_by hand plan whole known fresh =
    let c = row_made hand.ask plan hand.segment.head.front.next in
    let free : lock_back (changed hand plan) (undo_by hand plan) ≡ 0 = row_lock_is hand plan (hand.clock.scn + 1) whole ∙ ap (λ (mine : Bool). cond mine plan.itl 0) (known.unheld fresh) in
    ap (λ (lock : ℕ). list_all (λ l. not (l == plan.itl)) (set (locks_of (changed hand plan)) (hand.ask.row % 8) lock)) free
    ∙ none_names hand.image c (hand.clock.scn + 1) known.some_itl fresh

keeps_by : (hand : OnHand) (plan : Plan) → AreWhole hand → IsKnown hand plan → keeps_locks (changed hand plan) (undo_by hand plan) ≡ true
unfolding undo_made
keeps_by hand plan whole known =
    let wrap = (itl_at hand.image.itl plan.itl).xid.wrap in
    elim (cases_eq wrap 0) [
      | inl none ↦ or_right (not (wrap == 0)) _ (lets_by hand plan whole known (known.unused none))
      | inr some ↦ or_left (not (wrap == 0)) _ (not_from_false (wrap == 0) (ne_eqb wrap 0 some))
    ]

stands_in : (own : Option Xid) (head : HeaderContent) (x : Xid) (wrap next : ℕ) (u : UndoRecord) → IsHeader head → may_go_on head own ≡ true → (own ≡ None) ⊎ (own ≡ Some x)
    → u.prev ≡ stood_last own (slot_at head x.slot) → stands_from (slot_after own (slot_at head x.slot) wrap next) u ≡ true
unfolding slot_after
stands_in None head x wrap next u is may named prev = or_left (u.prev == 0) _ (eq-eqb u.prev 0 prev)
stands_in (Some y) head x wrap next u is may (inl none) prev = absurd cc
stands_in (Some y) head x wrap next u is may (inr same) prev =
    let slot = slot_at head x.slot in
    let e : y ≡ x = cc in
    let under = under_way head x (subst (λ (z : Xid). is_under_way head z ≡ true) e (both_true _ _ may).0) in
    let has = active_has slot (slot_is head x.slot is under.slot) under.active in
    elim has.2 [
      | inl none ↦ or_left (u.prev == 0) _ (eq-eqb u.prev 0 (prev ∙ none))
      | inr some ↦ or_right (u.prev == 0) (nat_le slot.first u.prev) (le-leb slot.first u.prev (omega arith))
    ]

prev_of : (hand : OnHand) (plan : Plan) → (undo_by hand plan).prev ≡ stood_last hand.ask.own (slot_at hand.segment.head plan.xid.slot)
unfolding undo_made
prev_of hand plan = refl

steps_back : (hand : OnHand) (plan : Plan) (at : ℕ) (later : Clock) → AreWhole hand → IsKnown hand plan
    → may_rise later.scn ≡ true → may_rise (hand.image.front.version + 1) ≡ true → may_rise (hand.segment.head.front.version + 1) ≡ true
    → may_step_back plan.xid (undo_by hand plan) (segment_applied hand.segment (made_by hand plan) at).head (changed hand plan) later ≡ true
steps_back hand plan at later whole known clock image head =
    let x = plan.xid in
    let after = (segment_applied hand.segment (made_by hand plan) at).head in
    let next = hand.segment.head.front.next in
    let stands : stands_from (slot_at after x.slot) (undo_by hand plan) ≡ true =
    ap (λ (s : TxnSlot). stands_from s (undo_by hand plan)) (last_after hand plan at whole.head.slots.eight known.told.slot)
    ∙ stands_in hand.ask.own hand.segment.head x x.wrap next (undo_by hand plan) whole.head known.go known.own (prev_of hand plan) in
    and_from _ _ (and_from _ _ (and_from _ _ (and_from _ _ (and_from _ _ (and_from _ _ (and_from _ _ known.block (block_same hand plan)) (names_by hand plan whole known)) (keeps_by hand plan whole known)) stands) clock) head) image

some_back : (x : Xid) (segment : SegmentState) (image : BlockContent) (clock : Clock) (u : UndoRecord) → next_back x segment ≡ Undo u → may_step_back x u segment.head image clock ≡ true → is_some (back_decision x segment image clock) ≡ true
some_back x segment image clock u next may = rw (next, may) refl

pub comes_back : (hand : OnHand) (change : Redo) (at : ℕ) (later : Clock) → MayTakeBack hand change later → is_some (decided_back hand change at later) ≡ true
comes_back hand change at later may =
    let whole = may.whole in
    let by = known_plan hand change whole may.made may.wrap in
    let plan = by.plan in
    let after = segment_applied hand.segment (made_by hand plan) at in
    let there : is_some (back_decision plan.xid after (changed hand plan) later) ≡ true =
    some_back plan.xid after (changed hand plan) later (undo_by hand plan) (next_of_made hand plan at whole by.known) (steps_back hand plan at later whole by.known may.clock may.image may.head) in
    subst (λ (r : Redo). is_some (decided_back hand r at later) ≡ true) by.made
    (rw (xid_of_made hand plan, image_is hand plan) there)
