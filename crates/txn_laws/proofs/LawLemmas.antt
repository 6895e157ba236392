-- A change that was decided and then taken back leaves the block as it was.
use Rattle.std.proofs.Common.{◌≡◌, ℕ, ◌+◌, ◌%◌, ◌<◌, Bool, cond, length, set, map, refl, sym, ap, subst, ◌∙◌, arith, Some, IfSome}
use Rattle.std.proofs.Math.Nat.{mod-lt}
use Rattle.std.proofs.lemmas.List.{get_or-set_same, length-set}
use Rattle.base_types.specs.declared.names.Scn.{Scn}
use Rattle.base_types.specs.declared.names.Xid.{Xid}
use Rattle.redo_types.specs.declared.redo.Redo.{Redo}
use Rattle.redo_types.specs.declared.undo.TxnSlot.{TxnSlot}
use Rattle.redo_types.specs.declared.undo.UndoRecord.{UndoRecord}
use Rattle.block_image.specs.Block.{BlockContent}
use Rattle.block_image.specs.Changes.{applied, values_of}
use Rattle.undo_image.specs.Header.{never_slot, slot_at}
use Rattle.undo_segment.specs.Apply.{applied as segment_applied}
use Rattle.scn_clock.specs.declared.clock.Clock.{Clock}
use Rattle.txn_engine.specs.declared.made.Plan.{Plan}
use Rattle.txn_engine.specs.Back.{back_record, lock_back, locks_of, row_back, slot_back}
use Rattle.txn_engine.specs.Change.{change_record, head_made, holds, row_made, slot_after, stood_last, undo_change, undo_made}
use Rattle.txn_engine.specs.Parts.{data_change, head_change, undo_at, undo_block_at}
use Rattle.txn_engine.proofs.LimitLemmas.{under_way}
use Rattle.txn_laws.specs.TakenBack.{AreWhole, IsTakenBack, OnHand, block_after, image_after, locks_left, other_lock, row_lock, segment_after}
use Rattle.txn_laws.proofs.BackLemmas.{TakesBack, decided_takes}
use Rattle.txn_laws.proofs.BlockLemmas.{lock_after, locks_stepped_back, slots_stepped_back, step_back, values_stepped_back}
use Rattle.txn_laws.proofs.MadeLemmas.{decided_is_made}
use Rattle.txn_laws.proofs.SegmentLemmas.{undo_stands}

-- the change of a case, and the record that takes it back, by the plan of the change
abbrev pub made_by : OnHand → Plan → Redo
made_by hand plan = change_record hand.ask plan hand.image hand.segment (hand.clock.scn + 1)

abbrev pub undo_by : OnHand → Plan → UndoRecord
undo_by hand plan = undo_made hand.ask plan hand.image hand.segment.head

abbrev back_by : OnHand → Plan → ℕ → Clock → Redo
back_by hand plan at later =
    back_record plan.xid (undo_by hand plan) (segment_applied hand.segment (made_by hand plan) at).head (image_after hand.image (made_by hand plan)) (later.scn + 1)

-- a case by its plan
pub record IsPlanned (hand : OnHand) (change : Redo) (at : ℕ) (later : Clock) (back : Redo) : Type 0 where
  pub plan : Plan
  pub slot : plan.xid.slot < 8
  pub made : made_by hand plan ≡ change
  pub back_made : back_by hand plan at later ≡ back

-- the header's slot has the change's undo record as the last one
pub last_after : (hand : OnHand) (plan : Plan) (at : ℕ) → length hand.segment.head.slots ≡ 8 → plan.xid.slot < 8
    → slot_at (segment_applied hand.segment (made_by hand plan) at).head plan.xid.slot ≡ slot_after hand.ask.own (slot_at hand.segment.head plan.xid.slot) plan.xid.wrap hand.segment.head.front.next
unfolding change_record head_change
last_after hand plan at eight slot =
    get_or-set_same hand.segment.head.slots plan.xid.slot (slot_after hand.ask.own (slot_at hand.segment.head plan.xid.slot) plan.xid.wrap hand.segment.head.front.next) never_slot (omega arith)

pub next_of_slot_after : (hand : OnHand) (plan : Plan) → (slot_after hand.ask.own (slot_at hand.segment.head plan.xid.slot) plan.xid.wrap hand.segment.head.front.next).last ≡ hand.segment.head.front.next
unfolding slot_after
next_of_slot_after hand plan = refl

-- the change's undo record stands in its place
pub placed : (hand : OnHand) (plan : Plan) (at : ℕ) → AreWhole hand → undo_at (segment_applied hand.segment (made_by hand plan) at) hand.segment.head.front.next ≡ Some (undo_by hand plan)
unfolding change_record undo_change undo_made
placed hand plan at whole =
    let next = hand.segment.head.front.next in
    undo_stands hand.segment (head_made hand.ask plan hand.segment.head) next ((undo_block_at hand.segment next).front.version + 1) (undo_by hand plan) (hand.clock.scn + 1) at whole.segment whole.undo.places.four

planned_by : (hand : OnHand) (change : Redo) (at : ℕ) (later : Clock) (back : Redo) (plan : Plan) (u : UndoRecord) → AreWhole hand → made_by hand plan ≡ change
    → TakesBack plan.xid (segment_applied hand.segment (made_by hand plan) at) (image_after hand.image (made_by hand plan)) later back u → IsPlanned hand change at later back
planned_by hand change at later back plan u whole made takes =
    let after = segment_applied hand.segment (made_by hand plan) at in
    let under = under_way after.head plan.xid takes.under_way in
    let slot = under.slot in
    let last = ap (λ (s : TxnSlot). s.last) (last_after hand plan at whole.head.slots.eight slot) ∙ next_of_slot_after hand plan in
    let there = placed hand plan at whole in
    let here : undo_at after hand.segment.head.front.next ≡ Some u = ap (λ (n : ℕ). undo_at after n) (sym last) ∙ takes.place in
    let same : undo_by hand plan ≡ u = cc in
    record {
      plan = plan;
      slot = slot;
      made = made;
      back_made = ap (λ (v : UndoRecord). back_record plan.xid v after.head (image_after hand.image (made_by hand plan)) (later.scn + 1)) same ∙ takes.is;
    }

pub xid_of_made : (hand : OnHand) (plan : Plan) → (made_by hand plan).xid ≡ plan.xid
unfolding change_record
xid_of_made hand plan = refl

pub planned : (hand : OnHand) (change : Redo) (at : ℕ) (later : Clock) (back : Redo) → IsTakenBack hand change at later back → IsPlanned hand change at later back
planned hand change at later back is =
    let made = decided_is_made hand.ask hand.image hand.segment hand.handed hand.clock hand.on_disk change is.made in
    let plan = made.plan in
    let same : made_by hand plan ≡ change = made.by.is in
    let xid : change.xid ≡ plan.xid = ap (λ (r : Redo). r.xid) (sym same) ∙ xid_of_made hand plan in
    let some = decided_takes change.xid (segment_applied hand.segment change at) (image_after hand.image change) later back is.taken_back in
    planned_by hand change at later back plan some.undo is.whole same
    (subst (λ (r : Redo). TakesBack plan.xid (segment_applied hand.segment r at) (image_after hand.image r) later back some.undo) (sym same)
    (subst (λ (x : Xid). TakesBack x (segment_applied hand.segment change at) (image_after hand.image change) later back some.undo) xid some.takes))

-- the block after both, by the plan
block_is : (hand : OnHand) (plan : Plan) (at : ℕ) (later : Clock) (P : BlockContent → Type 0)
    → P (applied (applied hand.image (row_made hand.ask plan hand.segment.head.front.next) (hand.clock.scn + 1)) (row_back (applied hand.image (row_made hand.ask plan hand.segment.head.front.next) (hand.clock.scn + 1)) (undo_by hand plan)) (later.scn + 1))
    → P (block_after hand (made_by hand plan) (back_by hand plan at later))
unfolding change_record data_change back_record
block_is hand plan at later P holds = holds

row_back_is : (hand : OnHand) (plan : Plan) (image : BlockContent)
    → row_back image (undo_by hand plan) ≡ step_back hand.image (row_made hand.ask plan hand.segment.head.front.next) (lock_back image (undo_by hand plan))
unfolding row_back undo_made row_made
row_back_is hand plan image = refl

pub within_rows : (hand : OnHand) (plan : Plan) → AreWhole hand → (row_made hand.ask plan hand.segment.head.front.next).row < length hand.image.rows
unfolding row_made
within_rows hand plan whole =
    let eight = whole.block.eight_rows in
    let row : hand.ask.row % 8 < 8 = mod-lt hand.ask.row (omega arith) in
    omega arith

-- a statement on both records by those of the plan
by_plan : (hand : OnHand) (change : Redo) (at : ℕ) (later : Clock) (back : Redo) (P : Redo → Redo → Type 0) → (p : IsPlanned hand change at later back) → P (made_by hand p.plan) (back_by hand p.plan at later) → P change back
by_plan hand change at later back P p holds =
    subst (λ (c : Redo). P c back) p.made (subst (λ (b : Redo). P (made_by hand p.plan) b) p.back_made holds)

pub values_as_before : (hand : OnHand) (change back : Redo) (at : ℕ) (later : Clock) → IsTakenBack hand change at later back → values_of (block_after hand change back).rows ≡ values_of hand.image.rows
values_as_before hand change back at later is =
    let p = planned hand change at later back is in
    let c = row_made hand.ask p.plan hand.segment.head.front.next in
    let image = applied hand.image c (hand.clock.scn + 1) in
    by_plan hand change at later back (λ c b. values_of (block_after hand c b).rows ≡ values_of hand.image.rows) p
    (block_is hand p.plan at later (λ b. values_of b.rows ≡ values_of hand.image.rows)
    (rw (row_back_is hand p.plan image) (values_stepped_back hand.image c (lock_back image (undo_by hand p.plan)) (hand.clock.scn + 1) (later.scn + 1) (within_rows hand p.plan is.whole))))

pub slots_as_before : (hand : OnHand) (change back : Redo) (at : ℕ) (later : Clock) → IsTakenBack hand change at later back → (block_after hand change back).itl ≡ hand.image.itl
slots_as_before hand change back at later is =
    let p = planned hand change at later back is in
    let c = row_made hand.ask p.plan hand.segment.head.front.next in
    let image = applied hand.image c (hand.clock.scn + 1) in
    by_plan hand change at later back (λ c b. (block_after hand c b).itl ≡ hand.image.itl) p
    (block_is hand p.plan at later (λ b. b.itl ≡ hand.image.itl)
    (rw (row_back_is hand p.plan image) (slots_stepped_back hand.image c (lock_back image (undo_by hand p.plan)) (hand.clock.scn + 1) (later.scn + 1))))

lock_by : (mine : Bool) (a b : ℕ) → a ≡ b → cond mine a 0 ≡ cond mine b 0
lock_by mine a b same = ap (λ (lock : ℕ). cond mine lock 0) same

-- the lock byte that the step back leaves the row
pub row_lock_is : (hand : OnHand) (plan : Plan) (scn : Scn) → AreWhole hand
    → lock_back (applied hand.image (row_made hand.ask plan hand.segment.head.front.next) scn) (undo_by hand plan) ≡ row_lock plan.xid hand.image (row_made hand.ask plan hand.segment.head.front.next)
unfolding undo_made row_made
row_lock_is hand plan scn whole =
    lock_by (holds plan.xid hand.image (hand.ask.row % 8)) _ plan.itl (lock_after hand.image (row_made hand.ask plan hand.segment.head.front.next) scn (within_rows hand plan whole))

left_by : (hand : OnHand) (plan : Plan) (b : BlockContent) → locks_of b ≡ locks_left plan.xid hand.image (row_made hand.ask plan hand.segment.head.front.next)
    → IfSome (made_by hand plan).row (λ made. locks_of b ≡ locks_left (made_by hand plan).xid hand.image made.to)
unfolding change_record data_change
left_by hand plan b is = is

pub locks_as_left : (hand : OnHand) (change back : Redo) (at : ℕ) (later : Clock) → IsTakenBack hand change at later back → IfSome change.row (λ made. locks_of (block_after hand change back) ≡ locks_left change.xid hand.image made.to)
locks_as_left hand change back at later is =
    let p = planned hand change at later back is in
    let c = row_made hand.ask p.plan hand.segment.head.front.next in
    let image = applied hand.image c (hand.clock.scn + 1) in
    by_plan hand change at later back (λ c b. IfSome c.row (λ made. locks_of (block_after hand c b) ≡ locks_left c.xid hand.image made.to)) p
    (left_by hand p.plan (block_after hand (made_by hand p.plan) (back_by hand p.plan at later))
    (block_is hand p.plan at later (λ b. locks_of b ≡ locks_left p.plan.xid hand.image c)
    (rw (row_back_is hand p.plan image)
    (locks_stepped_back hand.image c (lock_back image (undo_by hand p.plan)) (hand.clock.scn + 1) (later.scn + 1)
    ∙ ap (λ (lock : ℕ). set (map (other_lock c) (locks_of hand.image)) c.row lock) (row_lock_is hand p.plan (hand.clock.scn + 1) is.whole)))))

last_by : (hand : OnHand) (plan : Plan) (at back_at : ℕ) (later : Clock) → AreWhole hand → plan.xid.slot < 8
    → (slot_at (segment_after hand (made_by hand plan) at (back_by hand plan at later) back_at).head plan.xid.slot).last ≡ stood_last hand.ask.own (slot_at hand.segment.head plan.xid.slot)
unfolding change_record head_change back_record slot_back undo_made
last_by hand plan at back_at later whole slot =
    let eight = whole.head.slots.eight in
    let head = (segment_applied hand.segment (made_by hand plan) at).head in
    let long = length-set hand.segment.head.slots plan.xid.slot (slot_after hand.ask.own (slot_at hand.segment.head plan.xid.slot) plan.xid.wrap hand.segment.head.front.next) in
    ap (λ (s : TxnSlot). s.last) (get_or-set_same head.slots plan.xid.slot (slot_back (slot_at head plan.xid.slot) (undo_by hand plan)) never_slot (omega arith))

pub last_as_before : (hand : OnHand) (change back : Redo) (at back_at : ℕ) (later : Clock) → IsTakenBack hand change at later back
    → (slot_at (segment_after hand change at back back_at).head change.xid.slot).last ≡ stood_last hand.ask.own (slot_at hand.segment.head change.xid.slot)
last_as_before hand change back at back_at later is =
    let p = planned hand change at later back is in
    by_plan hand change at later back (λ c b. (slot_at (segment_after hand c at b back_at).head c.xid.slot).last ≡ stood_last hand.ask.own (slot_at hand.segment.head c.xid.slot)) p
    (rw (xid_of_made hand p.plan) (last_by hand p.plan at back_at later is.whole p.slot))
