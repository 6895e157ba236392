-- The record of a change or a lock is a redo record, and the block after it is one.
use Rattle.std.proofs.Common.{◌≡◌, ℕ, ◌+◌, ◌-◌, ◌/◌, ◌%◌, ◌^◌, ◌<◌, ◌≤◌, ◌⊎◌, inl, inr, ◌↔◌, Bool, true, false, not, min, List, length, get_or, set, refl, sym, ap, subst, ◌∙◌, arith, Option, None, Some}
use Rattle.std.specs.List.{AllByRecursion, position}
use Rattle.std.specs.Option.{option_map}
use Rattle.std.proofs.Math.Nat.{mod-lt}
use Rattle.std.proofs.lemmas.Bool.{leb-true, ltb-true, not-true}
use Rattle.std.proofs.lemmas.List.{get_or-set_same}
use Rattle.std.proofs.lemmas.List.Quantifiers.{position-Some}
use Rattle.base_types.specs.declared.names.Xid.{Xid}
use Rattle.redo_types.specs.declared.blocks.ItlSlot.{ItlSlot}
use Rattle.redo_types.specs.declared.redo.RedoKind.{RedoKind}
use Rattle.redo_types.specs.declared.undo.TxnSlot.{TxnSlot}
use Rattle.redo_types.specs.declared.undo.TxnState.{TxnState}
use Rattle.redo_types.specs.declared.undo.TxnState.TheVariants.{Never, Active, Committed, RolledBack}
use Rattle.part_image.specs.Slots.{IsItl, IsValue, unused_itl}
use Rattle.part_image.specs.Undo.{HasState, IsTxnSlot, IsUndoRecord}
use Rattle.block_image.specs.Block.{BlockContent, IsBlock, IsRow, NamesSlot, clear_row, row_at}
use Rattle.block_image.specs.Block.{slot_at as itl_at}
use Rattle.block_image.specs.Changes.{applied}
use Rattle.block_image.proofs.EachLemmas.{all_nth}
use Rattle.redo_record.specs.Redo.{HasChanges, IsRedo, IsXid, NamesUndo}
use Rattle.undo_image.specs.Header.{HeaderContent, IsHeader, never_slot, slot_at}
use Rattle.undo_image.specs.UndoBlock.{IsUndoBlock}
use Rattle.undo_segment.specs.Begin.{ended_first, next_of_slot}
use Rattle.undo_segment.specs.Look.{is_active}
use Rattle.undo_segment.specs.Segment.{IsSegment, SegmentState}
use Rattle.txn_engine.proofs.RingPlaces.{version_at}
use Rattle.scn_clock.specs.declared.clock.Clock.{Clock}
use Rattle.journal.proofs.XidLemmas.{both_true}
use Rattle.txn_engine.specs.declared.ask.ChangeAsk.{ChangeAsk}
use Rattle.txn_engine.specs.declared.ask.Wish.{Wish}
use Rattle.txn_engine.specs.declared.ask.Wish.TheVariants.{Put, Add, Del, Lock}
use Rattle.txn_engine.specs.declared.made.Plan.{Plan}
use Rattle.txn_engine.specs.Change.{change_record, head_made, is_within_limits, kind_of, own_or_next, row_made, slot_after, stood_last, undo_change, undo_made}
use Rattle.txn_engine.specs.Limits.{may_go_on}
use Rattle.txn_engine.specs.Parts.{FitsBoth, data_change, undo_block_at}
use Rattle.txn_engine.proofs.LimitLemmas.{active_has, rises, slot_is, under_way}
use Rattle.txn_engine.proofs.PartLemmas.{applied_is, head_change_is, locks_with_used, xid_is}
use Rattle.txn_engine.proofs.RedoParts.{data_is, redo_is, undo_is, undo_record_is}

-- what an optional value is mapped from
mapped : (f : ℕ → Xid) (o : Option ℕ) (x : Xid) → option_map f o ≡ Some x → (k : ℕ) × (o ≡ Some k) × (f k ≡ x)
mapped f None x h = absurd cc
mapped f (Some k) x h = (k, refl, cc)

-- the end before a transaction that takes a free slot
prev_by : (slot : TxnSlot) (wrap : ℕ) (state : TxnState) → HasState state slot → is_active state ≡ false → wrap ≡ min (slot.wrap + 1) (2 ^ 32 - 1) → (wrap ≤ 1) ↔ (slot.scn ≡ 0)
prev_by slot wrap Never has free e = (λ few. has.3, λ none. let never = has.0 in omega arith)
prev_by slot wrap Active has free e = absurd cc
prev_by slot wrap Committed has free e = (λ few. absurd (let some = has.0 in omega arith), λ none. absurd (let ended = has.3 in omega arith))
prev_by slot wrap RolledBack has free e = (λ few. absurd (let some = has.0 in omega arith), λ none. absurd (let ended = has.3 in omega arith))

begun_slot_is : (slot : TxnSlot) (wrap next : ℕ) → IsTxnSlot slot → is_active slot.state ≡ false → wrap ≡ min (slot.wrap + 1) (2 ^ 32 - 1) → 1 ≤ next → next < 2 ^ 64 → IsTxnSlot (slot_after None slot wrap next)
unfolding slot_after
begun_slot_is slot wrap next is free e some fits = record {
  fits = (omega arith, (omega arith, (tt, (omega arith, (omega arith, (omega arith, (is.fits.1.1.1.1.1.0, tt)))))));
  state = (omega arith, some, inr (omega arith), refl);
  prev = prev_by slot wrap slot.state is.state free e;
}

going_slot_is : (x : Xid) (slot : TxnSlot) (next : ℕ) → IsTxnSlot slot → is_active slot.state ≡ true → slot.first ≤ next → next < 2 ^ 64 → IsTxnSlot (slot_after (Some x) slot slot.wrap next)
unfolding slot_after
going_slot_is x slot next is active began fits =
    let has = active_has slot is active in
    record {
      fits = (is.fits.0, (omega arith, (tt, (is.fits.1.1.1.0, (omega arith, (omega arith, (is.fits.1.1.1.1.1.1.0, tt)))))));
      state = (has.0, has.1, inr began, refl);
      prev = is.prev;
    }

-- what holds of the transaction of a change, and of its slot after it
record IsNamed (own : Option Xid) (head : HeaderContent) (x : Xid) : Type 0 where
  pub xid : IsXid x
  pub wrap : x.wrap < 2 ^ 32
  pub after : IsTxnSlot (slot_after own (slot_at head x.slot) x.wrap head.front.next)
  pub last : stood_last own (slot_at head x.slot) < 2 ^ 64

begun_is : (segment : SegmentState) (k : ℕ) → IsHeader segment.head → segment.head.front.seg < 8 → segment.head.front.next < 2 ^ 63 → position (ended_first segment.head.slots) segment.head.slots ≡ Some k
    → IsNamed None segment.head (next_of_slot segment k)
begun_is segment k is seg next at =
    let head = segment.head in
    let there = position-Some (ended_first head.slots) head.slots k never_slot at in
    let eight = is.slots.eight in
    let within = there.0 in
    let few : k < 8 = omega arith in
    let slot = slot_is head k is few in
    let free = not-true (is_active (slot_at head k).state) (both_true _ _ there.1).0 in
    let some = is.front.next in
    record {
      xid = record { segment = seg; slot = few; wrap = omega arith };
      wrap = omega arith;
      after = begun_slot_is (slot_at head k) (min ((slot_at head k).wrap + 1) (2 ^ 32 - 1)) head.front.next slot free refl some (omega arith);
      last = omega arith;
    }

going_is : (head : HeaderContent) (x : Xid) → IsHeader head → head.front.seg < 8 → head.front.next < 2 ^ 63 → may_go_on head (Some x) ≡ true → IsNamed (Some x) head x
going_is head x is seg next may =
    let both = both_true _ _ may in
    let under = under_way head x both.0 in
    let name = xid_is head x is seg under in
    let slot = slot_is head x.slot is under.slot in
    let began = leb-true (slot_at head x.slot).first head.front.next both.1 in
    let last = slot.fits.1.1.1.1.0 in
    record {
      xid = name.0;
      wrap = name.1;
      after = subst (λ (wrap : ℕ). IsTxnSlot (slot_after (Some x) (slot_at head x.slot) wrap head.front.next)) under.wrap (going_slot_is x (slot_at head x.slot) head.front.next slot under.active began (omega arith));
      last = omega arith;
    }

named_is : (own : Option Xid) (segment : SegmentState) (x : Xid) → IsHeader segment.head → segment.head.front.seg < 8 → segment.head.front.next < 2 ^ 63 → may_go_on segment.head own ≡ true → own_or_next own segment ≡ Some x
    → IsNamed own segment.head x
named_is None segment x is seg next may e =
    let from = mapped (next_of_slot segment) (position (ended_first segment.head.slots) segment.head.slots) x e in
    subst (IsNamed None segment.head) from.2 (begun_is segment from.0 is seg next from.1)
named_is (Some y) segment x is seg next may e =
    let same : y ≡ x = cc in
    subst (λ (z : Xid). IsNamed (Some y) segment.head z) same (going_is segment.head y is seg next may)

-- both kinds of record name an undo record, and have all three changes
names_undo : (wish : Wish) (seq : ℕ) → 1 ≤ seq → NamesUndo (kind_of wish) seq
names_undo (Put v) seq some = some
names_undo (Add by) seq some = some
names_undo Del seq some = some
names_undo Lock seq some = some

has_changes : (ask : ChangeAsk) (plan : Plan) (image : BlockContent) (segment : SegmentState) (scn : ℕ) (wish : Wish) → HasChanges (kind_of wish) (change_record ask plan image segment scn)
unfolding change_record
has_changes ask plan image segment scn (Put v) = (tt, tt)
has_changes ask plan image segment scn (Add by) = (tt, tt)
has_changes ask plan image segment scn Del = (tt, tt)
has_changes ask plan image segment scn Lock = (tt, tt)

-- what is known of a change whose record is made
pub record MayMake (ask : ChangeAsk) (plan : Plan) (image : BlockContent) (segment : SegmentState) (clock : Clock) : Type 0 where
  pub limits : is_within_limits ask image segment clock ≡ true
  pub xid : own_or_next ask.own segment ≡ Some plan.xid
  pub some_itl : 1 ≤ plan.itl
  pub itl : plan.itl ≤ 4
  pub value : IsValue plan.value

-- the ITL slot of a transaction of a change is one
itl_is : (x : Xid) (seq : ℕ) → IsXid x → x.wrap < 2 ^ 32 → 1 ≤ seq → seq < 2 ^ 64 → IsItl (record { xid = x; seq = seq })
itl_is x seq is wrap some fits =
    let seg = is.segment in
    let slot = is.slot in
    record { fits = (omega arith, (omega arith, (tt, (omega arith, (omega arith, tt))))); content = inr (record { segment = seg; slot = slot; wrap = is.wrap; seq = some }) }

-- the record of what was before is one
made_is : (ask : ChangeAsk) (plan : Plan) (image : BlockContent) (head : HeaderContent) → IsBlock image → IsNamed ask.own head plan.xid → 1 ≤ plan.itl → plan.itl ≤ 4 → 1 ≤ head.front.next → head.front.next < 2 ^ 63 → image.front.version < 2 ^ 63
    → IsUndoRecord (undo_made ask plan image head)
unfolding undo_made
made_is ask plan image head is named some_itl itl some next version =
    let row : ask.row % 8 < 8 = mod-lt ask.row (omega arith) in
    let eight = is.eight_rows in
    let four = is.four_slots in
    let number = is.front.fits.1.1.0 in
    let last = named.last in
    undo_record_is (undo_made ask plan image head)
    (record { seq = some; slot = named.xid.slot; some_itl = some_itl; itl = itl; row = row; wrap = named.xid.wrap; version = omega arith })
    (omega arith) named.wrap (omega arith) (omega arith) last
    (all_nth IsItl image.itl (plan.itl - 1) unused_itl (omega arith) is.slots)
    (all_nth IsRow image.rows (ask.row % 8) clear_row (omega arith) is.rows).value

pub change_fits : (ask : ChangeAsk) (plan : Plan) (image : BlockContent) (segment : SegmentState) (clock : Clock) → IsSegment segment → IsHeader segment.head → IsBlock image → IsUndoBlock (undo_block_at segment segment.head.front.next) → MayMake ask plan image segment clock
    → FitsBoth segment image (change_record ask plan image segment (clock.scn + 1))
unfolding change_record row_made data_change undo_change undo_made
change_fits ask plan image segment clock is_segment is is_block is_undo may =
    let head = segment.head in
    let a = both_true _ _ may.limits in
    let b = both_true _ _ a.0 in
    let c = both_true _ _ b.0 in
    let d = both_true _ _ c.0 in
    let e = both_true _ _ d.0 in
    let f = both_true _ _ e.0 in
    let g = both_true _ _ f.0 in
    let undo_version = rises (undo_block_at segment head.front.next).front.version a.1 in
    let next = rises head.front.next b.1 in
    let head_version = rises head.front.version c.1 in
    let image_version = rises image.front.version d.1 in
    let scn = rises clock.scn e.1 in
    let block = ltb-true image.front.number 64 g.0 in
    let few = is_segment.layout.few_instances in
    let in_layout = is_segment.seg in
    let named = named_is ask.own segment plan.xid is (omega arith) next f.1 may.xid in
    let some = is.front.next in
    let row : ask.row % 8 < 8 = mod-lt ask.row (omega arith) in
    let undo_number = is_undo.front.fits.1.1.0 in
    let place : (head.front.next - 1) % 4 < 4 = mod-lt (head.front.next - 1) (omega arith) in
    let made = made_is ask plan image head is_block named may.some_itl may.itl some next image_version in
    let slot = itl_is plan.xid head.front.next named.xid named.wrap some (omega arith) in
    let four = is_block.four_slots in
    let some_itl = may.some_itl in
    let itl = may.itl in
    let some_scn : 1 ≤ clock.scn + 1 = omega arith in
    let scn_fits : clock.scn + 1 < 2 ^ 64 = omega arith in
    let its : itl_at (set image.itl (plan.itl - 1) (record { xid = plan.xid; seq = head.front.next })) plan.itl ≡ record { xid = plan.xid; seq = head.front.next } =
    get_or-set_same image.itl (plan.itl - 1) (record { xid = plan.xid; seq = head.front.next }) unused_itl (omega arith) in
    let change = row_made ask plan head.front.next in
    let names : NamesSlot (set image.itl (plan.itl - 1) (record { xid = plan.xid; seq = head.front.next })) plan.itl =
    inr (some_itl, itl, subst (λ (s : ItlSlot). 1 ≤ s.xid.wrap) (sym its) named.xid.wrap) in
    let is_redo : IsRedo (change_record ask plan image segment (clock.scn + 1)) =
    redo_is (change_record ask plan image segment (clock.scn + 1))
    (record { xid = named.xid; wrap = named.wrap; some_scn = some_scn; scn = scn_fits; seq = omega arith; names = names_undo ask.wish head.front.next some })
    (has_changes ask plan image segment (clock.scn + 1) ask.wish)
    (head_change_is head plan.xid.slot (head.front.next + 1) (slot_after ask.own (slot_at head plan.xid.slot) plan.xid.wrap head.front.next) is head_version named.xid.slot (omega arith) (omega arith) named.after)
    (undo_is (undo_change (undo_block_at segment head.front.next) (undo_made ask plan image head)) (omega arith) (omega arith) (omega arith) place made)
    (data_is (data_change image change)
    (record { block = block; some_version = omega arith; version = omega arith; row = row; lock = itl; some_itl = some_itl; itl = itl })
    slot may.value) in
    let is_after : IsBlock (applied image change (clock.scn + 1)) = applied_is image change (clock.scn + 1) is_block (record {
      version = image_version;
      some_scn = some_scn;
      scn_fits = scn_fits;
      row = row;
      lock = itl;
      some_itl = some_itl;
      itl = itl;
      slot = slot;
      value = may.value;
      locks = locks_with_used image change (clock.scn + 1) is_block some_itl itl named.xid.wrap names;
    }) in
    let its_version = version_at segment head.front.next is_segment in
    record {
      segment_fits = record { is = is_redo; head = omega arith; undo = rw its_version (omega arith) };
      image_fits = record { version = omega arith; block = is_after };
    }
