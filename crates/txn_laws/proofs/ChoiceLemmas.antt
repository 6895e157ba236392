-- What is known of the ITL slot and of the transaction of a change that was decided.
use Rattle.std.proofs.Common.{◌≡◌, ℕ, ◌-◌, ◌^◌, ◌<◌, ◌≤◌, inl, inr, Bool, true, false, List, length, map, refl, sym, ap, subst, ◌∙◌, arith, Option, None, Some}
use Rattle.std.specs.List.{position}
use Rattle.std.specs.Option.{option_map}
use Rattle.std.proofs.lemmas.Bool.{eq-eqb, false_from_ne_true, lt-ltb, ne_eqb}
use Rattle.std.proofs.lemmas.List.Quantifiers.{position-Some}
use Rattle.base_types.specs.declared.names.Xid.{Xid}
use Rattle.redo_types.specs.declared.blocks.ItlSlot.{ItlSlot}
use Rattle.redo_types.specs.declared.undo.TxnSlot.{TxnSlot}
use Rattle.part_image.specs.Slots.{unused_itl}
use Rattle.block_image.specs.Block.{BlockContent, IsBlock, NamesSlot, clear_row, row_at}
use Rattle.block_image.specs.Block.{slot_at as itl_at}
use Rattle.block_image.proofs.EachLemmas.{all_nth}
use Rattle.undo_image.specs.Header.{HeaderContent, IsHeader, never_slot, slot_at}
use Rattle.undo_segment.specs.declared.look.Look.{Look}
use Rattle.undo_segment.specs.declared.look.Look.TheVariants.{Active}
use Rattle.undo_segment.specs.Begin.{ended_first, next_of_slot}
use Rattle.undo_segment.specs.Handed.{HandedState}
use Rattle.undo_segment.specs.Look.{told_of}
use Rattle.undo_segment.specs.Segment.{SegmentState, look}
use Rattle.txn_slots.specs.declared.choice.SlotAnswer.{SlotAnswer}
use Rattle.txn_slots.specs.declared.choice.SlotAnswer.TheVariants.{Take}
use Rattle.txn_slots.specs.declared.lock.LockAnswer.TheVariants.{Held}
use Rattle.txn_slots.specs.Choice.{MayTake, TakesWhatItMay, choose_slot, is_own_slot, is_unused, take_ended, take_own, take_unused}
use Rattle.txn_slots.specs.Lock.{lock_row, locker, named_by}
use Rattle.txn_slots.specs.Own.{is_own}
use Rattle.txn_slots.proofs.ChoiceLemmas.{takes_ended, takes_own, takes_unused}
use Rattle.txn_slots.proofs.SlotLemmas.{position_none}
use Rattle.journal.proofs.XidLemmas.{both_true, same_xid-refl, same_xid-true}
use Rattle.txn_engine.specs.Change.{holds, own_or_next}
use Rattle.txn_engine.specs.Limits.{may_go_on}
use Rattle.txn_engine.proofs.LimitLemmas.{active_has, slot_is, under_way}

by_unused : (o : Option ℕ) (me : Option Xid) (look : Xid → Look) (itl : List ItlSlot) → length itl ≡ 4 → position (is_own_slot me) itl ≡ None → position is_unused itl ≡ o
    → TakesWhatItMay me look itl (take_unused o (take_ended itl (map (λ slot. look slot.xid) itl)))
by_unused (Some at) me look itl four none is = takes_unused me look itl at four none is
by_unused None me look itl four none is = takes_ended me look itl four none

by_own : (o : Option ℕ) (me : Option Xid) (look : Xid → Look) (itl : List ItlSlot) → length itl ≡ 4 → position (is_own_slot me) itl ≡ o
    → TakesWhatItMay me look itl (take_own o (take_unused (position is_unused itl) (take_ended itl (map (λ slot. look slot.xid) itl))))
by_own (Some at) me look itl four is = takes_own me look itl at four is
by_own None me look itl four is = by_unused (position is_unused itl) me look itl four is refl

-- the slot that is taken may be
pub chosen : (me : Option Xid) (look : Xid → Look) (itl : List ItlSlot) (k : ℕ) (fresh : Bool) → length itl ≡ 4 → choose_slot me look itl ≡ Take k fresh → (1 ≤ k) × (k ≤ 4) × MayTake me look fresh (itl_at itl k)
chosen me look itl k fresh four is = subst (TakesWhatItMay me look itl) is (by_own (position (is_own_slot me) itl) me look itl four refl)

fresh_by : (o : Option ℕ) (otherwise : SlotAnswer) (k : ℕ) → take_own o otherwise ≡ Take k true → o ≡ None
fresh_by None otherwise k is = refl
fresh_by (Some at) otherwise k is = absurd cc

used_by : (own : Option Xid) (head : HeaderContent) (slot : ItlSlot) → IsHeader head → may_go_on head own ≡ true → is_own_slot own slot ≡ true → 1 ≤ slot.xid.wrap
used_by None head slot is may own = absurd cc
used_by (Some x) head slot is may own =
    let under = under_way head x (both_true _ _ may).0 in
    let has = active_has (slot_at head x.slot) (slot_is head x.slot is under.slot) under.active in
    let some = has.0 in
    let wrap = under.wrap in
    let same = same_xid-true x slot.xid own in
    subst (λ (y : Xid). 1 ≤ y.wrap) same (omega arith)

-- where a slot is taken that was never used, it is taken anew
pub unused_is_fresh : (own : Option Xid) (look : Xid → Look) (head : HeaderContent) (fresh : Bool) (slot : ItlSlot) → IsHeader head → may_go_on head own ≡ true → MayTake own look fresh slot → slot.xid.wrap ≡ 0 → fresh ≡ true
unused_is_fresh own look head true slot is may takes none = refl
unused_is_fresh own look head false slot is may takes none = absurd (let some = used_by own head slot is may takes in omega arith)

mapped : (f : ℕ → Xid) (o : Option ℕ) (x : Xid) → option_map f o ≡ Some x → (k : ℕ) × (o ≡ Some k) × (f k ≡ x)
mapped f None x h = absurd cc
mapped f (Some k) x h = (k, refl, cc)

-- what is known of the transaction of a change
pub record IsTold (own : Option Xid) (segment : SegmentState) (x : Xid) : Type 0 where
  pub seg : x.seg ≡ segment.head.front.seg
  pub slot : x.slot < 8
  pub begun : own ≡ None → x.wrap < 2 ^ 32 - 1 → (slot_at segment.head x.slot).wrap < x.wrap

begun_is : (segment : SegmentState) (k : ℕ) → IsHeader segment.head → position (ended_first segment.head.slots) segment.head.slots ≡ Some k → IsTold None segment (next_of_slot segment k)
begun_is segment k is at =
    let there = position-Some (ended_first segment.head.slots) segment.head.slots k never_slot at in
    let eight = is.slots.eight in
    let within = there.0 in
    record { seg = refl; slot = omega arith; begun = λ none room. omega arith }

pub told : (own : Option Xid) (segment : SegmentState) (x : Xid) → IsHeader segment.head → may_go_on segment.head own ≡ true → own_or_next own segment ≡ Some x → IsTold own segment x
told None segment x is may named =
    let from = mapped (next_of_slot segment) (position (ended_first segment.head.slots) segment.head.slots) x named in
    subst (IsTold None segment) from.2 (begun_is segment from.0 is from.1)
told (Some y) segment x is may named =
    let same : y ≡ x = cc in
    let under = under_way segment.head y (both_true _ _ may).0 in
    subst (IsTold (Some y) segment) same (record { seg = under.seg; slot = under.slot; begun = λ none room. absurd cc })

-- the own header is looked at
look_own : (segment : SegmentState) (handed : HandedState) (x : Xid) → x.seg ≡ segment.head.front.seg → look segment handed x ≡ told_of (slot_at segment.head x.slot) x
look_own segment handed x same =
    let own = eq-eqb segment.head.front.seg x.seg (sym same) in
    rw own refl

active_above : (slot : TxnSlot) (x : Xid) → slot.wrap < x.wrap → told_of slot x ≡ Active
active_above slot x above = let below = lt-ltb slot.wrap x.wrap above in rw below refl

-- a row whose lock byte names a transaction that begins by the change is held
held_by_begun : (segment : SegmentState) (handed : HandedState) (image : BlockContent) (row : ℕ) (x : Xid) → IsTold None segment x → x.wrap < 2 ^ 32 - 1 → locker image row ≡ Some x → lock_row None (look segment handed) image row ≡ Held x
held_by_begun segment handed image row x is room named =
    let active : look segment handed x ≡ Active = look_own segment handed x is.seg ∙ active_above (slot_at segment.head x.slot) x (is.begun refl room) in
    rw (named, active) refl

-- where the lock byte of a row names a slot, it is one of four
pub record NamesOne (image : BlockContent) (row : ℕ) (x : Xid) : Type 0 where
  pub number : ℕ
  pub lock : (row_at image.rows row).lock ≡ number
  pub some : 1 ≤ number
  pub few : number ≤ 4
  pub xid : (itl_at image.itl number).xid ≡ x

named_from : (image : BlockContent) (row lock : ℕ) (x : Xid) → (row_at image.rows row).lock ≡ lock → NamesSlot image.itl lock → named_by image lock ≡ Some x → NamesOne image row x
named_from image row lock x is (inl none) named = absurd (let zero = eq-eqb lock 0 none in let no : ◌≡◌ {A = Option Xid} None (Some x) = rw zero at named in cc)
named_from image row lock x is (inr (low, high, used)) named =
    let other = ne_eqb lock 0 (λ zero. omega arith) in
    let there : ◌≡◌ {A = Option Xid} (Some (itl_at image.itl lock).xid) (Some x) = rw other at named in
    record { number = lock; lock = is; some = low; few = high; xid = cc }

pub names_one : (image : BlockContent) (row : ℕ) (x : Xid) → IsBlock image → row < 8 → locker image row ≡ Some x → NamesOne image row x
names_one image row x is within named =
    let eight = is.eight_rows in
    named_from image row (row_at image.rows row).lock x refl (all_nth (λ r. NamesSlot image.itl r.lock) image.rows row clear_row (omega arith) is.locks) named

holder : (named : Option Xid) (x : Xid) → is_own named x ≡ true → named ≡ Some x
holder None x h = absurd cc
holder (Some y) x h = ap (λ (z : Xid). Some z) (same_xid-true y x h)

-- the transaction whose slot the lock byte names
pub held_names : (x : Xid) (image : BlockContent) (row : ℕ) → holds x image row ≡ true → locker image row ≡ Some x
held_names x image row h = holder (locker image row) x h

fresh_held : (own : Option Xid) (segment : SegmentState) (handed : HandedState) (image : BlockContent) (row : ℕ) (x : Xid) → IsBlock image → row < 8 → own_or_next own segment ≡ Some x → IsTold own segment x → x.wrap < 2 ^ 32 - 1
    → position (is_own_slot own) image.itl ≡ None → ((y : Xid) → lock_row own (look segment handed) image row ≡ Held y → ⊥) → locker image row ≡ Some x → ⊥
fresh_held None segment handed image row x is within named told room none unheld held = unheld x (held_by_begun segment handed image row x told room held)
fresh_held (Some y) segment handed image row x is within named told room none unheld held =
    let one = names_one image row x is within held in
    let four = is.four_slots in
    let some = one.some in
    let few = one.few in
    let same : y ≡ x = cc in
    let off = position_none (is_own_slot (Some y)) image.itl (one.number - 1) unused_itl none (omega arith) in
    let on : is_own_slot (Some y) (itl_at image.itl one.number) ≡ true = rw (same, one.xid) (same_xid-refl x) in
    cc

-- a transaction that takes a slot anew doesn't hold the row
pub fresh_isnt_held : (own : Option Xid) (segment : SegmentState) (handed : HandedState) (image : BlockContent) (row k : ℕ) (x : Xid) → IsBlock image → row < 8 → own_or_next own segment ≡ Some x → IsTold own segment x → x.wrap < 2 ^ 32 - 1
    → choose_slot own (look segment handed) image.itl ≡ Take k true → ((y : Xid) → lock_row own (look segment handed) image row ≡ Held y → ⊥) → holds x image row ≡ false
fresh_isnt_held own segment handed image row k x is within named told room taken unheld =
    let itl = image.itl in
    let none = fresh_by (position (is_own_slot own) itl) (take_unused (position is_unused itl) (take_ended itl (map (λ slot. look segment handed slot.xid) itl))) k taken in
    false_from_ne_true (holds x image row) (λ held. fresh_held own segment handed image row x is within named told room none unheld (held_names x image row held))
