-- The parts of decided records are in their ranges.
use Rattle.std.proofs.Common.{◌≡◌, ◌≢◌, ℕ, ◌+◌, ◌-◌, ◌^◌, ◌==◌, ◌<◌, ◌≤◌, ◌⊎◌, inl, inr, Bool, true, false, not, ◌||◌, List, [], ◌∷◌, length, get_or, set, map, refl, sym, ap, subst, ◌∙◌, arith}
use Rattle.std.specs.List.{AllByRecursion, list_all}
use Rattle.std.proofs.lemmas.Bool.{cond_both, eqb-false, cases_eq, not-true}
use Rattle.std.proofs.lemmas.List.{get_or-set_other, get_or-set_same, length-map, length-set, map-set}
use Rattle.base_types.specs.declared.names.Xid.{Xid}
use Rattle.base_types.specs.declared.value.Value.{Value}
use Rattle.redo_types.specs.declared.blocks.ItlSlot.{ItlSlot}
use Rattle.redo_types.specs.declared.blocks.RowChange.{RowChange}
use Rattle.redo_types.specs.declared.undo.TxnSlot.{TxnSlot}
use Rattle.part_image.specs.Slots.{IsItl, IsValue, unused_itl}
use Rattle.part_image.specs.Undo.{IsTxnSlot}
use Rattle.block_image.specs.declared.row.Row.{Row}
use Rattle.block_image.specs.Block.{BlockContent, IsBlock, IsRow, NamesSlot, clear_row, row_at, slot_at}
use Rattle.block_image.specs.Changes.{applied, let_go, unlocked}
use Rattle.block_image.proofs.EachLemmas.{all_map, all_nth, all_set, all_then}
use Rattle.redo_record.specs.Redo.{IsHeadChange, IsXid}
use Rattle.undo_image.specs.Header.{HeaderContent, IsHeader}
use Rattle.undo_image.specs.Header.{slot_at as txn_slot_at}
use Rattle.journal.proofs.XidLemmas.{both_true}
use Rattle.txn_engine.specs.Parts.{head_change}
use Rattle.txn_engine.proofs.LimitLemmas.{IsUnderWay, active_has, slot_is}
use Rattle.txn_engine.proofs.RedoParts.{flag_fits, bits_fit, head_is}

-- the change of a header is one
pub head_change_is : (head : HeaderContent) (slot next : ℕ) (to : TxnSlot) → IsHeader head → head.front.version < 2 ^ 63 → slot < 8 → 1 ≤ next → next < 2 ^ 64 → IsTxnSlot to → IsHeadChange (head_change head slot next to)
unfolding head_change
head_change_is head slot next to is version within some fits is_slot =
    let number = is.front.fits.1.1.0 in
    head_is (head_change head slot next to) (omega arith) (omega arith) (omega arith) within some fits is_slot

-- the name of a transaction under way
pub xid_is : (head : HeaderContent) (x : Xid) → IsHeader head → head.front.seg < 8 → IsUnderWay head x → IsXid x × (x.wrap < 2 ^ 32)
xid_is head x is seg under =
    let slot = slot_is head x.slot is under.slot in
    let has = active_has (txn_slot_at head x.slot) slot under.active in
    let some = has.0 in
    let wrap = slot.fits.0 in
    let same = under.wrap in
    let seg_same = under.seg in
    (record { segment = omega arith; slot = under.slot; wrap = omega arith }, omega arith)

-- a row by its value and its lock
row_is : (value : Value) (lock : ℕ) → IsValue value → lock ≤ 4 → IsRow (record { value = value; lock = lock })
row_is value lock is few = record { fits = (flag_fits value, (omega arith, (tt, (bits_fit value is, tt)))); value = is }

unlocked_is : (k : ℕ) (r : Row) → IsRow r → IsRow (unlocked k r)
unlocked_is k r is =
    cond_both (r.lock == k) (record r { lock = 0 }) r IsRow (λ same. record { fits = (is.fits.0, (omega arith, (tt, (is.fits.1.1.1.0, tt)))); value = is.value }) (λ differs. is)

unlocked_names : (itl : List ItlSlot) (k : ℕ) (r : Row) → NamesSlot itl r.lock → NamesSlot itl (unlocked k r).lock
unlocked_names itl k r names = cond_both (r.lock == k) (record r { lock = 0 }) r (λ (u : Row). NamesSlot itl u.lock) (λ same. inl refl) (λ differs. names)

rows_let_go : (free : Bool) (k : ℕ) (rows : List Row) → AllByRecursion IsRow rows → AllByRecursion IsRow (let_go free k rows)
rows_let_go true k rows are = all_map IsRow IsRow (unlocked k) (unlocked_is k) rows are
rows_let_go false k rows are = are

names_let_go : (itl : List ItlSlot) (free : Bool) (k : ℕ) (rows : List Row) → AllByRecursion (λ r. NamesSlot itl r.lock) rows → AllByRecursion (λ r. NamesSlot itl r.lock) (let_go free k rows)
names_let_go itl true k rows are = all_map (λ r. NamesSlot itl r.lock) (λ r. NamesSlot itl r.lock) (unlocked k) (unlocked_names itl k) rows are
names_let_go itl false k rows are = are

pub length_let_go : (free : Bool) (k : ℕ) (rows : List Row) → length (let_go free k rows) ≡ length rows
length_let_go true k rows = length-map rows (unlocked k)
length_let_go false k rows = refl

-- a lock that names a slot still does where another one is set, or that one to a used one
pub names_after : (itl : List ItlSlot) (k lock : ℕ) (slot : ItlSlot) → 1 ≤ k → k ≤ length itl → (lock ≢ k) ⊎ (1 ≤ slot.xid.wrap) → NamesSlot itl lock → NamesSlot (set itl (k - 1) slot) lock
names_after itl k lock slot some few how (inl none) = inl none
names_after itl k lock slot some few (inl other) (inr (low, high, used)) =
    let apart : lock - 1 ≢ k - 1 = λ same. other (omega arith) in
    inr (low, high, subst (λ (s : ItlSlot). 1 ≤ s.xid.wrap) (sym (get_or-set_other itl (k - 1) (lock - 1) slot unused_itl apart)) used)
names_after itl k lock slot some few (inr is_used) (inr (low, high, used)) =
    elim (cases_eq lock k) [
      | inl same ↦
          let is : slot_at (set itl (k - 1) slot) lock ≡ slot =
          ap (λ (n : ℕ). get_or (set itl (k - 1) slot) (n - 1) unused_itl) same ∙ get_or-set_same itl (k - 1) slot unused_itl (omega arith) in
          inr (low, high, subst (λ (s : ItlSlot). 1 ≤ s.xid.wrap) (sym is) is_used)
      | inr other ↦
          let apart : lock - 1 ≢ k - 1 = λ same. other (omega arith) in
          inr (low, high, subst (λ (s : ItlSlot). 1 ≤ s.xid.wrap) (sym (get_or-set_other itl (k - 1) (lock - 1) slot unused_itl apart)) used)
    ]

-- the ranges of a change of a row, and that its slot stays one
pub record MayApply (b : BlockContent) (c : RowChange) (scn : ℕ) : Type 0 where
  pub version : b.front.version < 2 ^ 63
  pub some_scn : 1 ≤ scn
  pub scn_fits : scn < 2 ^ 64
  pub row : c.row < 8
  pub lock : c.lock ≤ 4
  pub some_itl : 1 ≤ c.itl
  pub itl : c.itl ≤ 4
  pub slot : IsItl c.slot
  pub value : IsValue c.value
  pub locks : AllByRecursion (λ r. NamesSlot (set b.itl (c.itl - 1) c.slot) r.lock) (applied b c scn).rows

-- the block after a change is one
pub applied_is : (b : BlockContent) (c : RowChange) (scn : ℕ) → IsBlock b → MayApply b c scn → IsBlock (applied b c scn)
applied_is b c scn is may =
    let version = may.version in
    let fits = may.scn_fits in
    let some = may.some_scn in
    let before = let_go c.fresh c.itl b.rows in
    let new : Row = record { value = c.value; lock = c.lock } in
    let front = is.front.fits in
    record {
      front = record {
        fits = (front.0, (front.1.0, (front.1.1.0, (front.1.1.1.0, (front.1.1.1.1.0, (omega arith, (omega arith, (front.1.1.1.1.1.1.1.0, tt))))))));
        segment = is.front.segment;
        scn = (λ none. absurd (omega arith), λ none. absurd (omega arith));
        next = is.front.next;
      };
      four_slots = length-set b.itl (c.itl - 1) c.slot ∙ is.four_slots;
      slots = all_set IsItl b.itl (c.itl - 1) c.slot may.slot is.slots;
      eight_rows = length-set before c.row new ∙ length_let_go c.fresh c.itl b.rows ∙ is.eight_rows;
      rows = all_set IsRow before c.row new (row_is c.value c.lock may.value may.lock) (rows_let_go c.fresh c.itl b.rows is.rows);
      locks = may.locks;
    }

-- where the slot is set to a used one, each lock names a slot afterwards
pub locks_with_used : (b : BlockContent) (c : RowChange) (scn : ℕ) → IsBlock b → 1 ≤ c.itl → c.itl ≤ 4 → 1 ≤ c.slot.xid.wrap → NamesSlot (set b.itl (c.itl - 1) c.slot) c.lock
    → AllByRecursion (λ r. NamesSlot (set b.itl (c.itl - 1) c.slot) r.lock) (applied b c scn).rows
locks_with_used b c scn is some few used names =
    let four = is.four_slots in
    let P : Row → Type 0 = λ r. NamesSlot (set b.itl (c.itl - 1) c.slot) r.lock in
    let before = let_go c.fresh c.itl b.rows in
    all_set P before c.row (record { value = c.value; lock = c.lock }) names
    (all_then (λ r. NamesSlot b.itl r.lock) P (λ r named. names_after b.itl c.itl r.lock c.slot some (omega arith) (inr used) named) before (names_let_go b.itl c.fresh c.itl b.rows is.locks))

-- where no lock names the slot, each names a slot that stays
pub locks_without : (itl : List ItlSlot) (k : ℕ) (slot : ItlSlot) (rows : List Row) → 1 ≤ k → k ≤ length itl → list_all (λ lock. not (lock == k)) (map (λ (r : Row). r.lock) rows) ≡ true
    → AllByRecursion (λ r. NamesSlot itl r.lock) rows → AllByRecursion (λ r. NamesSlot (set itl (k - 1) slot) r.lock) rows
locks_without itl k slot [] some few none named = tt
locks_without itl k slot (r ∷ rows) some few none named =
    let both = both_true _ _ none in
    let other : r.lock ≢ k = eqb-false r.lock k (not-true (r.lock == k) both.0) in
    (names_after itl k r.lock slot some few (inl other) named.0, locks_without itl k slot rows some few both.1 named.1)
