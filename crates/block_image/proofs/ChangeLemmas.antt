-- What changes leave of a data block.
use Rattle.std.proofs.Common.{◌≡◌, ◌≢◌, ℕ, ◌-◌, ◌^◌, ◌==◌, ◌<◌, ◌≤◌, ◌⊎◌, inl, inr, Bool, true, false, List, [], ◌∷◌, length, get_or, set, refl, sym, ap, subst, ◌∙◌, arith}
use Rattle.std.specs.Int.{w64}
use Rattle.std.specs.List.{AllByRecursion}
use Rattle.std.proofs.Math.Facts.{Fits-of_z}
use Rattle.std.proofs.lemmas.Bool.{cond_both, eqb-false, eqb-true, cases_eq}
use Rattle.std.proofs.lemmas.List.{get_or-map, get_or-set_other, get_or-set_same, length-map, length-set, map-set, set-get_or, set-set}
use Rattle.redo_types.specs.declared.blocks.ItlSlot.{ItlSlot}
use Rattle.redo_types.specs.declared.blocks.RowChange.{RowChange}
use Rattle.base_types.specs.declared.names.Scn.{Scn}
use Rattle.base_types.specs.declared.value.Value.{Value}
use Rattle.base_types.specs.declared.value.Value.TheVariants.{Absent, Num}
use Rattle.part_image.specs.Slots.{IsItl, IsValue, bits_of, flag_of, unused_itl}
use Rattle.block_image.specs.declared.row.Row.{Row}
use Rattle.block_image.specs.Block.{BlockContent, IsBlock, IsRow, NamesSlot, clear_row, row_at, slot_at}
use Rattle.block_image.specs.Changes.{let_go, restored, taken_back, unlocked, values_of}
use Rattle.block_image.proofs.EachLemmas.{all_map, all_nth, all_set, all_then}

-- a row is unlocked or as it was
unlocked_by : (P : Row → Type 0) (k : ℕ) (r : Row) → (r.lock ≡ k → P (record r { lock = 0 })) → (r.lock ≢ k → P r) → P (unlocked k r)
unlocked_by P k r named other = cond_both (r.lock == k) (record r { lock = 0 }) r P (λ same. named (eqb-true r.lock k same)) (λ differs. other (eqb-false r.lock k differs))

unlocked_is : (k : ℕ) (r : Row) → IsRow r → IsRow (unlocked k r)
unlocked_is k r is =
    unlocked_by IsRow k r (λ named. record { fits = (is.fits.0, (omega arith, (tt, (is.fits.1.1.1.0, tt)))); value = is.value }) (λ other. is)

unlocked_value : (k : ℕ) (r : Row) → (unlocked k r).value ≡ r.value
unlocked_value k r = unlocked_by (λ (u : Row). u.value ≡ r.value) k r (λ named. refl) (λ other. refl)

-- a lock that names another slot than the one that is set names the same slot as before
names_other : (itl : List ItlSlot) (k lock : ℕ) (slot : ItlSlot) → 1 ≤ k → lock ≢ k → NamesSlot itl lock → NamesSlot (set itl (k - 1) slot) lock
names_other itl k lock slot some other (inl none) = inl none
names_other itl k lock slot some other (inr (low, high, used)) =
    let apart : lock - 1 ≢ k - 1 = λ same. other (omega arith) in
    inr (low, high, subst (λ (s : ItlSlot). 1 ≤ s.xid.wrap) (sym (get_or-set_other itl (k - 1) (lock - 1) slot unused_itl apart)) used)

-- what a row holds has room in it
value_fits : (v : Value) → IsValue v → bits_of v < 256 ^ 8
value_fits Absent is = omega arith
value_fits (Num n) is = let fits = Fits-of_z {w = w64} {z = n} is in omega (arith, fits)

flag_fits : (v : Value) → flag_of v < 256
flag_fits Absent = omega arith
flag_fits (Num n) = omega arith

-- a row with another value is a row
with_value : (r : Row) (v : Value) → IsRow r → IsValue v → IsRow (record r { value = v })
with_value r v is is_v = record { fits = (flag_fits v, (is.fits.1.0, (tt, (value_fits v is_v, tt)))); value = is_v }

names_kept_by : (itl : List ItlSlot) (k lock : ℕ) (slot : ItlSlot) → 1 ≤ k → k ≤ length itl → 1 ≤ slot.xid.wrap → (lock ≡ k) ⊎ (lock ≡ k → ⊥) → NamesSlot itl lock → NamesSlot (set itl (k - 1) slot) lock
names_kept_by itl k lock slot some few used (inr other) names = names_other itl k lock slot some other names
names_kept_by itl k lock slot some few used (inl same) (inl none) = inl none
names_kept_by itl k lock slot some few used (inl same) (inr (low, high, before)) =
    let is : slot_at (set itl (k - 1) slot) lock ≡ slot =
    ap (λ (n : ℕ). get_or (set itl (k - 1) slot) (n - 1) unused_itl) same ∙ get_or-set_same itl (k - 1) slot unused_itl (omega arith) in
    inr (low, high, subst (λ (s : ItlSlot). 1 ≤ s.xid.wrap) (sym is) used)

-- a lock that names a used slot names it also where that one is set to another used one
names_kept : (itl : List ItlSlot) (k lock : ℕ) (slot : ItlSlot) → 1 ≤ k → k ≤ length itl → 1 ≤ slot.xid.wrap → NamesSlot itl lock → NamesSlot (set itl (k - 1) slot) lock
names_kept itl k lock slot some few used names = names_kept_by itl k lock slot some few used (cases_eq lock k) names

-- the locks name slots also where a slot is set, if those that name it are let go where it becomes unused
names_let_go : (itl : List ItlSlot) (k : ℕ) (slot : ItlSlot) (rows : List Row) → 1 ≤ k → k ≤ length itl → (free : Bool) → (slot.xid.wrap == 0) ≡ free
    → AllByRecursion (λ r. NamesSlot itl r.lock) rows → AllByRecursion (λ r. NamesSlot (set itl (k - 1) slot) r.lock) (let_go free k rows)
names_let_go itl k slot rows some few true free names =
    all_map (λ r. NamesSlot itl r.lock) (λ r. NamesSlot (set itl (k - 1) slot) r.lock) (unlocked k)
    (λ r named. unlocked_by (λ (u : Row). NamesSlot (set itl (k - 1) slot) u.lock) k r (λ same. inl refl) (λ other. names_other itl k r.lock slot some other named))
    rows names
names_let_go itl k slot rows some few false used names =
    let differs = eqb-false slot.xid.wrap 0 used in
    let some_wrap : 1 ≤ slot.xid.wrap = omega arith in
    all_then (λ r. NamesSlot itl r.lock) (λ r. NamesSlot (set itl (k - 1) slot) r.lock) (λ r named. names_kept itl k r.lock slot some few some_wrap named) rows names

rows_let_go : (free : Bool) (k : ℕ) (rows : List Row) → AllByRecursion IsRow rows → AllByRecursion IsRow (let_go free k rows)
rows_let_go true k rows are = all_map IsRow IsRow (unlocked k) (unlocked_is k) rows are
rows_let_go false k rows are = are

length_let_go : (free : Bool) (k : ℕ) (rows : List Row) → length (let_go free k rows) ≡ length rows
length_let_go true k rows = length-map rows (unlocked k)
length_let_go false k rows = refl

-- a block that is restored is a block
pub restored_is : (b : BlockContent) (k : ℕ) (slot : ItlSlot) (row : ℕ) (value : Value) → IsBlock b → IsItl slot → IsValue value → 1 ≤ k → k ≤ 4 → row < 8 → IsBlock (restored b k slot row value)
restored_is b k slot row value is is_slot is_value some few within =
    let free = slot.xid.wrap == 0 in
    let put = record (row_at b.rows row) { value = value } in
    let rows = set b.rows row put in
    let within_rows : row < length b.rows = omega (arith, is.eight_rows) in
    record {
      front = is.front;
      four_slots = length-set b.itl (k - 1) slot ∙ is.four_slots;
      slots = all_set IsItl b.itl (k - 1) slot is_slot is.slots;
      eight_rows = length_let_go free k rows ∙ length-set b.rows row put ∙ is.eight_rows;
      rows = rows_let_go free k rows (all_set IsRow b.rows row put (with_value (row_at b.rows row) value (all_nth IsRow b.rows row clear_row within_rows is.rows) is_value) is.rows);
      locks = names_let_go b.itl k slot rows some (omega (arith, is.four_slots)) free refl
          (all_set (λ r. NamesSlot b.itl r.lock) b.rows row put (all_nth (λ r. NamesSlot b.itl r.lock) b.rows row clear_row within_rows is.locks) is.locks);
    }

-- letting locks go leaves what the rows hold
values_let_go : (free : Bool) (k : ℕ) (rows : List Row) → values_of (let_go free k rows) ≡ values_of rows
values_let_go true k [] = refl
values_let_go true k (r ∷ rows) = rw (unlocked_value k r, values_let_go true k rows) refl
values_let_go false k rows = refl

-- the ITL slots are as they were before a change that is taken back
pub slots_taken_back : (b : BlockContent) (c : RowChange) (scn : Scn) → (taken_back b c scn).itl ≡ b.itl
slots_taken_back b c scn = set-set b.itl (c.itl - 1) c.slot (slot_at b.itl c.itl) ∙ set-get_or b.itl (c.itl - 1) unused_itl

-- and so is what the rows hold
pub values_taken_back : (b : BlockContent) (c : RowChange) (scn : Scn) → c.row < length b.rows
    → values_of (taken_back b c scn).rows ≡ values_of b.rows
values_taken_back b c scn within =
    let value = (row_at b.rows c.row).value in
    let before = let_go c.fresh c.itl b.rows in
    let changed = set before c.row (record { value = c.value; lock = c.lock }) in
    values_let_go ((slot_at b.itl c.itl).xid.wrap == 0) c.itl (set changed c.row (record (row_at changed c.row) { value = value }))
    ∙ map-set (λ (r : Row). r.value) changed c.row (record (row_at changed c.row) { value = value })
    ∙ ap (λ (vs : List Value). set vs c.row value) (map-set (λ (r : Row). r.value) before c.row (record { value = c.value; lock = c.lock }))
    ∙ set-set (values_of before) c.row c.value value
    ∙ ap (λ (vs : List Value). set vs c.row value) (values_let_go c.fresh c.itl b.rows)
    ∙ ap (λ (v : Value). set (values_of b.rows) c.row v) (sym (get_or-map (λ (r : Row). r.value) b.rows c.row clear_row Absent within))
    ∙ set-get_or (values_of b.rows) c.row Absent
