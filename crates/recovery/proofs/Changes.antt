-- What a change of a row leaves of a data block.
use Rattle.std.proofs.Common.{◌≡◌, ℕ, zero, suc, ◌+◌, ◌-◌, ◌^◌, ◌==◌, ◌&&◌, ◌||◌, ◌<◌, ◌≤◌, ◌⊎◌, inl, inr, Bool, true, false, nat_le, List, [], ◌∷◌, ◌++◌, length, drop, get_or, map, set, take, refl, sym, ap, subst, ◌∙◌, arith, append_assoc}
use Rattle.std.specs.Int.{w64}
use Rattle.std.specs.List.{AllByRecursion, list_all}
use Rattle.std.proofs.Math.Facts.{Fits-of_z}
use Rattle.std.proofs.lemmas.Bool.{cond_both}
use Rattle.std.proofs.lemmas.Bool.Decides.{nat_tests}
use Rattle.std.proofs.lemmas.List.{drop_more, get_or_at, length-map, length-set, length-take-le, map_more, set_at}
use Rattle.redo_types.specs.declared.blocks.ItlSlot.{ItlSlot}
use Rattle.redo_types.specs.declared.blocks.RowChange.{RowChange}
use Rattle.base_types.specs.declared.value.Value.{Value}
use Rattle.base_types.specs.declared.value.Value.TheVariants.{Absent, Num}
use Rattle.redo_types.specs.declared.undo.TxnState.{TxnState}
use Rattle.redo_types.specs.declared.undo.TxnState.TheVariants.{Active, Committed, Never, RolledBack}
use Rattle.part_image.specs.Undo.{state_number}
use Rattle.part_image.specs.Slots.{IsItl, IsValue, bit, bits_of, flag_of}
use Rattle.block_image.specs.declared.row.Row.{Row}
use Rattle.block_image.specs.Block.{BlockContent, IsBlock, IsRow, NamesSlot, row_at, slot_at}
use Rattle.block_image.specs.Changes.{applied, let_go, unlocked}
use Rattle.block_image.proofs.EachLemmas.{all_map, all_set}
use Rattle.recovery.specs.Roll.{locks_name_slots, names_slot}

-- one item more of a list is mapped in its place
pub mapped_more : {A : Type 0} (f : A → A) (xs ys : List A) (i : ℕ) (d : A) → i < length xs → ys ≡ map f (take i xs) ++ drop i xs
    → set ys i (f (get_or ys i d)) ≡ map f (take (i + 1) xs) ++ drop (i + 1) xs
mapped_more {A = A} f xs ys i d within is =
    let x = get_or xs i d in
    let len : length (map f (take i xs)) ≡ i = length-map (take i xs) f ∙ length-take-le i xs (omega arith) in
    let split : ys ≡ map f (take i xs) ++ x ∷ drop (i + 1) xs = is ∙ ap (λ (rest : List A). map f (take i xs) ++ rest) (drop_more xs i d within) in
    let item : get_or ys i d ≡ x = ap (λ (l : List A). get_or l i d) split ∙ get_or_at (map f (take i xs)) x (drop (i + 1) xs) d i len in
    ap (λ (y : A). set ys i (f y)) item
    ∙ ap (λ (l : List A). set l i (f x)) split
    ∙ set_at (map f (take i xs)) x (drop (i + 1) xs) (f x) i len
    ∙ sym (append_assoc (map f (take i xs)) (f x ∷ []) (drop (i + 1) xs))
    ∙ ap (λ (front : List A). front ++ drop (i + 1) xs) (sym (map_more f xs i d within))

names : (slots : List ItlSlot) (lock : ℕ) → names_slot slots lock ≡ true → NamesSlot slots lock
names slots lock is = grind (arith, nat_tests)

each_names : (slots : List ItlSlot) (rows : List Row) → list_all (λ r. names_slot slots r.lock) rows ≡ true → AllByRecursion (λ r. NamesSlot slots r.lock) rows
each_names slots [] is = tt
each_names slots (r ∷ rows) is = (names slots r.lock (grind arith), each_names slots rows (grind arith))

holds_where_set : {V : Type 0} (P : V → Type 0) (vs : List V) (i : ℕ) (v : V) → i < length vs → AllByRecursion P (set vs i v) → P v
holds_where_set P [] i v within all = absurd (omega arith)
holds_where_set P (w ∷ vs) zero v within all = all.0
holds_where_set P (w ∷ vs) (suc i) v within all = holds_where_set P vs i v (omega arith) all.1

unlocked_is : (k : ℕ) (r : Row) → IsRow r → IsRow (unlocked k r)
unlocked_is k r is =
    cond_both (r.lock == k) (record r { lock = 0 }) r IsRow
    (λ same. record { fits = (is.fits.0, (omega arith, (tt, (is.fits.1.1.1.0, tt)))); value = is.value })
    (λ other. is)

rows_let_go : (free : Bool) (k : ℕ) (rows : List Row) → AllByRecursion IsRow rows → AllByRecursion IsRow (let_go free k rows)
rows_let_go true k rows are = all_map IsRow IsRow (unlocked k) (unlocked_is k) rows are
rows_let_go false k rows are = are

length_let_go : (free : Bool) (k : ℕ) (rows : List Row) → length (let_go free k rows) ≡ length rows
length_let_go true k rows = length-map rows (unlocked k)
length_let_go false k rows = refl

pub value_fits : (v : Value) → IsValue v → bits_of v < 256 ^ 8
value_fits Absent is = omega arith
value_fits (Num n) is = let fits = Fits-of_z {w = w64} {z = n} is in omega (arith, fits)

pub flag_fits : (v : Value) → flag_of v < 256
flag_fits Absent = omega arith
flag_fits (Num n) = omega arith

pub bit_fits : (fact : Bool) → bit fact < 256
bit_fits true = omega arith
bit_fits false = omega arith

pub state_fits : (s : TxnState) → state_number s < 256
state_fits Never = omega arith
state_fits Active = omega arith
state_fits Committed = omega arith
state_fits RolledBack = omega arith

lock_fits : (slots : List ItlSlot) (lock : ℕ) → NamesSlot slots lock → lock < 256
lock_fits slots lock (inl none) = omega arith
lock_fits slots lock (inr (low, high, used)) = omega arith

-- a change whose parts are right and after which the locks name slots leaves a block
pub applied_is : (b : BlockContent) (c : RowChange) (scn : ℕ) → IsBlock b → c.row < 8 → IsItl c.slot → IsValue c.value → 1 ≤ scn → scn < 2 ^ 64 → b.front.version < 2 ^ 62
    → locks_name_slots b c ≡ true → IsBlock (applied b c scn)
applied_is b c scn is within is_slot is_value some_scn scn_fits version lock =
    let free = let_go c.fresh c.itl b.rows in
    let row : Row = record { value = c.value; lock = c.lock } in
    let slots = set b.itl (c.itl - 1) c.slot in
    let within_rows : c.row < length free = omega (arith, length_let_go c.fresh c.itl b.rows, is.eight_rows) in
    let locks : AllByRecursion (λ r. NamesSlot slots r.lock) (set free c.row row) = each_names slots (set free c.row row) lock in
    let named : NamesSlot slots c.lock = holds_where_set (λ r. NamesSlot slots r.lock) free c.row row within_rows locks in
    record {
      front = record {
        fits = (is.front.fits.0, (is.front.fits.1.0, (is.front.fits.1.1.0, (is.front.fits.1.1.1.0, (is.front.fits.1.1.1.1.0, (omega arith, (omega arith, (is.front.fits.1.1.1.1.1.1.1.0, tt))))))));
        segment = is.front.segment;
        scn = (λ none. absurd (omega arith), λ none. absurd (omega arith));
        next = is.front.next;
      };
      four_slots = length-set b.itl (c.itl - 1) c.slot ∙ is.four_slots;
      slots = all_set IsItl b.itl (c.itl - 1) c.slot is_slot is.slots;
      eight_rows = length-set free c.row row ∙ (length_let_go c.fresh c.itl b.rows ∙ is.eight_rows);
      rows = all_set IsRow free c.row row (record { fits = (flag_fits c.value, (lock_fits slots c.lock named, (tt, (value_fits c.value is_value, tt)))); value = is_value }) (rows_let_go c.fresh c.itl b.rows is.rows);
      locks = locks;
    }

pub four : {V : Type 0} (vs : List V) (d : V) → length vs ≡ 4 → get_or vs 0 d ∷ get_or vs 1 d ∷ get_or vs 2 d ∷ get_or vs 3 d ∷ [] ≡ vs
four [] d long = absurd (omega arith)
four (a ∷ []) d long = absurd (omega arith)
four (a ∷ b ∷ []) d long = absurd (omega arith)
four (a ∷ b ∷ c ∷ []) d long = absurd (omega arith)
four (a ∷ b ∷ c ∷ e ∷ []) d long = refl
four (a ∷ b ∷ c ∷ e ∷ f ∷ vs) d long = absurd (omega arith)

pub eight : {V : Type 0} (vs : List V) (d : V) → length vs ≡ 8
    → get_or vs 0 d ∷ get_or vs 1 d ∷ get_or vs 2 d ∷ get_or vs 3 d ∷ get_or vs 4 d ∷ get_or vs 5 d ∷ get_or vs 6 d ∷ get_or vs 7 d ∷ [] ≡ vs
eight [] d long = absurd (omega arith)
eight (p ∷ []) d long = absurd (omega arith)
eight (p ∷ q ∷ []) d long = absurd (omega arith)
eight (p ∷ q ∷ r ∷ []) d long = absurd (omega arith)
eight {V = V} (p ∷ q ∷ r ∷ s ∷ vs) d long = ap (λ (l : List V). p ∷ q ∷ r ∷ s ∷ l) (four vs d (omega arith))
