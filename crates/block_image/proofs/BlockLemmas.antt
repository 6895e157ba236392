-- What stands where in the bytes of a data block.
use Rattle.std.proofs.Common.{◌≡◌, ℕ, ◌+◌, ◌-◌, ◌<◌, ◌≤◌, inl, inr, ◌⊎◌, List, [], ◌∷◌, ◌++◌, None, length, take, drop, replicate, refl, sym, ap, subst, ◌∙◌, arith, append_assoc}
use Rattle.std.specs.List.{flat_map, AllByRecursion}
use Rattle.std.proofs.lemmas.Bool.{cases_lt}
use Rattle.std.proofs.lemmas.List.{append-nil, drop_all, length-append, length-replicate, take-append-le, take_all}
use Rattle.redo_types.specs.declared.blocks.ItlSlot.{ItlSlot}
use Rattle.base_types.specs.Bytes.{Puts}
use Rattle.base_types.proofs.BytesLemmas.{Puts-append}
use Rattle.part_image.specs.declared.front.BlockFront.{BlockFront}
use Rattle.part_image.specs.declared.front.BlockKind.TheVariants.{Data}
use Rattle.part_image.specs.Cells.{Begins, Cell, IsFirstWrong, Reads, StandsAt, Zeros, first_fields, spelled}
use Rattle.part_image.specs.Front.{IsFront, front_bytes, front_fields}
use Rattle.part_image.specs.Slots.{IsItl, itl_cells, unused_itl}
use Rattle.part_image.proofs.CellLemmas.{StandsAt-append, StandsAt-first, StandsAt-second, all_stand_where_spelled}
use Rattle.part_image.proofs.OneValue.{one_front, one_itl, one_value}
use Rattle.block_image.specs.declared.row.Row.{Row}
use Rattle.block_image.specs.Block.{BlockContent, IsBlock, IsRow, NamesSlot, block_bytes, clear_row, data_fields, row_cells}
use Rattle.block_image.specs.Parts.{AreRows, AreSlots, IsRowOf, rows_cells, slots_cells}
use Rattle.block_image.proofs.EachLemmas.{AreSized, all_then, each_where_whole, first_begin, length_each, same_each, spelled-append}

itl_sized : AreSized itl_cells 16
itl_sized s = refl

row_sized : AreSized row_cells 16
row_sized r = refl

pub length_slots : (slots : List ItlSlot) → length slots ≡ 4 → length (spelled (slots_cells slots)) ≡ 64
length_slots slots four = length_each itl_cells 16 itl_sized slots ∙ omega arith

pub length_rows : (rows : List Row) → length rows ≡ 8 → length (spelled (rows_cells rows)) ≡ 128
length_rows rows eight = length_each row_cells 16 row_sized rows ∙ omega arith

-- what fields 8 to 10 add
spelled_slots : (s : List Cell) → spelled (s ++ []) ≡ spelled s
spelled_slots s = ap spelled (append-nil s)

spelled_rows : (s r : List Cell) → spelled (s ++ (r ++ [])) ≡ spelled s ++ spelled r
spelled_rows s r = spelled-append s (r ++ []) ∙ ap (λ (t : List ℕ). spelled s ++ t) (spelled_slots r)

spelled_zeros : (s r : List Cell) (n : ℕ) → spelled (s ++ (r ++ (Zeros n ∷ []))) ≡ spelled s ++ spelled r ++ replicate n 0
spelled_zeros s r n =
    spelled-append s (r ++ (Zeros n ∷ [])) ∙ ap (λ (t : List ℕ). spelled s ++ t) (spelled-append r (Zeros n ∷ []) ∙ ap (λ (t : List ℕ). spelled r ++ t) (append-nil (replicate n 0)))
    ∙ sym (append_assoc (spelled s) (spelled r) (replicate n 0))

-- the bytes of a block up to field 8
pub upto_slots : BlockContent → List ℕ
upto_slots b = front_bytes Data b.front ++ spelled (slots_cells b.itl)

-- the bytes of a block up to field 9
pub upto_rows : BlockContent → List ℕ
upto_rows b = upto_slots b ++ spelled (rows_cells b.rows)

pub spelled_8 : (b : BlockContent) → spelled (first_fields 8 (data_fields b)) ≡ upto_slots b
unfolding upto_slots
spelled_8 b = ap (λ (t : List ℕ). front_bytes Data b.front ++ t) (spelled_slots (slots_cells b.itl))

pub spelled_9 : (b : BlockContent) → spelled (first_fields 9 (data_fields b)) ≡ upto_rows b
unfolding upto_slots upto_rows
spelled_9 b =
    ap (λ (t : List ℕ). front_bytes Data b.front ++ t) (spelled_rows (slots_cells b.itl) (rows_cells b.rows))
    ∙ sym (append_assoc (front_bytes Data b.front) (spelled (slots_cells b.itl)) (spelled (rows_cells b.rows)))

whole_assoc : (f s r z : List ℕ) → f ++ (s ++ r ++ z) ≡ f ++ s ++ r ++ z
whole_assoc f s r z = sym (append_assoc f (s ++ r) z) ∙ ap (λ (t : List ℕ). t ++ z) (sym (append_assoc f s r))

pub spelled_10 : (b : BlockContent) → block_bytes b ≡ upto_rows b ++ replicate 288 0
unfolding upto_slots upto_rows
spelled_10 b =
    ap (λ (t : List ℕ). front_bytes Data b.front ++ t) (spelled_zeros (slots_cells b.itl) (rows_cells b.rows) 288)
    ∙ whole_assoc (front_bytes Data b.front) (spelled (slots_cells b.itl)) (spelled (rows_cells b.rows)) (replicate 288 0)

pub length_upto_slots : (b : BlockContent) → length b.itl ≡ 4 → length (upto_slots b) ≡ 96
unfolding upto_slots
length_upto_slots b four =
    let slots = length_slots b.itl four in
    length-append (front_bytes Data b.front) (spelled (slots_cells b.itl)) ∙ omega arith

pub length_upto_rows : (b : BlockContent) → length b.itl ≡ 4 → length b.rows ≡ 8 → length (upto_rows b) ≡ 224
unfolding upto_rows
length_upto_rows b four eight =
    let slots = length_upto_slots b four in
    let rows = length_rows b.rows eight in
    length-append (upto_slots b) (spelled (rows_cells b.rows)) ∙ omega arith

pub length_block : (b : BlockContent) → length b.itl ≡ 4 → length b.rows ≡ 8 → length (block_bytes b) ≡ 512
length_block b four eight =
    let rows = length_upto_rows b four eight in
    ap length (spelled_10 b) ∙ length-append (upto_rows b) (replicate 288 0) ∙ omega (arith, length-replicate {A = ℕ} 288 0)

-- the front stands in the first 32 bytes, the ITL slots from byte 32, the rows from byte 96, and zeros from byte 224
pub front_stands : (bytes : List ℕ) (b : BlockContent) → Begins bytes (spelled (first_fields 8 (data_fields b))) → Begins bytes (front_bytes Data b.front)
unfolding upto_slots
front_stands bytes b begins = StandsAt-first bytes (front_bytes Data b.front) (spelled (slots_cells b.itl)) 0 (subst (Begins bytes) (spelled_8 b) begins)

pub slots_stand : (bytes : List ℕ) (b : BlockContent) → Begins bytes (spelled (first_fields 8 (data_fields b))) → StandsAt bytes 32 (spelled (slots_cells b.itl))
unfolding upto_slots
slots_stand bytes b begins = StandsAt-second bytes (front_bytes Data b.front) (spelled (slots_cells b.itl)) 0 32 refl (subst (Begins bytes) (spelled_8 b) begins)

pub rows_stand : (bytes : List ℕ) (b : BlockContent) → length b.itl ≡ 4 → Begins bytes (spelled (first_fields 9 (data_fields b))) → StandsAt bytes 96 (spelled (rows_cells b.rows))
unfolding upto_rows
rows_stand bytes b four begins =
    let before = length_upto_slots b four in
    StandsAt-second bytes (upto_slots b) (spelled (rows_cells b.rows)) 0 96 (omega arith) (subst (Begins bytes) (spelled_9 b) begins)

pub zeros_stand : (bytes : List ℕ) (b : BlockContent) → length b.itl ≡ 4 → length b.rows ≡ 8 → Begins bytes (block_bytes b) → take 288 (drop 224 bytes) ≡ replicate 288 0
zeros_stand bytes b four eight begins =
    let before = length_upto_rows b four eight in
    StandsAt-second bytes (upto_rows b) (replicate 288 0) 0 224 (omega arith) (subst (Begins bytes) (spelled_10 b) begins)

-- and where they stand, the bytes up to there are the block's
pub begin_8 : (bytes : List ℕ) (b : BlockContent) → Begins bytes (front_bytes Data b.front) → StandsAt bytes 32 (spelled (slots_cells b.itl)) → Begins bytes (spelled (first_fields 8 (data_fields b)))
unfolding upto_slots
begin_8 bytes b front slots =
    subst (Begins bytes) (sym (spelled_8 b)) (StandsAt-append bytes (front_bytes Data b.front) (spelled (slots_cells b.itl)) 0 32 refl front slots)

pub begin_9 : (bytes : List ℕ) (b : BlockContent) → length b.itl ≡ 4 → Begins bytes (spelled (first_fields 8 (data_fields b))) → StandsAt bytes 96 (spelled (rows_cells b.rows)) → Begins bytes (spelled (first_fields 9 (data_fields b)))
unfolding upto_rows
begin_9 bytes b four slots rows =
    let before = length_upto_slots b four in
    subst (Begins bytes) (sym (spelled_9 b)) (StandsAt-append bytes (upto_slots b) (spelled (rows_cells b.rows)) 0 96 (omega arith) (subst (Begins bytes) (spelled_8 b) slots) rows)

pub begin_10 : (bytes : List ℕ) (b : BlockContent) → length b.itl ≡ 4 → length b.rows ≡ 8 → Begins bytes (spelled (first_fields 9 (data_fields b))) → take 288 (drop 224 bytes) ≡ replicate 288 0 → Begins bytes (block_bytes b)
begin_10 bytes b four eight rows zeros =
    let before = length_upto_rows b four eight in
    subst (Begins bytes) (sym (spelled_10 b)) (StandsAt-append bytes (upto_rows b) (replicate 288 0) 0 224 (omega arith) (subst (Begins bytes) (spelled_9 b) rows) zeros)

-- bytes are those of one row at most
one_row : (bytes : List ℕ) (v w : Row) → IsRow v → IsRow w → Begins bytes (spelled (row_cells v)) → Begins bytes (spelled (row_cells w)) → v ≡ w
one_row bytes v w is_v is_w begins_v begins_w =
    let a = all_stand_where_spelled bytes 0 (row_cells v) is_v.fits begins_v in
    let b = all_stand_where_spelled bytes 0 (row_cells w) is_w.fits begins_w in
    let value = one_value v.value w.value is_v.value is_w.value (sym a.0 ∙ b.0) (sym a.1.1.1.0 ∙ b.1.1.1.0) in
    let lock = sym a.1.0 ∙ b.1.0 in
    rw (value, lock) refl

pub same_slots : (bytes : List ℕ) (v w : List ItlSlot) → AreSlots v → AreSlots w → StandsAt bytes 32 (spelled (slots_cells v)) → StandsAt bytes 32 (spelled (slots_cells w)) → v ≡ w
same_slots bytes v w are_v are_w stand_v stand_w =
    same_each IsItl itl_cells 16 one_itl bytes 32 v w (are_v.four ∙ sym are_w.four) are_v.each are_w.each
    (each_where_whole itl_cells 16 itl_sized bytes 32 v stand_v) (each_where_whole itl_cells 16 itl_sized bytes 32 w stand_w)

-- two blocks with the same bytes are the same
pub one_block : (bytes : List ℕ) (v w : BlockContent) → IsBlock v → IsBlock w → Begins bytes (block_bytes v) → Begins bytes (block_bytes w) → v ≡ w
one_block bytes v w is_v is_w begins_v begins_w =
    let v9 = first_begin bytes 9 (data_fields v) begins_v in
    let w9 = first_begin bytes 9 (data_fields w) begins_w in
    let v8 = first_begin bytes 8 (data_fields v) begins_v in
    let w8 = first_begin bytes 8 (data_fields w) begins_w in
    let front = one_front Data bytes v.front w.front is_v.front is_w.front (front_stands bytes v v8) (front_stands bytes w w8) in
    let slots_v : AreSlots v.itl = record { four = is_v.four_slots; each = is_v.slots } in
    let slots_w : AreSlots w.itl = record { four = is_w.four_slots; each = is_w.slots } in
    let itl = same_slots bytes v.itl w.itl slots_v slots_w (slots_stand bytes v v8) (slots_stand bytes w w8) in
    let rows = same_each IsRow row_cells 16 one_row bytes 96 v.rows w.rows (is_v.eight_rows ∙ sym is_w.eight_rows) is_v.rows is_w.rows
    (each_where_whole row_cells 16 row_sized bytes 96 v.rows (rows_stand bytes v is_v.four_slots v9))
    (each_where_whole row_cells 16 row_sized bytes 96 w.rows (rows_stand bytes w is_w.four_slots w9)) in
    rw (front, itl, rows) refl

-- rows with their lock bytes, as the reading has them and as a block has them
with_locks : (itl : List ItlSlot) (rows : List Row) → AllByRecursion IsRow rows → AllByRecursion (λ r. NamesSlot itl r.lock) rows → AllByRecursion (IsRowOf itl) rows
with_locks itl [] rows locks = tt
with_locks itl (r ∷ rs) rows locks = (record { is = rows.0; lock = locks.0 }, with_locks itl rs rows.1 locks.1)

pub block_of_parts : (f : BlockFront) (itl : List ItlSlot) (rows : List Row) → IsFront Data f → AreSlots itl → AreRows itl rows → IsBlock (record { front = f; itl = itl; rows = rows })
block_of_parts f itl rows is_f are_slots are_rows = record {
  front = is_f;
  four_slots = are_slots.four;
  slots = are_slots.each;
  eight_rows = are_rows.eight;
  rows = all_then (IsRowOf itl) IsRow (λ r is. is.is) rows are_rows.each;
  locks = all_then (IsRowOf itl) (λ r. NamesSlot itl r.lock) (λ r is. is.lock) rows are_rows.each;
}

unused_is : IsItl unused_itl
unused_is = record { fits = (omega arith, (omega arith, (tt, (omega arith, (omega arith, tt))))); content = inl refl }

pub unused_slots : AreSlots (replicate 4 unused_itl)
unused_slots = record { four = refl; each = (unused_is, (unused_is, (unused_is, (unused_is, tt)))) }

clear_is : (itl : List ItlSlot) → IsRowOf itl clear_row
clear_is itl = record { is = record { fits = (omega arith, (omega arith, (tt, (omega arith, tt)))); value = tt }; lock = inl refl }

pub clear_rows : (itl : List ItlSlot) → AreRows itl (replicate 8 clear_row)
clear_rows itl =
    let is = clear_is itl in
    record { eight = refl; each = (is, (is, (is, (is, (is, (is, (is, (is, tt)))))))) }

-- the block with a front, four unused slots and eight absent rows
abbrev complete : BlockFront → BlockContent
complete f = record { front = f; itl = replicate 4 unused_itl; rows = replicate 8 clear_row }

complete_is : (f : BlockFront) → IsFront Data f → IsBlock (complete f)
complete_is f is = block_of_parts f (replicate 4 unused_itl) (replicate 8 clear_row) is unused_slots (clear_rows (replicate 4 unused_itl))

-- up to field 7 a block's fields are its front's
front_first : (n : ℕ) (b : BlockContent) → n ≤ 7 → first_fields n (data_fields b) ≡ first_fields n (front_fields Data b.front)
front_first n b few =
    ap (flat_map (λ (cells : List Cell). cells))
    (take-append-le n (front_fields Data b.front) (slots_cells b.itl ∷ rows_cells b.rows ∷ (Zeros 288 ∷ []) ∷ []) few)

-- a front has no field past 7
front_past : (n : ℕ) (f : BlockFront) → 7 ≤ n → first_fields n (front_fields Data f) ≡ first_fields 7 (front_fields Data f)
front_past n f many = ap (flat_map (λ (cells : List Cell). cells)) (take_all n (front_fields Data f) many)

wrong_front_by : (bytes : List ℕ) (n : ℕ) → (n < 8) ⊎ (8 ≤ n) → IsFirstWrong (IsFront Data) (front_fields Data) bytes n → IsFirstWrong IsBlock data_fields bytes n
wrong_front_by bytes n (inl few) is =
    let f = is.right_before.0 in
    record {
      right_before = (complete f, complete_is f is.right_before.1, subst (λ (cells : List Cell). Begins bytes (spelled cells)) (sym (front_first (n - 1) (complete f) (omega arith))) is.right_before.2);
      wrong = λ b is_b begins. is.wrong b.front is_b.front (subst (λ (cells : List Cell). Begins bytes (spelled cells)) (front_first n b (omega arith)) begins);
    }
wrong_front_by bytes n (inr many) is =
    let f = is.right_before.0 in
    absurd (is.wrong f is.right_before.1 (subst (λ (cells : List Cell). Begins bytes (spelled cells)) (front_past (n - 1) f (omega arith) ∙ sym (front_past n f (omega arith))) is.right_before.2))

-- the first wrong field of a front is the first wrong field of a block
pub wrong_front : (bytes : List ℕ) (n : ℕ) → IsFirstWrong (IsFront Data) (front_fields Data) bytes n → IsFirstWrong IsBlock data_fields bytes n
wrong_front bytes n is = wrong_front_by bytes n (cases_lt n 8) is

pub wrong_slots : (bytes : List ℕ) (f : BlockFront) → IsFront Data f → Begins bytes (front_bytes Data f) → Reads AreSlots slots_cells (drop 32 bytes) None → IsFirstWrong IsBlock data_fields bytes 8
wrong_slots bytes f is_f front none = record {
  right_before = (complete f, complete_is f is_f, front);
  wrong = λ b is_b begins. none b.itl (record { four = is_b.four_slots; each = is_b.slots }) (slots_stand bytes b begins);
}

-- the first nine fields of a block
abbrev first_nine : BlockContent → List (List Cell)
first_nine b = take 9 (data_fields b)

pub wrong_rows : (bytes : List ℕ) (f : BlockFront) (itl : List ItlSlot) → IsFront Data f → Begins bytes (front_bytes Data f) → AreSlots itl → StandsAt bytes 32 (spelled (slots_cells itl))
    → Reads (AreRows itl) rows_cells (drop 96 bytes) None → IsFirstWrong IsBlock data_fields bytes 9
wrong_rows bytes f itl is_f front are_slots slots none =
    let known : BlockContent = record { front = f; itl = itl; rows = replicate 8 clear_row } in
    record {
      right_before = (known, block_of_parts f itl (replicate 8 clear_row) is_f are_slots (clear_rows itl), begin_8 bytes known front slots);
      wrong = λ b is_b begins.
          let b8 : Begins bytes (spelled (first_fields 8 (data_fields b))) = first_begin bytes 8 (first_nine b) begins in
          let same : b.itl ≡ itl = same_slots bytes b.itl itl (record { four = is_b.four_slots; each = is_b.slots }) are_slots (slots_stand bytes b b8) slots in
          let rows : AllByRecursion (IsRowOf itl) b.rows = subst (λ (slots : List ItlSlot). AllByRecursion (IsRowOf slots) b.rows) same (with_locks b.itl b.rows is_b.rows is_b.locks) in
          none b.rows (record { eight = is_b.eight_rows; each = rows }) (rows_stand bytes b is_b.four_slots begins);
    }

pub wrong_zeros : (bytes : List ℕ) (f : BlockFront) (itl : List ItlSlot) (rows : List Row) → IsFront Data f → Begins bytes (front_bytes Data f) → AreSlots itl → StandsAt bytes 32 (spelled (slots_cells itl))
    → AreRows itl rows → StandsAt bytes 96 (spelled (rows_cells rows)) → (take 288 (drop 224 bytes) ≡ replicate 288 0 → ⊥) → IsFirstWrong IsBlock data_fields bytes 10
wrong_zeros bytes f itl rows is_f front are_slots slots are_rows rows_at differs =
    let known : BlockContent = record { front = f; itl = itl; rows = rows } in
    record {
      right_before = (known, block_of_parts f itl rows is_f are_slots are_rows, begin_9 bytes known are_slots.four (begin_8 bytes known front slots) rows_at);
      wrong = λ b is_b begins. differs (zeros_stand bytes b is_b.four_slots is_b.eight_rows begins);
    }

begins_itself : (bytes text : List ℕ) → bytes ≡ text → Begins bytes text
begins_itself bytes text same = ap (take (length text)) same ∙ take_all (length text) text (omega arith)

-- bytes of which a field is wrong are those of no block
pub no_block : (bytes : List ℕ) (n : ℕ) → IsFirstWrong IsBlock data_fields bytes n → (b : BlockContent) → IsBlock b → bytes ≡ block_bytes b → ⊥
no_block bytes n is b is_b same = is.wrong b is_b (first_begin bytes n (data_fields b) (begins_itself bytes (block_bytes b) same))

-- what was read is a block, and all its bytes
pub block_read : (bytes : List ℕ) (f : BlockFront) (itl : List ItlSlot) (rows : List Row) → length bytes ≡ 512 → IsFront Data f → Begins bytes (front_bytes Data f) → AreSlots itl → StandsAt bytes 32 (spelled (slots_cells itl))
    → AreRows itl rows → StandsAt bytes 96 (spelled (rows_cells rows)) → take 288 (drop 224 bytes) ≡ replicate 288 0
    → let b : BlockContent = record { front = f; itl = itl; rows = rows } in IsBlock b × (bytes ≡ block_bytes b)
block_read bytes f itl rows long is_f front are_slots slots are_rows rows_at zeros =
    let b : BlockContent = record { front = f; itl = itl; rows = rows } in
    let begins = begin_10 bytes b are_slots.four are_rows.eight (begin_9 bytes b are_slots.four (begin_8 bytes b front slots) rows_at) zeros in
    let size = length_block b are_slots.four are_rows.eight in
    (block_of_parts f itl rows is_f are_slots are_rows, sym (take_all (length (block_bytes b)) bytes (omega arith)) ∙ begins)

-- no other block has its bytes
pub only_block : (bytes : List ℕ) (b c : BlockContent) → IsBlock b → bytes ≡ block_bytes b → IsBlock c → bytes ≡ block_bytes c → b ≡ c
only_block bytes b c is_b same_b is_c same_c =
    one_block bytes b c is_b is_c (begins_itself bytes (block_bytes b) same_b) (begins_itself bytes (block_bytes c) same_c)

-- the four writes, one right behind the other
four_puts : (s0 s1 s2 s3 s4 a b c d : List ℕ) (two three four : ℕ) → two ≡ length a → three ≡ two + length b → four ≡ three + length c → four + length d ≤ length s0
    → Puts s0 s1 0 a → Puts s1 s2 two b → Puts s2 s3 three c → Puts s3 s4 four d → Puts s0 s4 0 (a ++ b ++ c ++ d)
four_puts s0 s1 s2 s3 s4 a b c d two three four is_two is_three is_four fits p1 p2 p3 p4 =
    let a2 = Puts-append s0 s1 s2 a b 0 two (omega arith) (omega arith) p1 p2 in
    let a3 = Puts-append s0 s2 s3 (a ++ b) c 0 three (omega (arith, length-append a b)) (omega arith) a2 p3 in
    Puts-append s0 s3 s4 (a ++ b ++ c) d 0 four (omega (arith, length-append a b, length-append (a ++ b) c)) (omega arith) a3 p4

-- a text that is put over all bytes stands alone
put_over : (old new text : List ℕ) → length text ≡ length old → Puts old new 0 text → new ≡ text
put_over old new text all put =
    let rest : drop (0 + length text) old ≡ [] = drop_all (0 + length text) old (omega arith) in
    put ∙ ap (λ (xs : List ℕ). text ++ xs) rest ∙ append-nil text

-- they write all bytes of the block
pub written : (s0 s1 s2 s3 s4 : List ℕ) (b : BlockContent) → length s0 ≡ 512 → IsBlock b
    → Puts s0 s1 0 (front_bytes Data b.front) → Puts s1 s2 32 (spelled (slots_cells b.itl)) → Puts s2 s3 96 (spelled (rows_cells b.rows)) → Puts s3 s4 224 (replicate 288 0) → s4 ≡ block_bytes b
unfolding upto_slots upto_rows
written s0 s1 s2 s3 s4 b long is p1 p2 p3 p4 =
    let slots = length_slots b.itl is.four_slots in
    let rows = length_rows b.rows is.eight_rows in
    let zeros : length {A = ℕ} (replicate 288 0) ≡ 288 = length-replicate {A = ℕ} 288 0 in
    let size = length_block b is.four_slots is.eight_rows in
    let all = four_puts s0 s1 s2 s3 s4 (front_bytes Data b.front) (spelled (slots_cells b.itl)) (spelled (rows_cells b.rows)) (replicate 288 0) 32 96 224 refl (omega arith) (omega arith) (omega arith) p1 p2 p3 p4 in
    put_over s0 s4 (block_bytes b) (size ∙ sym long) (subst (Puts s0 s4 0) (sym (spelled_10 b)) all)
