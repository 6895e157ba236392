-- A block has the content of the records on it.
use Rattle.std.proofs.Common.{◌≡◌, ℕ, ◌-◌, ◌+◌, ◌<◌, ◌≤◌, Bool, true, false, cond, ◌==◌, List, [], ◌∷◌, length, get_or, set, map, refl, sym, ap, ◌∙◌, arith}
use Rattle.std.proofs.lemmas.Bool.{eqb-true, eqb-false}
use Rattle.std.proofs.lemmas.List.{get_or-map, get_or-set_other, get_or-set_same, length-set}
use Rattle.redo_types.specs.declared.blocks.RowChange.{RowChange}
use Rattle.base_types.specs.declared.names.Scn.{Scn}
use Rattle.base_types.specs.declared.names.Xid.{Xid}
use Rattle.base_types.specs.declared.names.BlockNo.{BlockNo}
use Rattle.base_types.specs.declared.value.Value.TheVariants.{Absent}
use Rattle.std.specs.Prelude.{zero, suc}
use Rattle.part_image.specs.Slots.{unused_itl}
use Rattle.block_image.specs.declared.row.Row.{Row}
use Rattle.block_image.specs.Block.{BlockContent, row_at, slot_at, clear_row}
use Rattle.block_image.specs.Changes as block
use Rattle.block_image.specs.Changes.{unlocked, applied}
use Rattle.board_slots.specs.Block.{by, change_of, changed, Commits, committed, content, Does, empty, Image, let_go, Record, RollsBack, stands, TakesBack}
use Rattle.board_slots.specs.Records.{AreMade, MayBack, Sound}
use Rattle.board_slots.specs.Slots.{IsFair}
use Rattle.board_slots.proofs.Newest.{newest-all}
use Rattle.board_slots.proofs.Held.{fair-all}
use Rattle.board_slots.proofs.Keeps.{all-sound}
use Rattle.board_slots.specs.Images.{block_of, IsSeen}

unlocked-value : (k : ℕ) (r : Row) → (unlocked k r).value ≡ r.value
unlocked-value k r = here (r.lock == k)
  where
    here : (t : Bool) → (cond t (record r { lock = 0 }) r).value ≡ r.value
    here true = refl
    here false = refl

unlocked-lock : (k : ℕ) (r : Row) → (unlocked k r).lock ≡ let_go true k r.lock
unlocked-lock k r = here (r.lock == k)
  where
    here : (t : Bool) → (cond t (record r { lock = 0 }) r).lock ≡ cond t 0 r.lock
    here true = refl
    here false = refl

long-map : (k : ℕ) (rows : List Row) → length (map (unlocked k) rows) ≡ length rows
long-map k [] = refl
long-map k (r ∷ rows) = let ih = long-map k rows in omega arith

go-length : (fresh : Bool) (k : ℕ) (rows : List Row) → length (block.let_go fresh k rows) ≡ length rows
go-length true k rows = long-map k rows
go-length false k rows = refl

go-row : (k : ℕ) (rows : List Row) (r : ℕ) → r < length rows → row_at (map (unlocked k) rows) r ≡ unlocked k (row_at rows r)
go-row k rows r lt = get_or-map (unlocked k) rows r clear_row clear_row lt

go-value : (fresh : Bool) (k : ℕ) (rows : List Row) (r : ℕ) → r < length rows → (row_at (block.let_go fresh k rows) r).value ≡ (row_at rows r).value
go-value true k rows r lt = ap (λ (w : Row). w.value) (go-row k rows r lt) ∙ unlocked-value k (row_at rows r)
go-value false k rows r lt = refl

go-lock : (fresh : Bool) (k : ℕ) (rows : List Row) (r : ℕ) → r < length rows → (row_at (block.let_go fresh k rows) r).lock ≡ let_go fresh k (row_at rows r).lock
go-lock true k rows r lt = ap (λ (w : Row). w.lock) (go-row k rows r lt) ∙ unlocked-lock k (row_at rows r)
go-lock false k rows r lt = refl

module _ (b : BlockContent) (image : Image) (c : RowChange) (scn : Scn) (seen : IsSeen b image) (row : c.row < 8) (first : 1 ≤ c.itl) (last : c.itl ≤ 4) where
  abbrev gone : List Row
  gone = block.let_go c.fresh c.itl b.rows

  gone-length : length gone ≡ 8
  gone-length = go-length c.fresh c.itl b.rows ∙ seen.eight_rows

  abbrev new_row : Row
  new_row = record { value = c.value; lock = c.lock }

  at-row : (r : ℕ) (t : Bool) → (c.row == r) ≡ t → r < 8 → row_at (set gone c.row new_row) r ≡ cond t new_row (row_at gone r)
  at-row r true e lt = ap (λ (q : ℕ). get_or (set gone c.row new_row) q clear_row) (sym (eqb-true c.row r e)) ∙ get_or-set_same gone c.row new_row clear_row (omega (arith, gone-length, row))
  at-row r false e lt = get_or-set_other gone c.row r new_row clear_row (λ same. eqb-false c.row r e (sym same))

  at-slot : (k : ℕ) (t : Bool) → (c.itl == k) ≡ t → 1 ≤ k → k ≤ 4 → slot_at (set b.itl (c.itl - 1) c.slot) k ≡ cond t c.slot (slot_at b.itl k)
  at-slot k true e low high = ap (λ (q : ℕ). get_or (set b.itl (c.itl - 1) c.slot) (q - 1) unused_itl) (sym (eqb-true c.itl k e)) ∙ get_or-set_same b.itl (c.itl - 1) c.slot unused_itl (let four = seen.four_slots in omega (arith, first, last))
  at-slot k false e low high = get_or-set_other b.itl (c.itl - 1) (k - 1) c.slot unused_itl (λ same. eqb-false c.itl k e (omega (arith, first, low, same)))

  pub seen-applied : IsSeen (applied b c scn) (changed c scn image)
  seen-applied =
      record {
        four_slots = length-set b.itl (c.itl - 1) c.slot ∙ seen.four_slots;
        eight_rows = length-set gone c.row new_row ∙ gone-length;
        version = ap (λ (v : ℕ). v + 1) seen.version;
        scn = refl;
        value = λ r lt. at-value r (c.row == r) refl lt;
        lock = λ r lt. at-lock r (c.row == r) refl lt;
        slot = λ k low high. slot k (c.itl == k) refl low high;
      }
    where
      at-value : (r : ℕ) (t : Bool) → (c.row == r) ≡ t → r < 8 → (row_at (set gone c.row new_row) r).value ≡ cond t c.value (image.value r)
      at-value r true e lt = ap (λ (w : Row). w.value) (at-row r true e lt)
      at-value r false e lt = ap (λ (w : Row). w.value) (at-row r false e lt) ∙ (go-value c.fresh c.itl b.rows r (let n = seen.eight_rows in omega (arith, lt)) ∙ seen.value r lt)

      at-lock : (r : ℕ) (t : Bool) → (c.row == r) ≡ t → r < 8 → (row_at (set gone c.row new_row) r).lock ≡ cond t c.lock (let_go c.fresh c.itl (image.lock r))
      at-lock r true e lt = ap (λ (w : Row). w.lock) (at-row r true e lt)
      at-lock r false e lt = ap (λ (w : Row). w.lock) (at-row r false e lt) ∙ (go-lock c.fresh c.itl b.rows r (let n = seen.eight_rows in omega (arith, lt)) ∙ ap (λ (l : ℕ). let_go c.fresh c.itl l) (seen.lock r lt))

      slot : (k : ℕ) (t : Bool) → (c.itl == k) ≡ t → 1 ≤ k → k ≤ 4 → slot_at (set b.itl (c.itl - 1) c.slot) k ≡ cond t c.slot (image.slot k)
      slot k true e low high = at-slot k true e low high
      slot k false e low high = at-slot k false e low high ∙ seen.slot k low high

below8 : (P : ℕ → Type 0) → P 0 → P 1 → P 2 → P 3 → P 4 → P 5 → P 6 → P 7 → (r : ℕ) → r < 8 → P r
below8 P a b c d e f g h zero lt = a
below8 P a b c d e f g h (suc zero) lt = b
below8 P a b c d e f g h (suc (suc zero)) lt = c
below8 P a b c d e f g h (suc (suc (suc zero))) lt = d
below8 P a b c d e f g h (suc (suc (suc (suc zero)))) lt = e
below8 P a b c d e f g h (suc (suc (suc (suc (suc zero))))) lt = f
below8 P a b c d e f g h (suc (suc (suc (suc (suc (suc zero)))))) lt = g
below8 P a b c d e f g h (suc (suc (suc (suc (suc (suc (suc zero))))))) lt = h
below8 P a b c d e f g h (suc (suc (suc (suc (suc (suc (suc (suc r)))))))) lt = absurd (omega arith)

pub seen-empty : (number : BlockNo) → IsSeen (block.empty_block number) empty
seen-empty number =
    record {
      four_slots = refl;
      eight_rows = refl;
      version = refl;
      scn = refl;
      value = below8 (λ r. (row_at (block.empty_block number).rows r).value ≡ Absent) refl refl refl refl refl refl refl refl;
      lock = below8 (λ r. (row_at (block.empty_block number).rows r).lock ≡ 0) refl refl refl refl refl refl refl refl;
      slot = λ k low high. (below8 (λ k. 1 ≤ k → k ≤ 4 → slot_at (block.empty_block number).itl k ≡ unused_itl) (λ a b. absurd (omega arith)) (λ a b. refl) (λ a b. refl) (λ a b. refl) (λ a b. refl) (λ a b. absurd (omega arith)) (λ a b. absurd (omega arith)) (λ a b. absurd (omega arith)) k (omega (arith, high)) low high);
    }

-- what a step back names is placed
back-placed : (records : List Record) (x : Xid) (seq scn : ℕ) (change : RowChange) → Sound records → MayBack records x seq scn change → (change.row < 8) × (1 ≤ change.itl) × (change.itl ≤ 4)
back-placed records x seq scn change sound may =
    let placed = (newest-all (IsFair (committed records)) (by x) may.deed (stands records) (fair-all (committed records) (stands records) sound.orderly) may.newest_own).placed in
    rw may.does (placed.row, placed.first, placed.last)

pub blocks-seen : (number : ℕ) (records : List Record) → AreMade records → IsSeen (block_of number records) (content records)
blocks-seen number [] made = seen-empty number
blocks-seen number (Does m ∷ records) made =
    let placed = made.0.made.placed in
    seen-applied (block_of number records) (content records) (change_of m) m.scn (blocks-seen number records made.1) placed.row placed.first placed.last
blocks-seen number (TakesBack inst x seq scn change ∷ records) made =
    let at = back-placed records x seq scn change (all-sound records made.1) made.0 in
    seen-applied (block_of number records) (content records) change scn (blocks-seen number records made.1) at.0 at.1 at.2
blocks-seen number (Commits c x ∷ records) made = blocks-seen number records made.1
blocks-seen number (RollsBack inst c x ∷ records) made = blocks-seen number records made.1

pub blocks-numbered : (number : ℕ) (records : List Record) → (block_of number records).front.number ≡ number
blocks-numbered number [] = refl
blocks-numbered number (Does m ∷ records) = blocks-numbered number records
blocks-numbered number (TakesBack inst x seq scn change ∷ records) = blocks-numbered number records
blocks-numbered number (Commits c x ∷ records) = blocks-numbered number records
blocks-numbered number (RollsBack inst c x ∷ records) = blocks-numbered number records
