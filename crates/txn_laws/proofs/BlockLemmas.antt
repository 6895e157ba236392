-- What a row change and its step back leave of a block.
use Rattle.std.proofs.Common.{◌≡◌, ℕ, zero, suc, ◌==◌, ◌&&◌, ◌<◌, ◌≤◌, not, Bool, true, false, cond, List, [], ◌∷◌, length, set, map, refl, sym, ap, ◌∙◌, arith}
use Rattle.std.specs.List.{list_all}
use Rattle.std.proofs.lemmas.Bool.{and_from, ne_eqb}
use Rattle.std.proofs.lemmas.List.{get_or-map, get_or-set_same, length-map, map-set, set-get_or, set-set}
use Rattle.redo_types.specs.declared.blocks.RowChange.{RowChange}
use Rattle.base_types.specs.declared.names.Scn.{Scn}
use Rattle.base_types.specs.declared.value.Value.{Value}
use Rattle.base_types.specs.declared.value.Value.TheVariants.{Absent}
use Rattle.block_image.specs.declared.row.Row.{Row}
use Rattle.block_image.specs.Block.{BlockContent, clear_row, row_at, slot_at}
use Rattle.block_image.specs.Changes.{applied, let_go, unlocked, values_of}
use Rattle.block_image.proofs.ChangeLemmas.{slots_taken_back}
use Rattle.journal.proofs.XidLemmas.{both_true}
use Rattle.txn_engine.specs.Back.{locks_of}
use Rattle.txn_laws.specs.TakenBack.{other_lock}

-- the change that gives a row and its ITL slot back what they had, and leaves this lock byte
abbrev pub step_back : BlockContent → RowChange → ℕ → RowChange
step_back b c lock =
    record { row = c.row; lock = lock; itl = c.itl; fresh = false; slot = slot_at b.itl c.itl; value = (row_at b.rows c.row).value }

pub slots_stepped_back : (b : BlockContent) (c : RowChange) (lock : ℕ) (scn back : Scn) → (applied (applied b c scn) (step_back b c lock) back).itl ≡ b.itl
slots_stepped_back b c lock scn back = slots_taken_back b c scn

unlocked_by : (t : Bool) (r : Row) → (cond t (record r { lock = 0 }) r).value ≡ r.value
unlocked_by true r = refl
unlocked_by false r = refl

values_let_go : (free : Bool) (k : ℕ) (rows : List Row) → values_of (let_go free k rows) ≡ values_of rows
values_let_go true k [] = refl
values_let_go true k (r ∷ rows) = rw (unlocked_by (r.lock == k) r, values_let_go true k rows) refl
values_let_go false k rows = refl

pub values_stepped_back : (b : BlockContent) (c : RowChange) (lock : ℕ) (scn back : Scn) → c.row < length b.rows → values_of (applied (applied b c scn) (step_back b c lock) back).rows ≡ values_of b.rows
values_stepped_back b c lock scn back within =
    let value = (row_at b.rows c.row).value in
    let before = let_go c.fresh c.itl b.rows in
    let changed = set before c.row (record { value = c.value; lock = c.lock }) in
    map-set (λ (r : Row). r.value) changed c.row (record { value = value; lock = lock })
    ∙ ap (λ (vs : List Value). set vs c.row value) (map-set (λ (r : Row). r.value) before c.row (record { value = c.value; lock = c.lock }))
    ∙ set-set (values_of before) c.row c.value value
    ∙ ap (λ (vs : List Value). set vs c.row value) (values_let_go c.fresh c.itl b.rows)
    ∙ ap (λ (v : Value). set (values_of b.rows) c.row v) (sym (get_or-map (λ (r : Row). r.value) b.rows c.row clear_row Absent within))
    ∙ set-get_or (values_of b.rows) c.row Absent

lock_by : (t : Bool) (r : Row) → (cond t (record r { lock = 0 }) r).lock ≡ cond t 0 r.lock
lock_by true r = refl
lock_by false r = refl

locks_by : (fresh : Bool) (k : ℕ) (rows : List Row) → map (λ (r : Row). r.lock) (let_go fresh k rows) ≡ map (λ (lock : ℕ). cond (fresh && lock == k) 0 lock) (map (λ (r : Row). r.lock) rows)
locks_by true k [] = refl
locks_by true k (r ∷ rows) = rw (lock_by (r.lock == k) r, locks_by true k rows) refl
locks_by false k [] = refl
locks_by false k (r ∷ rows) = rw (sym (locks_by false k rows)) refl

-- the lock bytes after a change
pub locks_changed : (b : BlockContent) (c : RowChange) (scn : Scn) → locks_of (applied b c scn) ≡ set (map (other_lock c) (locks_of b)) c.row c.lock
locks_changed b c scn =
    map-set (λ (r : Row). r.lock) (let_go c.fresh c.itl b.rows) c.row (record { value = c.value; lock = c.lock })
    ∙ ap (λ (ls : List ℕ). set ls c.row c.lock) (locks_by c.fresh c.itl b.rows)

-- the lock bytes after a change, once the row has another one
pub locks_set : (b : BlockContent) (c : RowChange) (scn : Scn) (lock : ℕ) → set (locks_of (applied b c scn)) c.row lock ≡ set (map (other_lock c) (locks_of b)) c.row lock
locks_set b c scn lock = ap (λ (ls : List ℕ). set ls c.row lock) (locks_changed b c scn) ∙ set-set (map (other_lock c) (locks_of b)) c.row c.lock lock

pub locks_stepped_back : (b : BlockContent) (c : RowChange) (lock : ℕ) (scn back : Scn) → locks_of (applied (applied b c scn) (step_back b c lock) back) ≡ set (map (other_lock c) (locks_of b)) c.row lock
locks_stepped_back b c lock scn back =
    map-set (λ (r : Row). r.lock) (applied b c scn).rows c.row (record { value = (row_at b.rows c.row).value; lock = lock }) ∙ locks_set b c scn lock

length_let_go : (free : Bool) (k : ℕ) (rows : List Row) → length (let_go free k rows) ≡ length rows
length_let_go true k rows = length-map rows (unlocked k)
length_let_go false k rows = refl

-- the row of a change has its lock byte afterwards
pub lock_after : (b : BlockContent) (c : RowChange) (scn : Scn) → c.row < length b.rows → (row_at (applied b c scn).rows c.row).lock ≡ c.lock
lock_after b c scn within =
    let same = length_let_go c.fresh c.itl b.rows in
    ap (λ (r : Row). r.lock) (get_or-set_same (let_go c.fresh c.itl b.rows) c.row (record { value = c.value; lock = c.lock }) clear_row (omega arith))

set_passes : (p : ℕ → Bool) (ls : List ℕ) (i lock : ℕ) → list_all p ls ≡ true → p lock ≡ true → list_all p (set ls i lock) ≡ true
set_passes p [] i lock all here = refl
set_passes p (l ∷ ls) zero lock all here = and_from (p lock) (list_all p ls) here (both_true _ _ all).1
set_passes p (l ∷ ls) (suc i) lock all here = let both = both_true _ _ all in and_from (p l) (list_all p (set ls i lock)) both.0 (set_passes p ls i lock both.1 here)

lets_by : (t : Bool) (k lock : ℕ) → 1 ≤ k → (lock == k) ≡ t → not (cond t 0 lock == k) ≡ true
lets_by true k lock some is = let other = ne_eqb 0 k (λ same. omega arith) in rw other refl
lets_by false k lock some is = rw is refl

none_left : (k : ℕ) (ls : List ℕ) → 1 ≤ k → list_all (λ lock. not (lock == k)) (map (λ (lock : ℕ). cond (lock == k) 0 lock) ls) ≡ true
none_left k [] some = refl
none_left k (l ∷ ls) some = and_from _ _ (lets_by (l == k) k l some refl) (none_left k ls some)

-- no lock byte names an ITL slot that was taken anew, once the row is let go
pub none_names : (b : BlockContent) (c : RowChange) (scn : Scn) → 1 ≤ c.itl → c.fresh ≡ true → list_all (λ lock. not (lock == c.itl)) (set (locks_of (applied b c scn)) c.row 0) ≡ true
none_names b c scn some fresh =
    let other = ne_eqb 0 c.itl (λ same. omega arith) in
    let left : map (other_lock c) (locks_of b) ≡ map (λ (lock : ℕ). cond (lock == c.itl) 0 lock) (locks_of b) = ap (λ (t : Bool). map (λ (lock : ℕ). cond (t && lock == c.itl) 0 lock) (locks_of b)) fresh in
    ap (list_all (λ lock. not (lock == c.itl))) (locks_set b c scn 0 ∙ ap (λ (ls : List ℕ). set ls c.row 0) left)
    ∙ set_passes (λ lock. not (lock == c.itl)) (map (λ (lock : ℕ). cond (lock == c.itl) 0 lock) (locks_of b)) c.row 0 (none_left c.itl (locks_of b) some) (rw other refl)
