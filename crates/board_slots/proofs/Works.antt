-- The copy of the program, as far as it is made, is one of the rule's.
use Rattle.std.proofs.Common.{◌≡◌, ℕ, ◌+◌, ◌-◌, ◌<◌, ◌≤◌, Bool, true, false, cond, not, ◌&&◌, ◌==◌, List, [], ◌∷◌, length, get_or, set, refl, sym, ap, ◌∙◌, arith, inl, inr}
use Rattle.std.specs.Prelude.{Option, Some, None, zero, suc}
use Rattle.std.proofs.lemmas.Bool.{eqb-true, eqb-false}
use Rattle.std.proofs.lemmas.List.{get_or-map, get_or-set_other, get_or-set_same, length-map, length-set}
use Rattle.base_types.specs.declared.names.Xid.{Xid}
use Rattle.base_types.specs.declared.value.Value.{Value}
use Rattle.base_types.specs.declared.value.Value.TheVariants.{Absent}
use Rattle.redo_types.specs.declared.blocks.ItlSlot.{ItlSlot}
use Rattle.part_image.specs.Slots.{unused_itl}
use Rattle.journal.specs.Past.{same_xid}
use Rattle.block_image.specs.declared.row.Row.{Row}
use Rattle.block_image.specs.Block.{BlockContent, clear_row, row_at, slot_at}
use Rattle.txn_slots.specs.Lock.{locker, named_by}
use Rattle.cr_copy.specs.declared.copy.Pick.{Pick}
use Rattle.cr_copy.specs.declared.copy.Work.{Work}
use Rattle.cr_copy.specs.Copy as copy
use Rattle.cr_copy.specs.Copy.{is_mine, row_shown, rows_shown, work_of}
use Rattle.board_slots.specs.Block.{Deed, newest, on_row, Image, held_by}
use Rattle.board_slots.specs.Images.{IsSeen}
use Rattle.board_slots.specs.Slots.{IsFair, IsLocked, Orderly, Shows}
use Rattle.board_slots.specs.Views.{value_at}
use Rattle.board_slots.proofs.Newest.{same_xid-sym, newest-all}
use Rattle.board_slots.proofs.Held.{fair-all}
use Rattle.board_slots.proofs.Rounds.{Rest, taken}
use Rattle.board_slots.proofs.Copies.{rows_of}

pub record IsLeft (w : Work) (rest : Rest) : Type 0 where
  pub four_slots : length w.itl ≡ 4
  pub eight_rows : length w.rows ≡ 8
  pub value : (r : ℕ) → r < 8 → value_at w.rows r ≡ rest.value r
  pub slot : (k : ℕ) → 1 ≤ k → k ≤ 4 → slot_at w.itl k ≡ rest.slot k

pub left-taken : (w : Work) (rest : Rest) (p : Pick) → IsLeft w rest → p.undo.row < 8 → 1 ≤ p.itl → p.itl ≤ 4 → IsLeft (copy.taken p w) (taken p rest)
left-taken w rest p left row first last =
    record {
      four_slots = length-set w.itl (p.itl - 1) p.undo.old_itl ∙ left.four_slots;
      eight_rows = length-set w.rows p.undo.row p.undo.old ∙ left.eight_rows;
      value = λ r lt. value r (p.undo.row == r) refl lt;
      slot = λ k low high. slot k (p.itl == k) refl low high;
    }
  where
    value : (r : ℕ) (t : Bool) → (p.undo.row == r) ≡ t → r < 8 → value_at (set w.rows p.undo.row p.undo.old) r ≡ cond t p.undo.old (rest.value r)
    value r true e lt = ap (λ (q : ℕ). value_at (set w.rows p.undo.row p.undo.old) q) (sym (eqb-true p.undo.row r e)) ∙ get_or-set_same w.rows p.undo.row p.undo.old Absent (let n = left.eight_rows in omega (arith, row))
    value r false e lt = get_or-set_other w.rows p.undo.row r p.undo.old Absent (λ same. eqb-false p.undo.row r e (sym same)) ∙ left.value r lt

    slot : (k : ℕ) (t : Bool) → (p.itl == k) ≡ t → 1 ≤ k → k ≤ 4 → slot_at (set w.itl (p.itl - 1) p.undo.old_itl) k ≡ cond t p.undo.old_itl (rest.slot k)
    slot k true e low high = ap (λ (q : ℕ). get_or (set w.itl (p.itl - 1) p.undo.old_itl) (q - 1) unused_itl) (sym (eqb-true p.itl k e)) ∙ get_or-set_same w.itl (p.itl - 1) p.undo.old_itl unused_itl (let four = left.four_slots in omega (arith, first, last))
    slot k false e low high = get_or-set_other w.itl (p.itl - 1) (k - 1) p.undo.old_itl unused_itl (λ same. eqb-false p.itl k e (omega (arith, first, low, same))) ∙ left.slot k low high

-- the copy begins with what the block has
pub left-first : (block : BlockContent) (image : Image) → IsSeen block image → IsLeft (work_of block) (record { value = image.value; slot = image.slot })
left-first block image seen =
    record {
      four_slots = seen.four_slots;
      eight_rows = length-map block.rows (λ (r : Row). r.value) ∙ seen.eight_rows;
      value = λ r lt. get_or-map (λ (r : Row). r.value) block.rows r clear_row Absent (let n = seen.eight_rows in omega (arith, lt)) ∙ seen.value r lt;
      slot = seen.slot;
    }

-- a row of those that are shown
pub shown-at : (me : Option Xid) (block : BlockContent) (k : ℕ) (values : List Value) (r : ℕ) → r < length values → value_at (rows_shown me block k values) r ≡ row_shown me block (k + r) (value_at values r)
shown-at me block k [] r lt = absurd (omega arith)
shown-at me block k (v ∷ values) zero lt = let same : k ≡ k + 0 = omega arith in ap (λ (q : ℕ). row_shown me block q v) same
shown-at me block k (v ∷ values) (suc r) lt = let same : k + 1 + r ≡ k + suc r = omega arith in shown-at me block (k + 1) values r (omega (arith, lt)) ∙ ap (λ (q : ℕ). row_shown me block q (value_at values r)) same

pub lock-low : (committed : Xid → Option ℕ) (scn : ℕ) (slot : ℕ → ItlSlot) (lock : ℕ) (r : ℕ) (deeds : List Deed) → Orderly committed deeds → (o : Option Deed) → newest (on_row r) deeds ≡ o → IsLocked committed scn slot lock o → lock ≤ 4
lock-low committed scn slot lock r deeds h None e l = omega arith
lock-low committed scn slot lock r deeds h (Some m) e (inl l) = let z = l.0 in omega arith
lock-low committed scn slot lock r deeds h (Some m) e (inr l) = let z = l.0 in let high = (newest-all (IsFair committed) (on_row r) m deeds (fair-all committed deeds h) e).placed.last in omega arith

not_mine : (o : Option Xid) → is_mine None o ≡ false
not_mine None = refl
not_mine (Some x) = refl

-- who holds a row, as the block says
held-mine : (block : BlockContent) (image : Image) (x : Xid) (lock r : ℕ) → IsSeen block image → lock ≤ 4 → lock ≡ image.lock r → is_mine (Some x) (named_by block lock) ≡ held_by x image r
held-mine block image x lock r seen low is = rw (sym is) (here (lock == 0) refl)
  where
    here : (t : Bool) → (lock == 0) ≡ t → is_mine (Some x) (cond t None (Some (slot_at block.itl lock).xid)) ≡ (not t && same_xid (image.slot lock).xid x)
    here true e = refl
    here false e = ap (λ s. same_xid x s.xid) (seen.slot lock (let off = eqb-false lock 0 e in omega arith) low) ∙ same_xid-sym x (image.slot lock).xid

-- a row is shown as the rule has it
pub row-shown : (committed : Xid → Option ℕ) (block : BlockContent) (image : Image) (deeds : List Deed) → IsSeen block image → Orderly committed deeds → Shows committed image deeds
    → (me : Option Xid) (rest : Rest) (v : Value) (r : ℕ) → r < 8 → v ≡ rest.value r → row_shown me block r v ≡ rows_of me image rest r
row-shown committed block image deeds seen h shows me rest v r lt is = here me
  where
    low : (row_at block.rows r).lock ≤ 4
    low = let a = lock-low committed image.scn image.slot (image.lock r) r deeds h (newest (on_row r) deeds) refl (shows.locks r) in let b = seen.lock r lt in omega arith

    here : (o : Option Xid) → row_shown o block r v ≡ rows_of o image rest r
    here None = rw (not_mine (locker block r)) is
    here (Some x) = rw (held-mine block image x (row_at block.rows r).lock r seen low (seen.lock r lt)) (go (held_by x image r))
      where
        go : (t : Bool) → cond t (row_at block.rows r).value v ≡ cond t (image.value r) (rest.value r)
        go true = seen.value r lt
        go false = is
