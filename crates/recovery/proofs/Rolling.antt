-- How blocks roll forward.
use Rattle.std.proofs.Common.{◌≡◌, ℕ, ◌+◌, ◌<◌, ◌≤◌, ◌==◌, ◌&&◌, Bool, true, false, if◌then◌else◌, nat_le, nat_lt, List, [], ◌∷◌, ◌++◌, Option, None, Some, refl, sym, ap, ◌∙◌, arith}
use Rattle.std.specs.Option.{option_and_then}
use Rattle.std.proofs.lemmas.Bool.{eqb-true}
use Rattle.std.proofs.lemmas.Bool.Decides.{nat_tests}
use Rattle.redo_types.specs.declared.redo.DataChange.{DataChange}
use Rattle.redo_types.specs.declared.redo.HeadChange.{HeadChange}
use Rattle.redo_types.specs.declared.redo.Redo.{Redo}
use Rattle.redo_types.specs.declared.redo.UndoChange.{UndoChange}
use Rattle.redo_merge.specs.declared.tagged.Tagged.{Tagged}
use Rattle.block_image.specs.Block.{BlockContent}
use Rattle.block_image.specs.Changes.{applied}
use Rattle.undo_image.specs.Header.{HeaderContent, with_slot}
use Rattle.undo_image.specs.UndoBlock.{UndoContent, with_record}
use Rattle.recovery.specs.Roll.{AreNext, IsNextData, IsNextHead, IsNextIfData, IsNextIfUndo, IsNextUndo, all_applied, block_after, block_applied, block_applied_if, block_rolled_by, can_change, can_change_head, can_change_undo, header_applied, header_rolled_by, is_next, rolled, undo_after, undo_applied, undo_applied_if, undo_rolled_by}

pub rolled-append : {B : Type 0} (by : Redo → B → Option B) (b : B) (first later : List Tagged) → rolled by (first ++ later) b ≡ option_and_then (rolled by later) (rolled by first b)
rolled-append by b [] later = refl
rolled-append {B = B} by b (it ∷ first) later = after (by it.redo b) (λ next. rolled-append by next first later)
  where
    after : (step : Option B) → ((next : B) → rolled by (first ++ later) next ≡ option_and_then (rolled by later) (rolled by first next))
        → option_and_then (rolled by (first ++ later)) step ≡ option_and_then (rolled by later) (option_and_then (rolled by first) step)
    after None goes = refl
    after (Some next) goes = goes next

not_older : (version next : ℕ) → is_next version next ≡ true → nat_le next version ≡ false
not_older version next is = grind (arith, nat_tests)

-- a change that is of a block, of the next version, and can be made, is made
made : {B : Type 0} (version next : ℕ) (can : Bool) (b after : B) → is_next version next ≡ true → can ≡ true
    → (if nat_le next version then Some b else if is_next version next && can then Some after else None) ≡ Some after
made version next can b after is fits = rw (not_older version next is) (rw is (rw fits refl))

-- one of another block changes nothing
made_if : {B : Type 0} (number block version next : ℕ) (can : Bool) (b after : B)
    → (block ≡ number → (is_next version next ≡ true) × (can ≡ true))
    → (if block == number then (if nat_le next version then Some b else if is_next version next && can then Some after else None) else Some b)
    ≡ Some (if block == number then after else b)
made_if {B = B} number block version next can b after are = go (block == number) (λ e. are (eqb-true block number e))
  where
    go : (here : Bool) → (here ≡ true → (is_next version next ≡ true) × (can ≡ true))
        → (if here then (if nat_le next version then Some b else if is_next version next && can then Some after else None) else Some b)
        ≡ Some (if here then after else b)
    go true is = made version next can b after (is refl).0 (is refl).1
    go false is = refl

block-made : (redo : Redo) (b : BlockContent) → IsNextData redo b → block_rolled_by redo b ≡ Some (block_applied redo b)
block-made redo b is = go redo.row is
  where
    go : (row : Option DataChange) → IsNextIfData row redo.scn b → block_after row redo.scn b ≡ Some (block_applied_if row redo.scn b)
    go None is = refl
    go (Some change) is =
        made_if b.front.number change.block b.front.version change.version (can_change b change.to redo.scn) b (applied b change.to redo.scn) is

header-made : (redo : Redo) (h : HeaderContent) → IsNextHead redo h → header_rolled_by redo h ≡ Some (header_applied redo h)
header-made redo h is =
    made_if h.front.number redo.head.block h.front.version redo.head.version (can_change_head redo.head redo.scn) h
    (with_slot h redo.head.slot redo.head.to redo.head.next redo.scn) is

undo-made : (redo : Redo) (u : UndoContent) → IsNextUndo redo u → undo_rolled_by redo u ≡ Some (undo_applied redo u)
undo-made redo u is = go redo.undo is
  where
    go : (undo : Option UndoChange) → IsNextIfUndo undo redo.scn u → undo_after undo redo.scn u ≡ Some (undo_applied_if undo redo.scn u)
    go None is = refl
    go (Some change) is =
        made_if u.front.number change.block u.front.version change.version (can_change_undo change redo.scn) u (with_record u change.place change.to redo.scn) is

rolled-each : {B : Type 0} (by : Redo → B → Option B) (applies : Redo → B → B) (is : Redo → B → Type 0)
    → ((redo : Redo) (b : B) → is redo b → by redo b ≡ Some (applies redo b))
    → (its : List Tagged) (b : B) → AreNext is applies its b → rolled by its b ≡ Some (all_applied applies its b)
rolled-each by applies is each [] b are = refl
rolled-each by applies is each (it ∷ its) b (first, are) =
    ap (option_and_then (rolled by its)) (each it.redo b first) ∙ rolled-each by applies is each its (applies it.redo b) are

pub rolled-blocks : (its : List Tagged) (b : BlockContent) → AreNext IsNextData block_applied its b
    → rolled block_rolled_by its b ≡ Some (all_applied block_applied its b)
rolled-blocks = rolled-each block_rolled_by block_applied IsNextData block-made

pub rolled-headers : (its : List Tagged) (h : HeaderContent) → AreNext IsNextHead header_applied its h
    → rolled header_rolled_by its h ≡ Some (all_applied header_applied its h)
rolled-headers = rolled-each header_rolled_by header_applied IsNextHead header-made

pub rolled-undo : (its : List Tagged) (u : UndoContent) → AreNext IsNextUndo undo_applied its u
    → rolled undo_rolled_by its u ≡ Some (all_applied undo_applied its u)
rolled-undo = rolled-each undo_rolled_by undo_applied IsNextUndo undo-made
