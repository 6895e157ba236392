-- What is at hand of a deed tells of it.
use Rattle.std.proofs.Common.{◌≡◌, ℕ, ◌-◌, ◌%◌, ◌<◌, ◌≤◌, ◌||◌, List, [], ◌∷◌, ◌++◌, length, get_or, subst, arith}
use Rattle.std.specs.Prelude.{Option, Some, None, IfSome, zero, suc}
use Rattle.std.specs.List.{AllByRecursion, Contains}
use Rattle.base_types.specs.declared.names.Xid.{Xid}
use Rattle.base_types.specs.declared.value.Value.{Value}
use Rattle.redo_types.specs.declared.undo.UndoRecord.{UndoRecord}
use Rattle.undo_image.specs.Header.{HeaderContent}
use Rattle.undo_image.specs.UndoBlock.{UndoContent}
use Rattle.undo_segment.specs.Fetch.{fetch_in, found_at}
use Rattle.undo_segment.specs.Handed.{HandedState}
use Rattle.undo_segment.specs.Look.{look_in}
use Rattle.undo_segment.specs.Segment.{fetch, header_for, look, SegmentState, undo_block_for}
use Rattle.txn_slots.specs.Own.{is_own}
use Rattle.cr_copy.specs.declared.made.Made.TheVariants.{Rows}
use Rattle.cr_copy.specs.Copy.{make}
use Rattle.board_slots.specs.Block.{committed, Record, stands}
use Rattle.board_slots.specs.Hand.{BlockHolds, HeaderTells, IsAtHand}
use Rattle.board_slots.specs.Images.{block_of}
use Rattle.board_slots.specs.Reads.{ended_later, MayRead, MayReadWith}
use Rattle.board_slots.specs.Ring.{in_place}
use Rattle.board_slots.specs.Records.{AreMade}
use Rattle.board_slots.specs.Slots.{IsFair}
use Rattle.board_slots.specs.Told.{ended, ended_by, IsLook, IsTold}
use Rattle.board_slots.specs.Views.{IsWritten, ReaderFollows, undo_of, value_at, view}
use Rattle.board_slots.proofs.Headers.{slot-tells}
use Rattle.board_slots.proofs.Held.{fair-all}
use Rattle.board_slots.proofs.Keeps.{all-sound}
use Rattle.board_slots.proofs.Moments.{told-later}
use Rattle.board_slots.proofs.Newest.{all_both, all_map}
use Rattle.board_slots.proofs.Rings.{ring-holds}
use Rattle.board_slots.proofs.Seen.{blocks-numbered, blocks-seen}
use Rattle.board_slots.proofs.Shows.{copies-show}

all-at : {X : Type 0} (P : X → Type 0) (xs : List X) (k : ℕ) (d : X) → AllByRecursion P xs → k < length xs → P (get_or xs k d)
all-at P [] k d h lt = absurd (omega arith)
all-at P (x ∷ xs) zero d h lt = h.0
all-at P (x ∷ xs) (suc k) d h lt = all-at P xs k d h.1 (omega (arith, lt))

all-contained : {X : Type 0} (P : X → Type 0) (xs : List X) (x : X) → AllByRecursion P xs → Contains xs x → P x
all-contained P xs x h there = subst P there.2 (all-at P xs there.0 x h there.1)

head-tells : (x : Xid) (end : Option ℕ) (o : Option HeaderContent) → 1 ≤ x.wrap → IfSome o (HeaderTells x end) → IsLook end (look_in o x)
head-tells x end None used h = tt
head-tells x end (Some head) used h = subst (λ o. IsLook o (look_in (Some head) x)) h.ends (slot-tells _ h.turns x h.in_turn h.slot used)

block-holds : (size : ℕ) (u : UndoRecord) (o : Option UndoContent) → IfSome o (BlockHolds size u) → IsWritten u (fetch_in u.seq o)
block-holds size u None h = tt
block-holds size u (Some block) h = rw h.place (all-contained (λ (u : UndoRecord). IsWritten u (found_at u.seq (in_place size ((u.seq - 1) % size) h.written))) h.written u (ring-holds size h.written h.rises) h.there)

older-made : (newer there : List Record) → AreMade (newer ++ there) → AreMade there
older-made [] there made = made
older-made (r ∷ newer) there made = older-made newer there made.1

module _ (own : SegmentState) (handed : HandedState) (number : ℕ) (newer : Xid → List Record) (there : List Record) (me : Option Xid) where
  there-made : MayReadWith own handed number newer there me → AreMade there
  there-made may = let x : Xid = record { seg = 0; slot = 0; wrap = 0 } in older-made (newer x) there (may.later x)

  told-at-hand : MayReadWith own handed number newer there me → AllByRecursion (IsTold number (committed there) (ended_later newer there) (look own handed) (fetch own handed)) (stands there)
  told-at-hand may =
      told-later number there newer (look own handed) (fetch own handed) may.later
      (all_both (IsFair (committed there)) (IsAtHand own handed number (ended_later newer there)) (λ m. IsLook (ended (newer m.xid ++ there) m.xid) (look own handed m.xid)) (stands there)
      (λ m fair h. head-tells m.xid (ended (newer m.xid ++ there) m.xid) (header_for own handed m.xid.seg) fair.placed.wrap h.head)
      (fair-all (committed there) (stands there) (all-sound there (there-made may)).orderly) may.hand)
      (all_map (IsAtHand own handed number (ended_later newer there)) (λ m. IsWritten (undo_of number m) (fetch own handed m.xid m.seq)) (stands there)
      (λ m h. block-holds own.layout.undo (undo_of number m) (undo_block_for own handed m.xid.seg m.seq) h.undo) may.hand)

  pub may-read : MayReadWith own handed number newer there me → MayRead there (block_of number there) me (ended_later newer there) (look own handed) (fetch own handed)
  may-read may = record { sound = all-sound there (there-made may); seen = blocks-seen number there (there-made may); open_there = may.open_there; told = rw (blocks-numbered number there) (told-at-hand may) }

  pub shows-at-hand : (s : ℕ) → MayReadWith own handed number newer there me → ReaderFollows (committed there) s me (stands there) → (rows : List Value)
      → make s me (look own handed) (fetch own handed) (block_of number there) ≡ Rows rows → (r : ℕ) → r < 8 → value_at rows r ≡ view (λ x. is_own me x || ended_by s (ended_later newer there) x) (stands there) r
  shows-at-hand s may follows rows e r lt = copies-show there (block_of number there) s me (ended_later newer there) (look own handed) (fetch own handed) (may-read may) follows rows e r lt
