-- An undo record that is written stands in its place of the ring, and the others stay.
use Rattle.std.proofs.Common.{◌≡◌, ℕ, ◌+◌, ◌-◌, ◌*◌, ◌/◌, ◌%◌, ◌<◌, ◌==◌, Bool, true, false, cond, List, ◌∷◌, length, set, refl, sym, ap, ◌∙◌, subst, arith}
use Rattle.std.specs.Prelude.{Option, Some, None, IsSomeAnd}
use Rattle.std.proofs.Math.Nat.{add-mul-mod_self_right, mod-add-div', mod-lt, mul_assoc}
use Rattle.std.proofs.lemmas.Bool.{eqb-false, eqb-true}
use Rattle.std.proofs.lemmas.List.{get_or-set_other, get_or-set_same}
use Rattle.base_types.specs.declared.names.Scn.{Scn}
use Rattle.redo_types.specs.declared.redo.Redo.{Redo}
use Rattle.redo_types.specs.declared.redo.UndoChange.{UndoChange}
use Rattle.redo_types.specs.declared.undo.UndoRecord.{UndoRecord}
use Rattle.block_image.specs.Block.{BlockContent}
use Rattle.undo_image.specs.UndoBlock.{empty_undo_block, IsUndoBlock, record_at, UndoContent, with_record}
use Rattle.undo_segment.specs.Apply.{applied}
use Rattle.undo_segment.specs.Handed.{HandedState}
use Rattle.undo_segment.specs.Segment.{block_in, IsSegment, SegmentState}
use Rattle.scn_clock.specs.declared.clock.Clock.{Clock}
use Rattle.txn_engine.specs.declared.ask.ChangeAsk.{ChangeAsk}
use Rattle.txn_engine.specs.declared.ask.Decision.TheVariants.{Do}
use Rattle.txn_engine.specs.declared.made.Plan.{Plan}
use Rattle.txn_engine.specs.Change.{change_decision, change_record, undo_change, undo_made}
use Rattle.txn_engine.specs.Parts.{head_change, undo_at, undo_block_at}
use Rattle.txn_engine.proofs.RingPlaces.{place_within, ring_place_is}
use Rattle.board_slots.specs.Ring.{in_place}
use Rattle.board_slots.proofs.Newest.{all_map}
use Rattle.deed_laws.specs.Rings.{HoldsUndo}
use Rattle.deed_laws.proofs.Decided.{decided_is, IsPlanned}

-- a place in the ring has its place in its block
in-four : (n size : ℕ) → size % 4 ≡ 0 → n % 4 ≡ n % size % 4
in-four n size by_four =
    let all : n % size + n / size * size ≡ n = mod-add-div' n size in
    let size_is : size ≡ size / 4 * 4 = omega (arith, by_four) in
    let fours : n / size * size ≡ n / size * (size / 4) * 4 = ap (λ (m : ℕ). n / size * m) size_is ∙ sym (mul_assoc (n / size) (size / 4) 4) in
    let same : n ≡ n % size + n / size * (size / 4) * 4 = omega (arith, all, fours) in
    ap (λ (m : ℕ). m % 4) same ∙ add-mul-mod_self_right (n % size) (n / size * (size / 4)) 4

-- what stands in a place of the ring
abbrev at_place : List UndoContent → ℕ → Option UndoRecord
at_place blocks place = record_at (block_in blocks (place / 4)) (place % 4)

at-is : (own : SegmentState) (seq : ℕ) → IsSegment own → undo_at own seq ≡ at_place own.blocks ((seq - 1) % own.layout.undo)
at-is own seq is = ap (λ (j : ℕ). record_at (undo_block_at own seq) j) (in-four (seq - 1) own.layout.undo is.layout.undo_by_four)

-- one place is written
module _ (blocks : List UndoContent) (q : ℕ) (u : UndoRecord) (scn : Scn) (within : q / 4 < length blocks) (four : length (block_in blocks (q / 4)).places ≡ 4) where
  abbrev new_block : UndoContent
  new_block = with_record (block_in blocks (q / 4)) (q % 4) u scn

  pub place-written : (p : ℕ) → at_place (set blocks (q / 4) new_block) p ≡ cond (q == p) (Some u) (at_place blocks p)
  place-written p = here (q == p) refl
    where
      last : q % 4 < 4
      last = mod-lt q (omega arith)

      block : (b : Bool) → (q / 4 == p / 4) ≡ b → (q == p) ≡ false → at_place (set blocks (q / 4) new_block) p ≡ at_place blocks p
      block true e off =
          let same : q / 4 ≡ p / 4 = eqb-true (q / 4) (p / 4) e in
          let other : p % 4 ≡ q % 4 → ⊥ = λ f. eqb-false q p off (omega (arith, same, f)) in
          ap (λ (k : ℕ). record_at (block_in (set blocks (q / 4) new_block) k) (p % 4)) (sym same)
          ∙ (ap (λ (b : UndoContent). record_at b (p % 4)) (get_or-set_same blocks (q / 4) new_block (empty_undo_block 0 0) within)
          ∙ (get_or-set_other (block_in blocks (q / 4)).places (q % 4) (p % 4) (Some u) None other
          ∙ ap (λ (k : ℕ). record_at (block_in blocks k) (p % 4)) same))
      block false e off = ap (λ (b : UndoContent). record_at b (p % 4)) (get_or-set_other blocks (q / 4) (p / 4) new_block (empty_undo_block 0 0) (λ same. eqb-false (q / 4) (p / 4) e (sym same)))

      here : (b : Bool) → (q == p) ≡ b → at_place (set blocks (q / 4) new_block) p ≡ cond b (Some u) (at_place blocks p)
      here true e =
          let same : q ≡ p = eqb-true q p e in
          ap (λ (p : ℕ). at_place (set blocks (q / 4) new_block) p) (sym same)
          ∙ (ap (λ (b : UndoContent). record_at b (q % 4)) (get_or-set_same blocks (q / 4) new_block (empty_undo_block 0 0) within)
          ∙ get_or-set_same (block_in blocks (q / 4)).places (q % 4) (Some u) None (omega (arith, four, last)))
      here false e = block (q / 4 == p / 4) refl e

module _ (ask : ChangeAsk) (image : BlockContent) (segment : SegmentState) (clock : Clock) (at : ℕ) (is : IsSegment segment) (block : IsUndoBlock (undo_block_at segment segment.head.front.next)) (written : List UndoRecord) (holds : HoldsUndo segment written) (plan : Plan) where
  abbrev made : Redo
  made = change_record ask plan image segment (clock.scn + 1)

  abbrev undo : UndoRecord
  undo = undo_made ask plan image segment.head

  seq-is : (undo_made ask plan image segment.head).seq ≡ segment.head.front.next
  unfolding undo_made
  seq-is = refl

  abbrev q : ℕ
  q = (segment.head.front.next - 1) % segment.layout.undo

  blocks-are : (applied segment (change_record ask plan image segment (clock.scn + 1)) at).blocks
      ≡ set segment.blocks ((segment.head.front.next - 1) % segment.layout.undo / 4) (with_record (block_in segment.blocks ((segment.head.front.next - 1) % segment.layout.undo / 4)) ((segment.head.front.next - 1) % segment.layout.undo % 4) (undo_made ask plan image segment.head) (clock.scn + 1))
  unfolding change_record undo_change head_change
  blocks-are =
      ap (λ (k : ℕ). set segment.blocks k (with_record (block_in segment.blocks k) (((undo_made ask plan image segment.head).seq - 1) % 4) (undo_made ask plan image segment.head) (clock.scn + 1))) (ring_place_is segment segment.head.front.next is)
      ∙ ap (λ (j : ℕ). set segment.blocks (q / 4) (with_record (block_in segment.blocks (q / 4)) j (undo_made ask plan image segment.head) (clock.scn + 1)))
      (ap (λ (n : ℕ). (n - 1) % 4) seq-is ∙ in-four (segment.head.front.next - 1) segment.layout.undo is.layout.undo_by_four)

  layout-is : (applied segment (change_record ask plan image segment (clock.scn + 1)) at).layout ≡ segment.layout
  layout-is = refl

  next-is : (applied segment (change_record ask plan image segment (clock.scn + 1)) at).head.front.next ≡ segment.head.front.next + 1
  unfolding change_record head_change
  next-is = refl

  writes : HoldsUndo (applied segment (change_record ask plan image segment (clock.scn + 1)) at) (undo_made ask plan image segment.head ∷ written)
  unfolding undo_made
  writes =
      record {
        rises = (rw seq-is holds.below, holds.rises);
        below = (rw (seq-is, next-is) (omega arith), all_map (λ (o : UndoRecord). o.seq < segment.head.front.next) (λ (o : UndoRecord). o.seq < (applied segment made at).head.front.next) written (λ o lt. rw next-is (omega arith)) holds.below);
        places = place;
      }
    where
      place : (seq : ℕ) → undo_at (applied segment made at) seq ≡ in_place segment.layout.undo ((seq - 1) % segment.layout.undo) (undo_made ask plan image segment.head ∷ written)
      place seq =
          ap (λ (j : ℕ). record_at (undo_block_at (applied segment made at) seq) j) (in-four (seq - 1) segment.layout.undo is.layout.undo_by_four)
          ∙ (ap (λ (blocks : List UndoContent). at_place blocks ((seq - 1) % segment.layout.undo)) blocks-are
          ∙ (place-written segment.blocks q undo (clock.scn + 1) (let long = is.blocks in let within = place_within segment segment.head.front.next is in omega arith) block.places.four ((seq - 1) % segment.layout.undo)
          ∙ (here (q == (seq - 1) % segment.layout.undo))))
        where
          here : (b : Bool) → cond b (Some undo) (at_place segment.blocks ((seq - 1) % segment.layout.undo)) ≡ cond b (Some undo) (in_place segment.layout.undo ((seq - 1) % segment.layout.undo) written)
          here true = refl
          here false = sym (at-is segment seq is) ∙ holds.places seq

  writes-undo : IsSomeAnd (change_record ask plan image segment (clock.scn + 1)).undo (λ (change : UndoChange). HoldsUndo (applied segment (change_record ask plan image segment (clock.scn + 1)) at) (change.to ∷ written))
  unfolding change_record undo_change
  writes-undo = writes

pub decided-writes : (ask : ChangeAsk) (image : BlockContent) (segment : SegmentState) (handed : HandedState) (clock : Clock) (on_disk : Scn) (redo : Redo) (at : ℕ) (written : List UndoRecord) → change_decision ask image segment handed clock on_disk ≡ Do redo → IsSegment segment
    → IsUndoBlock (undo_block_at segment segment.head.front.next) → HoldsUndo segment written → IsSomeAnd redo.undo (λ (change : UndoChange). HoldsUndo (applied segment redo at) (change.to ∷ written))
decided-writes ask image segment handed clock on_disk redo at written e is block holds =
    let p : IsPlanned ask image segment handed clock redo = (decided_is ask image segment handed clock redo on_disk e).1 in
    subst (λ (redo : Redo). IsSomeAnd redo.undo (λ (change : UndoChange). HoldsUndo (applied segment redo at) (change.to ∷ written))) p.is (writes-undo ask image segment clock at is block written holds p.plan)

-- a record that writes no undo
pub keeps-undo : (segment : SegmentState) (redo : Redo) (at : ℕ) (written : List UndoRecord) → redo.undo ≡ None → redo.head.next ≡ segment.head.front.next → HoldsUndo segment written → HoldsUndo (applied segment redo at) written
keeps-undo segment redo at written none next holds =
    record {
      rises = holds.rises;
      below = rw next holds.below;
      places = λ seq. rw none (holds.places seq);
    }
