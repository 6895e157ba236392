-- An undo record that is found by its number is the one that was written under it.
use Rattle.std.proofs.Common.{◌≡◌, ℕ, ◌<◌, ◌-◌, ◌%◌, Bool, true, false, cond, ◌==◌, List, [], ◌∷◌, refl, sym, ap, ◌∙◌, arith}
use Rattle.std.specs.Prelude.{Option, Some, None}
use Rattle.std.specs.List.{AllByRecursion}
use Rattle.std.proofs.lemmas.Bool.{eqb-true, eq-eqb}
use Rattle.redo_types.specs.declared.undo.UndoRecord.{UndoRecord}
use Rattle.undo_segment.specs.declared.fetch.Fetch.TheVariants.{Has, Reused}
use Rattle.undo_segment.specs.Fetch.{found_at}
use Rattle.board_slots.specs.Ring.{Rising, in_place}
use Rattle.board_slots.specs.Views.{IsWritten}
use Rattle.board_slots.proofs.Newest.{all_map}

-- who stands in a place, and each one with its number is it
record Stands (d : UndoRecord) (written : List UndoRecord) : Type 0 where
  pub alone : AllByRecursion (λ (u : UndoRecord). u.seq ≡ d.seq → u ≡ d) written
  pub below : (bound : ℕ) → AllByRecursion (λ (u : UndoRecord). u.seq < bound) written → d.seq < bound

stands : (size place : ℕ) (d : UndoRecord) (written : List UndoRecord) → Rising written → in_place size place written ≡ Some d → Stands d written
stands size place d [] h e = absurd (let bad : ◌≡◌ {A = Option UndoRecord} None (Some d) = e in cc)
stands size place d (u ∷ written) h e = here ((u.seq - 1) % size == place) e (stands size place d written h.1)
  where
    here : (t : Bool) → cond t (Some u) (in_place size place written) ≡ Some d → (in_place size place written ≡ Some d → Stands d written) → Stands d (u ∷ written)
    here true e ih =
        let same : u ≡ d = cc in
        record {
          alone = ((λ f. same), all_map (λ (o : UndoRecord). o.seq < u.seq) (λ (o : UndoRecord). o.seq ≡ d.seq → o ≡ d) written (λ o lt f. (let g : u.seq ≡ d.seq = ap (λ (u : UndoRecord). u.seq) same in absurd (omega arith))) h.0);
          below = λ bound all. rw (sym same) all.0;
        }
    here false e ih =
        let old = ih e in
        record {
          alone = ((λ f. (let lt = old.below u.seq h.0 in absurd (omega arith))), old.alone);
          below = λ bound all. old.below bound all.1;
        }

-- some record stands in the place of one that was written
some-stands : (size : ℕ) (written : List UndoRecord) → AllByRecursion (λ (u : UndoRecord). in_place size ((u.seq - 1) % size) written ≡ None → ⊥) written
some-stands size [] = tt
some-stands size (u ∷ written) = (
  (λ e. (let bad : ◌≡◌ {A = Option UndoRecord} (Some u) None = rw (eq-eqb ((u.seq - 1) % size) ((u.seq - 1) % size) refl) at e in absurd (cc))),
  all_map (λ (o : UndoRecord). in_place size ((o.seq - 1) % size) written ≡ None → ⊥) (λ (o : UndoRecord). in_place size ((o.seq - 1) % size) (u ∷ written) ≡ None → ⊥) written (λ o f e. here o ((u.seq - 1) % size == (o.seq - 1) % size) f e) (some-stands size written),
)
  where
    here : (o : UndoRecord) (t : Bool) → (in_place size ((o.seq - 1) % size) written ≡ None → ⊥) → cond t (Some u) (in_place size ((o.seq - 1) % size) written) ≡ None → ⊥
    here o true f e = absurd (let bad : ◌≡◌ {A = Option UndoRecord} (Some u) None = e in cc)
    here o false f e = f e

pub ring-holds : (size : ℕ) (written : List UndoRecord) → Rising written → AllByRecursion (λ (u : UndoRecord). IsWritten u (found_at u.seq (in_place size ((u.seq - 1) % size) written))) written
ring-holds size written h = each written (some-stands size written) (λ seq. found seq (in_place size ((seq - 1) % size) written) refl)
  where
    each : (us : List UndoRecord) → AllByRecursion (λ (u : UndoRecord). in_place size ((u.seq - 1) % size) written ≡ None → ⊥) us
        → ((seq : ℕ) → (in_place size ((seq - 1) % size) written ≡ None → ⊥) → AllByRecursion (λ (u : UndoRecord). u.seq ≡ seq → IsWritten u (found_at seq (in_place size ((seq - 1) % size) written))) us)
        → AllByRecursion (λ (u : UndoRecord). IsWritten u (found_at u.seq (in_place size ((u.seq - 1) % size) written))) us
    each [] some f = tt
    each (u ∷ us) some f = ((f u.seq some.0).0 refl, each us some.1 (λ seq n. (f seq n).1))

    found : (seq : ℕ) (o : Option UndoRecord) → in_place size ((seq - 1) % size) written ≡ o → (o ≡ None → ⊥) → AllByRecursion (λ (u : UndoRecord). u.seq ≡ seq → IsWritten u (found_at seq o)) written
    found seq None e some = absurd (some refl)
    found seq (Some d) e some = here (d.seq == seq) refl
      where
        here : (b : Bool) → (d.seq == seq) ≡ b → AllByRecursion (λ (u : UndoRecord). u.seq ≡ seq → IsWritten u (cond b (Has d) (Reused d.seq))) written
        here true f = all_map (λ (u : UndoRecord). u.seq ≡ d.seq → u ≡ d) (λ (u : UndoRecord). u.seq ≡ seq → IsWritten u (Has d)) written (λ u g is. sym (g (is ∙ sym (eqb-true d.seq seq f)))) (stands size ((seq - 1) % size) d written h e).alone
        here false f = all_map (λ (u : UndoRecord). u.seq ≡ d.seq → u ≡ d) (λ (u : UndoRecord). u.seq ≡ seq → IsWritten u (Reused d.seq)) written (λ u g is. tt) (stands size ((seq - 1) % size) d written h e).alone
