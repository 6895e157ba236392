-- What a turn of the ring does.
use Rattle.std.proofs.Common.{◌≡◌, ◌≢◌, ℕ, ◌≤◌, ◌++◌, [], ◌∷◌, Option, Some, None, refl, sym}
use Rattle.std.proofs.lemmas.List.{append-nil}
use Rattle.step_book.specs.Actors.{Leads, Enters, Turns}
use Rattle.step_book.specs.declared.answer.Turn.TheVariants.{Did, Nothing, Finished}
use Rattle.token_ring.specs.Ring.{ring, waiting_by, noted, passed}
use Rattle.token_ring.specs.declared.ring.Step.TheVariants.{Passed}
use Rattle.token_ring.specs.declared.ring.Counter.{Counter}
use Rattle.token_ring.specs.declared.ring.Token.{Token}

enters : (me : ℕ) (origin b : Counter) (mark : Option ℕ) (t u : Token) → Leads ring me origin (waiting_by mark) b → (mark ≡ None → u ≡ t) → ((a : ℕ) → mark ≡ Some a → u ≡ noted t)
    → Enters ring me origin t (waiting_by mark) b u
enters me origin b None t u w f g = (w, sym (f refl))
enters me origin b (Some a) t u w f g = (w.0, w.1, (w.2, sym (g a refl)))

module _ (me : ℕ) (p : Counter) (t u : Token) (f : p.mark ≡ None → u ≡ t) (g : (a : ℕ) → p.mark ≡ Some a → u ≡ noted t) where
  pub finishes : 100 ≤ u.passes → Turns ring Finished me p t (waiting_by p.mark) (record p { mark = None }) u
  finishes over origin w = (waiting_by p.mark, [], record p { mark = None }, record p { mark = None }, u, sym (append-nil (waiting_by p.mark)), enters me origin (record p { mark = None }) p.mark t u w f g, (over, refl, refl, refl), refl)

  pub waits_on : ¬ 100 ≤ u.passes → u.holder ≢ me → Turns ring Nothing me p t (waiting_by p.mark) (record p { mark = None }) u
  waits_on not_over other origin w = (waiting_by p.mark, [], record p { mark = None }, record p { mark = None }, u, sym (append-nil (waiting_by p.mark)), enters me origin (record p { mark = None }) p.mark t u w f g, (not_over, other, refl, refl, refl), refl)

  pub passes : ¬ 100 ≤ u.passes → u.holder ≡ me → Turns ring Did me p t (waiting_by p.mark ++ Passed me ∷ []) (record p { mark = None }) (passed me u)
  passes not_over mine origin w = (
    waiting_by p.mark,
    Passed me ∷ [],
    record p { mark = None },
    record p { mark = None },
    u,
    refl,
    enters me origin (record p { mark = None }) p.mark t u w f g,
    (not_over, (λ other. other mine), (Passed me, refl, refl, (refl, refl, refl))),
    refl,
  )
