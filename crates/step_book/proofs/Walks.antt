-- What one actor does, step after step.
use Rattle.std.proofs.Common.{◌≡◌, ◌≢◌, inl, inr, ℕ, List, [], ◌∷◌, ◌++◌, set, slice_get, refl, sym, ap, ◌∙◌, subst, All, Some}
use Rattle.std.proofs.lemmas.List.Elements.{All-nil, All-cons}
use Rattle.std.proofs.lemmas.Option.{get_or_from_slice_get, slice_get_within}
use Rattle.step_book.specs.Actors.{Rules, Moves, Leads, Waits, Follows, Ready, MayWork, Enters, Ends, Turns, Runs, IsBare, KeepsSound, KeepsOver}
use Rattle.step_book.specs.declared.answer.Turn.{Turn}
use Rattle.step_book.specs.declared.answer.Turn.TheVariants.{Did, Nothing, Finished, NoMemory}
use Rattle.step_book.proofs.Places.{get_set_here, set_same, set_twice}

module _ {P H S : Type 0} (m : Rules P H S) where
  -- the steps of one actor lead from a part and a shared value to others
  abbrev pub Acts : ℕ → P → H → List S → P → H → Type 0
  Acts me p h [] q k = (p ≡ q) × (h ≡ k)
  Acts me p h (s ∷ ss) q k = (r : P) × (j : H) × (m.actor s ≡ me) × Moves m me p h s r j × Acts me r j ss q k

  pub acts_more : (me : ℕ) (p : P) (h : H) (xs : List S) (q : P) (k : H) (ys : List S) (r : P) (j : H) → Acts me p h xs q k → Acts me q k ys r j → Acts me p h (xs ++ ys) r j
  acts_more me p h [] q k ys r j a b = subst (λ (z : P × H). Acts me z.0 z.1 ys r j) (λ i. (sym a.0 i, sym a.1 i)) b
  acts_more me p h (x ∷ xs) q k ys r j a b = (a.0, a.1, a.2, a.3, acts_more me a.0 a.1 xs q k ys r j a.4 b)

  pub enter_acts : (me : ℕ) (p : P) (h : H) (xs : List S) (q : P) (k : H) → Enters m me p h xs q k → Acts me p h xs q k
  enter_acts me p h [] q k e = e
  enter_acts me p h (x ∷ xs) q k e = (e.0, m.noted me p x h, e.1.0, inl (e.1, refl), enter_acts me e.0 (m.noted me p x h) xs q k e.2)

  pub end_acts : (answer : Turn) (me : ℕ) (p : P) (h : H) (xs : List S) (q : P) (k : H) → answer ≢ NoMemory → Ends m answer me p h xs q k → Acts me p h xs q k
  end_acts Did me p h xs q k n e = subst (λ (ss : List S). Acts me p h ss q k) (sym e.2.1) (q, k, e.2.2, inr (e.2.2, e.2.3), (refl, refl))
  end_acts Nothing me p h xs q k n e = subst (λ (ss : List S). Acts me p h ss q k) (sym e.2) (sym e.3, sym e.4)
  end_acts Finished me p h xs q k n e = subst (λ (ss : List S). Acts me p h ss q k) (sym e.1) (sym e.2, sym e.3)
  end_acts NoMemory me p h xs q k n e = absurd (n refl)

  pub acts_of : (me : ℕ) (p : P) (h : H) (xs : List S) (q : P) (k : H) → Acts me p h xs q k → All (λ x. m.actor x ≡ me) xs
  acts_of me p h [] q k a = All-nil (λ x. m.actor x ≡ me)
  acts_of me p h (x ∷ xs) q k a = All-cons (λ (z : S). m.actor z ≡ me) x xs a.2 (acts_of me a.0 a.1 xs q k a.4)

  pub acts_run : (me : ℕ) (parts : List P) (p : P) (h : H) (xs : List S) (q : P) (k : H) → slice_get parts me ≡ Some p → Acts me p h xs q k → Runs m parts h xs (set parts me q) k
  acts_run me parts p h [] q k at a = (set_same parts me q (at ∙ ap (λ z. Some z) a.0), a.1)
  acts_run me parts p h (x ∷ xs) q k at a =
      let r : P = a.0 in let next : List P = set parts me r in
      let rest : Runs m next a.1 xs (set next me q) k = acts_run me next r a.1 xs q k (get_set_here parts me r p at) a.4 in
      let rest' : Runs m next a.1 xs (set parts me q) k = subst (λ (z : List P). Runs m next a.1 xs z k) (set_twice parts me r q) rest in
      subst (λ (who : ℕ). (p' q' : P) × (j : H) × (slice_get parts who ≡ Some p') × Moves m who p' h x q' j × Runs m (set parts who q') j xs (set parts me q) k) (sym a.2) (p, r, a.1, at, a.3, rest')

  pub runs_more : (parts : List P) (h : H) (xs : List S) (parts2 : List P) (k : H) (ys : List S) (parts3 : List P) (j : H) → Runs m parts h xs parts2 k → Runs m parts2 k ys parts3 j → Runs m parts h (xs ++ ys) parts3 j
  runs_more parts h [] parts2 k ys parts3 j a b = subst (λ (z : List P × H). Runs m z.0 z.1 ys parts3 j) (λ i. (sym a.0 i, sym a.1 i)) b
  runs_more parts h (x ∷ xs) parts2 k ys parts3 j a b = (a.0, a.1, a.2, a.3, a.4, runs_more (set parts (m.actor x) a.1) a.2 xs parts2 k ys parts3 j a.5 b)

  pub acts_sound : KeepsSound m → (me : ℕ) (parts : List P) (p : P) (h : H) (xs : List S) (q : P) (k : H) → m.sound parts h → slice_get parts me ≡ Some p → Acts me p h xs q k → m.sound (set parts me q) k
  acts_sound keeps me parts p h [] q k ok at a = subst (λ (z : List P × H). m.sound z.0 z.1) (λ i. (set_same parts me q (at ∙ ap (λ z. Some z) a.0) i, a.1 i)) ok
  acts_sound keeps me parts p h (x ∷ xs) q k ok at a =
      let r : P = a.0 in let next : List P = set parts me r in
      subst (λ (z : List P). m.sound z k) (set_twice parts me r q)
      (acts_sound keeps me next r a.1 xs q k (keeps parts me p r x h a.1 ok at a.3) (get_set_here parts me r p at) a.4)

  pub enter_over : KeepsOver m → (me : ℕ) (p : P) (h : H) (xs : List S) (q : P) (k : H) → m.over h → Enters m me p h xs q k → m.over k
  enter_over keeps me p h [] q k o e = subst m.over e.1 o
  enter_over keeps me p h (x ∷ xs) q k o e = enter_over keeps me e.0 (m.noted me p x h) xs q k (keeps me p e.0 x h o e.1) e.2

  -- a turn once the run has ended leaves it ended
  pub end_over : (answer : Turn) (me : ℕ) (p : P) (h : H) (xs : List S) (q : P) (k : H) → answer ≢ NoMemory → m.over h → Ends m answer me p h xs q k → m.over k
  end_over Did me p h xs q k n o e = absurd (e.0 o)
  end_over Nothing me p h xs q k n o e = absurd (e.0 o)
  end_over Finished me p h xs q k n o e = subst m.over (sym e.3) o
  end_over NoMemory me p h xs q k n o e = absurd (n refl)

  pub finished_over : (answer : Turn) (me : ℕ) (p : P) (h : H) (xs : List S) (q : P) (k : H) → answer ≡ Finished → Ends m answer me p h xs q k → m.over k
  finished_over answer me p h xs q k is e = let e' : Ends m Finished me p h xs q k = subst (λ a. Ends m a me p h xs q k) is e in subst m.over (sym e'.3) e'.0

  pub follows_turn : (answer : Turn) (me : ℕ) (p p' : P) (h : H) (xs : List S) (q : P) (k : H) → Follows m me p p' → Turns m answer me p' h xs q k → Turns m answer me p h xs q k
  follows_turn answer me p p' h xs q k f t origin w = t origin (f origin w)

  pub follows_ready : (me : ℕ) (p q : P) (h : H) → Follows m me p q → Ready m me p h → Ready m me q h
  follows_ready me p q h f r = (r.0, r.1, r.2, r.3, f r.1 r.4)

  pub follows_work : (me : ℕ) (p q : P) → Follows m me p q → MayWork m me p → MayWork m me q
  follows_work me p q f r = (r.0, follows_ready me p q r.0 f r.1)

  pub bare_waits : (me : ℕ) (p : P) → IsBare m p → Waits m me p p
  bare_waits me p b = subst (λ (z : List S × P). Leads m me p z.0 z.1) (λ i. (sym b.0 i, sym b.1 i)) refl

  pub all_get : (Q : P → Type 0) (xs : List P) (k : ℕ) (p : P) → All Q xs → slice_get xs k ≡ Some p → Q p
  all_get Q xs k p h e = subst Q (get_or_from_slice_get xs k p p e) (h k p (slice_get_within xs k p e))

  pub bare_ready : (parts : List P) (h : H) (me : ℕ) (p : P) → All (IsBare m) parts → m.sound parts h → slice_get parts me ≡ Some p → MayWork m me p
  bare_ready parts h me p bare ok at = (h, (parts, p, ok, at, bare_waits me p (all_get (IsBare m) parts me p bare at)))
