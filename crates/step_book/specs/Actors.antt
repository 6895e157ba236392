-- What a machine of actors is: each actor has a part of its own, all share one value, and each step is one actor's.
-- A local step changes the actor's part alone, and enters a note into the shared value later on; till then it waits in the part.
use Rattle.std.specs.Prelude.{◌≡◌, ◌≢◌, ◌⊎◌, ℕ, List, [], ◌∷◌, ◌++◌, slice_get, slice_set, All, Some}
use Rattle.step_book.specs.declared.answer.Turn.{Turn}
use Rattle.step_book.specs.declared.answer.Turn.TheVariants.{Did, Nothing, Finished, NoMemory}

-- The rules of a machine, with parts P, shared values H and steps S. The relations speak of parts without waiting steps.
pub record Rules (P H S : Type 0) : Type 1 where
  -- whose step it is
  pub actor : S → ℕ
  -- the steps that wait in a part, and the part without them
  pub waiting : P → List S
  pub bare : P → P
  -- a local step of an actor leads from a part to a part
  pub local : ℕ → P → S → P → Type 0
  -- the shared value with the note of a local step, which is made from the part before it
  pub noted : ℕ → P → S → H → H
  -- a shared step of an actor leads from a part and a shared value to others
  pub shared : ℕ → P → H → S → P → H → Type 0
  -- what always holds of all parts and the shared value
  pub sound : List P → H → Type 0
  -- the run has ended
  pub over : H → Type 0
  -- no shared step of this actor moves
  pub idle : ℕ → P → H → Type 0

-- the list begins with these elements
abbrev pub StartsWith : {A : Type 0} → List A → List A → Type 0
StartsWith {A} xs beginning = (rest : List A) × (xs ≡ beginning ++ rest)

module _ {P H S : Type 0} (m : Rules P H S) where
  -- a local step of this very actor
  abbrev pub Local : ℕ → P → S → P → Type 0
  Local me p s q = (m.actor s ≡ me) × m.local me p s q

  -- one step of an actor: a local one enters its note
  abbrev pub Moves : ℕ → P → H → S → P → H → Type 0
  Moves me p h s q k = (Local me p s q × (k ≡ m.noted me p s h)) ⊎ ((m.actor s ≡ me) × m.shared me p h s q k)

  -- local steps lead from a part to a part
  abbrev pub Leads : ℕ → P → List S → P → Type 0
  Leads me p [] q = p ≡ q
  Leads me p (s ∷ ss) q = (r : P) × Local me p s r × Leads me r ss q

  -- the waiting steps of a part lead to it from the part p
  abbrev pub Waits : ℕ → P → P → Type 0
  Waits me p q = Leads me p (m.waiting q) (m.bare q)

  -- from whichever part the waiting steps of p lead to it, those of q lead to q
  abbrev pub Follows : ℕ → P → P → Type 0
  Follows me p q = (origin : P) → Waits me origin p → Waits me origin q

  -- the waiting steps of the part lead to it from the actor's place among parts that are sound with the shared value
  abbrev pub Ready : ℕ → P → H → Type 0
  Ready me p h = (parts : List P) × (origin : P) × m.sound parts h × (slice_get parts me ≡ Some origin) × Waits me origin p

  -- it is ready with some shared value
  abbrev pub MayWork : ℕ → P → Type 0
  MayWork me p = (h : H) × Ready me p h

  -- local steps of an actor enter, one after another
  abbrev pub Enters : ℕ → P → H → List S → P → H → Type 0
  Enters me p h [] q k = (p ≡ q) × (h ≡ k)
  Enters me p h (s ∷ ss) q k = (r : P) × Local me p s r × Enters me r (m.noted me p s h) ss q k

  -- what a turn does once the waiting steps have entered, by its answer
  abbrev pub Ends : Turn → ℕ → P → H → List S → P → H → Type 0
  Ends Did me p h last q k = ¬ m.over h × ¬ m.idle me p h × ((s : S) × (last ≡ s ∷ []) × (m.actor s ≡ me) × m.shared me p h s q k)
  Ends Nothing me p h last q k = ¬ m.over h × m.idle me p h × (last ≡ []) × (q ≡ p) × (k ≡ h)
  Ends Finished me p h last q k = m.over h × (last ≡ []) × (q ≡ p) × (k ≡ h)
  Ends NoMemory me p h last q k = Unit {0}

  -- a turn from a part and a shared value to others puts out these steps: waiting ones, and then at most one shared step
  abbrev pub Turns : Turn → ℕ → P → H → List S → P → H → Type 0
  Turns answer me p h steps q k = (origin : P) → Waits me origin p
      → (entered last : List S) × (between end : P) × (j : H)
      × (steps ≡ entered ++ last) × Enters me origin h entered between j × Ends answer me between j last end k × Waits me end q

  -- the steps lead, in order, from these parts and this shared value to those
  abbrev pub Runs : List P → H → List S → List P → H → Type 0
  Runs parts h [] parts2 k = (parts ≡ parts2) × (h ≡ k)
  Runs parts h (s ∷ ss) parts2 k = (p q : P) × (j : H) × (slice_get parts (m.actor s) ≡ Some p) × Moves (m.actor s) p h s q j
      × Runs (slice_set parts (m.actor s) q) j ss parts2 k

  -- from the first parts and the first shared value the steps of the book lead to this shared value
  abbrev pub Reaches : List P → H → List S → H → Type 0
  Reaches parts first book h = (parts2 : List P) × Runs parts first book parts2 h

  -- no step waits in the part
  abbrev pub IsBare : P → Type 0
  IsBare p = (m.waiting p ≡ []) × (m.bare p ≡ p)

  -- none of the steps is this actor's
  abbrev pub OfOthers : ℕ → List S → Type 0
  OfOthers me steps = All (λ s. m.actor s ≢ me) steps

  -- each step keeps what is sound
  abbrev pub KeepsSound : Type 0
  KeepsSound = (parts : List P) (me : ℕ) (p q : P) (s : S) (h k : H) → m.sound parts h → slice_get parts me ≡ Some p → Moves me p h s q k → m.sound (slice_set parts me q) k

  -- each local step that enters keeps the end
  abbrev pub KeepsOver : Type 0
  KeepsOver = (me : ℕ) (p q : P) (s : S) (h : H) → m.over h → Local me p s q → m.over (m.noted me p s h)
