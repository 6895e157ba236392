-- A round of the rule of copies, by the halts and picks of four slots.
use Rattle.std.proofs.Common.{◌≡◌, ℕ, ◌≤◌, Bool, true, false, ◌==◌, List, [], ◌∷◌, length, refl, ap, ◌∙◌, arith}
use Rattle.std.specs.Prelude.{Option, Some, None, Result, Ok, Err, if◌then◌else◌}
use Rattle.base_types.specs.declared.names.Xid.{Xid}
use Rattle.redo_types.specs.declared.blocks.ItlSlot.{ItlSlot}
use Rattle.block_image.specs.Block.{slot_at}
use Rattle.undo_segment.specs.declared.fetch.Fetch.{Fetch}
use Rattle.undo_segment.specs.declared.look.Look.{Look}
use Rattle.txn_slots.specs.Own.{is_own}
use Rattle.cr_copy.specs.declared.copy.Pick.{Pick}
use Rattle.cr_copy.specs.declared.made.Halt.{Halt}
use Rattle.cr_copy.specs.Copy.{back_by, fetched, after_heads, halt_or, higher, joined, picked, round}

-- whether the changes of a transaction go back
abbrev pub class : ℕ → Option Xid → (Xid → Look) → Xid → Result Bool Halt
class s me look x = if is_own me x then Ok true else back_by s x (look x)

-- of a slot; one never used stays
abbrev pub slot_class : (Xid → Result Bool Halt) → ItlSlot → Result Bool Halt
slot_class class_of slot = if slot.xid.wrap == 0 then Ok false else class_of slot.xid

abbrev pub halt_of : {A : Type 0} → Result A Halt → Option Halt
halt_of (Err halt) = Some halt
halt_of (Ok a) = None

abbrev pub or_else : Option Halt → Option Halt → Option Halt
or_else (Some a) rest = Some a
or_else None rest = rest

-- the halt of a header
abbrev pub head_halt : (Xid → Result Bool Halt) → ItlSlot → Option Halt
head_halt class_of slot = halt_of (slot_class class_of slot)

-- what is found of a slot
abbrev pub found : ℕ → (Xid → ℕ → Fetch) → ℕ → ItlSlot → Result Pick Halt
found number fetch k slot = fetched number k slot (fetch slot.xid slot.seq)

abbrev pub undo_halt_of : Result Bool Halt → Result Pick Halt → Option Halt
undo_halt_of (Ok true) (Err halt) = Some halt
undo_halt_of (Ok true) (Ok p) = None
undo_halt_of (Ok false) f = None
undo_halt_of (Err halt) f = None

-- the halt of an undo record
abbrev pub undo_halt : (Xid → Result Bool Halt) → ℕ → (Xid → ℕ → Fetch) → ℕ → ItlSlot → Option Halt
undo_halt class_of number fetch k slot = undo_halt_of (slot_class class_of slot) (found number fetch k slot)

abbrev pub pick_of : Result Bool Halt → Result Pick Halt → Option Pick
pick_of (Ok true) (Ok p) = Some p
pick_of (Ok true) (Err halt) = None
pick_of (Ok false) f = None
pick_of (Err halt) f = None

-- what is picked of a slot
abbrev pub pick : (Xid → Result Bool Halt) → ℕ → (Xid → ℕ → Fetch) → ℕ → ItlSlot → Option Pick
pick class_of number fetch k slot = pick_of (slot_class class_of slot) (found number fetch k slot)

-- the first halt of these slots
abbrev pub first_of : (ℕ → Option Halt) → List ℕ → Option Halt
first_of halt [] = None
first_of halt (k ∷ ks) = or_else (halt k) (first_of halt ks)

-- the one with the highest version
abbrev pub best : (ℕ → Option Pick) → List ℕ → Option Pick
best pick_at [] = None
best pick_at (k ∷ ks) = higher (pick_at k) (best pick_at ks)

abbrev pub four : List ℕ
four = 1 ∷ 2 ∷ 3 ∷ 4 ∷ []

abbrev pub outcome : Option Halt → Option Pick → Result (Option Pick) Halt
outcome (Some halt) o = Err halt
outcome None o = Ok o

picked-is : (c : Result Bool Halt) (f : Result Pick Halt) → picked c f ≡ outcome (undo_halt_of c f) (pick_of c f)
picked-is (Ok true) (Ok p) = refl
picked-is (Ok true) (Err halt) = refl
picked-is (Ok false) f = refl
picked-is (Err halt) f = refl

joined-is : (h g : Option Halt) (a b : Option Pick) → joined (outcome h a) (outcome g b) ≡ outcome (or_else h g) (higher a b)
joined-is (Some h) g a b = refl
joined-is None (Some g) a b = refl
joined-is None None a b = refl

halt-is : (c : Result Bool Halt) (later : Option Halt) → halt_or c later ≡ or_else (halt_of c) later
halt-is (Ok b) later = refl
halt-is (Err halt) later = refl

after-is : (h g : Option Halt) (o : Option Pick) → after_heads h (outcome g o) ≡ outcome (or_else h g) o
after-is (Some h) g o = refl
after-is None g o = refl

-- four slots by their numbers
pub four_slots : (itl : List ItlSlot) (slot : ℕ → ItlSlot) → length itl ≡ 4 → ((k : ℕ) → 1 ≤ k → k ≤ 4 → slot_at itl k ≡ slot k) → itl ≡ slot 1 ∷ slot 2 ∷ slot 3 ∷ slot 4 ∷ []
four_slots [] slot l at = absurd (omega arith)
four_slots (a ∷ []) slot l at = absurd (omega arith)
four_slots (a ∷ b ∷ []) slot l at = absurd (omega arith)
four_slots (a ∷ b ∷ c ∷ []) slot l at = absurd (omega arith)
four_slots (a ∷ b ∷ c ∷ d ∷ []) slot l at =
    let one : a ≡ slot 1 = at 1 (omega arith) (omega arith) in
    let two : b ≡ slot 2 = at 2 (omega arith) (omega arith) in
    let three : c ≡ slot 3 = at 3 (omega arith) (omega arith) in
    let last : d ≡ slot 4 = at 4 (omega arith) (omega arith) in
    rw (one, two, three, last) refl
four_slots (a ∷ b ∷ c ∷ d ∷ e ∷ more) slot l at = absurd (omega arith)

module _ (s : ℕ) (me : Option Xid) (look : Xid → Look) (fetch : Xid → ℕ → Fetch) (number : ℕ) where
  of_four : (a b c d : Result Bool Halt) (e f g h : Result Pick Halt)
      → after_heads (halt_or a (halt_or b (halt_or c (halt_or d None)))) (joined (picked a e) (joined (picked b f) (joined (picked c g) (joined (picked d h) (Ok None)))))
      ≡ outcome (or_else (or_else (halt_of a) (or_else (halt_of b) (or_else (halt_of c) (or_else (halt_of d) None)))) (or_else (undo_halt_of a e) (or_else (undo_halt_of b f) (or_else (undo_halt_of c g) (or_else (undo_halt_of d h) None)))))
      (higher (pick_of a e) (higher (pick_of b f) (higher (pick_of c g) (higher (pick_of d h) None))))
  of_four a b c d e f g h =
      ap (λ o. after_heads o (joined (picked a e) (joined (picked b f) (joined (picked c g) (joined (picked d h) (Ok None)))))) heads
      ∙ (ap (λ r. after_heads hs r) picks ∙ after-is hs us ps)
    where
      hs : Option Halt
      hs = or_else (halt_of a) (or_else (halt_of b) (or_else (halt_of c) (or_else (halt_of d) None)))

      us : Option Halt
      us = or_else (undo_halt_of a e) (or_else (undo_halt_of b f) (or_else (undo_halt_of c g) (or_else (undo_halt_of d h) None)))

      ps : Option Pick
      ps = higher (pick_of a e) (higher (pick_of b f) (higher (pick_of c g) (higher (pick_of d h) None)))

      heads : halt_or a (halt_or b (halt_or c (halt_or d None))) ≡ hs
      heads = halt-is a _ ∙ ap (or_else (halt_of a)) (halt-is b _ ∙ ap (or_else (halt_of b)) (halt-is c _ ∙ ap (or_else (halt_of c)) (halt-is d None)))

      one : (c : Result Bool Halt) (f : Result Pick Halt) (r : Result (Option Pick) Halt) (u : Option Halt) (o : Option Pick) → r ≡ outcome u o → joined (picked c f) r ≡ outcome (or_else (undo_halt_of c f) u) (higher (pick_of c f) o)
      one c f r u o is = ap (λ x. joined x r) (picked-is c f) ∙ (ap (joined (outcome (undo_halt_of c f) (pick_of c f))) is ∙ joined-is (undo_halt_of c f) u (pick_of c f) o)

      picks : joined (picked a e) (joined (picked b f) (joined (picked c g) (joined (picked d h) (Ok None)))) ≡ outcome us ps
      picks = one a e _ _ _ (one b f _ _ _ (one c g _ _ _ (one d h (Ok None) None None refl)))

  -- a round of the program's rule
  pub round-is : (itl : List ItlSlot) (slot : ℕ → ItlSlot) → length itl ≡ 4 → ((k : ℕ) → 1 ≤ k → k ≤ 4 → slot_at itl k ≡ slot k)
      → round s me look fetch number itl
      ≡ outcome (or_else (first_of (λ k. head_halt (class s me look) (slot k)) four) (first_of (λ k. undo_halt (class s me look) number fetch k (slot k)) four)) (best (λ k. pick (class s me look) number fetch k (slot k)) four)
  round-is itl slot l at =
      ap (round s me look fetch number) (four_slots itl slot l at)
      ∙ of_four (back (slot 1)) (back (slot 2)) (back (slot 3)) (back (slot 4)) (found number fetch 1 (slot 1)) (found number fetch 2 (slot 2)) (found number fetch 3 (slot 3)) (found number fetch 4 (slot 4))
    where
      back : ItlSlot → Result Bool Halt
      back slot = slot_class (class s me look) slot
