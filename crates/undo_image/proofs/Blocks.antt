-- Blocks with a front, a body and zeros up to their end.
use Rattle.std.proofs.Common.{◌≡◌, ℕ, ◌+◌, ◌-◌, ◌<◌, ◌≤◌, List, [], ◌∷◌, ◌++◌, length, take, drop, replicate, refl, sym, ap, subst, ◌∙◌, arith}
use Rattle.std.specs.List.{flat_map}
use Rattle.std.proofs.lemmas.Grind.{flat_map-append}
use Rattle.std.proofs.lemmas.List.{append-nil, append_assoc, drop_all, length-append, length-replicate, take-append-drop, take-append-le, take_all}
use Rattle.base_types.specs.Bytes.{Puts}
use Rattle.base_types.proofs.BytesLemmas.{Puts-append}
use Rattle.part_image.specs.declared.front.BlockFront.{BlockFront}
use Rattle.part_image.specs.declared.front.BlockKind.{BlockKind}
use Rattle.part_image.specs.Cells.{Cell, Zeros, Begins, IsFirstWrong, StandsAt, first_fields, spelled}
use Rattle.part_image.specs.Front.{IsFront, front_bytes, front_fields}
use Rattle.part_image.proofs.CellLemmas.{StandsAt-append, StandsAt-first, StandsAt-second}
use Rattle.undo_image.proofs.Parts.{spelled-append}

-- the nine fields of a block
abbrev pub block_fields : BlockKind → BlockFront → List Cell → ℕ → List (List Cell)
block_fields kind f body spare = front_fields kind f ++ body ∷ (Zeros spare ∷ []) ∷ []

-- the bytes of a block are those of its front, of its body and zeros
pub block_text : (kind : BlockKind) (f : BlockFront) (body : List Cell) (spare : ℕ) → spelled (first_fields 9 (block_fields kind f body spare)) ≡ front_bytes kind f ++ (spelled body ++ replicate spare 0)
block_text kind f body spare =
    ap (λ (t : List ℕ). front_bytes kind f ++ t) (spelled-append body (Zeros spare ∷ []) ∙ ap (λ (t : List ℕ). spelled body ++ t) (append-nil (replicate spare 0)))

-- where the three stand, they are all the bytes
pub block_is : (kind : BlockKind) (f : BlockFront) (body : List Cell) (size spare next : ℕ) (bytes : List ℕ) → length (spelled body) ≡ size → next ≡ 32 + size → length bytes ≡ next + spare
    → Begins bytes (front_bytes kind f) → StandsAt bytes 32 (spelled body) → StandsAt bytes next (replicate spare 0) → bytes ≡ spelled (first_fields 9 (block_fields kind f body spare))
block_is kind f body size spare next bytes sized is whole front middle rest =
    let text = front_bytes kind f ++ (spelled body ++ replicate spare 0) in
    let behind : StandsAt bytes 32 (spelled body ++ replicate spare 0) = StandsAt-append bytes (spelled body) (replicate spare 0) 32 next (omega arith) middle rest in
    let all : StandsAt bytes 0 text = StandsAt-append bytes (front_bytes kind f) (spelled body ++ replicate spare 0) 0 32 refl front behind in
    let long : length text ≡ length bytes =
    length-append (front_bytes kind f) (spelled body ++ replicate spare 0) ∙ omega (arith, length-append (spelled body) (replicate spare 0), length-replicate {A = ℕ} spare 0) in
    sym (take_all (length text) bytes (omega arith)) ∙ all ∙ sym (block_text kind f body spare)

-- the three stand in the bytes of a block
pub record Stand (kind : BlockKind) (f : BlockFront) (body : List Cell) (next spare : ℕ) (bytes : List ℕ) : Type 0 where
  pub front : Begins bytes (front_bytes kind f)
  pub middle : StandsAt bytes 32 (spelled body)
  pub rest : StandsAt bytes next (replicate spare 0)

pub all_stand : (kind : BlockKind) (f : BlockFront) (body : List Cell) (size spare next : ℕ) (bytes : List ℕ) → length (spelled body) ≡ size → next ≡ 32 + size
    → Begins bytes (spelled (first_fields 9 (block_fields kind f body spare))) → Stand kind f body next spare bytes
all_stand kind f body size spare next bytes sized is begins =
    let whole : StandsAt bytes 0 (front_bytes kind f ++ (spelled body ++ replicate spare 0)) = subst (StandsAt bytes 0) (block_text kind f body spare) begins in
    let behind : StandsAt bytes 32 (spelled body ++ replicate spare 0) = StandsAt-second bytes (front_bytes kind f) (spelled body ++ replicate spare 0) 0 32 refl whole in
    record {
      front = StandsAt-first bytes (front_bytes kind f) (spelled body ++ replicate spare 0) 0 whole;
      middle = StandsAt-first bytes (spelled body) (replicate spare 0) 32 behind;
      rest = StandsAt-second bytes (spelled body) (replicate spare 0) 32 next (omega arith) behind;
    }

-- where the three are put, these are all the bytes
pub block_put : (kind : BlockKind) (f : BlockFront) (body : List Cell) (size spare next : ℕ) (s0 s1 s2 s3 : List ℕ) → length (spelled body) ≡ size → next ≡ 32 + size → length s0 ≡ next + spare
    → Puts s0 s1 0 (front_bytes kind f) → Puts s1 s2 32 (spelled body) → Puts s2 s3 next (replicate spare 0) → s3 ≡ spelled (first_fields 9 (block_fields kind f body spare))
block_put kind f body size spare next s0 s1 s2 s3 sized is whole front middle rest =
    let clear = length-replicate {A = ℕ} spare 0 in
    let two : Puts s0 s2 0 (front_bytes kind f ++ spelled body) = Puts-append s0 s1 s2 (front_bytes kind f) (spelled body) 0 32 refl (omega arith) front middle in
    let both : length (front_bytes kind f ++ spelled body) ≡ next = length-append (front_bytes kind f) (spelled body) ∙ omega arith in
    let text = (front_bytes kind f ++ spelled body) ++ replicate spare 0 in
    let three : Puts s0 s3 0 text = Puts-append s0 s2 s3 (front_bytes kind f ++ spelled body) (replicate spare 0) 0 next (omega arith) (omega arith) two rest in
    let past : drop (0 + length text) s0 ≡ [] = drop_all (0 + length text) s0 (omega (arith, length-append (front_bytes kind f ++ spelled body) (replicate spare 0))) in
    three ∙ ap (λ (t : List ℕ). text ++ t) past ∙ append-nil text ∙ append_assoc (front_bytes kind f) (spelled body) (replicate spare 0) ∙ sym (block_text kind f body spare)

-- bytes begin with themselves
pub begins_whole : (bytes text : List ℕ) → bytes ≡ text → Begins bytes text
begins_whole bytes text same = take_all (length text) bytes (omega (arith, ap length same)) ∙ same

-- the body is the first wrong field
pub wrong_body : {V : Type 0} (Is : V → Type 0) (kind : BlockKind) (front : V → BlockFront) (body : V → List Cell) (spare : ℕ) (bytes : List ℕ) (v : V) → Is v → Begins bytes (front_bytes kind (front v))
    → ((w : V) → Is w → StandsAt bytes 32 (spelled (body w)) → ⊥) → IsFirstWrong Is (λ w. block_fields kind (front w) (body w) spare) bytes 8
wrong_body Is kind front body spare bytes v is begins differs = record {
  right_before = (v, is, begins);
  wrong = λ w is_w begins_w.
      differs w is_w (StandsAt-second bytes (front_bytes kind (front w)) (spelled (body w)) 0 32 refl (subst (λ (cells : List Cell). StandsAt bytes 0 (front_bytes kind (front w) ++ spelled cells)) (append-nil (body w)) begins_w));
}

-- the zeros behind the body are the first wrong field
pub wrong_zeros : {V : Type 0} (Is : V → Type 0) (kind : BlockKind) (front : V → BlockFront) (body : V → List Cell) (size spare next : ℕ) (bytes : List ℕ) → ((w : V) → Is w → length (spelled (body w)) ≡ size) → next ≡ 32 + size
    → (v : V) → Is v → Begins bytes (front_bytes kind (front v)) → StandsAt bytes 32 (spelled (body v))
    → (StandsAt bytes next (replicate spare 0) → ⊥) → IsFirstWrong Is (λ w. block_fields kind (front w) (body w) spare) bytes 9
wrong_zeros Is kind front body size spare next bytes sized is v is_v begins middle differs = record {
  right_before = (
    v,
    is_v,
    subst (λ (cells : List Cell). StandsAt bytes 0 (front_bytes kind (front v) ++ spelled cells)) (sym (append-nil (body v)))
        (StandsAt-append bytes (front_bytes kind (front v)) (spelled (body v)) 0 32 refl begins middle),
  );
  wrong = λ w is_w begins_w. differs (all_stand kind (front w) (body w) size spare next bytes (sized w is_w) is begins_w).rest;
}

-- the first fields of a block are those of its front
first_same : (kind : BlockKind) (f : BlockFront) (body : List Cell) (spare n : ℕ) → n ≤ 7 → first_fields n (block_fields kind f body spare) ≡ first_fields n (front_fields kind f)
first_same kind f body spare n few = ap (flat_map (λ (cells : List Cell). cells)) (take-append-le n (front_fields kind f) (body ∷ (Zeros spare ∷ []) ∷ []) few)

-- a front has no more than seven fields
first_all : (kind : BlockKind) (f : BlockFront) (n : ℕ) → 7 ≤ n → first_fields n (front_fields kind f) ≡ first_fields 7 (front_fields kind f)
first_all kind f n many = ap (flat_map (λ (cells : List Cell). cells)) (take_all n (front_fields kind f) many)

-- the first wrong field of a front is one of its seven
front_field : (kind : BlockKind) (bytes : List ℕ) (field : ℕ) → IsFirstWrong (IsFront kind) (front_fields kind) bytes field → field < 8
front_field kind bytes field it =
    let f = it.right_before.0 in
    let past : 8 ≤ field → ⊥ = λ many.
    it.wrong f it.right_before.1
    (subst (λ (cells : List Cell). Begins bytes (spelled cells)) (first_all kind f (field - 1) (omega arith) ∙ sym (first_all kind f field (omega arith))) it.right_before.2) in
    omega (arith, past)

-- the first wrong field of its front is that of a block
pub wrong_front : {V : Type 0} (Is : V → Type 0) (kind : BlockKind) (front : V → BlockFront) (body : V → List Cell) (spare : ℕ) (whole : BlockFront → V) (bytes : List ℕ) (field : ℕ)
    → ((f : BlockFront) → IsFront kind f → Is (whole f)) → ((f : BlockFront) → front (whole f) ≡ f) → ((v : V) → Is v → IsFront kind (front v))
    → IsFirstWrong (IsFront kind) (front_fields kind) bytes field → IsFirstWrong Is (λ w. block_fields kind (front w) (body w) spare) bytes field
wrong_front Is kind front body spare whole bytes field completes kept has it =
    let f = it.right_before.0 in
    let few = front_field kind bytes field it in
    let same : first_fields (field - 1) (block_fields kind (front (whole f)) (body (whole f)) spare) ≡ first_fields (field - 1) (front_fields kind f) =
    first_same kind (front (whole f)) (body (whole f)) spare (field - 1) (omega arith) ∙ ap (λ (g : BlockFront). first_fields (field - 1) (front_fields kind g)) (kept f) in
    record {
      right_before = (whole f, completes f it.right_before.1, subst (λ (cells : List Cell). Begins bytes (spelled cells)) (sym same) it.right_before.2);
      wrong = λ w is_w begins_w.
          it.wrong (front w) (has w is_w) (subst (λ (cells : List Cell). Begins bytes (spelled cells)) (first_same kind (front w) (body w) spare field (omega arith)) begins_w);
    }

-- where a field is the first wrong one, the bytes begin with no value's
pub no_first_wrong : {V : Type 0} (Is : V → Type 0) (fields : V → List (List Cell)) (bytes : List ℕ) (field n : ℕ) (v : V) → IsFirstWrong Is fields bytes field → Is v → length (fields v) ≤ n → Begins bytes (spelled (first_fields n (fields v))) → ⊥
no_first_wrong Is fields bytes field n v it is all begins =
    let first = first_fields field (fields v) in
    let later = flat_map (λ (cells : List Cell). cells) (drop field (fields v)) in
    let parts : first_fields n (fields v) ≡ first ++ later =
    ap (flat_map (λ (cells : List Cell). cells)) (take_all n (fields v) all ∙ sym (take-append-drop field (fields v))) ∙ flat_map-append (λ (cells : List Cell). cells) (take field (fields v)) (drop field (fields v)) in
    it.wrong v is (StandsAt-first bytes (spelled first) (spelled later) 0 (subst (StandsAt bytes 0) (ap spelled parts ∙ spelled-append first later) begins))
