-- Parts of one size that stand one behind the other.
use Rattle.std.proofs.Common.{◌≡◌, ℕ, zero, suc, ◌+◌, ◌*◌, ◌<◌, ◌≤◌, List, [], ◌∷◌, ◌++◌, length, take, drop, get_or, set, refl, sym, ap, subst, ◌∙◌, arith, add-zero}
use Rattle.std.specs.List.{AllByRecursion, flat_map}
use Rattle.std.proofs.lemmas.Grind.{flat_map-append}
use Rattle.std.proofs.lemmas.List.{append-nil, length-append, length-drop, length-take-le, take-append-drop, take_more, take_more_set}
use Rattle.base_types.specs.Bytes.{Puts}
use Rattle.base_types.proofs.BytesLemmas.{Puts-append}
use Rattle.part_image.specs.Cells.{Cell, Begins, StandsAt, cell_bytes, spelled}
use Rattle.part_image.proofs.CellLemmas.{StandsAt-append, StandsAt-first, StandsAt-second}
use Rattle.part_image.proofs.Numbers.{IsBytes, IsBytes-drop}

-- the bytes of cells, taken apart
pub spelled-append : (xs ys : List Cell) → spelled (xs ++ ys) ≡ spelled xs ++ spelled ys
spelled-append xs ys = flat_map-append cell_bytes xs ys

-- the bytes of one part more
pub spelled-more : {P : Type 0} (cells : P → List Cell) (parts : List P) (p : P) → spelled (flat_map cells (parts ++ p ∷ [])) ≡ spelled (flat_map cells parts) ++ spelled (cells p)
spelled-more cells parts p =
    ap spelled (flat_map-append cells parts (p ∷ []) ∙ ap (λ (t : List Cell). flat_map cells parts ++ t) (append-nil (cells p)))
    ∙ spelled-append (flat_map cells parts) (cells p)

-- how many bytes parts of one size have
pub length-parts : {P : Type 0} (cells : P → List Cell) (size : ℕ) → ((p : P) → length (spelled (cells p)) ≡ size) → (parts : List P) → length (spelled (flat_map cells parts)) ≡ size * length parts
length-parts cells size sizes [] = omega arith
length-parts cells size sizes (p ∷ parts) =
    ap length (spelled-append (cells p) (flat_map cells parts)) ∙ length-append (spelled (cells p)) (spelled (flat_map cells parts))
    ∙ omega (arith, sizes p, length-parts cells size sizes parts)

-- each of one part more
pub AllByRecursion-more : {P : Type 0} (Is : P → Type 0) (parts : List P) (p : P) → AllByRecursion Is parts → Is p → AllByRecursion Is (parts ++ p ∷ [])
AllByRecursion-more Is [] p all is = (is, tt)
AllByRecursion-more Is (q ∷ parts) p all is = (all.0, AllByRecursion-more Is parts p all.1 is)

-- the first parts are so many bytes long
length-first : {P : Type 0} (cells : P → List Cell) (size : ℕ) → ((p : P) → length (spelled (cells p)) ≡ size) → (parts : List P) (k : ℕ) → k ≤ length parts → length (spelled (flat_map cells (take k parts))) ≡ size * k
length-first cells size sizes parts k few = length-parts cells size sizes (take k parts) ∙ ap (λ (n : ℕ). size * n) (length-take-le k parts few)

-- parts, each as it is to be, that stand one behind the other
pub record PartsStand {P : Type 0} (Is : P → Type 0) (cells : P → List Cell) (bytes : List ℕ) (at : ℕ) (parts : List P) : Type 0 where
  pub each : AllByRecursion Is parts
  pub stand : StandsAt bytes at (spelled (flat_map cells parts))

-- one part more stands behind the first k
pub one_more_stands : {P : Type 0} (Is : P → Type 0) (cells : P → List Cell) (size : ℕ) → ((p : P) → length (spelled (cells p)) ≡ size) → (bytes : List ℕ) (at k : ℕ) (parts : List P) (p : P) → k < length parts
    → PartsStand Is cells bytes at (take k parts) → Is p → StandsAt bytes (at + size * k) (spelled (cells p)) → PartsStand Is cells bytes at (take (k + 1) (set parts k p))
one_more_stands Is cells size sizes bytes at k parts p few before is stands =
    let first = take k parts in
    let behind : at + size * k ≡ at + length (spelled (flat_map cells first)) = ap (λ (n : ℕ). at + n) (sym (length-first cells size sizes parts k (omega arith))) in
    let both = StandsAt-append bytes (spelled (flat_map cells first)) (spelled (cells p)) at (at + size * k) behind before.stand stands in
    subst (PartsStand Is cells bytes at) (sym (take_more_set parts k p few)) (record {
      each = AllByRecursion-more Is first p before.each is;
      stand = subst (StandsAt bytes at) (sym (spelled-more cells first p)) both;
    })

-- nothing is put
pub nothing_put : (bytes : List ℕ) (at : ℕ) → Puts bytes bytes at []
nothing_put bytes at =
    sym (ap (λ (t : List ℕ). t ++ drop (at + 0) bytes) (append-nil (take at bytes)) ∙ ap (λ (n : ℕ). take at bytes ++ drop n bytes) (add-zero at) ∙ take-append-drop at bytes)

-- one part more is put behind the first k
pub one_more_put : {P : Type 0} (cells : P → List Cell) (size : ℕ) → ((p : P) → length (spelled (cells p)) ≡ size) → (old mid new : List ℕ) (at k : ℕ) (parts : List P) (d : P) → k < length parts → at + size * k + size ≤ length old
    → Puts old mid at (spelled (flat_map cells (take k parts))) → Puts mid new (at + size * k) (spelled (cells (get_or parts k d))) → Puts old new at (spelled (flat_map cells (take (k + 1) parts)))
one_more_put cells size sizes old mid new at k parts d few within before put =
    let first = take k parts in
    let p = get_or parts k d in
    let behind : at + size * k ≡ at + length (spelled (flat_map cells first)) = ap (λ (n : ℕ). at + n) (sym (length-first cells size sizes parts k (omega arith))) in
    let both = Puts-append old mid new (spelled (flat_map cells first)) (spelled (cells p)) at (at + size * k) behind (omega (arith, sizes p)) before put in
    subst (λ (some : List _). Puts old new at (spelled (flat_map cells some))) (sym (take_more parts k d few)) (subst (Puts old new at) (sym (spelled-more cells first p)) both)

-- where parts stand, each of them stands at its place
pub nth_stands : {P : Type 0} (Is : P → Type 0) (cells : P → List Cell) (size : ℕ) → ((p : P) → length (spelled (cells p)) ≡ size) → (bytes : List ℕ) (at k : ℕ) (parts : List P)
    → AllByRecursion Is parts → k < length parts → StandsAt bytes at (spelled (flat_map cells parts)) → (p : P) × Is p × StandsAt bytes (at + size * k) (spelled (cells p))
nth_stands Is cells size sizes bytes at k [] all within stand = absurd (omega arith)
nth_stands Is cells size sizes bytes at zero (p ∷ parts) all within stand =
    let both = subst (StandsAt bytes at) (spelled-append (cells p) (flat_map cells parts)) stand in
    let first = StandsAt-first bytes (spelled (cells p)) (spelled (flat_map cells parts)) at both in
    (p, all.0, subst (λ (n : ℕ). StandsAt bytes n (spelled (cells p))) (omega arith) first)
nth_stands Is cells size sizes bytes at (suc k) (p ∷ parts) all within stand =
    let both = subst (StandsAt bytes at) (spelled-append (cells p) (flat_map cells parts)) stand in
    let second = StandsAt-second bytes (spelled (cells p)) (spelled (flat_map cells parts)) at (at + size) (omega (arith, sizes p)) both in
    let rest = nth_stands Is cells size sizes bytes (at + size) k parts all.1 (omega arith) second in
    (rest.0, rest.1, subst (λ (n : ℕ). StandsAt bytes n (spelled (cells rest.0))) (omega arith) rest.2)

-- Parts that stand at a place are the only ones.
pub one_parts : {P : Type 0} (Is : P → Type 0) (cells : P → List Cell) (size : ℕ) → ((p : P) → length (spelled (cells p)) ≡ size)
    → ((bytes : List ℕ) (v w : P) → IsBytes bytes → size ≤ length bytes → Is v → Is w → Begins bytes (spelled (cells v)) → Begins bytes (spelled (cells w)) → v ≡ w)
    → (bytes : List ℕ) (at : ℕ) (vs ws : List P) → IsBytes bytes → length vs ≡ length ws → at + size * length vs ≤ length bytes → AllByRecursion Is vs → AllByRecursion Is ws
    → StandsAt bytes at (spelled (flat_map cells vs)) → StandsAt bytes at (spelled (flat_map cells ws)) → vs ≡ ws
one_parts Is cells size sizes one bytes at [] [] fits same within all_v all_w stand_v stand_w = refl
one_parts Is cells size sizes one bytes at [] (w ∷ ws) fits same within all_v all_w stand_v stand_w = absurd (omega arith)
one_parts Is cells size sizes one bytes at (v ∷ vs) [] fits same within all_v all_w stand_v stand_w = absurd (omega arith)
one_parts Is cells size sizes one bytes at (v ∷ vs) (w ∷ ws) fits same within all_v all_w stand_v stand_w =
    let both_v = subst (StandsAt bytes at) (spelled-append (cells v) (flat_map cells vs)) stand_v in
    let both_w = subst (StandsAt bytes at) (spelled-append (cells w) (flat_map cells ws)) stand_w in
    let first_v = StandsAt-first bytes (spelled (cells v)) (spelled (flat_map cells vs)) at both_v in
    let first_w = StandsAt-first bytes (spelled (cells w)) (spelled (flat_map cells ws)) at both_w in
    let second_v = StandsAt-second bytes (spelled (cells v)) (spelled (flat_map cells vs)) at (at + size) (omega (arith, sizes v)) both_v in
    let second_w = StandsAt-second bytes (spelled (cells w)) (spelled (flat_map cells ws)) at (at + size) (omega (arith, sizes w)) both_w in
    let head = one (drop at bytes) v w (IsBytes-drop at bytes fits) (omega (arith, length-drop at bytes)) all_v.0 all_w.0 first_v first_w in
    let tail = one_parts Is cells size sizes one bytes (at + size) vs ws fits (omega arith) (omega arith) all_v.1 all_w.1 second_v second_w in
    rw (head, tail) refl
