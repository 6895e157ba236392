-- Values of one size, spelled one behind the other.
use Rattle.std.proofs.Common.{◌≡◌, ℕ, zero, suc, ◌+◌, ◌*◌, ◌<◌, ◌≤◌, List, [], ◌∷◌, ◌++◌, length, take, drop, get_or, set, map, refl, sym, ap, subst, ◌∙◌, arith, None}
use Rattle.std.specs.List.{flat_map, AllByRecursion}
use Rattle.std.proofs.lemmas.Grind.{flat_map-append}
use Rattle.std.proofs.lemmas.List.{length-append, take-append-drop, length-take-le, flat_map_more, take_more}
use Rattle.base_types.specs.Bytes.{Puts}
use Rattle.base_types.proofs.BytesLemmas.{Puts-append}
use Rattle.part_image.specs.Cells.{Begins, Cell, Reads, StandsAt, cell_bytes, first_fields, spelled}
use Rattle.part_image.proofs.CellLemmas.{StandsAt-append, StandsAt-first, StandsAt-second}

pub spelled-append : (xs ys : List Cell) → spelled (xs ++ ys) ≡ spelled xs ++ spelled ys
spelled-append xs ys = flat_map-append cell_bytes xs ys

-- each value stands behind the one before
abbrev pub EachStands : {V : Type 0} → (V → List Cell) → ℕ → List ℕ → ℕ → List V → Type 0
EachStands cells size bytes at [] = Unit {0}
EachStands cells size bytes at (v ∷ vs) = StandsAt bytes at (spelled (cells v)) × EachStands cells size bytes (at + size) vs

-- so many bytes has each value
abbrev pub AreSized : {V : Type 0} → (V → List Cell) → ℕ → Type 0
AreSized {V = V} cells size = (v : V) → length (spelled (cells v)) ≡ size

pub length_each : {V : Type 0} (cells : V → List Cell) (size : ℕ) → AreSized cells size → (vs : List V) → length (spelled (flat_map cells vs)) ≡ size * length vs
length_each cells size sized [] = omega arith
length_each cells size sized (v ∷ vs) =
    let first = sized v in
    let rest = length_each cells size sized vs in
    ap length (spelled-append (cells v) (flat_map cells vs)) ∙ omega (arith, length-append (spelled (cells v)) (spelled (flat_map cells vs)))

pub whole_where_each : {V : Type 0} (cells : V → List Cell) (size : ℕ) → AreSized cells size → (bytes : List ℕ) (at : ℕ) (vs : List V) → EachStands cells size bytes at vs → StandsAt bytes at (spelled (flat_map cells vs))
whole_where_each cells size sized bytes at [] each = refl
whole_where_each cells size sized bytes at (v ∷ vs) each =
    let first = sized v in
    let rest = whole_where_each cells size sized bytes (at + size) vs each.1 in
    subst (StandsAt bytes at) (sym (spelled-append (cells v) (flat_map cells vs)))
    (StandsAt-append bytes (spelled (cells v)) (spelled (flat_map cells vs)) at (at + size) (omega arith) each.0 rest)

pub each_where_whole : {V : Type 0} (cells : V → List Cell) (size : ℕ) → AreSized cells size → (bytes : List ℕ) (at : ℕ) (vs : List V) → StandsAt bytes at (spelled (flat_map cells vs)) → EachStands cells size bytes at vs
each_where_whole cells size sized bytes at [] whole = tt
each_where_whole cells size sized bytes at (v ∷ vs) whole =
    let first = sized v in
    let both = subst (StandsAt bytes at) (spelled-append (cells v) (flat_map cells vs)) whole in (
      StandsAt-first bytes (spelled (cells v)) (spelled (flat_map cells vs)) at both,
      each_where_whole cells size sized bytes (at + size) vs (StandsAt-second bytes (spelled (cells v)) (spelled (flat_map cells vs)) at (at + size) (omega arith) both),
    )

pub all_nth : {V : Type 0} (P : V → Type 0) (vs : List V) (i : ℕ) (d : V) → i < length vs → AllByRecursion P vs → P (get_or vs i d)
all_nth P [] i d within all = absurd (omega arith)
all_nth P (v ∷ vs) zero d within all = all.0
all_nth P (v ∷ vs) (suc i) d within all = all_nth P vs i d (omega arith) all.1

pub all_set : {V : Type 0} (P : V → Type 0) (vs : List V) (i : ℕ) (v : V) → P v → AllByRecursion P vs → AllByRecursion P (set vs i v)
all_set P [] i v holds all = tt
all_set P (w ∷ vs) zero v holds all = (holds, all.1)
all_set P (w ∷ vs) (suc i) v holds all = (all.0, all_set P vs i v holds all.1)

pub all_map : {V : Type 0} (P Q : V → Type 0) (f : V → V) → ((v : V) → P v → Q (f v)) → (vs : List V) → AllByRecursion P vs → AllByRecursion Q (map f vs)
all_map P Q f then [] all = tt
all_map P Q f then (v ∷ vs) all = (then v all.0, all_map P Q f then vs all.1)

pub all_then : {V : Type 0} (P Q : V → Type 0) → ((v : V) → P v → Q v) → (vs : List V) → AllByRecursion P vs → AllByRecursion Q vs
all_then P Q then [] all = tt
all_then P Q then (v ∷ vs) all = (then v all.0, all_then P Q then vs all.1)

-- the value at an index stands at its place
stands_nth : {V : Type 0} (cells : V → List Cell) (size : ℕ) (bytes : List ℕ) (at : ℕ) (vs : List V) (i place : ℕ) (d : V) → place ≡ at + i * size → i < length vs → EachStands cells size bytes at vs → StandsAt bytes place (spelled (cells (get_or vs i d)))
stands_nth cells size bytes at [] i place d is within each = absurd (omega arith)
stands_nth cells size bytes at (v ∷ vs) zero place d is within each =
    let here : at ≡ place = omega arith in
    subst (λ (n : ℕ). StandsAt bytes n (spelled (cells v))) here each.0
stands_nth cells size bytes at (v ∷ vs) (suc i) place d is within each = stands_nth cells size bytes (at + size) vs i place d (omega arith) (omega arith) each.1

-- where the bytes at one place are of no value, the bytes of no values stand there
pub none_stands : {V : Type 0} (Is : V → Type 0) (cells : V → List Cell) (size : ℕ) → AreSized cells size → (bytes : List ℕ) (at i place : ℕ) (d : V) → place ≡ at + i * size → Reads Is cells (drop place bytes) None
    → (vs : List V) → i < length vs → AllByRecursion Is vs → StandsAt bytes at (spelled (flat_map cells vs)) → ⊥
none_stands Is cells size sized bytes at i place d is none vs within all whole =
    none (get_or vs i d) (all_nth Is vs i d within all) (stands_nth cells size bytes at vs i place d is within (each_where_whole cells size sized bytes at vs whole))

-- bytes are those of one value at most
abbrev pub IsOne : {V : Type 0} → (V → Type 0) → (V → List Cell) → Type 0
IsOne {V = V} Is cells = (bytes : List ℕ) (v w : V) → Is v → Is w → Begins bytes (spelled (cells v)) → Begins bytes (spelled (cells w)) → v ≡ w

-- and then of one list of values at most
pub same_each : {V : Type 0} (Is : V → Type 0) (cells : V → List Cell) (size : ℕ) → IsOne Is cells
    → (bytes : List ℕ) (at : ℕ) (vs ws : List V) → length vs ≡ length ws → AllByRecursion Is vs → AllByRecursion Is ws → EachStands cells size bytes at vs → EachStands cells size bytes at ws → vs ≡ ws
same_each Is cells size one bytes at [] [] same are_v are_w each_v each_w = refl
same_each Is cells size one bytes at [] (w ∷ ws) same are_v are_w each_v each_w = absurd (omega arith)
same_each Is cells size one bytes at (v ∷ vs) [] same are_v are_w each_v each_w = absurd (omega arith)
same_each Is cells size one bytes at (v ∷ vs) (w ∷ ws) same are_v are_w each_v each_w =
    let first = one (drop at bytes) v w are_v.0 are_w.0 each_v.0 each_w.0 in
    let rest = same_each Is cells size one bytes (at + size) vs ws (omega arith) are_v.1 are_w.1 each_v.1 each_w.1 in
    rw (first, rest) refl

-- one value more of 16 bytes is put behind those that were put
pub put_more : {V : Type 0} (cells : V → List Cell) → AreSized cells 16 → (old mid new : List ℕ) (at i : ℕ) (vs : List V) (d : V) → i < length vs → at + 16 * length vs ≤ length old
    → Puts old mid at (spelled (flat_map cells (take i vs))) → Puts mid new (at + 16 * i) (spelled (cells (get_or vs i d))) → Puts old new at (spelled (flat_map cells (take (i + 1) vs)))
put_more {V = V} cells sized old mid new at i vs d within fits before put =
    let last = get_or vs i d in
    let size = sized last in
    let before_size = length_each cells 16 sized (take i vs) in
    let taken = length-take-le i vs (omega arith) in
    let more : spelled (flat_map cells (take i vs)) ++ spelled (cells last) ≡ spelled (flat_map cells (take (i + 1) vs)) =
    sym (spelled-append (flat_map cells (take i vs)) (cells last)) ∙ ap spelled (flat_map_more cells [] (take i vs) last) ∙ ap (λ (ws : List V). spelled (flat_map cells ws)) (sym (take_more vs i d within)) in
    subst (Puts old new at) more
    (Puts-append old mid new (spelled (flat_map cells (take i vs))) (spelled (cells last)) at (at + 16 * i) (omega arith) (omega arith) before put)

-- the first fields stand where all do
pub first_begin : (bytes : List ℕ) (n : ℕ) (fields : List (List Cell)) → Begins bytes (spelled (flat_map (λ cells. cells) fields)) → Begins bytes (spelled (first_fields n fields))
first_begin bytes n fields begins =
    let flat : List (List Cell) → List Cell = λ fields. flat_map (λ cells. cells) fields in
    let split : spelled (flat fields) ≡ spelled (first_fields n fields) ++ spelled (flat (drop n fields)) =
    ap (λ (parts : List (List Cell)). spelled (flat parts)) (sym (take-append-drop n fields))
    ∙ ap spelled (flat_map-append (λ (cells : List Cell). cells) (take n fields) (drop n fields))
    ∙ spelled-append (first_fields n fields) (flat (drop n fields)) in
    StandsAt-first bytes (spelled (first_fields n fields)) (spelled (flat (drop n fields))) 0 (subst (Begins bytes) split begins)
