-- Lists whose items change in their places.
use Rattle.std.proofs.Common.{◌≡◌, ◌<◌, refl, ℕ, ◌+◌, zero, suc, List, [], ◌∷◌, ◌++◌, length, drop, get_or, map, set, sym, ap, ◌∙◌, arith, append_assoc}
use Rattle.std.specs.List.{range_with_len}
use Rattle.buffer_cache.specs.declared.place.Place.{Place}
use Rattle.buffer_cache.specs.Cache.{CacheState, at_place, place_at}
use Rattle.buffer_cache.specs.Place.{empty_place}
use Rattle.std.proofs.lemmas.List.{drop_more, get_or_at, set-set, set_at}
use Rattle.std.proofs.lemmas.List.FromFn.{length-map-range_with_len, map-range_with_len_more}

-- one item more changes by its place
pub changed_more : {A : Type 0} (f : ℕ → A → A) (xs ys : List A) (i : ℕ) (d : A) → i < length xs
    → ys ≡ map (λ k. f k (get_or xs k d)) (range_with_len 0 i) ++ drop i xs
    → set ys i (f i (get_or ys i d)) ≡ map (λ k. f k (get_or xs k d)) (range_with_len 0 (i + 1)) ++ drop (i + 1) xs
changed_more {A = A} f xs ys i d within is =
    let g : ℕ → A = λ (k : ℕ). f k (get_or xs k d) in
    let x = get_or xs i d in
    let len : length (map g (range_with_len 0 i)) ≡ i = length-map-range_with_len g 0 i in
    let split : ys ≡ map g (range_with_len 0 i) ++ x ∷ drop (i + 1) xs = is ∙ ap (λ (rest : List A). map g (range_with_len 0 i) ++ rest) (drop_more xs i d within) in
    let item : get_or ys i d ≡ x = ap (λ (l : List A). get_or l i d) split ∙ get_or_at (map g (range_with_len 0 i)) x (drop (i + 1) xs) d i len in
    ap (λ (y : A). set ys i (f i y)) item
    ∙ ap (λ (l : List A). set l i (f i x)) split
    ∙ set_at (map g (range_with_len 0 i)) x (drop (i + 1) xs) (f i x) i len
    ∙ sym (append_assoc (map g (range_with_len 0 i)) (f i x ∷ []) (drop (i + 1) xs))
    ∙ ap (λ (front : List A). front ++ drop (i + 1) xs) (sym (map-range_with_len_more g 0 i i (omega arith)))

-- what an item has become is read there, or nothing stands there
pub reads_change : {A : Type 0} (xs : List A) (i : ℕ) (d y : A) (g : A → A) → set xs i (g (get_or (set xs i y) i d)) ≡ set xs i (g y)
reads_change [] i d y g = search
reads_change (x ∷ xs) zero d y g = search
reads_change (x ∷ xs) (suc i) d y g = ap (λ rest. x ∷ rest) (reads_change xs i d y g)

-- two changes of an item, one behind the other
pub changed_twice : {A : Type 0} (xs : List A) (i : ℕ) (d y : A) (g : A → A) → set (set xs i y) i (g (get_or (set xs i y) i d)) ≡ set xs i (g y)
changed_twice xs i d y g = set-set xs i y (g (get_or (set xs i y) i d)) ∙ reads_change xs i d y g

-- what a cache has of a block changes twice
pub at_twice : (f g : Place → Place) (cache : CacheState) (block : ℕ) → at_place g (at_place f cache block) block ≡ at_place (λ place. g (f place)) cache block
at_twice f g cache block =
    ap (λ (places : List Place). record cache { places = places }) (changed_twice cache.places block empty_place (f (place_at cache block)) g)

-- one block more of a cache changes
pub cache_more : (f : ℕ → Place → Place) (old cache : CacheState) (i : ℕ) → i < length old.places
    → cache ≡ record old { places = map (λ block. f block (place_at old block)) (range_with_len 0 i) ++ drop i old.places }
    → at_place (f i) cache i ≡ record old { places = map (λ block. f block (place_at old block)) (range_with_len 0 (i + 1)) ++ drop (i + 1) old.places }
cache_more f old cache i within is =
    ap (λ (now : CacheState). at_place (f i) now i) is
    ∙ ap (λ (places : List Place). record old { places = places })
    (changed_more f old.places (map (λ block. f block (place_at old block)) (range_with_len 0 i) ++ drop i old.places) i empty_place within refl)
