use Rattle.std.proofs.Common.{◌≡◌, ℕ, ◌+◌, ◌<◌, List, [], ◌∷◌, ◌++◌, length, drop, get_or, map, set, take, sym, ap, ◌∙◌, arith, append_assoc}
use Rattle.std.proofs.lemmas.List.{drop_more, get_or_at, length-map, length-take-le, map_more, set_at}
use Rattle.buffer_cache.specs.Place.{forgotten}
use Rattle.buffer_cache.proofs.cache.forget_all.Goals as goal

-- one item more of a list is mapped in its place
mapped_more : {A : Type 0} (f : A → A) (xs ys : List A) (i : ℕ) (d : A) → i < length xs → ys ≡ map f (take i xs) ++ drop i xs
    → set ys i (f (get_or ys i d)) ≡ map f (take (i + 1) xs) ++ drop (i + 1) xs
mapped_more {A = A} f xs ys i d within is =
    let x = get_or xs i d in
    let len : length (map f (take i xs)) ≡ i = length-map (take i xs) f ∙ length-take-le i xs (omega arith) in
    let split : ys ≡ map f (take i xs) ++ x ∷ drop (i + 1) xs = is ∙ ap (λ (rest : List A). map f (take i xs) ++ rest) (drop_more xs i d within) in
    let item : get_or ys i d ≡ x = ap (λ (l : List A). get_or l i d) split ∙ get_or_at (map f (take i xs)) x (drop (i + 1) xs) d i len in
    ap (λ (y : A). set ys i (f y)) item
    ∙ ap (λ (l : List A). set l i (f x)) split
    ∙ set_at (map f (take i xs)) x (drop (i + 1) xs) (f x) i len
    ∙ sym (append_assoc (map f (take i xs)) (f x ∷ []) (drop (i + 1) xs))
    ∙ ap (λ (front : List A). front ++ drop (i + 1) xs) (sym (map_more f xs i d within))

pub loop-place-preserved : goal.loop-place-preserved
loop-place-preserved c =
    rw c.forget.ensures (mapped_more forgotten c.args.places.now c.loop-place.places c.loop-place.place-index c.place-item.result c.loop-place-test.true c.loop-place.invariant)
