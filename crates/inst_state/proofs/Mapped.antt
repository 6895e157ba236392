-- Lists of which an item changes, and loops that change each item.
use Rattle.std.proofs.Common.{◌≡◌, ℕ, ◌+◌, ◌<◌, List, [], ◌∷◌, ◌++◌, length, drop, get_or, map, set, slice_get, take, Option, None, unwrap_or, sym, ap, ◌∙◌, arith, append_assoc}
use Rattle.std.proofs.Math.Seq.{take-append_seam}
use Rattle.inst_state.specs.Lent.{with_items}
use Rattle.std.proofs.lemmas.Option.{unwrap_or-slice_get}
use Rattle.std.proofs.lemmas.List.{drop_more, get_or_at, length-map, length-take-le, map_more, set_at}

-- one item more of a list is mapped in its place
pub mapped_more : {A : Type 0} (f : A → A) (xs ys : List A) (i : ℕ) (d : A) → i < length xs → ys ≡ map f (take i xs) ++ drop i xs
    → set ys i (f (get_or ys i d)) ≡ map f (take (i + 1) xs) ++ drop (i + 1) xs
mapped_more {A = A} f xs ys i d within is =
    let x = get_or xs i d in
    let len : length (map f (take i xs)) ≡ i = length-map (take i xs) f ∙ length-take-le i xs (omega arith) in
    let split : ys ≡ map f (take i xs) ++ x ∷ drop (i + 1) xs = is ∙ ap (λ (rest : List A). map f (take i xs) ++ rest) (drop_more xs i d within) in
    let item : get_or ys i d ≡ x = ap (λ (l : List A). get_or l i d) split ∙ get_or_at (map f (take i xs)) x (drop (i + 1) xs) d i len in
    ap (λ (y : A). set ys i (f y)) item
    ∙ ap (λ (l : List A). set l i (f x)) split
    ∙ set_at (map f (take i xs)) x (drop (i + 1) xs) (f x) i len
    ∙ sym (append_assoc (map f (take i xs)) (f x ∷ []) (drop (i + 1) xs))
    ∙ ap (λ (front : List A). front ++ drop (i + 1) xs) (sym (map_more f xs i d within))

-- a place where nothing stands reads as the default
pub none_is_default : {A : Type 0} (xs : List A) (i : ℕ) (d : A) → slice_get xs i ≡ None → get_or xs i d ≡ d
none_is_default {A = A} xs i d none = sym (unwrap_or-slice_get xs i d) ∙ ap (λ (o : Option A). unwrap_or o d) none

-- a read with a default is the item, or the default
pub get_or_default : {A : Type 0} (xs : List A) (i : ℕ) (d : A) → unwrap_or (slice_get xs i) d ≡ get_or xs i d
get_or_default xs i d = unwrap_or-slice_get xs i d

-- a table whose items were all mapped in their places
pub mapped_whole : {A : Type 0} (f : A → A) (xs : List A) → with_items xs (map f xs) ≡ map f xs
mapped_whole f xs = rw (← length-map xs f) (take-append_seam (map f xs) (drop (length (map f xs)) xs))
