-- Lists that are made of the numbers from 0 on.
use Rattle.std.proofs.Common.{◌≡◌, ◌<◌, get_or, length, take, ℕ, ◌+◌, List, [], ◌∷◌, ◌++◌, filter_map, refl, Option, None, Some, ap, sym, ◌∙◌, arith, append_assoc}
use Rattle.std.specs.List.{cons_option, range_with_len}
use Rattle.std.specs.Option.{option_to_list}
use Rattle.std.proofs.lemmas.List.{map-id, take_more}
use Rattle.std.proofs.lemmas.List.Elements.{filter_map-append}
use Rattle.std.proofs.lemmas.List.FromFn.{map-range_with_len_more}

-- one number more
pub range_more : (n : ℕ) → range_with_len 0 (n + 1) ≡ range_with_len 0 n ++ n ∷ []
range_more n =
    sym (map-id (range_with_len 0 (n + 1))) ∙ map-range_with_len_more (λ (k : ℕ). k) 0 n n (omega arith)
    ∙ ap (λ (front : List ℕ). front ++ n ∷ []) (map-id (range_with_len 0 n))

-- a value alone, if there is one
pub alone : {Y : Type 0} (value : Option Y) → cons_option value [] ≡ option_to_list value
alone None = refl
alone (Some y) = refl

-- a number's value, if it has one, stands behind those of the numbers before it
pub values_more : {Y : Type 0} (h : ℕ → Option Y) (n : ℕ)
    → filter_map h (range_with_len 0 (n + 1)) ≡ filter_map h (range_with_len 0 n) ++ option_to_list (h n)
values_more h n =
    ap (λ (l : List ℕ). filter_map h l) (range_more n) ∙ filter_map-append h (range_with_len 0 n) (n ∷ [])
    ∙ ap (λ l. filter_map h (range_with_len 0 n) ++ l) (alone (h n))

-- the value of one item more, if it has one, stands behind those of the items before it
pub told_more : {X Y : Type 0} (h : X → Option Y) (xs : List X) (i : ℕ) (d : X) → i < length xs
    → filter_map h (take (i + 1) xs) ≡ filter_map h (take i xs) ++ option_to_list (h (get_or xs i d))
told_more h xs i d within =
    ap (λ l. filter_map h l) (take_more xs i d within) ∙ filter_map-append h (take i xs) (get_or xs i d ∷ [])
    ∙ ap (λ l. filter_map h (take i xs) ++ l) (alone (h (get_or xs i d)))

-- the same behind other items, as the item that was read tells it
pub told_step : {X Y : Type 0} (h : X → Option Y) (xs : List X) (i : ℕ) (x : X) (front told now : List Y) → i < length xs → x ≡ get_or xs i x
    → told ≡ front ++ filter_map h (take i xs) → now ≡ told ++ option_to_list (h x) → now ≡ front ++ filter_map h (take (i + 1) xs)
told_step h xs i x front told now within is so_far adds =
    adds ∙ ap (λ l. l ++ option_to_list (h x)) so_far ∙ append_assoc front (filter_map h (take i xs)) (option_to_list (h x))
    ∙ ap (λ y. front ++ (filter_map h (take i xs) ++ option_to_list (h y))) is ∙ ap (λ l. front ++ l) (sym (told_more h xs i x within))
