-- The statement lines that were answered, one entry after another.
use Rattle.std.proofs.Common.{◌≡◌, ℕ, ◌+◌, ◌<◌, Bool, true, false, cond, ◌||◌, nat_eq, List, [], ◌∷◌, length, get_or, take, Option, Some, None, arith, refl, ap, ◌∙◌}
use Rattle.std.specs.List.{cons_option, filter_map, list_any}
use Rattle.std.specs.Option.{option_map_or}
use Rattle.std.proofs.lemmas.Bool.Decides.{nat_tests}
use Rattle.std.proofs.lemmas.List.{take_more}
use Rattle.std.proofs.lemmas.List.Elements.{filter_map-append}
use Rattle.std.proofs.lemmas.List.Folds.{list_any-append}

pub seen-more : {X : Type 0} (f : X → Option ℕ) (xs : List X) (i : ℕ) (x : X) (q : ℕ) → i < length xs → x ≡ get_or xs i x
    → list_any (nat_eq q) (filter_map f (take (i + 1) xs)) ≡ (list_any (nat_eq q) (filter_map f (take i xs)) || option_map_or (nat_eq q) (f x) false)
seen-more f xs i x q within at_i =
    let more = take_more xs i x within in
    rw (more, ← at_i)
    (ap (list_any (nat_eq q)) (filter_map-append f (take i xs) (x ∷ [])) ∙ list_any-append (nat_eq q) (filter_map f (take i xs)) _
    ∙ ap (λ b. list_any (nat_eq q) (filter_map f (take i xs)) || b) (one (f x)))
  where
    or_false : (b : Bool) → (b || false) ≡ b
    or_false true = refl
    or_false false = refl

    one : (r : Option ℕ) → list_any (nat_eq q) (cons_option r []) ≡ option_map_or (nat_eq q) r false
    one None = refl
    one (Some y) = or_false (nat_eq q y)

pub put-either : (line q : ℕ) (before : Bool) → cond (nat_eq line q) true before ≡ (before || nat_eq q line)
put-either line q true = grind (arith, nat_tests)
put-either line q false = grind (arith, nat_tests)

pub or_none : (before : Bool) → before ≡ (before || false)
or_none true = refl
or_none false = refl
