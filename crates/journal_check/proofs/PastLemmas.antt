-- The entries before a place, the newest first.
use Rattle.std.proofs.Common.{◌≡◌, ◌∙◌, ℕ, ◌+◌, ◌-◌, ◌<◌, List, [], ◌∷◌, Bool, true, false, ◌||◌, length, reverse, take, drop, get_or, refl, ap, sym}
use Rattle.std.specs.List.{list_any}
use Rattle.std.proofs.lemmas.List.{take_more, reverse-append, length-reverse, length-drop, take-append-drop, drop_at}
use Rattle.std.proofs.lemmas.List.Folds.{list_any-append}
use Rattle.journal.specs.declared.entry.Entry.{Entry}
use Rattle.journal.specs.Past.{Past}
use Rattle.journal.specs.Stood.{stood}

-- one place on, the entry there is the newest
pub reverse_take_more : {A : Type 0} (xs : List A) (i : ℕ) (d : A) → i < length xs → reverse (take (i + 1) xs) ≡ get_or xs i d ∷ reverse (take i xs)
reverse_take_more xs i d within =
    ap reverse (take_more xs i d within) ∙ reverse-append (take i xs) (get_or xs i d ∷ [])

-- what is left of the newest without so many is the oldest
pub reverse_take : {A : Type 0} (n : ℕ) (xs : List A) → reverse (take n xs) ≡ drop (length xs - n) (reverse xs)
reverse_take n xs =
    sym (ap (λ ys. drop (length xs - n) (reverse ys)) (sym (take-append-drop n xs))
    ∙ (ap (drop (length xs - n)) (reverse-append (take n xs) (drop n xs))
    ∙ drop_at (reverse (drop n xs)) (reverse (take n xs)) (length xs - n) (length-reverse (drop n xs) ∙ length-drop n xs)))

-- a test of some entry doesn't depend on the order
pub stood_reverse : (test : Entry → Bool) (past : Past) → stood test (reverse past) ≡ list_any test past
stood_reverse test [] = refl
stood_reverse test (e ∷ past) =
    ap (list_any test) (reverse-append (e ∷ []) past)
    ∙ (list_any-append test (reverse past) (e ∷ [])
    ∙ (ap (λ b. b || (test e || false)) (stood_reverse test past) ∙ or_swap (list_any test past) (test e)))
  where
    or_swap : (a b : Bool) → (a || (b || false)) ≡ (b || a)
    or_swap true true = refl
    or_swap true false = refl
    or_swap false true = refl
    or_swap false false = refl
