-- Lines and words that are put together fall apart again.
use Rattle.std.proofs.Common.{◌≡◌, ◌∙◌, ℕ, ◌*◌, ◌-◌, ◌<◌, ◌≤◌, Bool, true, false, ◌&&◌, ◌==◌, nat_lt, nat_le, List, [], ◌∷◌, ◌++◌, length, get_or, refl, ap, arith, append_assoc, length-append}
use Rattle.std.specs.List.{All, AllByRecursion, flat_map, list_all, slice_split}
use Rattle.std.specs.Str.Lines.{lines, lines_of_parts, strip_carriage_return}
use Rattle.std.proofs.lemmas.Bool.Decides.{nat_tests}
use Rattle.std.proofs.lemmas.List.Folds.{list_all-append}
use Rattle.std.proofs.lemmas.List.Splits.{slice_split_at, slice_split_none}
use Rattle.std.proofs.lemmas.List.Sums.{AllPass-from_list_all}
use Rattle.script_text.specs.Rules.{is_plain}
use Rattle.script_text.specs.Words.{is_blank, words}
use Rattle.script_print.specs.Spelled.{spaced}

-- a byte that is seen
abbrev pub is_visible : ℕ → Bool
is_visible byte = nat_lt 32 byte && nat_le byte 126

-- a word of a printed line
pub record IsWord (word : List ℕ) : Type 0 where
  pub full : 0 < length word
  pub short : length word ≤ 24
  pub visible : list_all is_visible word ≡ true

visible-not_blank : (b : ℕ) → is_visible b ≡ true → is_blank b ≡ false
visible-not_blank b h = grind (arith, nat_tests)

visible-plain : (b : ℕ) → is_visible b ≡ true → is_plain b ≡ true
visible-plain b h = grind (arith, nat_tests)

plain-no_feed : (b : ℕ) → is_plain b ≡ true → (b == 10) ≡ false
plain-no_feed b h = grind (arith, nat_tests)

plain-no_return : (b : ℕ) → is_plain b ≡ true → (b == 13) ≡ false
plain-no_return b h = grind (arith, nat_tests)

both : (a b : Bool) → a ≡ true → b ≡ true → (a && b) ≡ true
both a b h k = rw (h, k) refl

list_all-weaker : (p q : ℕ → Bool) → ((b : ℕ) → p b ≡ true → q b ≡ true) → (bytes : List ℕ) → list_all p bytes ≡ true → list_all q bytes ≡ true
list_all-weaker p q more [] h = refl
list_all-weaker p q more (b ∷ bytes) h =
    let here : p b ≡ true = grind (arith, nat_tests) in
    let rest : list_all p bytes ≡ true = grind (arith, nat_tests) in
    both (q b) (list_all q bytes) (more b here) (list_all-weaker p q more bytes rest)

bare : (word : List ℕ) → list_all is_visible word ≡ true → All (λ b. is_blank b ≡ false) word
bare word h = λ k d lt. visible-not_blank (get_or word k d) (AllPass-from_list_all is_visible word h k d lt)

full-test : (word : List ℕ) → 0 < length word → nat_lt 0 (length word) ≡ true
full-test word h = grind (arith, nat_tests)

-- words with spaces between them are the words of their line
pub words-spaced : (ws : List (List ℕ)) → AllByRecursion IsWord ws → words (spaced ws) ≡ ws
words-spaced [] each = refl
words-spaced (word ∷ []) each =
    rw (slice_split_none is_blank word (bare word each.0.visible), full-test word each.0.full) refl
words-spaced (word ∷ next ∷ more) each =
    rw (slice_split_at is_blank word 32 (spaced (next ∷ more)) (bare word each.0.visible) refl, full-test word each.0.full)
    (ap (λ ws. word ∷ ws) (words-spaced (next ∷ more) each.1))

pub plain-spaced : (ws : List (List ℕ)) → AllByRecursion IsWord ws → list_all is_plain (spaced ws) ≡ true
plain-spaced [] each = refl
plain-spaced (word ∷ []) each = list_all-weaker is_visible is_plain visible-plain word each.0.visible
plain-spaced (word ∷ next ∷ more) each =
    list_all-append is_plain word (32 ∷ spaced (next ∷ more))
    ∙ both _ _ (list_all-weaker is_visible is_plain visible-plain word each.0.visible) (plain-spaced (next ∷ more) each.1)

pub length-spaced : (ws : List (List ℕ)) → AllByRecursion IsWord ws → length (spaced ws) ≤ 25 * length ws
length-spaced [] each = omega arith
length-spaced (word ∷ []) each = let s = each.0.short in omega arith
length-spaced (word ∷ next ∷ more) each =
    let s = each.0.short in
    let rest = length-spaced (next ∷ more) each.1 in
    omega (arith, length-append word (32 ∷ spaced (next ∷ more)))

-- a plain line loses no carriage return
strip-plain : (line : List ℕ) → list_all is_plain line ≡ true → strip_carriage_return line ≡ line
strip-plain [] h = refl
strip-plain (b ∷ line) h =
    let last : (get_or (b ∷ line) (length (b ∷ line) - 1) 0 == 13) ≡ false =
    plain-no_return (get_or (b ∷ line) (length (b ∷ line) - 1) 0) (AllPass-from_list_all is_plain (b ∷ line) h (length (b ∷ line) - 1) 0 (omega arith)) in
    rw last refl

abbrev ended : List (List ℕ) → List ℕ
ended ls = flat_map (λ line. line ++ 10 ∷ []) ls

split-ended : (ls : List (List ℕ)) → AllByRecursion (λ line. list_all is_plain line ≡ true) ls → slice_split (λ b. b == 10) (ended ls) ≡ ls ++ [] ∷ []
split-ended [] each = refl
split-ended (line ∷ ls) each =
    ap (slice_split (λ b. b == 10)) (append_assoc line (10 ∷ []) (ended ls))
    ∙ slice_split_at (λ b. b == 10) line 10 (ended ls) (λ k d lt. plain-no_feed (get_or line k d) (AllPass-from_list_all is_plain line each.0 k d lt)) refl
    ∙ ap (λ parts. line ∷ parts) (split-ended ls each.1)

parts-ended : (ls : List (List ℕ)) → AllByRecursion (λ line. list_all is_plain line ≡ true) ls → lines_of_parts (ls ++ [] ∷ []) ≡ ls
parts-ended [] each = refl
parts-ended (line ∷ []) each = rw (strip-plain line each.0) refl
parts-ended (line ∷ next ∷ ls) each = rw (strip-plain line each.0) (ap (λ rest. line ∷ rest) (parts-ended (next ∷ ls) each.1))

-- lines with their ends are the lines of their text
pub lines-ended : (ls : List (List ℕ)) → AllByRecursion (λ line. list_all is_plain line ≡ true) ls → lines (flat_map (λ line. line ++ 10 ∷ []) ls) ≡ ls
lines-ended ls each = ap lines_of_parts (split-ended ls each) ∙ parts-ended ls each
