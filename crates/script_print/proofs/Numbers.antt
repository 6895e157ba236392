-- What numbers are printed as is read as those numbers.
use Rattle.std.proofs.Common.{◌≡◌, ℕ, ℤ, pos, negsuc, suc, ◌^◌, ◌<◌, ◌≤◌, Bool, true, false, ◌&&◌, ◌==◌, nat_eq, nat_lt, nat_le, List, [], ◌∷◌, length, take, codes, refl, ap, arith, lit<, lit≤}
use Rattle.std.specs.Char.{is_ascii_digit}
use Rattle.std.specs.Fmt.{decimal, signed_decimal}
use Rattle.std.specs.List.{list_all}
use Rattle.std.specs.Str.{bytes_eq}
use Rattle.std.specs.Str.Parse.{starts_with_minus}
use Rattle.std.proofs.lemmas.Bool.Decides.{nat_tests}
use Rattle.std.proofs.lemmas.Fmt.{decimal_nonempty, digits_decimal, digits_value-decimal, length-decimal-le}
use Rattle.script_text.specs.declared.item.Keep.{Keep}
use Rattle.script_text.specs.declared.item.Keep.TheVariants.{First, All, AllBut}
use Rattle.script_text.specs.Spelling.{is, is_all_but, is_keep, is_number, is_numeral, is_signed_number, keep_of, number, signed_number}
use Rattle.script_text.specs.WellFormed.{IsKeep}
use Rattle.script_text.proofs.Texts.{digits_model}
use Rattle.script_print.specs.Spelled.{keep_word}
use Rattle.script_print.proofs.Texts.{IsWord, is_visible}

digit-visible : (bytes : List ℕ) → list_all is_ascii_digit bytes ≡ true → list_all is_visible bytes ≡ true
digit-visible [] h = refl
digit-visible (b ∷ bytes) h =
    let here : is_ascii_digit b ≡ true = grind (arith, nat_tests) in
    let rest : list_all is_ascii_digit bytes ≡ true = grind (arith, nat_tests) in
    let seen : is_visible b ≡ true = grind (arith, nat_tests) in
    rw seen (digit-visible bytes rest)

-- what is true of the digits of a number
pub record IsWritten (n : ℕ) : Type 0 where
  pub numeral : is_numeral (decimal n) ≡ true
  pub value : number (decimal n) ≡ n
  pub unsigned : starts_with_minus (decimal n) ≡ false
  pub not_all : is (codes "all") (decimal n) ≡ false
  pub not_all_but : is_all_but (decimal n) ≡ false
  pub word : IsWord (decimal n)

-- what digits don't begin with
record Begins (word : List ℕ) : Type 0 where
  unsigned : starts_with_minus word ≡ false
  not_all : is (codes "all") word ≡ false
  not_all_but : is_all_but word ≡ false

first-differs : (a b : ℕ) (xs ys : List ℕ) → nat_eq a b ≡ false → bytes_eq (a ∷ xs) (b ∷ ys) ≡ false
first-differs a b xs ys h = ap (λ (t : Bool). t && bytes_eq xs ys) h

begins : (word : List ℕ) → 0 < length word → list_all is_ascii_digit word ≡ true → Begins word
begins [] full h = absurd (omega arith)
begins (b ∷ word) full h =
    let digit : is_ascii_digit b ≡ true = grind (arith, nat_tests) in
    let no_minus : (b == 45) ≡ false = grind (arith, nat_tests) in
    let a_no : nat_eq b 97 ≡ false = grind (arith, nat_tests) in
    record {
      unsigned = no_minus;
      not_all = first-differs b 97 word (108 ∷ 108 ∷ []) a_no;
      not_all_but = first-differs b 97 (take 3 word) (108 ∷ 108 ∷ 45 ∷ []) a_no;
    }

pub written : (n : ℕ) → n ≤ 2 ^ 63 → IsWritten n
written n small =
    let fits : n < 2 ^ 64 = omega arith in
    let digits : list_all is_ascii_digit (decimal n) ≡ true = digits_decimal digits_model n fits in
    let full : 0 < length (decimal n) = decimal_nonempty n fits in
    let short : length (decimal n) ≤ 19 = length-decimal-le 19 n (omega arith) (omega arith) fits in
    let start = begins (decimal n) full digits in
    record {
      numeral = grind (arith, nat_tests);
      value = digits_value-decimal digits_model n fits;
      unsigned = start.unsigned;
      not_all = start.not_all;
      not_all_but = start.not_all_but;
      word = record { full = full; short = omega arith; visible = digit-visible (decimal n) digits };
    }

pub number-decimal : (n : ℕ) → n < 2 ^ 63 → number (decimal n) ≡ n
number-decimal n small = (written n (omega arith)).value

pub is_number-decimal : (n : ℕ) → n < 2 ^ 63 → is_number (decimal n) ≡ true
is_number-decimal n small =
    let w = written n (omega arith) in
    let test : nat_lt n (2 ^ 63) ≡ true = grind (arith, nat_tests) in
    rw (w.numeral, w.value, test) refl

pub word-decimal : (n : ℕ) → n < 2 ^ 63 → IsWord (decimal n)
word-decimal n small = (written n (omega arith)).word

-- a number of 64 bits, with its sign
abbrev pub IsSigned : ℤ → Type 0
IsSigned (pos n) = n < 2 ^ 63
IsSigned (negsuc n) = n < 2 ^ 63

pub signed_number-decimal : (z : ℤ) → IsSigned z → signed_number (signed_decimal z) ≡ z
signed_number-decimal (pos n) small = let w = written n (omega arith) in rw (w.unsigned, w.value) refl
signed_number-decimal (negsuc n) small = let w = written (suc n) (omega arith) in rw w.value refl

pub is_signed_number-decimal : (z : ℤ) → IsSigned z → is_signed_number (signed_decimal z) ≡ true
is_signed_number-decimal (pos n) small =
    let w = written n (omega arith) in
    let test : nat_lt n (2 ^ 63) ≡ true = grind (arith, nat_tests) in
    rw (w.unsigned, w.numeral, w.value, test) refl
is_signed_number-decimal (negsuc n) small =
    let w = written (suc n) (omega arith) in
    let test : nat_le (suc n) (2 ^ 63) ≡ true = grind (arith, nat_tests) in
    rw (w.numeral, w.value, test) refl

pub word-signed : (z : ℤ) → IsSigned z → IsWord (signed_decimal z)
word-signed (pos n) small = (written n (omega arith)).word
word-signed (negsuc n) small =
    let w = written (suc n) (omega arith) in
    let fits : suc n < 2 ^ 64 = omega arith in
    let short : length (decimal (suc n)) ≤ 19 = length-decimal-le 19 (suc n) (omega arith) (omega arith) fits in
    record { full = omega arith; short = omega arith; visible = w.word.visible }

pub keep_of-word : (keep : Keep) → IsKeep keep → keep_of (keep_word keep) ≡ keep
keep_of-word (First count) small = let w = written count (omega arith) in rw (w.not_all, w.not_all_but, w.value) refl
keep_of-word All small = refl
keep_of-word (AllBut count) small = let w = written count (omega arith) in rw w.value refl

pub is_keep-word : (keep : Keep) → IsKeep keep → is_keep (keep_word keep) ≡ true
is_keep-word (First count) small = let w = written count (omega arith) in rw (w.not_all, w.not_all_but) (is_number-decimal count small)
is_keep-word All small = refl
is_keep-word (AllBut count) small = is_number-decimal count small

pub word-keep : (keep : Keep) → IsKeep keep → IsWord (keep_word keep)
word-keep (First count) small = word-decimal count small
word-keep All small = record { full = lit< tt; short = lit≤ tt; visible = refl }
word-keep (AllBut count) small =
    let fits : count < 2 ^ 64 = omega arith in
    let w = written count (omega arith) in
    let short : length (decimal count) ≤ 19 = length-decimal-le 19 count (omega arith) (omega arith) fits in
    record { full = omega arith; short = omega arith; visible = w.word.visible }
