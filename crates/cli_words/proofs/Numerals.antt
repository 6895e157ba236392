-- What `parse` gives of a numeral.
use Rattle.std.proofs.Common.{◌≡◌, ℕ, ◌<◌, ◌≤◌, true, List, length, Result, Ok, arith, rules}
use Rattle.std.proofs.lemmas.Bool.Decides.{nat_tests}
use Rattle.std.proofs.lemmas.Str.Parse.{IsDigitsTest, IsNumeralModel, numerals_by_value, parse_gives, digits_value_short}
use Rattle.std.specs.List.{list_all}
use Rattle.std.specs.Str.Parse.{digits_value, ParsesUnsigned}
use Rattle.std.specs.Char.{is_ascii_digit}
use Rattle.cli_words.specs.Numbers.{is_numeral}

digits_test : IsDigitsTest (λ ds. list_all is_ascii_digit ds ≡ true)
digits_test = search rules

digits_model : IsNumeralModel (λ ds. list_all is_ascii_digit ds ≡ true) (digits_value 10)
digits_model = numerals_by_value _ digits_test

-- digits are read as the number that they write
pub parse-numeral : {E : Type 0} (text : List ℕ) (r : Result ℕ E) → ParsesUnsigned 64 10 text r → is_numeral text ≡ true
    → r ≡ Ok (digits_value 10 text)
parse-numeral text r h numeral =
    let digits : list_all is_ascii_digit text ≡ true = grind (arith, nat_tests) in
    let full : 0 < length text = grind (arith, nat_tests) in
    let short : length text ≤ 19 = grind (arith, nat_tests) in
    parse_gives digits_model 64 text r h digits full (omega (arith, digits_value_short digits_model text 19 digits short))
