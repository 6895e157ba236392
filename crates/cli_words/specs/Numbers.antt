-- How the numbers of a load are spelled.
use Rattle.std.specs.Prelude.{ℕ, Bool, ◌&&◌, nat_lt, nat_le, length, Option, None, Some, if◌then◌else◌}
use Rattle.std.specs.Char.{is_ascii_digit}
use Rattle.std.specs.List.{list_all}
use Rattle.std.specs.Str.Parse.{digits_value}
use Rattle.clap.specs.Words.{Text}

-- 1 to 19 digits, which may begin with zeros
abbrev pub is_numeral : Text → Bool
is_numeral text = nat_lt 0 (length text) && (nat_le (length text) 19 && list_all is_ascii_digit text)

-- the number that a text writes, where it is a numeral and the number at most this
abbrev pub number_up_to : ℕ → Text → Option ℕ
number_up_to most text =
    if is_numeral text && nat_le (digits_value 10 text) most then Some (digits_value 10 text) else None
