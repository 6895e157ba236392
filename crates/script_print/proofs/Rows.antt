-- A line whose row keeps each rule.
use Rattle.std.proofs.Common.{◌≡◌, ℕ, ◌<◌, ◌≤◌, true, ◌&&◌, nat_lt, nat_le, List, [], length, Ok, refl, arith}
use Rattle.std.specs.List.{AllByRecursion, list_all}
use Rattle.std.proofs.lemmas.Bool.Decides.{nat_tests}
use Rattle.script_print.proofs.SaidType.{Said}
use Rattle.script_text.specs.Forms.{Row}
use Rattle.script_text.specs.Rules.{counted, judged, judged_words, line_read}
use Rattle.script_text.specs.Spelling.{is_keep, is_name, is_number, is_signed_number}
use Rattle.script_print.specs.Spelled.{spaced}
use Rattle.script_print.proofs.Texts.{IsWord, length-spaced, plain-spaced, words-spaced}

-- a row that breaks no rule
pub record Keeps (row : Row) : Type 0 where
  pub names : list_all is_name row.names ≡ true
  pub spelled : (list_all is_number row.numbers && list_all is_signed_number row.signed_numbers && list_all is_keep row.keeps) ≡ true
  pub in_range : row.in_range ≡ true
  pub in_order : row.in_order ≡ true
  pub in_session : row.in_session ≡ true
  pub once : row.once ≡ true

pub judged-keeps : (row : Row) → Keeps row → judged row ≡ Ok row.then_said
unfolding judged
judged-keeps row keeps = rw (keeps.names, keeps.spelled, keeps.in_range, keeps.in_order, keeps.in_session, keeps.once) refl

-- a line of a few words is read by its words
pub line_read-spaced : (said : Said) (ws : List (List ℕ)) → said.lines < 10000 → AllByRecursion IsWord ws → length ws ≤ 6
    → line_read said (spaced ws) ≡ judged_words (counted said) ws
unfolding line_read
line_read-spaced said ws room each few =
    let one : nat_lt said.lines 10000 ≡ true = grind (arith, nat_tests) in
    let len = length-spaced ws each in
    let two : nat_le (length (spaced ws)) 200 ≡ true = grind (arith, nat_tests) in
    rw (one, two, plain-spaced ws each, words-spaced ws each) refl

-- an empty line says nothing
pub line_read-empty : (said : Said) → said.lines < 10000 → line_read said [] ≡ Ok (counted said)
unfolding line_read judged_words
line_read-empty said room =
    let one : nat_lt said.lines 10000 ≡ true = grind (arith, nat_tests) in
    rw one refl
