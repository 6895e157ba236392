-- The five numbers of a run.
use Rattle.std.specs.Prelude.{ℕ, ℤ, pos, ◌+ℤ◌, Bool, true, false, List, [], ◌∷◌, Option}
use Rattle.std.specs.Prelude.{Some, None, codes, count_by, decimal, fold, nat_eq, reverse}
use Rattle.std.specs.Fmt.{signed_decimal}
use Rattle.std.specs.List.{filter_map}
use Rattle.std.specs.Set.{distinct_count}
use Rattle.base_types.specs.declared.value.Value.{Value}
use Rattle.base_types.specs.declared.value.Value.TheVariants.{Absent, Num}
use Rattle.journal.specs.declared.entry.Entry.{Entry}
use Rattle.journal.specs.Past.{Past}
use Rattle.journal.specs.declared.entry.Entry.TheVariants.{Rows, Changed, Locked, Acked, Rolled, Plain, Refused}
use Rattle.run_report.specs.Texts.{◌⧺◌}

-- The statement line that an entry answers.
abbrev pub answered_statement : Entry → Option ℕ
answered_statement (Rows stmt _) = Some stmt
answered_statement (Changed stmt _ _ _ _) = Some stmt
answered_statement (Locked stmt _ _) = Some stmt
answered_statement (Acked stmt _ _) = Some stmt
answered_statement (Plain stmt) = Some stmt
answered_statement (Refused stmt _) = Some stmt
answered_statement _ = None

abbrev pub is_acked : Entry → Bool
is_acked (Acked _ _ _) = true
is_acked _ = false

abbrev pub is_rolled : Entry → Bool
is_rolled (Rolled _) = true
is_rolled _ = false

abbrev pub is_refused : Entry → Bool
is_refused (Refused _ _) = true
is_refused _ = false

-- The rows of the newest Rows entry, none without one.
abbrev pub newest_rows : Past → List (ℕ × Value)
newest_rows [] = []
newest_rows (Rows _ rows ∷ past) = rows
newest_rows (_ ∷ past) = newest_rows past

-- The number in a value; an absent one counts as 0.
abbrev pub number_of : Value → ℤ
number_of Absent = pos 0
number_of (Num number) = number

-- The numbers of rows, added up.
abbrev pub sum_of : List (ℕ × Value) → ℤ
sum_of rows = fold (λ sum row. sum +ℤ number_of row.1) (pos 0) rows

-- How many statement lines were answered, how many commits and whole rollbacks there were, how many
-- statements were refused, and the sum of the numbers that were read last.
abbrev pub summary_text : Past → List ℕ
summary_text past =
    let journal = reverse past in
    codes "statements " ⧺ decimal (distinct_count nat_eq (filter_map answered_statement journal)) ⧺ codes "\n"
    ⧺ codes "committed " ⧺ decimal (count_by is_acked journal) ⧺ codes "\n"
    ⧺ codes "rolled back " ⧺ decimal (count_by is_rolled journal) ⧺ codes "\n"
    ⧺ codes "refused " ⧺ decimal (count_by is_refused journal) ⧺ codes "\n"
    ⧺ codes "sum " ⧺ signed_decimal (sum_of (newest_rows past)) ⧺ codes "\n"
