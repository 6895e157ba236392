-- What an answer in hand prints as.
use Rattle.std.specs.Prelude.{ℕ, List, codes}
use Rattle.run_report.specs.declared.answer.Answer.{Answer}
use Rattle.run_report.specs.declared.answer.Answer.TheVariants.{Word, Rows, Refused}
use Rattle.run_report.specs.Texts.{◌⧺◌, rows_text, cause_text}

-- An answer prints as its word, its rows or its cause.
abbrev pub words_of : Answer → List ℕ
words_of (Word word) = word.now
words_of (Rows rows) = codes "rows " ⧺ rows_text rows.now
words_of (Refused cause) = cause_text cause.now
