-- What the history of logs and their torn ends print as.
use Rattle.std.specs.Prelude.{ℕ, List, ◌++◌, codes, decimal, flat_map}
use Rattle.base_types.specs.declared.names.InstNo.{InstNo}
use Rattle.base_types.specs.Texts.{xid_text}
use Rattle.log_history.specs.declared.line.HistoryLine.{HistoryLine}
use Rattle.run_report.specs.Texts.{◌⧺◌, rows_text}

-- A committed transaction prints with its SCN, its thread, its name and what its changes put into rows.
abbrev pub commit_text : HistoryLine → List ℕ
commit_text line =
    codes "commit " ⧺ decimal line.commit_scn ⧺ codes " " ⧺ decimal line.inst ⧺ codes " " ⧺ xid_text line.xid ⧺ codes " " ⧺ rows_text line.changes

-- The line that tells a committed transaction.
abbrev pub history_line_text : HistoryLine → List ℕ
history_line_text line = commit_text line ⧺ codes "\n"

-- A torn end prints with its thread and its place.
abbrev pub end_text : InstNo × ℕ → List ℕ
end_text (thread, place) = codes "torn " ⧺ decimal thread ⧺ codes " " ⧺ decimal place

-- The line that tells a torn end.
abbrev pub torn_text : InstNo × ℕ → List ℕ
torn_text end = end_text end ⧺ codes "\n"

-- The text of an audit: a line for each committed transaction, and then one for each torn end.
abbrev pub audit_text : List HistoryLine → List (InstNo × ℕ) → List ℕ
audit_text lines torn = flat_map history_line_text lines ++ flat_map torn_text torn
