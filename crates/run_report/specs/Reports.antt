-- The report of a run.
use Rattle.std.specs.Prelude.{ℕ, Bool, if◌then◌else◌, List, [], Option, Some}
use Rattle.std.specs.Prelude.{None, codes, decimal, find, flat_map, reverse}
use Rattle.std.specs.List.{enumerate_from}
use Rattle.journal.specs.declared.entry.Entry.{Entry}
use Rattle.journal.specs.Past.{Past}
use Rattle.script_text.specs.ScriptParts.{ScriptParts}
use Rattle.script_text.specs.declared.item.Item.{Item}
use Rattle.run_report.specs.Texts.{◌⧺◌}
use Rattle.run_report.specs.Answers.{answer_text, answers}
use Rattle.run_report.specs.Ends.{answers_any, ended_in, is_ended}
use Rattle.run_report.specs.Journals.{journal_line}

-- What is said of a line: what the first entry that answers it by its number says there or, where there is none, that
-- an instance's end answers it.
abbrev pub said : Item → Option Entry → Bool → Option (List ℕ)
said item (Some entry) ended = answer_text item entry
said item None ended = if ended then Some (codes "ended") else None

-- What the report says of a line of a wave, by whether an instance ended in a wave.
abbrev pub line_answer : List Entry → (ℕ → Bool → ℕ → Bool) → ℕ → ℕ × Item → Option (List ℕ)
line_answer journal ended wave (line, item) = said item (find (answers line) journal) (is_ended ended wave item)

-- A line with an answer is told with its number; another is not told.
abbrev pub told : ℕ → Option (List ℕ) → List ℕ
told line None = []
told line (Some text) = decimal line ⧺ codes ": " ⧺ text ⧺ codes "\n"

-- The lines of a wave that have an answer, in order.
abbrev pub wave_text : List Entry → (ℕ → Bool → ℕ → Bool) → ℕ → List (ℕ × Item) → List ℕ
wave_text journal ended wave lines = flat_map (λ line. told line.0 (line_answer journal ended wave line)) lines

-- The lines of the waves that have an answer, in order, by a journal's past and the same entries from the oldest on.
abbrev pub answers_text : List (List (ℕ × Item)) → Past → List Entry → List ℕ
answers_text waves past journal =
    flat_map (λ wave. wave_text journal (ended_in (answers_any past) waves past) wave.0 wave.1) (enumerate_from 0 waves)

-- The report tells the answers of the script's lines and then, where that is asked, each entry of the journal.
abbrev pub report_text : ScriptParts → Past → Bool → List ℕ
report_text script past with_journal =
    let journal = reverse past in
    answers_text script.waves past journal ⧺ (if with_journal then flat_map (journal_line script) journal else [])
