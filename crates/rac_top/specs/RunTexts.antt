-- What is told of a run.
use Rattle.std.specs.Prelude.{◌≡◌, ⊤, ℕ, ◌*◌, Bool, true, List, [], ◌++◌, if◌then◌else◌}
use Rattle.cli_words.specs.declared.order.RunOptions.{RunOptions}
use Rattle.inst_node.specs.declared.actions.Step.{Step}
use Rattle.journal.specs.Past.{Past}
use Rattle.script_text.specs.ScriptParts.{ScriptParts}
use Rattle.run_report.specs.Reports.{report_text}
use Rattle.book_report.specs.Lines.{book_text}
use Rattle.rac_top.specs.declared.exit.End.{End}
use Rattle.rac_top.specs.declared.exit.End.TheVariants.{NoMemory, NotGood}

-- how many rows a script's database has
abbrev pub rows_of : ScriptParts → ℕ
rows_of script = 8 * script.settings.blocks

-- the report of a run, with the journal's own lines where they are asked for, and then its steps where they are
abbrev pub run_text : ScriptParts → Past → List Step → RunOptions → List ℕ
run_text script past book options =
    report_text script past options.journal ++ (if options.steps then book_text book else [])

-- Nothing is told of a run: memory ran out, or the check was asked for and the journal isn't good.
abbrev pub IsUntold : Bool → Type 0 → End → Type 0
IsUntold check IsGood NoMemory = ⊤
IsUntold check IsGood NotGood = (check ≡ true) × (IsGood → ⊥)
IsUntold check IsGood _ = ⊥
