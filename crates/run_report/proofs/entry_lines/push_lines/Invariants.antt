use Rattle.std.proofs.Common.{◌≡◌, ◌++◌, flat_map, string_bytes, take}
use Rattle.run_report.specs.Journals.{journal_line}
use Rattle.run_report.proofs.entry_lines.push_lines.Given as goal

abbrev pub invariant-loop-entry : goal.invariant-loop-entry
invariant-loop-entry l =
    string_bytes l.text ≡ string_bytes l.initial.text ++ flat_map (journal_line l.script) (take l.entry-index l.journal)
