use Rattle.std.proofs.Common.{◌≡◌, flat_map, string_bytes, take}
use Rattle.book_report.specs.Lines.{step_line}
use Rattle.book_report.proofs.step_lines.book_text.Given as goal

abbrev pub invariant-loop-step : goal.invariant-loop-step
invariant-loop-step l = string_bytes l.text ≡ flat_map step_line (take l.step-index l.steps)
