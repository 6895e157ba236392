use Rattle.std.proofs.Common.{◌≡◌, ◌++◌, flat_map, string_bytes, take}
use Rattle.log_audit.specs.Texts.{history_line_text}
use Rattle.log_audit.proofs.text.push_commits.Given as goal

abbrev pub invariant-loop-line : goal.invariant-loop-line
invariant-loop-line l = string_bytes l.text ≡ string_bytes l.initial.text ++ flat_map history_line_text (take l.line-index l.lines)
