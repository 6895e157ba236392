use Rattle.std.proofs.Common.{◌≡◌, ◌++◌, string_bytes, take}
use Rattle.run_report.specs.Found.{kept}
use Rattle.run_report.specs.Reports.{wave_text}
use Rattle.run_report.proofs.told.push_wave.Given as goal

abbrev pub invariant-loop-line : goal.invariant-loop-line
invariant-loop-line l =
    string_bytes l.text ≡ string_bytes l.initial.text ++ wave_text l.sources.journal.now (kept l.sources.ends.now) l.wave (take l.line-index l.lines)
