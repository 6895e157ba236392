use Rattle.std.proofs.Common.{◌≡◌, string_bytes, take, flat_map}
use Rattle.std.specs.List.{enumerate_from}
use Rattle.run_report.specs.Found.{kept}
use Rattle.run_report.specs.Reports.{wave_text}
use Rattle.run_report.proofs.told.tell_waves.Given as goal

abbrev pub invariant-loop-number : goal.invariant-loop-number
invariant-loop-number l =
    string_bytes l.text ≡ flat_map (λ wave. wave_text l.sources.journal.now (kept l.sources.ends.now) wave.0 wave.1) (enumerate_from 0 (take l.number l.waves))
