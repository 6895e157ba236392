-- Where two journals answer the same lines, what looks at the whole journal is one function.
use Rattle.std.proofs.Common.{ap}
use Rattle.good_run.specs.Waves.{wave_at, each_passes}
use Rattle.good_run.specs.Turns.{is_in_turn}
use Rattle.good_run.specs.ControlLines.{is_controlled}
use Rattle.good_run.specs.Hold.{holds_are_kept}
use Rattle.good_run.proofs.laws.only_a_new_number_moves_a_wave.Goals as goal

pub returns-clause-wave : goal.returns-clause-wave
returns-clause-wave c parts e journal past same = ap (λ ever. wave_at ever parts past) (λ i line. same line i)

pub returns-clause-turns : goal.returns-clause-turns
returns-clause-turns c parts e journal past same =
    ap (λ ever. each_passes (is_in_turn ever parts) past) (λ i line. same line i)

pub returns-clause-control_lines : goal.returns-clause-control_lines
returns-clause-control_lines c parts e journal past same =
    ap (λ ever. each_passes (is_controlled ever parts) past) (λ i line. same line i)

pub returns-clause-hold : goal.returns-clause-hold
returns-clause-hold c parts e journal past same =
    ap (λ ever. each_passes (holds_are_kept ever parts) past) (λ i line. same line i)
