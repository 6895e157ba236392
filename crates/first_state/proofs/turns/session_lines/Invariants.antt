use Rattle.std.proofs.Common.{◌≡◌, take}
use Rattle.std.specs.List.{enumerate_from}
use Rattle.first_state.specs.Lines.{session_lines}
use Rattle.first_state.proofs.turns.session_lines.Given as goal

abbrev pub invariant-loop-at : goal.invariant-loop-at
invariant-loop-at l = l.lines ≡ session_lines l.z (enumerate_from 1 (take l.at l.waves))
