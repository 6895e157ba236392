use Rattle.std.proofs.Common.{◌≡◌, map, take}
use Rattle.first_state.specs.Plan.{lines_of}
use Rattle.first_state.proofs.plans.all_lines.Given as goal

abbrev pub invariant-loop-z : goal.invariant-loop-z
invariant-loop-z l = l.lines ≡ map (lines_of l.script l.me) (take l.z-index l.sessions)
