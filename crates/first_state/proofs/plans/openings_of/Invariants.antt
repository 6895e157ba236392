use Rattle.std.proofs.Common.{◌≡◌, take}
use Rattle.std.specs.List.{enumerate_from, flat_map}
use Rattle.first_state.specs.Plan.{openings_in}
use Rattle.first_state.proofs.plans.openings_of.Given as goal

abbrev pub invariant-loop-at : goal.invariant-loop-at
invariant-loop-at l = l.openings ≡ flat_map (openings_in l.me) (enumerate_from 1 (take l.at l.waves))
