use Rattle.std.proofs.Common.{◌≡◌, ◌++◌, take}
use Rattle.std.specs.List.{flat_map}
use Rattle.first_state.specs.Plan.{openings_at}
use Rattle.first_state.proofs.plans.add_openings.Given as goal

abbrev pub invariant-loop-line : goal.invariant-loop-line
invariant-loop-line l = l.openings ≡ l.initial.openings ++ flat_map (openings_at l.me l.number) (take l.line-index l.wave)
