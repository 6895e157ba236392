use Rattle.std.proofs.Common.{◌≡◌, fold, take}
use Rattle.wave_steps.specs.Enter.{opened_if}
use Rattle.wave_steps.proofs.openings.open_each.Given as goal

abbrev pub invariant-loop-opening : goal.invariant-loop-opening
invariant-loop-opening l =
    l.sessions ≡ fold (opened_if l.up l.wave) l.initial.sessions (take l.opening-index l.plan.openings)
