use Rattle.std.proofs.Common.{◌≡◌, fold, take}
use Rattle.wave_steps.specs.Enter.{told_if}
use Rattle.wave_steps.proofs.openings.tell_each.Given as goal

abbrev pub invariant-loop-opening : goal.invariant-loop-opening
invariant-loop-opening l =
    l.journal ≡ fold (told_if l.plan.me l.wave) l.initial.journal (take l.opening-index l.plan.openings)
