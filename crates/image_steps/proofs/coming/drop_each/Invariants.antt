use Rattle.std.proofs.Common.{◌≡◌, ◌++◌, drop, map, take}
use Rattle.image_steps.specs.TakeCopy.{without_came}
use Rattle.image_steps.proofs.coming.drop_each.Given as goal

abbrev pub invariant-loop-session : goal.invariant-loop-session
invariant-loop-session l = l.sessions ≡ map (without_came l.block) (take l.session-index l.initial.sessions) ++ drop l.session-index l.initial.sessions
