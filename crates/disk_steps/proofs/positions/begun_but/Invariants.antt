use Rattle.std.proofs.Common.{◌≡◌, ◌==◌, not, filter, take}
use Rattle.inst_state.specs.declared.inst.Begun.{Begun}
use Rattle.disk_steps.proofs.positions.begun_but.Given as goal

abbrev pub invariant-loop-checkpoint : goal.invariant-loop-checkpoint
invariant-loop-checkpoint l = l.kept ≡ filter (λ (begun : Begun). not (begun.line == l.line)) (take l.checkpoint-index l.begun)
