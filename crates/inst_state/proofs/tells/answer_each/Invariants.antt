use Rattle.std.proofs.Common.{◌≡◌, ◌++◌, drop, map, take}
use Rattle.inst_state.specs.Shared.{answered_if}
use Rattle.inst_state.proofs.tells.answer_each.Given as goal

abbrev pub invariant-loop-control : goal.invariant-loop-control
invariant-loop-control l = l.controls ≡ map (answered_if l.line) (take l.control-index l.initial.controls) ++ drop l.control-index l.initial.controls
