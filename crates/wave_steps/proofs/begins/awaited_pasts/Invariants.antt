use Rattle.std.proofs.Common.{◌≡◌, ◌++◌, ◌-◌, None, map, replicate}
use Rattle.std.specs.List.{range_with_len}
use Rattle.wave_steps.specs.Begins.{waits_for_past}
use Rattle.wave_steps.proofs.begins.awaited_pasts.Given as goal

abbrev pub invariant-loop-block : goal.invariant-loop-block
invariant-loop-block l = l.pasts ≡ map (waits_for_past l.inst) (range_with_len 0 l.block) ++ replicate (64 - l.block) None
