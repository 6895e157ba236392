use Rattle.std.proofs.Common.{◌≡◌, ◌++◌, ◌-◌, false, map, replicate}
use Rattle.std.specs.List.{range_with_len}
use Rattle.wave_steps.specs.Begins.{waits_for_undo}
use Rattle.wave_steps.proofs.begins.awaited_undo.Given as goal

abbrev pub invariant-loop-k : goal.invariant-loop-k
invariant-loop-k l = l.blocks ≡ map (waits_for_undo l.inst) (range_with_len 0 l.k) ++ replicate (17 - l.k) false
