use Rattle.std.proofs.Common.{◌≡◌, ◌++◌, ◌-◌, false, map, replicate}
use Rattle.std.specs.List.{range_with_len}
use Rattle.wave_steps.specs.Begins.{waits_for_block}
use Rattle.wave_steps.proofs.begins.awaited_blocks.Given as goal

abbrev pub invariant-loop-block : goal.invariant-loop-block
invariant-loop-block l = l.blocks ≡ map (waits_for_block l.inst) (range_with_len 0 l.block) ++ replicate (64 - l.block) false
