use Rattle.std.proofs.Common.{◌≡◌, ◌++◌, drop, map, take}
use Rattle.block_image.specs.Changes.{unlocked}
use Rattle.recovery.proofs.fitting.unlock_all.Given as goal

abbrev pub invariant-loop-row : goal.invariant-loop-row
invariant-loop-row l = l.rows ≡ map (unlocked l.itl) (take l.row-index l.initial.rows) ++ drop l.row-index l.initial.rows
