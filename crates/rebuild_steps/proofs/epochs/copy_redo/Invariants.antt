use Rattle.std.proofs.Common.{◌≡◌, take}
use Rattle.rebuild_steps.proofs.epochs.copy_redo.Given as goal

abbrev pub invariant-loop-redo : goal.invariant-loop-redo
invariant-loop-redo l = l.copied ≡ take l.redo-index l.records
