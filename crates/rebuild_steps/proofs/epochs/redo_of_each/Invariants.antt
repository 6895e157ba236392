use Rattle.std.proofs.Common.{◌≡◌, map, take}
use Rattle.report_steps.specs.Recovering.{redo_of}
use Rattle.rebuild_steps.proofs.epochs.redo_of_each.Given as goal

abbrev pub invariant-loop-read : goal.invariant-loop-read
invariant-loop-read l = l.all.items ≡ map redo_of (take l.read-index l.threads)
