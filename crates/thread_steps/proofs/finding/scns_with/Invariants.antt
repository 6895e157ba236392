use Rattle.std.proofs.Common.{◌≡◌, fold, take}
use Rattle.thread_steps.specs.Found.{with_redo}
use Rattle.thread_steps.proofs.finding.scns_with.Given as goal

abbrev pub invariant-loop-redo : goal.invariant-loop-redo
invariant-loop-redo l = l.scns ≡ fold with_redo l.fn.before (take l.redo-index l.records)
