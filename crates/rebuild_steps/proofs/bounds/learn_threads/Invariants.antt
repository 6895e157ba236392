use Rattle.std.proofs.Common.{◌≡◌, fold, take}
use Rattle.rebuild_steps.specs.Bound.{with_thread}
use Rattle.rebuild_steps.proofs.bounds.learn_threads.Given as goal

abbrev pub invariant-loop-read : goal.invariant-loop-read
invariant-loop-read l = l.clock ≡ fold with_thread l.initial.clock (take l.read-index l.threads)
