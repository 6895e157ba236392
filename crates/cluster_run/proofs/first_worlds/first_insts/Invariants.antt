use Rattle.std.proofs.Common.{◌≡◌, length}
use Rattle.cluster_run.specs.First.{AreFirst}
use Rattle.cluster_run.proofs.first_worlds.first_insts.Given as goal

abbrev pub invariant-loop-me : goal.invariant-loop-me
invariant-loop-me l = AreFirst l.script l.masters 0 l.insts × (length l.insts ≡ l.me)
