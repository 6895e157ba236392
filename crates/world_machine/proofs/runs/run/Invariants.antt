use Rattle.std.proofs.Common.{◌≡◌, length}
use Rattle.world_machine.specs.Runs.{words, IsRun}
use Rattle.world_machine.proofs.runs.run.Given as goal

abbrev pub invariant-loop-made : goal.invariant-loop-made
invariant-loop-made g l =
    IsRun (words l.seed) l.fn.world (g.D.SharedDisk.state l.fn.disk) l.book l.words l.world (g.D.SharedDisk.state l.disk) × (length l.book ≡ l._made)
