use Rattle.std.proofs.Common.{false, take}
use Rattle.thread_steps.specs.Observes.{Observes}
use Rattle.thread_steps.specs.Versions.{HaveVersions}
use Rattle.thread_steps.proofs.versions.read_versions.Given as goal

abbrev pub invariant-loop-block : goal.invariant-loop-block
invariant-loop-block g l =
    let state = g.D.SharedDisk.state in
    Observes false (HaveVersions l.layout (take l.block-index l.blocks) l.versions) (state l.fn.disk) (state l.disk)
