use Rattle.std.proofs.Common.{◌+◌, false, take}
use Rattle.thread_steps.specs.Versions.{HasVersion, HaveVersions}
use Rattle.thread_steps.proofs.Observing.{observes_more}
use Rattle.thread_steps.proofs.Versioned.{one_version_more}
use Rattle.thread_steps.proofs.versions.read_versions.Goals as goal

pub loop-block-preserved : goal.loop-block-preserved
loop-block-preserved g c =
    let layout = c.args.layout.now in
    let blocks = c.args.blocks.now in
    let k = c.loop-block.block-index in
    let version = c.in_ok-version.version in
    observes_more false (HaveVersions layout (take k blocks) c.loop-block.versions) (HasVersion layout c.block-item.result version) (HaveVersions layout (take (k + 1) blocks) c.push.new.self) _ _ _
    (λ it have has. one_version_more layout blocks k c.block-item.result version c.loop-block.versions c.push.new.self it c.loop-block-test.true c.block-item.is c.in_ok-push.ensures.ok have has)
    c.loop-block.invariant c.in_ok-version.ensures
