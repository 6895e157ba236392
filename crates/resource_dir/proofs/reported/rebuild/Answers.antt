-- The sixteen buckets are set one after the other in a directory without buckets.
use Rattle.std.proofs.Common.{◌≡◌, ◌∙◌, ap, fold}
use Rattle.wire_net.specs.Masters.{all_buckets}
use Rattle.resource_dir.specs.declared.directory.Directory.{Directory}
use Rattle.resource_dir.specs.Rebuilt.{with_rebuilt}
use Rattle.resource_dir.proofs.reported.rebuild.Goals as goal

pub returns : goal.returns
returns c =
    c.in_ok-rebuild_each.ensures
    ∙ ap (λ (it : Directory). fold (with_rebuilt c.args.me c.args.masters.now c.args.reports.now) it all_buckets) c.new-directory.ensures
