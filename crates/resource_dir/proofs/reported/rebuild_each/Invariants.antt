use Rattle.std.proofs.Common.{◌≡◌, fold, take}
use Rattle.resource_dir.specs.Rebuilt.{with_rebuilt}
use Rattle.resource_dir.proofs.reported.rebuild_each.Given as goal

abbrev pub invariant-loop-bucket : goal.invariant-loop-bucket
invariant-loop-bucket l =
    l.directory ≡ fold (with_rebuilt l.me l.masters l.reports) l.initial.directory (take l.bucket-index l.buckets)
