use Rattle.std.proofs.Common.{◌≡◌, fold, take}
use Rattle.resource_dir.specs.Rebuilt.{with_report}
use Rattle.resource_dir.proofs.reported.rebuilt.Given as goal

abbrev pub invariant-loop-reported : goal.invariant-loop-reported
invariant-loop-reported l = l.entry ≡ fold (with_report l.block) l.initial.entry (take l.reported-index l.reports)
