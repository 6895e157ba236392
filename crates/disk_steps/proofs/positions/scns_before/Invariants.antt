use Rattle.std.proofs.Common.{◌≡◌, fold, take}
use Rattle.disk_steps.specs.Checkpoint.{with_made_before}
use Rattle.disk_steps.proofs.positions.scns_before.Given as goal

abbrev pub invariant-loop-record : goal.invariant-loop-record
invariant-loop-record l = l.scns ≡ fold (with_made_before l.at) l.initial.scns (take l.record-index l.made)
