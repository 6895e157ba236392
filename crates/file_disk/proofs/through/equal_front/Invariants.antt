use Rattle.std.proofs.Common.{◌≡◌, ◌≤◌, ◌-◌, length, take}
use Rattle.file_disk.proofs.through.equal_front.Given as goal

-- the first bytes so far are equal
abbrev pub invariant-loop-same : goal.invariant-loop-same
invariant-loop-same l = record {
  left : l.same ≤ length l.left;
  right : l.same ≤ length l.right;
  equal : take l.same l.left ≡ take l.same l.right;
}

abbrev pub decreases-loop-same : goal.decreases-loop-same
decreases-loop-same l = length l.left - l.same
