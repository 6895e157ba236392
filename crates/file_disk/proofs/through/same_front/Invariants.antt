use Rattle.std.proofs.Common.{◌≡◌, ◌≤◌, ◌-◌, length}
use Rattle.file_disk.proofs.through.same_front.Given as goal

-- so many first bytes were found in the file, which was only read
abbrev pub invariant-loop-same : goal.invariant-loop-same
invariant-loop-same g l = record {
  within : l.same ≤ length l.bytes;
  calls : g.F.DiskFile.calls l.file ≡ g.F.DiskFile.calls l.fn.file;
}

abbrev pub decreases-loop-same : goal.decreases-loop-same
decreases-loop-same g l = length l.bytes - l.same
