use Rattle.std.proofs.Common.{◌≡◌, ◌-◌, ◌≤◌, length, take}
use Rattle.std.specs.Io.KnownBytes.{Consumes}
use Rattle.file_disk.proofs.os_file.read_on.Given as goal

-- the first bytes of the room are those that were read
abbrev pub invariant-loop-count : goal.invariant-loop-count
invariant-loop-count g l = record {
  within : l.count ≤ length l.out;
  room : length l.out ≡ length l.fn.out;
  took : Consumes (g.F.Read.remaining l.fn.file) (g.F.Read.remaining l.file) (take l.count l.out);
}

abbrev pub decreases-loop-count : goal.decreases-loop-count
decreases-loop-count g l = length l.fn.out - l.count
