use Rattle.std.proofs.Common.{◌≡◌, length}
use Rattle.log_history.specs.Logs.{bytes_of}
use Rattle.log_audit.proofs.ReadingLemmas.{ReadSoFar}
use Rattle.log_audit.proofs.reading.read_logs.Given as goal

-- the first logs are read, and no call has failed
abbrev pub invariant-loop-thread : goal.invariant-loop-thread
invariant-loop-thread g l = record {
  count : length l.logs.items ≡ l.thread;
  read : ReadSoFar l.thread (bytes_of l.logs.items) (g.D.SharedDisk.state l.fn.disk).told (g.D.SharedDisk.state l.disk).told;
  faults : (g.D.SharedDisk.state l.disk).faults ≡ (g.D.SharedDisk.state l.fn.disk).faults;
  full : (g.D.SharedDisk.state l.disk).full ≡ (g.D.SharedDisk.state l.fn.disk).full;
}
