use Rattle.std.proofs.Common.{◌≡◌, ◌-◌, ◌≤◌, length, take}
use Rattle.std.specs.Io.KnownBytes.{Appends}
use Rattle.rac_io.proofs.write.write_whole.Given as goal

-- the first bytes are written, no write has gone wrong, and none was made yet where nothing is written
abbrev pub invariant-loop-written : goal.invariant-loop-written
invariant-loop-written g l = record {
  within : l.written ≤ length l.bytes;
  wrote : Appends (g.K.Sink.holds l.fn.sink) (g.K.Sink.holds l.sink) (take l.written l.bytes);
  faults : g.K.Sink.faults l.sink ≡ g.K.Sink.faults l.fn.sink;
  stalls : g.K.Sink.stalls l.sink ≡ g.K.Sink.stalls l.fn.sink;
  begun : l.written ≡ 0 → l.sink ≡ l.fn.sink;
}

abbrev pub decreases-loop-written : goal.decreases-loop-written
decreases-loop-written g l = length l.bytes - l.written
