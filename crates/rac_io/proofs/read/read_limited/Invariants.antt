use Rattle.std.proofs.Common.{◌≡◌, ◌-◌, ◌≤◌, vec_len}
use Rattle.std.specs.Io.KnownBytes.{Consumes}
use Rattle.rac_io.proofs.read.read_limited.Given as goal

-- the bytes were taken of what was left, and no read has failed
abbrev pub invariant-loop-source : goal.invariant-loop-source
invariant-loop-source g l = record {
  within : vec_len l.bytes ≤ l.limit;
  taken : Consumes (g.S.Source.left l.fn.source) (g.S.Source.left l.source) l.bytes.items;
  faults : g.S.Source.faults l.source ≡ g.S.Source.faults l.fn.source;
}

abbrev pub decreases-loop-source : goal.decreases-loop-source
decreases-loop-source g l = l.limit - vec_len l.bytes
