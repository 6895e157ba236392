use Rattle.std.proofs.Common.{nat_eq}
use Rattle.std.specs.HashMap.{get}
use Rattle.run_report.specs.Found.{AreSettled, is_settled, kept}
use Rattle.run_report.proofs.waves.next_open.Given as goal

abbrev pub invariant-loop-wave : goal.invariant-loop-wave
invariant-loop-wave l =
    AreSettled (is_settled (get nat_eq l.known.places.now) l.known.at (kept l.known.ends.now)) l.waves l.wave l.line
