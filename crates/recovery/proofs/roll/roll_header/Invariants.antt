use Rattle.std.proofs.Common.{◌≡◌, drop}
use Rattle.recovery.specs.Roll.{header_rolled_by, rolled}
use Rattle.recovery.proofs.roll.roll_header.Given as goal

abbrev pub invariant-loop-it : goal.invariant-loop-it
invariant-loop-it l = rolled header_rolled_by (drop l.it-index l.merged) l.head ≡ rolled header_rolled_by l.merged l.fn.base
