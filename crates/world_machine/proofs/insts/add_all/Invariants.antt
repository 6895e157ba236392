use Rattle.std.proofs.Common.{◌≡◌, ◌++◌, drop}
use Rattle.world_machine.specs.Enabled.{enabled_from}
use Rattle.world_machine.proofs.insts.add_all.Given as goal

-- what was added, with what is still to come, is all
abbrev pub invariant-loop-i : goal.invariant-loop-i
invariant-loop-i l = l.out ++ enabled_from l.i (drop l.i l.insts) l.core ≡ l.fn.out ++ enabled_from 0 l.insts l.core
