use Rattle.std.proofs.Common.{◌≡◌, nat_le, filter, take}
use Rattle.inst_state.specs.declared.inst.Made.{Made}
use Rattle.disk_steps.proofs.positions.made_from.Given as goal

abbrev pub invariant-loop-record : goal.invariant-loop-record
invariant-loop-record l = l.kept ≡ filter (λ (made : Made). nat_le l.at made.at) (take l.record-index l.made)
