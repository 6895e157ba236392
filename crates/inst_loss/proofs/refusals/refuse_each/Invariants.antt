use Rattle.std.proofs.Common.{◌≡◌, fold, take}
use Rattle.inst_loss.specs.LostCore.{with_refusal}
use Rattle.inst_loss.proofs.refusals.refuse_each.Given as goal

abbrev pub invariant-loop-z : goal.invariant-loop-z
invariant-loop-z l = l.journal ≡ fold (with_refusal l.inst) l.initial.journal (take l.z-index l.sessions)
