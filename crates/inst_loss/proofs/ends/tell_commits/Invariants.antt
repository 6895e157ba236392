use Rattle.std.proofs.Common.{◌≡◌, fold, take}
use Rattle.inst_loss.specs.LostCore.{with_commit}
use Rattle.inst_loss.proofs.ends.tell_commits.Given as goal

abbrev pub invariant-loop-end : goal.invariant-loop-end
invariant-loop-end l = l.journal ≡ fold (with_commit l.me l.kept) l.initial.journal (take l.end-index l.ends)
