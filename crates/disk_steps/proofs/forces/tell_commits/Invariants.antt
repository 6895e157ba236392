use Rattle.std.proofs.Common.{◌≡◌, fold, take}
use Rattle.disk_steps.specs.Force.{commit_told}
use Rattle.disk_steps.proofs.forces.tell_commits.Given as goal

abbrev pub invariant-loop-end : goal.invariant-loop-end
invariant-loop-end l = l.journal ≡ fold (commit_told l.me) l.fn.journal (take l.end-index l.ends)
