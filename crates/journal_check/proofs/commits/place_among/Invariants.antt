use Rattle.std.proofs.Common.{◌≡◌, ◌++◌, map, take, drop}
use Rattle.journal.specs.History.{entered}
use Rattle.journal_check.proofs.commits.place_among.Given as goal

-- the commits so far stay before it
abbrev pub invariant-loop-at : goal.invariant-loop-at
invariant-loop-at l = entered l.commit l.commits ≡ (take l.at l.commits) ++ entered l.commit ((drop l.at l.commits))
