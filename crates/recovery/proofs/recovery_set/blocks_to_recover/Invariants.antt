use Rattle.std.proofs.Common.{◌≡◌, filter}
use Rattle.recovery.specs.RecoverySet.{below, is_to_recover, version_at}
use Rattle.recovery.proofs.recovery_set.blocks_to_recover.Given as goal

abbrev pub invariant-loop-number : goal.invariant-loop-number
invariant-loop-number l =
    l.blocks ≡ filter (λ block. is_to_recover l.layout l.reports l.lost block (version_at l.disk block)) (below l.number)
