use Rattle.std.proofs.Common.{◌≡◌, drop}
use Rattle.thread_steps.specs.Read.{records_entered}
use Rattle.thread_steps.proofs.entering.enter_records.Given as goal

abbrev pub invariant-loop-redo : goal.invariant-loop-redo
invariant-loop-redo l =
    records_entered l.thread l.at (drop l.redo-index l.records) l.core ≡ records_entered l.thread l.position l.records l.initial.core
