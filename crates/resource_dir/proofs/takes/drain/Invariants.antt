use Rattle.std.proofs.Common.{◌≡◌, ◌++◌, length}
use Rattle.resource_dir.specs.Takes.{drain}
use Rattle.resource_dir.proofs.takes.drain.Given as goal

abbrev pub invariant-loop-entry : goal.invariant-loop-entry
invariant-loop-entry l = record {
  entry : (drain l.entry).entry ≡ (drain l.initial.entry).entry;
  sends : l.out ++ (drain l.entry).sends ≡ l.initial.out ++ (drain l.initial.entry).sends;
}

abbrev pub decreases-loop-entry : goal.decreases-loop-entry
decreases-loop-entry l = length l.entry.queue
