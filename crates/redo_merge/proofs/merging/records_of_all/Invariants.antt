use Rattle.std.proofs.Common.{◌≡◌, take}
use Rattle.redo_merge.specs.Merge.{all_records}
use Rattle.redo_merge.proofs.merging.records_of_all.Given as goal

abbrev pub invariant-loop-thread : goal.invariant-loop-thread
invariant-loop-thread l = l.all.items ≡ all_records (take l.thread-index l.threads)
