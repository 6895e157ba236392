use Rattle.std.proofs.Common.{◌≡◌, ◌++◌, take}
use Rattle.redo_merge.specs.Merge.{records_of}
use Rattle.redo_merge.proofs.merging.add_records.Given as goal

abbrev pub invariant-loop-redo : goal.invariant-loop-redo
invariant-loop-redo l = l.all.items ≡ l.fn.all.items ++ records_of (record { thread = l.thread.thread; records = take l.redo-index l.redo-items })
