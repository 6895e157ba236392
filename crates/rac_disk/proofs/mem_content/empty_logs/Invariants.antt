use Rattle.std.proofs.Common.{◌≡◌, replicate}
use Rattle.rac_disk.specs.Memory.{empty_log}
use Rattle.rac_disk.proofs.mem_content.empty_logs.Given as goal

abbrev pub invariant-loop-thread : goal.invariant-loop-thread
invariant-loop-thread l = l.logs.items ≡ replicate l._thread (empty_log l.room)
