use Rattle.std.proofs.Common.{◌≡◌, vec_len}
use Rattle.file_disk.proofs.file_disk.tests.watched_logs.Given as goal

-- a file is there for each thread so far
abbrev pub invariant-loop-thread : goal.invariant-loop-thread
invariant-loop-thread l = vec_len l.logs ≡ l._thread
