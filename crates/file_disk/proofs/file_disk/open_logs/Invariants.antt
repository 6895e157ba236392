use Rattle.std.proofs.Common.{◌≡◌, vec_len}
use Rattle.file_disk.proofs.file_disk.open_logs.Given as goal

-- a file is open for each name so far
abbrev pub invariant-loop-name : goal.invariant-loop-name
invariant-loop-name g l = vec_len l.logs ≡ l.name-index
