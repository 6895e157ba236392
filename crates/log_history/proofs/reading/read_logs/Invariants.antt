use Rattle.std.proofs.Common.{◌≡◌, ℕ, List, take}
use Rattle.log_history.specs.Logs.{AreLogs, bytes_of, torn_ends}
use Rattle.log_history.proofs.reading.read_logs.Given as goal

abbrev pub invariant-loop-thread : goal.invariant-loop-thread
invariant-loop-thread l =
    (rests : List (List ℕ)) × AreLogs (take l.thread (bytes_of l.logs)) l.threads.items rests × (l.torn.items ≡ torn_ends 0 l.threads.items rests)
