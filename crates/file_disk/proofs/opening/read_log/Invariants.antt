use Rattle.std.proofs.Common.{◌≡◌, ◌≢◌, ◌≤◌, ◌-◌, ℕ, length, take, IfSome}
use Rattle.rac_disk.specs.Content.{IsDisk, log_at}
use Rattle.file_disk.proofs.opening.read_log.Given as goal

-- the log has the first bytes of the file, and all but it is as it was
abbrev pub invariant-loop-left : goal.invariant-loop-left
invariant-loop-left g l = record {
  left : l.left ≤ l.len;
  read : IfSome (g.F.DiskFile.holds l.fn.file) (λ bytes. (l.len ≡ length bytes) × (log_at l.content l.thread ≡ take (l.len - l.left) bytes));
  other_logs : (k : ℕ) → k ≢ l.thread → log_at l.content k ≡ log_at l.fn.content k;
  others : l.content ≡ record l.fn.content { logs = l.content.logs };
  holds : g.F.DiskFile.holds l.file ≡ g.F.DiskFile.holds l.fn.file;
  is_disk : IsDisk l.content;
}

abbrev pub decreases-loop-left : goal.decreases-loop-left
decreases-loop-left g l = l.left
