use Rattle.std.proofs.Common.{◌≡◌, false, length}
use Rattle.rac_disk.specs.Content.{log_at}
use Rattle.thread_steps.specs.Observes.{Observes}
use Rattle.thread_steps.proofs.LogPieces.{AreFirst}
use Rattle.thread_steps.proofs.logs.read_log.Given as goal

abbrev pub invariant-loop-piece : goal.invariant-loop-piece
invariant-loop-piece g l =
    let state = g.D.SharedDisk.state in
    record {
      room : length l.piece.items ≡ 65536;
      read : Observes false (λ it. AreFirst l.bytes.items l.position (log_at it l.thread)) (state l.fn.disk) (state l.disk);
    }
