use Rattle.std.proofs.Common.{◌≡◌, [], drop}
use Rattle.log_history.specs.LogHistory.{IsInOrder, in_order}
use Rattle.log_history.specs.Standing.{lines_by}
use Rattle.log_history.proofs.history.lines_of.Given as goal

abbrev pub invariant-loop-thread : goal.invariant-loop-thread
invariant-loop-thread l = record {
  entered :
      in_order l.lines.items (lines_by l.standing l.thread (drop l.thread l.threads))
      ≡ in_order [] (lines_by l.standing 0 l.threads);
  ordered : IsInOrder l.lines.items;
}
