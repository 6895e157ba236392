use Rattle.std.proofs.Common.{◌≡◌, drop, filter_map}
use Rattle.log_history.specs.LogHistory.{IsInOrder, in_order}
use Rattle.log_history.specs.Standing.{line_by}
use Rattle.log_history.proofs.history.enter_thread.Given as goal

abbrev pub invariant-loop-redo : goal.invariant-loop-redo
invariant-loop-redo l = record {
  entered :
      in_order l.lines.items (filter_map (line_by l.standing l.thread) (drop l.redo-index l.records))
      ≡ in_order l.fn.lines.items (filter_map (line_by l.standing l.thread) l.records);
  ordered : IsInOrder l.lines.items;
}
