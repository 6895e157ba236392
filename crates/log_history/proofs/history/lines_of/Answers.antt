use Rattle.std.proofs.Common.{◌∙◌, ◌+◌, List, arith, ap, sym, drop, filter_map}
use Rattle.redo_types.specs.declared.redo.Redo.{Redo}
use Rattle.log_history.specs.LogHistory.{in_order}
use Rattle.log_history.specs.Standing.{line_by, lines_by}
use Rattle.log_history.specs.declared.line.HistoryLine.{HistoryLine}
use Rattle.log_history.proofs.StandingLemmas.{lines_step}
use Rattle.log_history.proofs.history.lines_of.Goals as goal

pub loop-thread-preserved : goal.loop-thread-preserved
loop-thread-preserved c =
    let standing = c.args.standing.now in
    let thread = c.loop-thread.thread in
    let before = c.loop-thread.lines.items in
    let entered = c.in_ok-enter_thread.ensures.entered
    ∙ ap (λ (records : List Redo). in_order before (filter_map (line_by standing thread) records)) c.as_slice.ensures in
    let step = lines_step standing c.loop-thread.lines.items c.args.threads.now thread c.index-threads-thread.result (omega arith) c.index-threads-thread.is in
    record {
      entered =
          ap (λ (lines : List HistoryLine). in_order lines (lines_by standing (thread + 1) (drop (thread + 1) c.args.threads.now))) entered
          ∙ sym step ∙ c.loop-thread.invariant.entered;
      ordered = c.in_ok-enter_thread.ensures.ordered;
    }
