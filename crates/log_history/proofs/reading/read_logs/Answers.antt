use Rattle.std.proofs.Common.{List, ℕ, arith, subst}
use Rattle.std.proofs.lemmas.Result.{err_from_is_err_and}
use Rattle.log_history.specs.Logs.{IsNext, IsWrong}
use Rattle.log_history.proofs.ThreadLemmas.{bad_log, next_logs}
use Rattle.log_history.proofs.reading.read_logs.Goals as goal

pub returns-in_err-read_next-clause-bad : goal.returns-in_err-read_next-clause-bad
returns-in_err-read_next-clause-bad c =
    let wrong : IsWrong c.index-logs-thread.result.items c.loop-thread.thread c.in_err-read_next.field-0.0 = subst (λ (bytes : List ℕ). IsWrong bytes c.loop-thread.thread c.in_err-read_next.field-0.0) c.as_slice.ensures.value c.in_err-read_next.ensures.bad in
    let bad = bad_log c.args.logs.now c.loop-thread.thread c.index-logs-thread.result c.loop-thread.threads.items c.loop-thread.invariant.0 (omega arith) c.index-logs-thread.is c.loop-thread.invariant.1 c.in_err-read_next.field-0.0 wrong in
    let exit = err_from_is_err_and c.from_residual.result c.from_residual.ensures.1 in
    rw (exit.1, exit.2) bad

pub loop-thread-preserved : goal.loop-thread-preserved
loop-thread-preserved c =
    let next : IsNext c.index-logs-thread.result.items c.loop-thread.thread c.loop-thread.threads.items c.read_next.new.threads.items c.loop-thread.torn.items c.read_next.new.torn.items =
    subst (λ (bytes : List ℕ). IsNext bytes c.loop-thread.thread c.loop-thread.threads.items c.read_next.new.threads.items c.loop-thread.torn.items c.read_next.new.torn.items) c.as_slice.ensures.value c.in_ok-read_next.ensures.ok in
    next_logs c.args.logs.now c.loop-thread.thread c.index-logs-thread.result c.loop-thread.threads.items c.read_next.new.threads.items c.loop-thread.torn.items c.read_next.new.torn.items (omega arith) c.index-logs-thread.is c.loop-thread.invariant next
