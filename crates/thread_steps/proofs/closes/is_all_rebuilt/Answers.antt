use Rattle.report_steps.specs.Recovering.{are_read, are_rebuilt}
use Rattle.thread_steps.specs.Close.{is_all_rebuilt}
use Rattle.thread_steps.proofs.Tests.{and_else, and_then}
use Rattle.thread_steps.proofs.closes.is_all_rebuilt.Goals as goal

pub returns-then-are_read : goal.returns-then-are_read
unfolding is_all_rebuilt
returns-then-are_read c =
    let inst = c.args.inst.now in
    let core = c.args.core.now in
    and_then c.are_read.result (are_read inst core) (are_rebuilt inst core) c.are_rebuilt.result c.are_read.ensures c.if-are_read.true c.are_rebuilt.ensures

pub returns-else-are_read : goal.returns-else-are_read
unfolding is_all_rebuilt
returns-else-are_read c =
    let inst = c.args.inst.now in
    let core = c.args.core.now in
    and_else c.are_read.result (are_read inst core) (are_rebuilt inst core) c.are_read.ensures c.if-are_read.false
