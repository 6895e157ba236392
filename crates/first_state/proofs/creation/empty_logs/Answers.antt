use Rattle.std.proofs.Common.{arith}
use Rattle.first_state.specs.Create.{empties}
use Rattle.first_state.proofs.Made.{all_made, begins, ends, goes_on}
use Rattle.first_state.proofs.creation.empty_logs.Goals as goal

pub loop-thread-init : goal.loop-thread-init
loop-thread-init g c = begins empties 8 (g.D.SharedDisk.state c.args.disk.now)

pub returns-in-Failed : goal.returns-in-Failed
returns-in-Failed g c = ends empties c.loop-thread.thread 8 (g.D.SharedDisk.state c.args.disk.now) (g.D.SharedDisk.state c.loop-thread.disk) (g.D.SharedDisk.state c.cut_log.new.disk) (omega arith) c.loop-thread.invariant c.in-Failed.ensures

pub loop-thread-preserved : goal.loop-thread-preserved
loop-thread-preserved g c = goes_on empties c.loop-thread.thread 8 (g.D.SharedDisk.state c.args.disk.now) (g.D.SharedDisk.state c.loop-thread.disk) (g.D.SharedDisk.state c.cut_log.new.disk) (omega arith) c.loop-thread.invariant c.in-Done.ensures

pub returns : goal.returns
returns g c = all_made empties c.loop-thread.thread 8 (g.D.SharedDisk.state c.args.disk.now) (g.D.SharedDisk.state c.loop-thread.disk) (omega arith) c.loop-thread.invariant
