use Rattle.std.proofs.Common.{arith}
use Rattle.first_state.specs.Create.{puts_entry}
use Rattle.first_state.proofs.Made.{all_made, begins, ends, goes_on}
use Rattle.first_state.proofs.creation.write_entries.Goals as goal

pub loop-thread-init : goal.loop-thread-init
loop-thread-init g c = begins (puts_entry c.args.layout.now) 8 (g.D.SharedDisk.state c.args.disk.now)

pub returns-in-Failed : goal.returns-in-Failed
returns-in-Failed g c = ends (puts_entry c.args.layout.now) c.loop-thread.thread 8 (g.D.SharedDisk.state c.args.disk.now) (g.D.SharedDisk.state c.loop-thread.disk) (g.D.SharedDisk.state c.write_entry.new.disk) (omega arith) c.loop-thread.invariant c.in-Failed.ensures

pub loop-thread-preserved : goal.loop-thread-preserved
loop-thread-preserved g c = goes_on (puts_entry c.args.layout.now) c.loop-thread.thread 8 (g.D.SharedDisk.state c.args.disk.now) (g.D.SharedDisk.state c.loop-thread.disk) (g.D.SharedDisk.state c.write_entry.new.disk) (omega arith) c.loop-thread.invariant c.in-Done.ensures

pub returns : goal.returns
returns g c = all_made (puts_entry c.args.layout.now) c.loop-thread.thread 8 (g.D.SharedDisk.state c.args.disk.now) (g.D.SharedDisk.state c.loop-thread.disk) (omega arith) c.loop-thread.invariant
