use Rattle.std.proofs.Common.{arith}
use Rattle.base_types.specs.Layout.{total_of}
use Rattle.first_state.specs.Create.{puts_block}
use Rattle.first_state.proofs.Made.{all_made, begins, ends, goes_on}
use Rattle.first_state.proofs.creation.write_blocks.Goals as goal

pub loop-number-init : goal.loop-number-init
loop-number-init g c = begins (puts_block c.args.layout.now) (total_of c.args.layout.now) (g.D.SharedDisk.state c.args.disk.now)

pub returns-in-Failed : goal.returns-in-Failed
returns-in-Failed g c = ends (puts_block c.args.layout.now) c.loop-number.number (total_of c.args.layout.now) (g.D.SharedDisk.state c.args.disk.now) (g.D.SharedDisk.state c.loop-number.disk) (g.D.SharedDisk.state c.write_first.new.disk) (omega arith) c.loop-number.invariant c.in-Failed.ensures

pub loop-number-preserved : goal.loop-number-preserved
loop-number-preserved g c = goes_on (puts_block c.args.layout.now) c.loop-number.number (total_of c.args.layout.now) (g.D.SharedDisk.state c.args.disk.now) (g.D.SharedDisk.state c.loop-number.disk) (g.D.SharedDisk.state c.write_first.new.disk) (omega arith) c.loop-number.invariant c.in-Done.ensures

pub returns : goal.returns
returns g c = all_made (puts_block c.args.layout.now) c.loop-number.number (total_of c.args.layout.now) (g.D.SharedDisk.state c.args.disk.now) (g.D.SharedDisk.state c.loop-number.disk) (omega arith) c.loop-number.invariant
