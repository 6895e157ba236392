use Rattle.base_types.specs.Layout.{total_of}
use Rattle.first_state.specs.Create.{puts_block}
use Rattle.first_state.proofs.Made.{GoesOn}
use Rattle.first_state.proofs.creation.write_blocks.Given as goal

abbrev pub invariant-loop-number : goal.invariant-loop-number
invariant-loop-number g l = GoesOn (puts_block l.layout) l.number (total_of l.layout) (g.D.SharedDisk.state l.fn.disk) (g.D.SharedDisk.state l.disk)
