use Rattle.first_state.specs.Create.{puts_entry}
use Rattle.first_state.proofs.Made.{GoesOn}
use Rattle.first_state.proofs.creation.write_entries.Given as goal

abbrev pub invariant-loop-thread : goal.invariant-loop-thread
invariant-loop-thread g l = GoesOn (puts_entry l.layout) l.thread 8 (g.D.SharedDisk.state l.fn.disk) (g.D.SharedDisk.state l.disk)
