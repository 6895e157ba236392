use Rattle.first_state.specs.Create.{empties}
use Rattle.first_state.proofs.Made.{GoesOn}
use Rattle.first_state.proofs.creation.empty_logs.Given as goal

abbrev pub invariant-loop-thread : goal.invariant-loop-thread
invariant-loop-thread g l = GoesOn empties l.thread 8 (g.D.SharedDisk.state l.fn.disk) (g.D.SharedDisk.state l.disk)
