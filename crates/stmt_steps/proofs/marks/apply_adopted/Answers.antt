-- The record fits the segment that stands at the place.
use Rattle.std.proofs.Common.{◌≡◌, sym}
use Rattle.txn_engine.specs.Parts.{FitsSegment}
use Rattle.stmt_steps.proofs.marks.apply_adopted.Goals as goal

fit : (c : goal.In-Some-get_mut) → FitsSegment c.in-Some-get_mut.segment.now c.args.redo.now
fit c = c.requires.fits c.in-Some-get_mut.segment.now (rw c.in-Some.is (sym c.in-Some-get_mut.ensures.value))

pub apply-requires-clause-head : goal.apply-requires-clause-head
apply-requires-clause-head c = (fit c).head

pub apply-requires-clause-undo : goal.apply-requires-clause-undo
apply-requires-clause-undo c = (fit c).undo
