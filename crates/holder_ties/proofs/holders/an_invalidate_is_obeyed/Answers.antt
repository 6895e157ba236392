-- An Invalidate is obeyed.
use Rattle.holder_ties.proofs.Invalidates.{invalidate-is-obeyed}
use Rattle.holder_ties.proofs.holders.an_invalidate_is_obeyed.Goals as goal

pub returns : goal.returns
returns c = invalidate-is-obeyed
