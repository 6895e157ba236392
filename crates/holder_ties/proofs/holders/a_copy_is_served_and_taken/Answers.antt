-- Copies are served and taken.
use Rattle.holder_ties.proofs.Copies.{copy-comes-back, copy-is-served, copy-is-taken}
use Rattle.holder_ties.proofs.holders.a_copy_is_served_and_taken.Goals as goal

pub returns : goal.returns
returns c = record { back = copy-comes-back; serves = copy-is-served; takes = copy-is-taken }
