-- A run of a holder is one of turns.
use Rattle.holder_ties.proofs.Turns.{holder-runs-are-turns-of-all}
use Rattle.holder_ties.proofs.holders.a_run_of_a_holder_is_one_of_turns.Goals as goal

pub returns : goal.returns
returns c = holder-runs-are-turns-of-all
