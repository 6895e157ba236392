-- A run of a master's steps is one of turns.
use Rattle.protocol_ties.proofs.Turns.{master-runs-are-turns, master-runs-are-turns-of-all}
use Rattle.protocol_ties.proofs.ties.a_run_of_the_master_is_one_of_turns.Goals as goal

pub returns : goal.returns
returns c = record { one = master-runs-are-turns; all = master-runs-are-turns-of-all }
