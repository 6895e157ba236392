-- The first world plays the protocol.
use Rattle.machine_ties.proofs.First.{first-world-plays}
use Rattle.machine_ties.proofs.steps.the_first_world_plays.Goals as goal

pub returns : goal.returns
returns c = record { first = first-world-plays }
