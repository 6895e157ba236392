-- Steps with redo play the protocol on.
use Rattle.machine_ties.proofs.Forcing.{force-plays}
use Rattle.machine_ties.proofs.Quiet.{mark-plays}
use Rattle.machine_ties.proofs.steps.steps_with_redo_play.Goals as goal

pub returns : goal.returns
returns c = record {
  marks = λ count steps blocks core insts disk n number plays at may. mark-plays count steps blocks core insts disk plays n at number;
  forces = λ count steps blocks core insts disk n number how old new plays few at may told well left. force-plays count steps blocks core insts disk plays n at how old new well told left;
}
