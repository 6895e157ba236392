-- Steps with blocks play the protocol on.
use Rattle.machine_ties.proofs.Acting.{ask-plays, evict-plays, plea-plays}
use Rattle.machine_ties.proofs.Writing.{write-plays}
use Rattle.machine_ties.proofs.steps.steps_with_blocks_play.Goals as goal

pub returns : goal.returns
returns c = record {
  asks = λ count steps blocks core insts disk n number plays at may. ask-plays count steps blocks core insts disk plays n at number may;
  evicts = λ count steps blocks core insts disk n number plays at may. evict-plays count steps blocks core insts disk plays n at number may;
  pleas = λ count steps blocks core insts disk n number plays at may. plea-plays count steps blocks core insts disk plays n at number may;
  writes = λ count steps blocks core insts disk n number how old new plays few at may told well left. write-plays count steps blocks core insts disk plays n at number how old new well told may left;
}
