-- Steps that touch no block play the protocol on.
use Rattle.machine_ties.proofs.Asking.{undo-ask-plays}
use Rattle.machine_ties.proofs.Quiet.{ack-plays, broadcast-plays, checkpoint-plays, end-plays, enter-plays, hear-plays, keep-plays, no-record-plays, plays-still, serve-plays, skip-plays, start-plays, undo-comes, visit-plays}
use Rattle.machine_ties.proofs.steps.quiet_steps_play.Goals as goal

pub returns : goal.returns
returns c = record {
  starts = λ count steps blocks core insts disk n number plays at may. start-plays count steps blocks core insts disk plays n at number;
  visits = λ count steps blocks core insts disk n number plays at may. visit-plays count steps blocks core insts disk plays n at number;
  unmade = λ count steps blocks core insts disk n number plays at may. no-record-plays count steps blocks core insts disk plays n at number may;
  answered = λ count steps blocks core insts disk n number plays at may. end-plays count steps blocks core insts disk plays n at number;
  told = λ count steps blocks core insts disk n number plays at may. broadcast-plays count steps blocks core insts disk plays n at number;
  heard = λ count steps blocks core insts disk n number plays at may. hear-plays count steps blocks core insts disk plays n at number may;
  acks = λ count steps blocks core insts disk n number plays at may. ack-plays count steps blocks core insts disk plays n at number;
  asks = λ count steps blocks core insts disk n number how old new plays few at may told well left. undo-ask-plays count steps blocks core insts disk plays n at number how old new told well left;
  undo = λ count steps blocks core insts disk n number plays at may. serve-plays count steps blocks core insts disk plays n at number may;
  comes = λ count steps blocks core insts disk n number plays at may. undo-comes count steps blocks core insts disk plays n at number may;
  checkpoints = λ count steps blocks core insts disk n number how old new plays few at may told well left. checkpoint-plays count steps blocks core insts disk plays n at number how old new well told left;
  enters = λ count steps blocks core insts disk n number plays at may. enter-plays count steps blocks core insts disk plays n at;
  leaves = λ count steps blocks core insts disk n number plays at may. plays-still count steps blocks core insts disk plays n at;
  rises = λ count steps blocks core insts disk n number plays at may. plays-still count steps blocks core insts disk plays n at;
  skips = λ count steps blocks core insts disk n number plays at may. skip-plays count steps blocks core insts disk plays n at number;
  keeps = λ count steps blocks core insts disk n number plays at may. keep-plays count steps blocks core insts disk plays n at number;
}
