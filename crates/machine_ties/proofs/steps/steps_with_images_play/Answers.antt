-- Steps with images play the protocol on.
use Rattle.machine_ties.proofs.Coming.{image-comes, taken-plays}
use Rattle.machine_ties.proofs.Images.{copy-plays, invalidate-plays, ship-plays}
use Rattle.machine_ties.proofs.Pasts.{past-plays}
use Rattle.machine_ties.proofs.steps.steps_with_images_play.Goals as goal

pub returns : goal.returns
returns c = record {
  invalidates = λ count steps blocks core insts disk n number plays at may. invalidate-plays count steps blocks core insts disk plays n at number may;
  ships = λ count steps blocks core insts disk n number plays at may. ship-plays count steps blocks core insts disk plays n at number may;
  copies = λ count steps blocks core insts disk n number plays at may. copy-plays count steps blocks core insts disk plays n at number may;
  pasts = λ count steps blocks core insts disk n number plays at may. past-plays count steps blocks core insts disk plays n at number may;
  installs = λ count steps blocks core insts disk n number how old new plays few at may told well left. image-comes count steps blocks core insts disk plays n at number how old new few told may well left;
  taken = λ count steps blocks core insts disk n number plays at may. taken-plays count steps blocks core insts disk plays n at number may;
}
