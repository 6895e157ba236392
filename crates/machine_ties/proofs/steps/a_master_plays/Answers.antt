-- A master plays the protocol on.
use Rattle.machine_ties.proofs.Mastering.{master-plays, plays-more}
use Rattle.machine_ties.proofs.steps.a_master_plays.Goals as goal

pub returns : goal.returns
returns c = record {
  takes = λ count steps blocks core insts disk n from plays few at may. master-plays count steps blocks core insts disk plays n at from few may;
  more = λ count steps blocks core insts disk plays. plays-more count steps blocks core insts disk plays;
}
