-- A master sends what is sane, and draws few grants.
use Rattle.machine_ties.proofs.Rooms.{few-drawn}
use Rattle.machine_ties.proofs.Sane.{sane-takes}
use Rattle.machine_ties.proofs.steps.a_master_stays_sane.Goals as goal

pub returns : goal.returns
returns c = record { sane = sane-takes; few = few-drawn }
