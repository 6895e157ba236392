use Rattle.world_machine.proofs.MayLemmas.{picked_may}
use Rattle.world_machine.proofs.runs.turn.Goals as goal

pub step-requires : goal.step-requires
step-requires g c =
    let picked = rw c.in-Some.is at c.in_ok-step.ensures.picked in
    picked_may c.args.words.now c.args.world.now c.in-Some.step c.pick.new.words picked
