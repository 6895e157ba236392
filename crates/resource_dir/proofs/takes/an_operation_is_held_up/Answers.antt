use Rattle.resource_dir.proofs.HeldUp.{held-takes}
use Rattle.resource_dir.proofs.takes.an_operation_is_held_up.Goals as goal

pub returns : goal.returns
returns c = held-takes c.args.message.now c.args.entry.now c.requires
