use Rattle.resource_dir.specs.Takes.{react}
use Rattle.resource_dir.proofs.HeldUp.{waits-drain_all}
use Rattle.resource_dir.proofs.takes.messages_wait_for_an_operation.Goals as goal

pub returns : goal.returns
returns c =
    let after = (react c.args.message.now c.args.entry.now).entry in
    waits-drain_all after.queue after
