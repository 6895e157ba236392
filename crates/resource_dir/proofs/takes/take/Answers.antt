-- What the messages that waited have sent stands behind what the message itself has sent.
use Rattle.wire_net.specs.declared.entry.Entry.{Entry}
use Rattle.resource_dir.specs.Takes.{drain}
use Rattle.resource_dir.proofs.Sends.{sent-in-turn}
use Rattle.resource_dir.proofs.takes.take.Goals as goal

pub returns-clause-sends : goal.returns-clause-sends
returns-clause-sends c =
    sent-in-turn c.drain.result _ _ _ _ (λ (it : Entry). (drain it).sends) _ _ c.drain.ensures.sends c.in_ok-react.ensures.entry
    c.in_ok-react.ensures.sends
