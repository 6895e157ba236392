-- What is sent for the message itself stands behind what is sent as the holder is taken out.
use Rattle.wire_net.specs.declared.message.Mode.TheVariants.{Null, Shared, Exclusive}
use Rattle.wire_net.specs.declared.entry.Entry.{Entry}
use Rattle.resource_dir.specs.Asks.{ask}
use Rattle.resource_dir.specs.Ends.{ask_anew}
use Rattle.resource_dir.specs.Pasts.{write_please}
use Rattle.resource_dir.proofs.Sends.{sent-in-turn}
use Rattle.resource_dir.proofs.ends.hear_back.Goals as goal

pub returns-in_ok-hear_gave_up-in-CopyTo-clause-sends : goal.returns-in_ok-hear_gave_up-in-CopyTo-clause-sends
returns-in_ok-hear_gave_up-in-CopyTo-clause-sends c =
    rw c.in-CopyTo.is (sent-in-turn c.ask.result _ _ _ _ (λ (it : Entry). (ask c.in-CopyTo.block Shared Null c.in-CopyTo.reader it).sends) _ _
    c.ask.ensures.sends c.in_ok-hear_gave_up-in-CopyTo.ensures.entry c.in_ok-hear_gave_up-in-CopyTo.ensures.sends)

pub returns-in_ok-hear_gave_up-in-ShareTo-clause-sends : goal.returns-in_ok-hear_gave_up-in-ShareTo-clause-sends
returns-in_ok-hear_gave_up-in-ShareTo-clause-sends c =
    rw c.in-ShareTo.is (sent-in-turn c.ask_anew.result _ _ _ _ (λ (it : Entry). (ask_anew c.in-ShareTo.block Shared c.in-ShareTo.new_grant c.in-ShareTo.asker it).sends) _ _
    c.ask_anew.ensures.sends c.in_ok-hear_gave_up-in-ShareTo.ensures.entry c.in_ok-hear_gave_up-in-ShareTo.ensures.sends)

pub returns-in_ok-hear_gave_up-in-ShipTo-clause-sends : goal.returns-in_ok-hear_gave_up-in-ShipTo-clause-sends
returns-in_ok-hear_gave_up-in-ShipTo-clause-sends c =
    rw c.in-ShipTo.is (sent-in-turn c.ask_anew-in-ShipTo.result _ _ _ _ (λ (it : Entry). (ask_anew c.in-ShipTo.block Exclusive c.in-ShipTo.new_grant c.in-ShipTo.asker it).sends) _ _
    c.ask_anew-in-ShipTo.ensures.sends c.in_ok-hear_gave_up-in-ShipTo.ensures.entry c.in_ok-hear_gave_up-in-ShipTo.ensures.sends)

pub returns-in_ok-hear_gave_up-in-WritePlease-clause-sends : goal.returns-in_ok-hear_gave_up-in-WritePlease-clause-sends
returns-in_ok-hear_gave_up-in-WritePlease-clause-sends c =
    rw c.in-WritePlease.is (sent-in-turn c.write_please.result _ _ _ _ (λ (it : Entry). (write_please c.in-WritePlease.block c.in-WritePlease.version c.in-WritePlease.holder it).sends) _ _
    c.write_please.ensures.sends c.in_ok-hear_gave_up-in-WritePlease.ensures.entry c.in_ok-hear_gave_up-in-WritePlease.ensures.sends)
