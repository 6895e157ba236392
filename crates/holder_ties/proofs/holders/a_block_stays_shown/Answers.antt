-- A block stays shown as others act.
use Rattle.holder_ties.proofs.Beside.{clocks-may-rise, image-is-changed, links-may-differ, master-takes, message-passes-on, redo-may-be-forced}
use Rattle.holder_ties.proofs.holders.a_block_stays_shown.Goals as goal

pub returns : goal.returns
returns c = record { links = links-may-differ; clocks = clocks-may-rise; forces = redo-may-be-forced; changes = image-is-changed; masters = master-takes; passes = message-passes-on }
