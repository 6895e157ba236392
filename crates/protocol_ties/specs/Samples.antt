-- States that a master comes to, in which it takes a message.
use Rattle.std.specs.Prelude.{ℕ, ◌≡◌, false, List, [], ◌∷◌, replicate, None, Some}
use Rattle.wire_net.specs.declared.message.Mode.TheVariants as modes
use Rattle.wire_net.specs.declared.message.Waiting.TheVariants as waiting
use Rattle.wire_net.specs.declared.message.Message.{Message}
use Rattle.wire_net.specs.declared.message.Message.TheVariants as messages
use Rattle.wire_net.specs.declared.message.Packet.{Packet}
use Rattle.wire_net.specs.Links.{no_packets, sent}
use Rattle.wire_net.specs.declared.report.Report.{Report}
use Rattle.wire_net.specs.declared.masters.Masters.{Masters}
use Rattle.wire_net.specs.declared.entry.Entry.{Entry}
use Rattle.inst_set.specs.Sets.{no_insts}
use Rattle.wire_net.specs.Entry.{empty_entry}
use Rattle.resource_dir.specs.Takes.{takes}
use Rattle.block_protocol.specs.Block.{Block}
use Rattle.block_protocol.specs.Runs.{start, Run}
use Rattle.block_protocol.specs.Wire.{Wire}
use Rattle.protocol_ties.specs.Takes.{HasRoom, MayTake}

-- in a state that a new block comes to, its master, instance 0, may take the message at this entry, and this is what it sends
pub record IsSample (message : Message) (entry : Entry) (sends : List (ℕ × Message)) : Type 0 where
  pub block : Block
  pub run : Run (start 0) block
  pub wires : List Wire  -- what else is under way
  pub may : MayTake 0 0 message wires entry block
  pub room : HasRoom entry
  pub sent : (takes entry message).sends ≡ sends

-- instance 1 is to share the block, by grant 1, and instance 2 waits to have it alone
abbrev pub shared_and_wanted : Entry
shared_and_wanted = record empty_entry {
  next_grant = 2;
  op = Some (record { asker = 1; mode = modes.Shared; held = modes.Null; grant = Some 1; waits = no_insts });
  queue = waiting.Ask 5 modes.Exclusive modes.Null 2 ∷ [];
}

-- instance 1 has the block alone, by grant 1, and is to ship it to instance 2
abbrev pub alone_and_ordered : Entry
alone_and_ordered = record empty_entry {
  x = Some (record { inst = 1; grant = 1 });
  next_grant = 3;
  op = Some (record { asker = 2; mode = modes.Exclusive; held = modes.Null; grant = Some 2; waits = no_insts });
}

-- instance 1 has the block alone, by grant 1
abbrev pub alone : Entry
alone = record empty_entry { x = Some (record { inst = 1; grant = 1 }); next_grant = 2 }

-- instance 1 reports an exclusive image of block 5, and the others report none
abbrev pub reports : List (ℕ × Report)
reports = (0, record { scn = 0; known = 0; frames = [] })
    ∷ (1, record { scn = 0; known = 0; frames = record { block = 5; mode = modes.Exclusive; version = 0; dirty = false; past = None } ∷ [] })
    ∷ (2, record { scn = 0; known = 0; frames = [] }) ∷ []

-- instance 0 masters every bucket
abbrev pub all_to_one : Masters
all_to_one = record { by_bucket = replicate 16 0 }

-- the first Ask of instance 1, on its way to the master
abbrev pub asking : Packet
asking = record { scn = 0; message = messages.Ask 5 modes.Shared modes.Null 1 }

-- it alone waits on the links
abbrev pub one_asks : List (List Packet)
one_asks = sent no_packets 1 0 asking
