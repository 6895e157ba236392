-- A message that comes to an instance which isn't the master of its block goes on to the master.
use Rattle.std.specs.Prelude.{◌≡◌, ◌++◌, max, List, [], ◌∷◌, Some}
use Rattle.wire_net.specs.declared.message.Message.{Message}
use Rattle.wire_net.specs.declared.entry.Entry.{Entry}
use Rattle.block_protocol.specs.Block.{Inst, Scn, Block}
use Rattle.block_protocol.specs.Wire.{Wire}
use Rattle.protocol_ties.specs.Messages.{wire_of, wires_of}
use Rattle.protocol_ties.specs.Entries.{Shows}
use Rattle.protocol_ties.specs.MasterRuns.{MasterRun, LeavesRest, raised}
use Rattle.protocol_ties.specs.Takes.{IsForMaster}

-- the message is under way again, in a packet of the clock of who passed it on, and the entry is shown as before
pub record IsPassedOn (me to : Inst) (scn : Scn) (message : Message) (wires : List Wire) (entry : Entry) (before : Block) : Type 0 where
  pub after : Block
  pub run : MasterRun (raised me scn before) after
  pub shows : Shows (wires_of (max (before.clock me) scn) ((to, message) ∷ []) ++ wires) entry after
  pub beside : LeavesRest (raised me scn before) after

-- an instance passes a message for a master on, once its clock has risen to the packet's
abbrev pub MessageGoesOn : Type 0
MessageGoesOn = (me to : Inst) (scn : Scn) (message : Message) (wire : Wire) (wires : List Wire) (entry : Entry) (block : Block)
    → IsForMaster message → wire_of me scn message ≡ Some wire → Shows (wire ∷ wires) entry block → IsPassedOn me to scn message wires entry block
