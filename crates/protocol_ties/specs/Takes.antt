-- What the master of a block does with a message is a run of the protocol.
use Rattle.std.specs.Prelude.{◌≡◌, ◌≤◌, ◌<◌, ◌-◌, ◌^◌, ◌++◌, List, ◌∷◌, length, None, Some}
use Rattle.wire_net.specs.declared.message.Unfound.TheVariants as unfound
use Rattle.wire_net.specs.declared.message.Message.{Message}
use Rattle.wire_net.specs.declared.message.Message.TheVariants as messages
use Rattle.wire_net.specs.declared.entry.Entry.{Entry}
use Rattle.resource_dir.specs.Taken.{Taken}
use Rattle.resource_dir.specs.Takes.{takes}
use Rattle.block_protocol.specs.Block.{Inst, Scn, At, Block}
use Rattle.block_protocol.specs.Sound.{Sound}
use Rattle.block_protocol.specs.Steps.{clock_there}
use Rattle.block_protocol.specs.Wire.{Wire}
use Rattle.protocol_ties.specs.Messages.{wire_of, wires_of}
use Rattle.protocol_ties.specs.Entries.{Shows}
use Rattle.protocol_ties.specs.MasterRuns.{MasterRun, LeavesRest, raised}

-- a message is one for the master of its block
abbrev pub IsForMaster : Message → Type 0
IsForMaster (messages.Ask block_no mode held asker) = Unit {0}
IsForMaster (messages.Gone block_no grant) = Unit {0}
IsForMaster (messages.Done block_no grant mode past) = Unit {0}
IsForMaster (messages.GaveUp block_no grant) = Unit {0}
IsForMaster (messages.Back unfound) = Unit {0}
IsForMaster (messages.Wrote block_no version) = Unit {0}
IsForMaster (messages.WritePlease block_no version holder grant) = grant ≡ None
IsForMaster _ = ⊥

-- a plea that came back is for a version that was made, which the protocol's message doesn't tell
abbrev pub IsOfMade : Message → Block → Type 0
IsOfMade (messages.Back (unfound.WritePlease block_no grant version holder)) block = version ≤ length block.records
IsOfMade _ block = Unit {0}

-- the entry has a grant left that may be drawn
abbrev pub HasRoom : Entry → Type 0
HasRoom entry = entry.next_grant < 2 ^ 64 - 1

-- A run of the master's steps leads to the state that is shown by the entry after a message and by what is under way then:
-- what was there, and what the master sends.
pub record IsRun (wires : List Wire) (taken : Taken) (before : Block) : Type 0 where
  pub after : Block
  pub run : MasterRun before after
  pub shows : Shows (wires_of (clock_there before) taken.sends ++ wires) taken.entry after
  pub beside : LeavesRest before after

-- an instance that masters a block takes a message, which comes in a packet of a clock; other messages are under way too
pub record MayTake (me : Inst) (scn : Scn) (message : Message) (wires : List Wire) (entry : Entry) (block : Block) : Type 0 where
  pub place : block.place ≡ At me
  pub sound : Sound block
  pub for_master : IsForMaster message
  pub of_made : IsOfMade message block
  pub wire : Wire
  pub is : wire_of me scn message ≡ Some wire
  pub shows : Shows (wire ∷ wires) entry block

-- what the master does with the message is a run, once its clock has risen to the packet's
abbrev pub MessageIsARun : Type 0
MessageIsARun = (me : Inst) (scn : Scn) (message : Message) (wires : List Wire) (entry : Entry) (block : Block)
    → MayTake me scn message wires entry block → HasRoom entry → IsRun wires (takes entry message) (raised me scn block)
