-- A master takes the first packet of a link, and sends what its handler tells it to.
use Rattle.std.specs.Prelude.{ℕ, ◌≡◌, ◌≢◌, ◌<◌, List, [], ◌∷◌, Some}
use Rattle.wire_net.specs.declared.message.Message.{Message}
use Rattle.wire_net.specs.declared.message.Lane.TheVariants.{Main}
use Rattle.wire_net.specs.declared.message.Packet.{Packet}
use Rattle.wire_net.specs.declared.entry.Entry.{Entry}
use Rattle.wire_net.specs.Links.{first_on, sent, taken}
use Rattle.resource_dir.specs.declared.directory.Directory.{Directory}
use Rattle.resource_dir.specs.Directory.{entry_of, directory_takes}
use Rattle.block_protocol.specs.Block.{Inst, Scn, At, Block}
use Rattle.block_protocol.specs.Sound.{Sound}
use Rattle.block_protocol.specs.Steps.{clock_there}
use Rattle.block_protocol.specs.Turns.{IsEra}
use Rattle.block_protocol.specs.AllBlocks.{BlockNo, AllBlocks, view}
use Rattle.block_protocol.specs.Wire.{Wire, Same}
use Rattle.protocol_ties.specs.Messages.{instances, wire_of, block_of}
use Rattle.protocol_ties.specs.Entries.{Shows}
use Rattle.protocol_ties.specs.MasterRuns.{raised, LeavesRest}
use Rattle.protocol_ties.specs.Takes.{IsForMaster, IsOfMade, HasRoom}
use Rattle.protocol_ties.specs.MasterTurns.{all_raised, LeadsTo}
use Rattle.protocol_ties.specs.Directories.{IsSized, IsSameAt}
use Rattle.protocol_ties.specs.AmongAll.{WaitsAbout}
use Rattle.protocol_ties.specs.Numbered.{IsNumbered, IsMessageNumbered}
use Rattle.protocol_ties.specs.Bags.{AreLinks, bag_of}

-- the links after an instance has sent messages, each in a packet of its clock
abbrev pub all_sent : Inst → Scn → List (ℕ × Message) → List (List Packet) → List (List Packet)
all_sent me scn [] links = links
all_sent me scn (told ∷ sends) links = all_sent me scn sends (sent links me told.0 (record { scn = scn; message = told.1 }))

-- an instance masters a block: its directory has the entry, and that and what waits on the links show the block's state
pub record IsMastered (me : Inst) (directory : Directory) (links : List (List Packet)) (block_no : BlockNo) (entry : Entry) (block : Block) : Type 0 where
  pub sized : IsSized directory × AreLinks links
  pub masters : entry_of directory block_no ≡ Some entry
  pub waits : WaitsAbout block_no entry × IsNumbered entry
  pub place : block.place ≡ At me
  pub sound : Sound block
  pub shows : Shows (bag_of block_no links) entry block

-- a packet is the first on a link to the instance, and bears a message on the block for its master
pub record IsFirst (me from : Inst) (links : List (List Packet)) (packet : Packet) (block_no : BlockNo) (block : Block) : Type 0 where
  pub instances : (me < instances) × (from < instances)
  pub first : first_on links from me Main ≡ Some packet
  pub about : block_of packet.message ≡ Some block_no
  pub for_master : IsForMaster packet.message × IsMessageNumbered packet.message × IsOfMade packet.message block
  pub wire : Wire
  pub is : wire_of me packet.scn packet.message ≡ Some wire

-- the clock with which the master answers a packet
abbrev pub clock_after : Inst → Scn → Block → Scn
clock_after me scn block = clock_there (raised me scn block)

-- the links after the packet was taken and the directory's messages were sent
abbrev pub links_after : Inst → Inst → Directory → List (List Packet) → Packet → BlockNo → Block → List (List Packet)
links_after me from directory links packet block_no block =
    all_sent me (clock_after me packet.scn block) (directory_takes directory block_no packet.message).sends (taken links from me Main)

-- the block is mastered as before, after a run of all blocks; of any other the entry and what is under way are as they were
pub record GoesOnLinks (me : Inst) (scn : Scn) (whole : AllBlocks) (before directory : Directory) (links_before links : List (List Packet)) (block_no : BlockNo) : Type 0 where
  pub later : Entry
  pub after : Block
  pub leads : LeadsTo whole (all_raised me scn whole) block_no after
  pub beside : LeavesRest (raised me scn (view whole block_no).block) after
  pub mastered : IsMastered me directory links block_no later after
  pub others : (other : BlockNo) → other ≢ block_no → IsSameAt directory before other × Same (bag_of other links_before) (bag_of other links)

-- a master that takes the first packet of a link goes on by the protocol, with the links as its bag
abbrev pub MasterTakesFromLinks : Type 0
MasterTakesFromLinks = (me from : Inst) (whole : AllBlocks) (directory : Directory) (links : List (List Packet)) (packet : Packet) (block_no : BlockNo) (entry : Entry) → IsEra whole.members.phase
    → IsMastered me directory links block_no entry (view whole block_no).block → IsFirst me from links packet block_no (view whole block_no).block → HasRoom entry
    → GoesOnLinks me packet.scn whole directory (directory_takes directory block_no packet.message).directory links (links_after me from directory links packet block_no (view whole block_no).block) block_no
