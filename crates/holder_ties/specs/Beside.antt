-- What a block shows as others act: the other blocks, a clock that rises, redo that is forced, a master that takes a message.
use Rattle.std.specs.Prelude.{◌≡◌, ◌<◌, ◌+◌, List, ◌∷◌, Some, max, false, true}
use Rattle.base_types.specs.declared.names.BlockNo.{BlockNo}
use Rattle.base_types.specs.declared.names.RedoAt.{RedoAt}
use Rattle.redo_types.specs.declared.blocks.RowChange.{RowChange}
use Rattle.wire_net.specs.declared.message.Lane.TheVariants.{Main}
use Rattle.wire_net.specs.declared.message.Message.{Message}
use Rattle.wire_net.specs.declared.message.Mode.TheVariants as modes
use Rattle.wire_net.specs.declared.message.Packet.{Packet}
use Rattle.wire_net.specs.declared.entry.Entry.{Entry}
use Rattle.wire_net.specs.Links.{taken}
use Rattle.resource_dir.specs.Takes.{takes}
use Rattle.buffer_cache.specs.declared.place.Current.{Current}
use Rattle.buffer_cache.specs.Place.{with_change}
use Rattle.block_protocol.specs.Block.{At, Block, Inst, Scn, put}
use Rattle.block_protocol.specs.Steps.{Step, forced}
use Rattle.block_protocol.specs.Wire.{Same, Wire}
use Rattle.protocol_ties.specs.AmongAll.{WaitsAbout}
use Rattle.protocol_ties.specs.Bags.{AreLinks, bag_of}
use Rattle.protocol_ties.specs.MasterRuns.{MasterRun, raised}
use Rattle.protocol_ties.specs.Messages.{block_of, instances, wire_of}
use Rattle.protocol_ties.specs.Numbered.{IsMessageNumbered, IsNumbered}
use Rattle.protocol_ties.specs.OnLinks.{all_sent}
use Rattle.protocol_ties.specs.Takes.{HasRoom, IsForMaster, IsOfMade}
use Rattle.holder_ties.specs.Shown.{Comes, Holdings, IsShown, answered, clock_then, risen}

-- A block is shown by other links too that bear the same messages on it.
abbrev pub LinksMayDiffer : Type 0
LinksMayDiffer = (links later : List (List Packet)) (h : Holdings) (block_no : BlockNo) (entry : Entry) (block : Block)
    → IsShown links h block_no entry block → AreLinks later → Same (bag_of block_no links) (bag_of block_no later) → IsShown later h block_no entry block

-- A clock that rises leaves a block shown.
abbrev pub ClocksMayRise : Type 0
ClocksMayRise = (me : Inst) (scn : Scn) (links : List (List Packet)) (h : Holdings) (block_no : BlockNo) (entry : Entry) (block : Block)
    → IsShown links h block_no entry block → IsShown links (risen me scn h) block_no entry (raised me scn block)

-- what is had once an instance has forced its redo
abbrev pub with_forced : Inst → Holdings → Holdings
with_forced me h = record h { records = forced me h.records }

-- Redo that is forced leaves a block shown.
abbrev pub RedoMayBeForced : Type 0
RedoMayBeForced = (me : Inst) (links : List (List Packet)) (h : Holdings) (block_no : BlockNo) (entry : Entry) (block : Block)
    → IsShown links h block_no entry block → IsShown links (with_forced me h) block_no entry (record block { records = forced me block.records })

-- what is had once an instance has changed its image by a record with the next SCN
abbrev pub with_image_changed : Inst → RowChange → RedoAt → Holdings → Holdings
with_image_changed me change at h = record h {
  places = put h.places me (with_change change (h.clock me + 1) at (h.places me));
  clock = put h.clock me (h.clock me + 1);
  records = record { maker = me; scn = h.clock me + 1; durable = false } ∷ h.records;
}

-- The block after a change of the image that an instance holds exclusively, and the step that led there.
pub record Changes (me : Inst) (links : List (List Packet)) (later : Holdings) (block_no : BlockNo) (entry : Entry) (block : Block) : Type 0 where
  pub after : Block
  pub changed : after ≡ record block {
    version = put block.version me (block.version me + 1);
    dirty = put block.dirty me true;
    records = record { maker = me; scn = block.clock me + 1; durable = false } ∷ block.records;
    clock = put block.clock me (block.clock me + 1);
    floor = max block.floor (block.clock me + 1);
  }
  pub step : Step block after
  pub shown : IsShown links later block_no entry after

-- An exclusive image is changed by a record of the next SCN.
abbrev pub ImageIsChanged : Type 0
ImageIsChanged = (me : Inst) (now : Current) (change : RowChange) (at : RedoAt) (links : List (List Packet)) (h : Holdings) (block_no : BlockNo) (entry : Entry) (block : Block)
    → IsShown links h block_no entry block → (h.places me).current ≡ Some now → now.mode ≡ modes.Exclusive
    → Changes me links (with_image_changed me change at h) block_no entry block

-- What a master's entry names: it is about its block, and names instances below eight.
abbrev pub IsEntryOf : BlockNo → Entry → Type 0
IsEntryOf block_no entry = WaitsAbout block_no entry × IsNumbered entry

-- A master has gone on by its own steps once its clock has risen to a packet's: another entry, other links and holdings show the block.
pub record Masters (me : Inst) (scn : Scn) (links later_links : List (List Packet)) (later : Holdings) (block_no : BlockNo) (entry : Entry) (block : Block) : Type 0 where
  pub after : Block
  pub run : MasterRun (raised me scn block) after
  pub place : after.place ≡ block.place
  pub is_entry : IsEntryOf block_no entry
  pub shown : IsShown later_links later block_no entry after
  pub others : (other : BlockNo) → (other ≡ block_no → ⊥) → Same (bag_of other links) (bag_of other later_links)

-- A master takes a message, and sends what its entry tells it to.
abbrev pub MasterTakes : Type 0
MasterTakes = (me from : Inst) (scn : Scn) (message : Message) (links : List (List Packet)) (h : Holdings) (block_no : BlockNo) (entry : Entry) (block : Block)
    → IsShown links h block_no entry block → Comes me from links scn message → block_of message ≡ Some block_no → (wire : Wire) → wire_of me scn message ≡ Some wire → IsForMaster message → IsMessageNumbered message → IsOfMade message block
    → block.place ≡ At me → IsEntryOf block_no entry → HasRoom entry
    → Masters me scn links (all_sent me (clock_then me scn h) (takes entry message).sends (taken links from me Main)) (risen me scn h) block_no (takes entry message).entry block

-- A message for a master that comes to who isn't the master goes on to another instance.
abbrev pub MessagePassesOn : Type 0
MessagePassesOn = (me from to : Inst) (scn : Scn) (message : Message) (links : List (List Packet)) (h : Holdings) (block_no : BlockNo) (entry : Entry) (block : Block)
    → IsShown links h block_no entry block → Comes me from links scn message → block_of message ≡ Some block_no → (wire : Wire) → wire_of me scn message ≡ Some wire → IsForMaster message → to < instances → IsEntryOf block_no entry
    → Masters me scn links (answered me from to (clock_then me scn h) message links) (risen me scn h) block_no entry block
