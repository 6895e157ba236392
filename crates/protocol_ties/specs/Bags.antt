-- What waits on the links, as a bag of messages of one block.
use Rattle.std.specs.Prelude.{ℕ, ◌+◌, ◌≡◌, ◌<◌, ◌/◌, ◌%◌, ◌++◌, List, [], ◌∷◌, flat_map, length, Some}
use Rattle.wire_net.specs.declared.message.Lane.{Lane}
use Rattle.wire_net.specs.declared.message.Packet.{Packet}
use Rattle.wire_net.specs.Links.{first_on, no_packets, sent, taken}
use Rattle.block_protocol.specs.Block.{Inst}
use Rattle.block_protocol.specs.AllBlocks.{BlockNo}
use Rattle.block_protocol.specs.Wire.{Wire, Same}
use Rattle.protocol_ties.specs.Messages.{instances}
use Rattle.protocol_ties.specs.AmongAll.{wires_at}

-- to whom the link at a place leads
abbrev pub receiver_at : ℕ → Inst
receiver_at place = place / 2 % 8

-- a packet on the link at a place, as messages of a block
abbrev pub wires_in : BlockNo → ℕ → Packet → List Wire
wires_in block_no place packet = wires_at block_no packet.scn (receiver_at place, packet.message)

-- what waits on the links from a place on, as messages of a block
abbrev pub bag_from : BlockNo → ℕ → List (List Packet) → List Wire
bag_from block_no place [] = []
bag_from block_no place (packets ∷ links) = flat_map (wires_in block_no place) packets ++ bag_from block_no (place + 1) links

-- what waits on all links
abbrev pub bag_of : BlockNo → List (List Packet) → List Wire
bag_of block_no links = bag_from block_no 0 links

-- there is a link of each lane from each instance to each
abbrev pub AreLinks : List (List Packet) → Type 0
AreLinks links = length links ≡ 128

-- a packet that is sent comes into the bag of the block that it is about
abbrev pub SentComesIn : Type 0
SentComesIn = (block_no : BlockNo) (links : List (List Packet)) (from to : Inst) (packet : Packet) → AreLinks links → from < instances → to < instances
    → Same (wires_at block_no packet.scn (to, packet.message) ++ bag_of block_no links) (bag_of block_no (sent links from to packet))

-- one that is taken has gone from it
abbrev pub TakenHasGone : Type 0
TakenHasGone = (block_no : BlockNo) (links : List (List Packet)) (from to : Inst) (lane : Lane) (packet : Packet) → AreLinks links → from < instances → to < instances
    → first_on links from to lane ≡ Some packet
    → Same (wires_at block_no packet.scn (to, packet.message) ++ bag_of block_no (taken links from to lane)) (bag_of block_no links)

-- and links without packets bear nothing
abbrev pub NothingIsBorne : Type 0
NothingIsBorne = (block_no : BlockNo) → bag_of block_no no_packets ≡ []
