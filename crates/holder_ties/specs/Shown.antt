-- What the instances have of a block, its entry and what waits on the links, beside a state of the protocol.
use Rattle.std.specs.Prelude.{◌≡◌, ◌≢◌, ◌<◌, max, List, None, Some, false}
use Rattle.base_types.specs.declared.names.BlockNo.{BlockNo}
use Rattle.wire_net.specs.declared.message.Lane.TheVariants.{Main}
use Rattle.wire_net.specs.declared.message.Message.{Message}
use Rattle.wire_net.specs.declared.message.Packet.{Packet}
use Rattle.wire_net.specs.declared.entry.Entry.{Entry}
use Rattle.wire_net.specs.Links.{first_on, sent, taken}
use Rattle.buffer_cache.specs.declared.place.Place.{Place}
use Rattle.block_protocol.specs.Block.{Block, Exclusive, Grant, Grants, Inst, Operation, Quiet, Record, Scn, Version, put}
use Rattle.block_protocol.specs.Sound.{Sound}
use Rattle.block_protocol.specs.Steps.{ServesNot}
use Rattle.block_protocol.specs.Wire.{Same}
use Rattle.protocol_ties.specs.Messages.{instances}
use Rattle.protocol_ties.specs.Entries.{Shows}
use Rattle.protocol_ties.specs.Bags.{AreLinks, bag_of}
use Rattle.protocol_ties.specs.MasterRuns.{raised}
use Rattle.protocol_ties.specs.Places.{ArePlaces}
use Rattle.holder_ties.specs.HolderRuns.{HolderRun}

-- What the instances and the disk have of a block: what each has in its cache, the copies that it keeps, each with the SCN up to
-- which it shows all, its clock, the redo records on the block, and the version on the disk.
pub record Holdings : Type 0 where
  pub places : Inst → Place
  pub copies : Inst → List (Version × Scn)
  pub clock : Inst → Scn
  pub records : List Record
  pub disk : Version

-- An instance has no request out, and no operation serves one.
abbrev pub IsUnasked : Block → Inst → Type 0
IsUnasked block inst = (block.request inst ≡ Quiet) × ServesNot block.op inst

-- A state of the protocol has these, and who hasn't asked for the block has no request out.
pub record AreHoldings (h : Holdings) (block : Block) : Type 0 where
  pub images : ArePlaces h.places block
  pub unasked : (inst : Inst) → (h.places inst).asked ≡ None → IsUnasked block inst
  pub copies : block.copies ≡ h.copies
  pub clock : block.clock ≡ h.clock
  pub records : block.records ≡ h.records
  pub disk : block.disk ≡ h.disk

-- An image that becomes an exclusive one is granted so.
abbrev pub IsUpgrade : Operation → Type 0
IsUpgrade (Grants asker granted (Grant false scn)) = granted.mode ≡ Exclusive
IsUpgrade _ = Unit {0}

-- The entry of a block, what waits on the links and what is had of the block show its state.
pub record IsShown (links : List (List Packet)) (h : Holdings) (block_no : BlockNo) (entry : Entry) (block : Block) : Type 0 where
  pub sized : AreLinks links
  pub sound : Sound block
  pub shows : Shows (bag_of block_no links) entry block
  pub around : AreHoldings h block
  pub upgrade : IsUpgrade block.op

-- A packet with this message is the first one on a link to an instance.
pub record Comes (me from : Inst) (links : List (List Packet)) (scn : Scn) (message : Message) : Type 0 where
  pub receiver : me < instances
  pub sender : from < instances
  pub first : first_on links from me Main ≡ Some (record { scn = scn; message = message })

-- the clock of an instance once it has risen to a packet's
abbrev pub clock_then : Inst → Scn → Holdings → Scn
clock_then me scn h = max (h.clock me) scn

-- what is had once an instance's clock has risen to a packet's
abbrev pub risen : Inst → Scn → Holdings → Holdings
risen me scn h = record h { clock = put h.clock me (clock_then me scn h) }

-- what is had with another place in the cache of an instance
abbrev pub with_place : Inst → Place → Holdings → Holdings
with_place me place h = record h { places = put h.places me place }

-- the links after an instance took the first packet of one, and sent an answer in a packet of its clock
abbrev pub answered : Inst → Inst → Inst → Scn → Message → List (List Packet) → List (List Packet)
answered me from to clock message links = sent (taken links from me Main) me to (record { scn = clock; message = message })

-- A block has gone on by steps of an instance: other links and holdings show it now. Of the other blocks the same messages are under
-- way as before.
pub record Does (me : Inst) (links later_links : List (List Packet)) (later : Holdings) (block_no : BlockNo) (entry : Entry) (block : Block) : Type 0 where
  pub after : Block
  pub run : HolderRun me block after
  pub shown : IsShown later_links later block_no entry after
  pub others : (other : BlockNo) → other ≢ block_no → Same (bag_of other links) (bag_of other later_links)

-- The same once the instance's clock has risen to a packet's.
abbrev pub GoesOn : Inst → Scn → List (List Packet) → List (List Packet) → Holdings → BlockNo → Entry → Block → Type 0
GoesOn me scn links later_links later block_no entry block = Does me links later_links later block_no entry (raised me scn block)
