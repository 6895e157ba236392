-- What an instance does with its image of its own accord.
use Rattle.std.specs.Prelude.{◌≡◌, ◌<◌, ◌≤◌, List, length, None, Some, true, false}
use Rattle.base_types.specs.declared.names.BlockNo.{BlockNo}
use Rattle.wire_net.specs.declared.message.Message.{Message}
use Rattle.wire_net.specs.declared.message.Message.TheVariants as messages
use Rattle.wire_net.specs.declared.message.Mode.{Mode}
use Rattle.wire_net.specs.declared.message.Mode.TheVariants as modes
use Rattle.wire_net.specs.declared.message.Packet.{Packet}
use Rattle.wire_net.specs.declared.entry.Entry.{Entry}
use Rattle.wire_net.specs.Links.{sent}
use Rattle.buffer_cache.specs.declared.place.Current.{Current}
use Rattle.buffer_cache.specs.declared.place.Place.{Place}
use Rattle.buffer_cache.specs.Place.{with_ask, with_past_asked, with_written, without_clean}
use Rattle.block_protocol.specs.Block.{Block, Inst, Version}
use Rattle.block_protocol.specs.Steps.{IsForced}
use Rattle.protocol_ties.specs.Messages.{instances}
use Rattle.holder_ties.specs.Holders.{is_held}
use Rattle.holder_ties.specs.Shown.{Does, Holdings, IsShown, with_place}

-- the links after an instance sent a message in a packet of its clock
abbrev pub told : Inst → Inst → Message → Holdings → List (List Packet) → List (List Packet)
told me to message h links = sent links me to (record { scn = h.clock me; message = message })

-- An instance may ask for a block in a mode beside what it holds: nothing, or for an exclusive one a shared image.
abbrev pub MayAskBeside : Mode → Mode → Place → Type 0
MayAskBeside mode modes.Null place = (place.current ≡ None) × (is_held mode ≡ true)
MayAskBeside mode modes.Shared place = (mode ≡ modes.Exclusive) × ((now : Current) × (place.current ≡ Some now) × (now.mode ≡ modes.Shared))
MayAskBeside mode modes.Exclusive place = ⊥

-- An instance asks for the block.
abbrev pub AskGoesOut : Type 0
AskGoesOut = (me to : Inst) (mode held : Mode) (links : List (List Packet)) (h : Holdings) (block_no : BlockNo) (entry : Entry) (block : Block)
    → IsShown links h block_no entry block → me < instances → to < instances → (h.places me).asked ≡ None → MayAskBeside mode held (h.places me)
    → Does me links (told me to (messages.Ask block_no mode held me) h links) (with_place me (with_ask (Some mode) (h.places me)) h) block_no entry block

-- A clean image that isn't asked for leaves its frame.
abbrev pub ImageIsEvicted : Type 0
ImageIsEvicted = (me to : Inst) (now : Current) (links : List (List Packet)) (h : Holdings) (block_no : BlockNo) (entry : Entry) (block : Block)
    → IsShown links h block_no entry block → me < instances → to < instances → (h.places me).asked ≡ None → (h.places me).current ≡ Some now → now.dirty ≡ false
    → Does me links (told me to (messages.GaveUp block_no now.grant) h links) (with_place me (without_clean (h.places me)) h) block_no entry block

-- An instance asks that the block be written, so that its past image may go.
abbrev pub WriteIsPleaded : Type 0
WriteIsPleaded = (me to : Inst) (version : Version) (links : List (List Packet)) (h : Holdings) (block_no : BlockNo) (entry : Entry) (block : Block)
    → IsShown links h block_no entry block → me < instances → to < instances → version ≤ length h.records
    → Does me links (told me to (messages.WritePlease block_no version me None) h links) (with_place me (with_past_asked (h.places me)) h) block_no entry block

-- what is had once an instance has written its image
abbrev pub with_image_written : Inst → Current → Holdings → Holdings
with_image_written me now h = record (with_place me (with_written (h.places me)) h) { disk = now.image.front.version }

-- A dirty image is written once the redo on it is on the disk.
abbrev pub ImageIsWritten : Type 0
ImageIsWritten = (me : Inst) (now : Current) (links : List (List Packet)) (h : Holdings) (block_no : BlockNo) (entry : Entry) (block : Block)
    → IsShown links h block_no entry block → (h.places me).current ≡ Some now → now.dirty ≡ true → IsForced block me
    → Does me links links (with_image_written me now h) block_no entry block

-- The master is told that the disk has a clean image.
abbrev pub WriteIsTold : Type 0
WriteIsTold = (me to : Inst) (now : Current) (links : List (List Packet)) (h : Holdings) (block_no : BlockNo) (entry : Entry) (block : Block)
    → IsShown links h block_no entry block → me < instances → to < instances → (h.places me).current ≡ Some now → now.dirty ≡ false
    → Does me links (told me to (messages.Wrote block_no now.image.front.version) h links) h block_no entry block
