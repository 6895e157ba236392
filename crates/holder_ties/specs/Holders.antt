-- What an instance does with a message about its image.
use Rattle.std.specs.Prelude.{◌≡◌, ◌<◌, List, [], ◌∷◌, Bool, Option, None, Some, option_map, true, false}
use Rattle.base_types.specs.declared.names.BlockNo.{BlockNo}
use Rattle.wire_net.specs.declared.message.Lane.TheVariants.{Main}
use Rattle.wire_net.specs.declared.message.Message.TheVariants as messages
use Rattle.wire_net.specs.declared.message.Mode.{Mode}
use Rattle.wire_net.specs.declared.message.Mode.TheVariants.{Null}
use Rattle.wire_net.specs.declared.message.Packet.{Packet}
use Rattle.wire_net.specs.declared.entry.PastHolder.{PastHolder}
use Rattle.wire_net.specs.declared.message.Shipment.{Shipment}
use Rattle.wire_net.specs.declared.message.Unfound.TheVariants as unfound
use Rattle.wire_net.specs.declared.entry.Entry.{Entry}
use Rattle.wire_net.specs.Links.{taken}
use Rattle.buffer_cache.specs.declared.place.Current.{Current}
use Rattle.block_image.specs.Block.{BlockContent}
use Rattle.buffer_cache.specs.Place.{given_up, read_from_disk, shipped, upgraded, with_ask, with_current, with_wish, without_grant, without_past}
use Rattle.block_protocol.specs.Steps.{IsForced}
use Rattle.block_protocol.specs.Block.{Block, GrantNo, Inst, Scn, Version, put}
use Rattle.protocol_ties.specs.Messages.{instances}
use Rattle.holder_ties.specs.Shown.{Comes, GoesOn, Holdings, IsShown, answered, clock_then, risen, with_place}

-- The image that an Invalidate names goes, and the answer is a Gone.
abbrev pub InvalidateIsObeyed : Type 0
InvalidateIsObeyed = (me from to : Inst) (scn : Scn) (grant : GrantNo) (links : List (List Packet)) (h : Holdings) (block_no : BlockNo) (entry : Entry) (block : Block)
    → IsShown links h block_no entry block → Comes me from links scn (messages.Invalidate block_no grant) → to < instances
    → GoesOn me scn links (answered me from to (clock_then me scn h) (messages.Gone block_no grant) links) (with_place me (without_grant grant (h.places me)) (risen me scn h)) block_no entry block

-- An order to ship an exclusive image, or an equal of a shared one, that finds none goes back to the master.
abbrev pub ShipComesBack : Type 0
ShipComesBack = (me from to : Inst) (scn : Scn) (grant new_grant : GrantNo) (asker : Inst) (links : List (List Packet)) (h : Holdings) (block_no : BlockNo) (entry : Entry) (block : Block)
    → IsShown links h block_no entry block → Comes me from links scn (messages.ShipTo block_no grant new_grant asker) → to < instances → (h.places me).current ≡ None
    → GoesOn me scn links (answered me from to (clock_then me scn h) (messages.Back (unfound.ShipTo block_no grant new_grant asker)) links) (risen me scn h) block_no entry block

abbrev pub ShareComesBack : Type 0
ShareComesBack = (me from to : Inst) (scn : Scn) (grant new_grant : GrantNo) (asker : Inst) (links : List (List Packet)) (h : Holdings) (block_no : BlockNo) (entry : Entry) (block : Block)
    → IsShown links h block_no entry block → Comes me from links scn (messages.ShareTo block_no grant new_grant asker) → to < instances → (h.places me).current ≡ None
    → GoesOn me scn links (answered me from to (clock_then me scn h) (messages.Back (unfound.ShareTo block_no grant new_grant asker)) links) (risen me scn h) block_no entry block

-- a shipment of a current image under a grant: the image itself moves, or an equal of a shared one goes
pub record IsOfImage (shipment : Shipment) (block_no : BlockNo) (grant : GrantNo) (now : Current) : Type 0 where
  pub numbered : shipment.block ≡ block_no
  pub granted : shipment.grant ≡ grant
  pub image : shipment.image ≡ now.image
  pub dirty : shipment.dirty ≡ now.dirty

-- An exclusive image moves to its asker once the redo on it is on the disk.
abbrev pub ImageIsShipped : Type 0
ImageIsShipped = (me from : Inst) (scn : Scn) (grant new_grant : GrantNo) (asker : Inst) (now : Current) (shipment : Shipment) (links : List (List Packet)) (h : Holdings) (block_no : BlockNo) (entry : Entry) (block : Block)
    → IsShown links h block_no entry block → Comes me from links scn (messages.ShipTo block_no grant new_grant asker)
    → (h.places me).current ≡ Some now → IsForced block me → IsOfImage shipment block_no new_grant now → shipment.shared ≡ false
    → GoesOn me scn links (answered me from asker (clock_then me scn h) (messages.Shipped shipment) links) (with_place me (given_up (h.places me)) (risen me scn h)) block_no entry block

-- An equal of a shared image goes to its asker.
abbrev pub ImageIsShared : Type 0
ImageIsShared = (me from : Inst) (scn : Scn) (grant new_grant : GrantNo) (asker : Inst) (now : Current) (shipment : Shipment) (links : List (List Packet)) (h : Holdings) (block_no : BlockNo) (entry : Entry) (block : Block)
    → IsShown links h block_no entry block → Comes me from links scn (messages.ShareTo block_no grant new_grant asker)
    → (h.places me).current ≡ Some now → IsForced block me → IsOfImage shipment block_no new_grant now → shipment.shared ≡ true
    → GoesOn me scn links (answered me from asker (clock_then me scn h) (messages.Shipped shipment) links) (risen me scn h) block_no entry block

-- An order for a copy that finds no image goes back to the master.
abbrev pub CopyComesBack : Type 0
CopyComesBack = (me from to : Inst) (scn : Scn) (grant : GrantNo) (reader : Inst) (links : List (List Packet)) (h : Holdings) (block_no : BlockNo) (entry : Entry) (block : Block)
    → IsShown links h block_no entry block → Comes me from links scn (messages.CopyTo block_no grant reader) → to < instances → (h.places me).current ≡ None
    → GoesOn me scn links (answered me from to (clock_then me scn h) (messages.Back (unfound.CopyTo block_no grant reader)) links) (risen me scn h) block_no entry block

-- A copy of the current image goes to its reader, once the redo on it is on the disk: it shows all up to the clock.
abbrev pub CopyIsServed : Type 0
CopyIsServed = (me from : Inst) (scn : Scn) (grant : GrantNo) (reader : Inst) (now : Current) (links : List (List Packet)) (h : Holdings) (block_no : BlockNo) (entry : Entry) (block : Block)
    → IsShown links h block_no entry block → Comes me from links scn (messages.CopyTo block_no grant reader)
    → (h.places me).current ≡ Some now → now.image.front.number ≡ block_no → IsForced block me
    → GoesOn me scn links (answered me from reader (clock_then me scn h) (messages.Copy now.image (clock_then me scn h)) links) (risen me scn h) block_no entry block

-- what is had once a copy came to an instance: nothing is asked for any more, and the copy is kept
abbrev pub with_copy : Inst → Version → Scn → Holdings → Holdings
with_copy me version upto h = record h {
  places = put h.places me (with_ask None (h.places me));
  copies = put h.copies me ((version, upto) ∷ h.copies me);
}

-- A copy comes to its reader.
abbrev pub CopyIsTaken : Type 0
CopyIsTaken = (me from : Inst) (scn : Scn) (image : BlockContent) (upto : Scn) (links : List (List Packet)) (h : Holdings) (block_no : BlockNo) (entry : Entry) (block : Block)
    → IsShown links h block_no entry block → Comes me from links scn (messages.Copy image upto) → image.front.number ≡ block_no
    → GoesOn me scn links (taken links from me Main) (with_copy me image.front.version upto (risen me scn h)) block_no entry block

-- A past image goes that the disk has in its version or a newer one.
abbrev pub PastIsDropped : Type 0
PastIsDropped = (me from : Inst) (scn : Scn) (version : Version) (links : List (List Packet)) (h : Holdings) (block_no : BlockNo) (entry : Entry) (block : Block)
    → IsShown links h block_no entry block → Comes me from links scn (messages.DropPast block_no version)
    → GoesOn me scn links (taken links from me Main) (with_place me (without_past version (h.places me)) (risen me scn h)) block_no entry block

-- A plea to write the image that isn't there goes back to the master.
abbrev pub PleaComesBack : Type 0
PleaComesBack = (me from to : Inst) (scn : Scn) (version : Version) (holder : Inst) (grant : GrantNo) (links : List (List Packet)) (h : Holdings) (block_no : BlockNo) (entry : Entry) (block : Block)
    → IsShown links h block_no entry block → Comes me from links scn (messages.WritePlease block_no version holder (Some grant)) → to < instances → (h.places me).current ≡ None
    → GoesOn me scn links (answered me from to (clock_then me scn h) (messages.Back (unfound.WritePlease block_no grant version holder)) links) (risen me scn h) block_no entry block

-- A plea to write a dirty image is noted.
abbrev pub PleaIsNoted : Type 0
PleaIsNoted = (me from : Inst) (scn : Scn) (version : Version) (holder : Inst) (grant : GrantNo) (links : List (List Packet)) (h : Holdings) (block_no : BlockNo) (entry : Entry) (block : Block)
    → IsShown links h block_no entry block → Comes me from links scn (messages.WritePlease block_no version holder (Some grant))
    → GoesOn me scn links (taken links from me Main) (with_place me (with_wish (h.places me)) (risen me scn h)) block_no entry block

-- Where the image is clean, a plea to write it is answered: the disk has it.
abbrev pub PleaIsMet : Type 0
PleaIsMet = (me from to : Inst) (scn : Scn) (version : Version) (holder : Inst) (grant : GrantNo) (now : Current) (links : List (List Packet)) (h : Holdings) (block_no : BlockNo) (entry : Entry) (block : Block)
    → IsShown links h block_no entry block → Comes me from links scn (messages.WritePlease block_no version holder (Some grant)) → to < instances
    → (h.places me).current ≡ Some now → now.dirty ≡ false
    → GoesOn me scn links (answered me from to (clock_then me scn h) (messages.Wrote block_no now.image.front.version) links) (risen me scn h) block_no entry block

-- a mode in which an image may be held
abbrev pub is_held : Mode → Bool
is_held Null = false
is_held _ = true

-- what is had once an image of a block has come to an instance: the past image and the copies of it go
abbrev pub with_image : Inst → Option Current → Holdings → Holdings
with_image me current h = record h {
  places = put h.places me (with_current current (h.places me));
  copies = put h.copies me [];
}

-- A shipped image is installed, and the master hears that its block is held.
abbrev pub ShipmentIsInstalled : Type 0
ShipmentIsInstalled = (me from to : Inst) (scn : Scn) (shipment : Shipment) (mode : Mode) (past : Option PastHolder) (links : List (List Packet)) (h : Holdings) (block_no : BlockNo) (entry : Entry) (block : Block)
    → IsShown links h block_no entry block → Comes me from links scn (messages.Shipped shipment) → shipment.block ≡ block_no → to < instances
    → GoesOn me scn links (answered me from to (clock_then me scn h) (messages.Done block_no shipment.grant mode past) links) (with_image me (Some (shipped shipment)) (risen me scn h)) block_no entry block

-- The disk's image is installed that was granted.
abbrev pub DiskImageIsInstalled : Type 0
DiskImageIsInstalled = (me from to : Inst) (scn : Scn) (grant : GrantNo) (mode : Mode) (image : BlockContent) (links : List (List Packet)) (h : Holdings) (block_no : BlockNo) (entry : Entry) (block : Block)
    → IsShown links h block_no entry block → Comes me from links scn (messages.Grant block_no grant mode true) → is_held mode ≡ true → to < instances → image.front.version ≡ h.disk
    → GoesOn me scn links (answered me from to (clock_then me scn h) (messages.Done block_no grant mode None) links) (with_image me (Some (read_from_disk grant mode image)) (risen me scn h)) block_no entry block

-- A shared image becomes the exclusive one.
abbrev pub ImageIsUpgraded : Type 0
ImageIsUpgraded = (me from to : Inst) (scn : Scn) (grant : GrantNo) (mode : Mode) (links : List (List Packet)) (h : Holdings) (block_no : BlockNo) (entry : Entry) (block : Block)
    → IsShown links h block_no entry block → Comes me from links scn (messages.Grant block_no grant mode false) → is_held mode ≡ true → to < instances
    → GoesOn me scn links (answered me from to (clock_then me scn h) (messages.Done block_no grant mode None) links) (with_image me (option_map (upgraded grant) (h.places me).current) (risen me scn h)) block_no entry block
