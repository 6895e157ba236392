-- An order to ship an image is followed.
use Rattle.std.proofs.Common.{◌≡◌, ◌≢◌, ◌∙◌, ℕ, ◌<◌, Bool, true, false, List, ◌∷◌, ◌++◌, refl, sym, ap, subst}
use Rattle.std.specs.Prelude.{map, Option, Some, None}
use Rattle.base_types.specs.declared.names.BlockNo.{BlockNo}
use Rattle.wire_net.specs.declared.message.Message.{Message}
use Rattle.wire_net.specs.declared.message.Message.TheVariants as messages
use Rattle.wire_net.specs.declared.message.Packet.{Packet}
use Rattle.wire_net.specs.declared.message.Shipment.{Shipment}
use Rattle.wire_net.specs.declared.message.Unfound.TheVariants as unfound
use Rattle.wire_net.specs.declared.message.Lane.TheVariants.{Main}
use Rattle.wire_net.specs.declared.entry.Entry.{Entry}
use Rattle.wire_net.specs.declared.entry.Operation.{Operation}
use Rattle.wire_net.specs.Links.{taken}
use Rattle.buffer_cache.specs.declared.place.Current.{Current}
use Rattle.buffer_cache.specs.declared.place.Place.{Place}
use Rattle.buffer_cache.specs.Place.{given_up}
use Rattle.block_protocol.specs.Block.{BackShip, Block, Carrier, Exclusive, GrantNo, Grants, Hold, Inst, Quiet, Shared, ShipTo, Shipped, here, past_kept, put}
use Rattle.block_protocol.specs.Sound.{Listing}
use Rattle.block_protocol.specs.Steps.{IsForced, ServesNot, left as left_at, ship_comes_back, ships}
use Rattle.block_protocol.specs.Wire.{BackShipWire, ShippedWire, ShipToWire, Wire, gather, of_memo, of_note, of_request, Same, more}
use Rattle.block_protocol.proofs.Basics.{put-elim}
use Rattle.protocol_ties.specs.Entries.{IsOperation}
use Rattle.protocol_ties.specs.Messages.{block_of, instances, pleas_of, shipped_hold, wire_of}
use Rattle.protocol_ties.specs.Bags.{bag_of}
use Rattle.protocol_ties.specs.MasterRuns.{raised}
use Rattle.protocol_ties.specs.Places.{ArePlaces, IsPlaceOf, hold_at}
use Rattle.protocol_ties.proofs.Origins.{carrier-taken}
use Rattle.protocol_ties.proofs.Places.{cache-ships}
use Rattle.holder_ties.specs.HolderRuns.{goes, stays}
use Rattle.holder_ties.specs.Shown.{Comes, GoesOn, Holdings, IsShown, IsUnasked, answered, clock_then, risen}
use Rattle.holder_ties.specs.Holders.{ImageIsShared, ImageIsShipped, IsOfImage, ShareComesBack, ShipComesBack}
use Rattle.holder_ties.proofs.Taking.{asked-stays, bag-taken, goes-answering, risen-clock, stays-around}

-- which message carries the grant the entry doesn't tell
pub other-carrier : (o : Option Operation) (a : ℕ) (k : Hold) (c d : Carrier) (lists : Listing) → IsOperation o (Grants a k c) lists → IsOperation o (Grants a k d) lists
other-carrier None a k c d lists t = absurd t
other-carrier (Some op) a k c d lists t = t

-- without an image nothing is held, and with one something is
pub none-held : (block : Block) (places : Inst → Place) (i : ℕ) → ArePlaces places block → (places i).current ≡ None → block.frame i ≡ None
none-held block places i are none = (are i).held ∙ ap hold_at none

pub one-held : (block : Block) (places : Inst → Place) (i : ℕ) (now : Current) → ArePlaces places block → (places i).current ≡ Some now → (hold : Hold) × (block.frame i ≡ Some hold)
one-held block places i now are is = go (block.frame i) refl
  where
    go : (o : Option Hold) → block.frame i ≡ o → (hold : Hold) × (block.frame i ≡ Some hold)
    go None e = absurd ((are i).there now is e)
    go (Some hold) e = (hold, e)

-- a place that is put where it was changes nothing
pub put-back : (block : Block) (places : Inst → Place) (i : ℕ) → ArePlaces (put places i (places i)) block → ArePlaces places block
put-back block places i are j =
    subst (λ (p : Place). IsPlaceOf (block.frame j) (block.version j) (block.dirty j) (block.past j) p.current p.past)
    (put-elim (λ p. p ≡ places j) places i (places i) j (λ same. ap places same) (λ ne. refl)) (are j)

-- a hold by its parts
hold-by-parts : (shared is : Bool) (grant of : ℕ) → shared ≡ is → grant ≡ of → shipped_hold shared grant ≡ shipped_hold is of
hold-by-parts shared is grant of a b = rw (a, b) refl

-- who is granted is one of the instances
pub asker-numbered : (o : Option Operation) (a : ℕ) (k : Hold) (c : Carrier) (lists : Listing) → IsOperation o (Grants a k c) lists → a < instances
asker-numbered None a k c lists t = absurd t
asker-numbered (Some op) a k c lists t = t.instance

module _ (me from scn : ℕ) (links : List (List Packet)) (h : Holdings) (block_no : BlockNo) (entry : Entry) (block : Block)
    (is : IsShown links h block_no entry block) (message : Message) (about : block_of message ≡ Some block_no) (comes : Comes me from links scn message)
    (grant : GrantNo) (asker : Inst) (granted : Hold) (order : wire_of me scn message ≡ Some (ShipToWire me grant asker granted)) where
  abbrev clock : ℕ
  clock = clock_then me scn h

  abbrev wires : List Wire
  wires = bag_of block_no (taken links from me Main) ++ pleas_of entry.queue

  abbrev rest : List Wire
  rest = gather of_request instances block.request ++ (map of_note block.notes ++ map of_memo block.memos)

  pub ordered : (block.op ≡ Grants asker granted (ShipTo me grant)) × Same wires rest
  ordered =
      carrier-taken (ShipToWire me grant asker granted) wires block (Grants asker granted (ShipTo me grant)) refl refl refl refl
      (bag-taken me from scn message links h block_no entry block is comes about (ShipToWire me grant asker granted) order)

  operation : (c : Carrier) → IsOperation entry.op (Grants asker granted c) block.lists
  operation c =
      other-carrier entry.op asker granted (ShipTo me grant) c block.lists
      (subst (λ o. IsOperation entry.op o block.lists) ordered.0 is.shows.tied.operation)

  -- who isn't served by the order isn't either by what comes of it
  still-served : (c : Carrier) → ((i : Inst) → asker ≢ i → ServesNot (Grants asker granted c) i) → (i : Inst) → IsUnasked block i → (block.request i ≡ Quiet) × ServesNot (Grants asker granted c) i
  still-served c serves i u = (u.0, serves i (subst (λ o. ServesNot o i) ordered.0 u.1))

  pub comes-back : (to : Inst) (answer : Message) → to < instances → block_of answer ≡ Some block_no → ((c : ℕ) → wire_of to c answer ≡ Some (BackShipWire grant asker granted c)) → (h.places me).current ≡ None
      → GoesOn me scn links (answered me from to clock answer links) (risen me scn h) block_no entry block
  comes-back to answer there told bears none =
      let bound : ℕ = (raised me scn block).clock me in
      goes-answering me from scn message links h block_no entry block is comes about to clock answer there told (risen me scn h)
      (record (raised me scn block) { op = Grants asker granted (BackShip grant bound) }) (BackShipWire grant asker granted bound)
      (bears clock ∙ ap (λ c. Some (BackShipWire grant asker granted c)) (risen-clock me scn h block is.around))
      (goes (ship_comes_back (raised me scn block) asker granted me grant ordered.0 (none-held block h.places me is.around.images none)) refl
      (stays (record (raised me scn block) { op = Grants asker granted (BackShip grant bound) })))
      (record { lists = is.shows.tied.lists; alone = is.shows.tied.alone; sized = is.shows.tied.sized; draws = is.shows.tied.draws; operation = operation (BackShip grant bound); known = is.shows.tied.known })
      (more (BackShipWire grant asker granted bound) wires (BackShipWire grant asker granted bound ∷ rest) rest (here rest) ordered.1)
      is.shows.requests
      (stays-around me scn h block (record (raised me scn block) { op = Grants asker granted (BackShip grant bound) }) h.places is.around is.around.images (λ i. refl) (still-served (BackShip grant bound) (λ i n. n)) refl refl refl refl) tt

  there : asker < instances
  there = asker-numbered entry.op asker granted (ShipTo me grant) block.lists (subst (λ o. IsOperation entry.op o block.lists) ordered.0 is.shows.tied.operation)

  pub goes-out : (now : Current) (shipment : Shipment) (later : Inst → Place) → (h.places me).current ≡ Some now → IsForced block me → IsOfImage shipment block_no granted.grant now → shipped_hold shipment.shared shipment.grant ≡ granted
      → ((i : Inst) → (later i).asked ≡ (h.places i).asked)
      → ((hold : Hold) (image : block.frame me ≡ Some hold) (forced : IsForced (raised me scn block) me)
      → ArePlaces later (record (raised me scn block) { frame = left_at block.frame me granted.mode; past = past_kept block.past me granted.mode (block.dirty me) (block.version me); op = Grants asker granted (Shipped (block.version me) (block.dirty me) ((raised me scn block).clock me)) }))
      → GoesOn me scn links (answered me from asker clock (messages.Shipped shipment) links) (record (risen me scn h) { places = later }) block_no entry block
  goes-out now shipment later held forced of same asked images =
      let bound : ℕ = (raised me scn block).clock me in
      let image = one-held block h.places me now is.around.images held in
      let carrier : Carrier = Shipped (block.version me) (block.dirty me) bound in
      let wire : Wire = ShippedWire asker granted (block.version me) (block.dirty me) bound in
      let number : block.version me ≡ shipment.image.front.version = (is.around.images me).numbered now held ∙ ap (λ x. x.front.version) (sym of.image) in
      let mark : block.dirty me ≡ shipment.dirty = (is.around.images me).marked now held ∙ sym of.dirty in
      goes-answering me from scn message links h block_no entry block is comes about asker clock (messages.Shipped shipment) there (ap Some of.numbered) (record (risen me scn h) { places = later })
      (record (raised me scn block) { frame = left_at block.frame me granted.mode; past = past_kept block.past me granted.mode (block.dirty me) (block.version me); op = Grants asker granted carrier }) wire
      (ap Some (rw (sym same, number, mark, sym (risen-clock me scn h block is.around)) refl))
      (goes (ships (raised me scn block) asker granted me grant image.0 ordered.0 image.1 forced) refl
      (stays (record (raised me scn block) { frame = left_at block.frame me granted.mode; past = past_kept block.past me granted.mode (block.dirty me) (block.version me); op = Grants asker granted carrier })))
      (record { lists = is.shows.tied.lists; alone = is.shows.tied.alone; sized = is.shows.tied.sized; draws = is.shows.tied.draws; operation = operation carrier; known = is.shows.tied.known })
      (more wire wires (wire ∷ rest) rest (here rest) ordered.1)
      is.shows.requests
      (stays-around me scn h block (record (raised me scn block) { frame = left_at block.frame me granted.mode; past = past_kept block.past me granted.mode (block.dirty me) (block.version me); op = Grants asker granted carrier }) later is.around (images image.0 image.1 forced) asked (still-served carrier (λ i n. n)) refl refl refl refl) tt

pub ship-comes-back : ShipComesBack
ship-comes-back me from to scn grant new_grant asker links h block_no entry block is comes there none =
    comes-back me from scn links h block_no entry block is (messages.ShipTo block_no grant new_grant asker) refl comes grant asker (record { mode = Exclusive; grant = new_grant }) refl
    to (messages.Back (unfound.ShipTo block_no grant new_grant asker)) there refl (λ c. refl) none

pub share-comes-back : ShareComesBack
share-comes-back me from to scn grant new_grant asker links h block_no entry block is comes there none =
    comes-back me from scn links h block_no entry block is (messages.ShareTo block_no grant new_grant asker) refl comes grant asker (record { mode = Shared; grant = new_grant }) refl
    to (messages.Back (unfound.ShareTo block_no grant new_grant asker)) there refl (λ c. refl) none

pub image-is-shipped : ImageIsShipped
image-is-shipped me from scn grant new_grant asker now shipment links h block_no entry block is comes held forced of alone =
    let granted : Hold = record { mode = Exclusive; grant = new_grant } in
    goes-out me from scn links h block_no entry block is (messages.ShipTo block_no grant new_grant asker) refl comes grant asker granted refl now shipment (put h.places me (given_up (h.places me))) held forced of
    (hold-by-parts shipment.shared false shipment.grant new_grant alone of.granted) (asked-stays h.places me (given_up (h.places me)) refl)
    (λ hold image done.
    cache-ships (raised me scn block) h.places asker granted me grant hold
    (ordered me from scn links h block_no entry block is (messages.ShipTo block_no grant new_grant asker) refl comes grant asker granted refl).0 image done is.around.images)

pub image-is-shared : ImageIsShared
image-is-shared me from scn grant new_grant asker now shipment links h block_no entry block is comes held forced of shared =
    let granted : Hold = record { mode = Shared; grant = new_grant } in
    goes-out me from scn links h block_no entry block is (messages.ShareTo block_no grant new_grant asker) refl comes grant asker granted refl now shipment h.places held forced of
    (hold-by-parts shipment.shared true shipment.grant new_grant shared of.granted) (λ i. refl)
    (λ hold image done.
    let after : Block = record (raised me scn block) { op = Grants asker granted (Shipped (block.version me) (block.dirty me) ((raised me scn block).clock me)) } in
    put-back after h.places me
    (cache-ships (raised me scn block) h.places asker granted me grant hold
    (ordered me from scn links h block_no entry block is (messages.ShareTo block_no grant new_grant asker) refl comes grant asker granted refl).0 image done is.around.images))
