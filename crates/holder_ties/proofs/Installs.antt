-- A current image is installed.
use Rattle.std.proofs.Common.{◌≡◌, ◌∙◌, ℕ, ◌<◌, ◌≤◌, Bool, true, false, List, [], ◌∷◌, ◌++◌, refl, sym, ap, subst, arith}
use Rattle.std.specs.Prelude.{map, max, option_map, Option, Some, None}
use Rattle.base_types.specs.declared.names.BlockNo.{BlockNo}
use Rattle.wire_net.specs.declared.message.Message.{Message}
use Rattle.wire_net.specs.declared.message.Message.TheVariants as messages
use Rattle.wire_net.specs.declared.message.Mode.{Mode as HoldMode}
use Rattle.wire_net.specs.declared.message.Mode.TheVariants as modes
use Rattle.wire_net.specs.declared.message.Packet.{Packet}
use Rattle.wire_net.specs.declared.entry.PastHolder.{PastHolder}
use Rattle.wire_net.specs.declared.message.Lane.TheVariants.{Main}
use Rattle.wire_net.specs.declared.entry.Entry.{Entry}
use Rattle.wire_net.specs.Links.{taken}
use Rattle.buffer_cache.specs.declared.place.Current.{Current}
use Rattle.buffer_cache.specs.declared.place.Place.{Place}
use Rattle.buffer_cache.specs.Place.{read_from_disk, shipped, upgraded, with_current}
use Rattle.block_protocol.specs.Block.{Block, Carrier, Done, Exclusive, Grant, GrantNo, Grants, Hold, Inst, Operation, Quiet, Shared, Shipped, put}
use Rattle.block_protocol.specs.Sound.{IsServedOnce}
use Rattle.block_protocol.specs.Steps.{installs_from_disk, installs_held, installs_shipped}
use Rattle.block_protocol.specs.Wire.{DoneWire, GrantWire, ShippedWire, Wire, flights, gather, of_memo, of_note, of_request, Same, more}
use Rattle.block_protocol.specs.Block.{here}
use Rattle.block_protocol.proofs.Basics.{put-elim, put-same}
use Rattle.protocol_ties.specs.Entries.{IsOperation}
use Rattle.protocol_ties.specs.Messages.{block_of, hold_of, instances, pleas_of, shipped_hold, wire_of}
use Rattle.protocol_ties.specs.Bags.{bag_of}
use Rattle.protocol_ties.specs.MasterRuns.{raised}
use Rattle.protocol_ties.specs.Places.{ArePlaces}
use Rattle.protocol_ties.proofs.Origins.{carrier-taken}
use Rattle.protocol_ties.proofs.Places.{cache-installs, cache-reads, cache-upgrades}
use Rattle.holder_ties.specs.HolderRuns.{HolderRun, goes, stays}
use Rattle.holder_ties.specs.Shown.{Comes, GoesOn, Holdings, IsShown, IsUnasked, IsUpgrade, answered, clock_then, risen}
use Rattle.holder_ties.specs.Holders.{DiskImageIsInstalled, ImageIsUpgraded, ShipmentIsInstalled, is_held, with_image}
use Rattle.holder_ties.proofs.Taking.{bag-taken, goes-answering, raised-sound}
use Rattle.holder_ties.proofs.Orders.{other-carrier}

module _ (me from scn : ℕ) (links : List (List Packet)) (h : Holdings) (block_no : BlockNo) (entry : Entry) (block : Block)
    (is : IsShown links h block_no entry block) (message : Message) (about : block_of message ≡ Some block_no) (comes : Comes me from links scn message)
    (granted : Hold) (carrier : Carrier) (wire : Wire) (bears : wire_of me scn message ≡ Some wire) where
  abbrev wires : List Wire
  wires = bag_of block_no (taken links from me Main) ++ pleas_of entry.queue

  abbrev rest : List Wire
  rest = gather of_request instances block.request ++ (map of_note block.notes ++ map of_memo block.memos)

  -- what is under way on the block is taken
  pub under-way : Same (wire ∷ wires) (flights instances block)
  under-way = bag-taken me from scn message links h block_no entry block is comes about wire bears

  pub comes-in : (to : Inst) (grant : GrantNo) (mode : HoldMode) (past : Option PastHolder) (current : Option Current) (after : Block) → to < instances → granted.grant ≡ grant
      → block.op ≡ Grants me granted carrier → Same wires rest → HolderRun me (raised me scn block) after → (block.op ≡ Grants me granted carrier → block.request me ≡ Quiet)
      → (frame : _) (past_after : _) (version : _) (dirty : _) → after ≡ record (raised me scn block) { frame = frame; past = past_after; version = version; dirty = dirty; op = Grants me granted Done; copies = put block.copies me [] }
      → ArePlaces (put h.places me (with_current current (h.places me))) after
      → GoesOn me scn links (answered me from to (clock_then me scn h) (messages.Done block_no grant mode past) links) (with_image me current (risen me scn h)) block_no entry block
  comes-in to grant mode past current after there same op left run quiet frame past_after version dirty shape images =
      let now : Block = record (raised me scn block) { frame = frame; past = past_after; version = version; dirty = dirty; op = Grants me granted Done; copies = put block.copies me [] } in
      goes-answering me from scn message links h block_no entry block is comes about to (clock_then me scn h) (messages.Done block_no grant mode past) there refl
      (with_image me current (risen me scn h)) now (DoneWire granted.grant) (ap (λ g. Some (DoneWire g)) (sym same))
      (subst (λ (s : Block). HolderRun me (raised me scn block) s) shape run)
      (record {
        lists = is.shows.tied.lists;
        alone = is.shows.tied.alone;
        sized = is.shows.tied.sized;
        draws = is.shows.tied.draws;
        operation = other-carrier entry.op me granted carrier Done block.lists (subst (λ (o : Operation). IsOperation entry.op o block.lists) op is.shows.tied.operation);
        known = is.shows.tied.known;
      })
      (more (DoneWire granted.grant) wires (DoneWire granted.grant ∷ rest) rest (here rest) left) is.shows.requests
      (record {
        images = subst (λ (s : Block). ArePlaces (put h.places me (with_current current (h.places me))) s) shape images;
        unasked = λ i. put-elim (λ (p : Place). p.asked ≡ None → IsUnasked now i) h.places me (with_current current (h.places me)) i
            (λ e none. subst (λ (k : ℕ). IsUnasked now k) e (quiet op, tt))
            (λ ne none. ((is.around.unasked i none).0, tt));
        copies = ap (λ (c : Inst → List (ℕ × ℕ)). put c me []) is.around.copies;
        clock = ap (λ (c : Inst → ℕ). put c me (max (c me) scn)) is.around.clock;
        records = is.around.records;
        disk = is.around.disk;
      }) tt

  -- the clock has risen to the packet's
  pub has-risen : scn ≤ (raised me scn block).clock me
  has-risen = let le : scn ≤ max (block.clock me) scn = omega arith in subst (λ (c : ℕ). scn ≤ c) (sym (put-same block.clock me (max (block.clock me) scn))) le

-- whose request an operation serves has no other one out
once : (block : Block) (op : Operation) → block.op ≡ op → IsServedOnce block.request block.op → IsServedOnce block.request op
once block op e o = subst (λ (x : Operation). IsServedOnce block.request x) e o

shipped-grant : (shared : Bool) (grant : ℕ) → (shipped_hold shared grant).grant ≡ grant
shipped-grant true grant = refl
shipped-grant false grant = refl

pub shipment-is-installed : ShipmentIsInstalled
shipment-is-installed me from to scn shipment mode past links h block_no entry block is comes about there =
    let granted : Hold = shipped_hold shipment.shared shipment.grant in
    let carrier : Carrier = Shipped shipment.image.front.version shipment.dirty scn in
    let wire : Wire = ShippedWire me granted shipment.image.front.version shipment.dirty scn in
    let message : Message = messages.Shipped shipment in
    let t = carrier-taken wire (wires me from scn links h block_no entry block is message (ap Some about) comes granted carrier wire refl) block (Grants me granted carrier) refl refl refl refl
    (under-way me from scn links h block_no entry block is message (ap Some about) comes granted carrier wire refl) in
    let le = has-risen me from scn links h block_no entry block is message (ap Some about) comes granted carrier wire refl in
    comes-in me from scn links h block_no entry block is message (ap Some about) comes granted carrier wire refl to shipment.grant mode past (Some (shipped shipment)) _ there (shipped-grant shipment.shared shipment.grant)
    t.0 t.1 (goes (installs_shipped (raised me scn block) me granted shipment.image.front.version shipment.dirty scn t.0 le) refl (stays _))
    (λ op. once block (Grants me granted carrier) op is.sound.served.once)
    (put block.frame me (Some granted)) (put block.past me None) (put block.version me shipment.image.front.version) (put block.dirty me shipment.dirty) refl
    (cache-installs (raised me scn block) h.places me shipment scn t.0 le is.around.images)

-- a grant in a mode that an image may be held in
held-so : (mode : HoldMode) (grant : ℕ) → is_held mode ≡ true → (hold : Hold) × (hold_of mode grant ≡ Some hold) × (hold.grant ≡ grant)
held-so modes.Null grant e = absurd (let clash : false ≡ true = e in cc)
held-so modes.Shared grant e = (record { mode = Shared; grant = grant }, refl, refl)
held-so modes.Exclusive grant e = (record { mode = Exclusive; grant = grant }, refl, refl)

pub disk-image-is-installed : DiskImageIsInstalled
disk-image-is-installed me from to scn grant mode image links h block_no entry block is comes may there number =
    let k = held-so mode grant may in
    let carrier : Carrier = Grant true scn in
    let wire : Wire = GrantWire me k.0 true scn in
    let message : Message = messages.Grant block_no grant mode true in
    let bears : wire_of me scn message ≡ Some wire = ap (option_map (λ (hold : Hold). GrantWire me hold true scn)) k.1 in
    let t = carrier-taken wire (wires me from scn links h block_no entry block is message refl comes k.0 carrier wire bears) block (Grants me k.0 carrier) refl refl refl refl
    (under-way me from scn links h block_no entry block is message refl comes k.0 carrier wire bears) in
    let le = has-risen me from scn links h block_no entry block is message refl comes k.0 carrier wire bears in
    comes-in me from scn links h block_no entry block is message refl comes k.0 carrier wire bears to grant mode None (Some (read_from_disk grant mode image)) _ there k.2
    t.0 t.1 (goes (installs_from_disk (raised me scn block) me k.0 scn t.0 le) refl (stays _))
    (λ op. once block (Grants me k.0 carrier) op is.sound.served.once)
    (put block.frame me (Some k.0)) (put block.past me None) (put block.version me block.disk) (put block.dirty me false) refl
    (subst (λ (g : ℕ). ArePlaces (put h.places me (with_current (Some (read_from_disk g mode image)) (h.places me))) (record (raised me scn block) { frame = put block.frame me (Some k.0); past = put block.past me None; version = put block.version me block.disk; dirty = put block.dirty me false; op = Grants me k.0 Done; copies = put block.copies me [] })) k.2
    (cache-reads (raised me scn block) h.places me mode k.0 image scn t.0 le (subst (λ (g : ℕ). hold_of mode g ≡ Some k.0) (sym k.2) k.1) (number ∙ sym is.around.disk) is.around.images))

pub image-is-upgraded : ImageIsUpgraded
image-is-upgraded me from to scn grant mode links h block_no entry block is comes may there =
    let k = held-so mode grant may in
    let carrier : Carrier = Grant false scn in
    let wire : Wire = GrantWire me k.0 false scn in
    let message : Message = messages.Grant block_no grant mode false in
    let bears : wire_of me scn message ≡ Some wire = ap (option_map (λ (hold : Hold). GrantWire me hold false scn)) k.1 in
    let t = carrier-taken wire (wires me from scn links h block_no entry block is message refl comes k.0 carrier wire bears) block (Grants me k.0 carrier) refl refl refl refl
    (under-way me from scn links h block_no entry block is message refl comes k.0 carrier wire bears) in
    let le = has-risen me from scn links h block_no entry block is message refl comes k.0 carrier wire bears in
    let exclusive : k.0.mode ≡ Exclusive = subst (λ (o : Operation). IsUpgrade o) t.0 is.upgrade in
    comes-in me from scn links h block_no entry block is message refl comes k.0 carrier wire bears to grant mode None (option_map (upgraded grant) (h.places me).current) _ there k.2
    t.0 t.1 (goes (installs_held (raised me scn block) me k.0 scn t.0 le) refl (stays _))
    (λ op. once block (Grants me k.0 carrier) op is.sound.served.once)
    (put block.frame me (Some k.0)) (put block.past me None) block.version block.dirty refl
    (subst (λ (g : ℕ). ArePlaces (put h.places me (with_current (option_map (upgraded g) (h.places me).current) (h.places me))) (record (raised me scn block) { frame = put block.frame me (Some k.0); past = put block.past me None; op = Grants me k.0 Done; copies = put block.copies me [] })) k.2
    (cache-upgrades (raised me scn block) h.places me k.0 scn t.0 le (raised-sound me scn block is.sound) exclusive is.around.images))
