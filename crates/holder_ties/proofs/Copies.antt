-- Copies are served and taken.
use Rattle.std.proofs.Common.{◌≡◌, ◌∙◌, ℕ, ◌<◌, ◌≤◌, List, [], ◌∷◌, ◌++◌, refl, sym, ap, subst, arith}
use Rattle.std.specs.Prelude.{map, max, Some, None}
use Rattle.base_types.specs.declared.names.BlockNo.{BlockNo}
use Rattle.wire_net.specs.declared.message.Message.{Message}
use Rattle.wire_net.specs.declared.message.Message.TheVariants as messages
use Rattle.wire_net.specs.declared.message.Packet.{Packet}
use Rattle.wire_net.specs.declared.message.Unfound.TheVariants as unfound
use Rattle.wire_net.specs.declared.message.Lane.TheVariants.{Main}
use Rattle.wire_net.specs.declared.entry.Entry.{Entry}
use Rattle.wire_net.specs.Links.{taken}
use Rattle.buffer_cache.specs.declared.place.Place.{Place}
use Rattle.buffer_cache.specs.Place.{with_ask}
use Rattle.block_protocol.specs.Block.{BackCopy, BackShip, Block, Clears, Copy, CopyTo, Done, Grant, GrantNo, Grants, Idle, Inst, Operation, Quiet, Request, Shipped, ShipTo, put}
use Rattle.block_protocol.specs.Sound.{IsServedOnce}
use Rattle.block_protocol.specs.Steps.{ServesNot, copy_comes_back, serves_copy, takes_copy}
use Rattle.block_protocol.specs.Wire.{BackCopyWire, CopyToWire, CopyWire, Wire, flights, gather, of_memo, of_note, of_operation, of_request, of_waiting, Same, more}
use Rattle.block_protocol.proofs.Bags.{Takes-left, Takes-right}
use Rattle.block_protocol.proofs.Basics.{put-elim, put-other, put-same}
use Rattle.block_protocol.proofs.RefinesAsk.{gather-none}
use Rattle.protocol_ties.specs.Messages.{asks_of, block_of, instances, pleas_of, wire_of}
use Rattle.protocol_ties.specs.Bags.{bag_of}
use Rattle.protocol_ties.specs.MasterRuns.{raised}
use Rattle.protocol_ties.specs.Places.{IsPlaceOf}
use Rattle.protocol_ties.proofs.Origins.{request-taken}
use Rattle.protocol_ties.proofs.Passes.{came-to}
use Rattle.holder_ties.specs.HolderRuns.{HolderRun, goes, stays}
use Rattle.holder_ties.specs.Shown.{Comes, GoesOn, Holdings, IsShown, IsUnasked, answered, clock_then, risen}
use Rattle.holder_ties.specs.Holders.{CopyComesBack, CopyIsServed, CopyIsTaken, with_copy}
use Rattle.holder_ties.proofs.Taking.{bag-taken, goes-answering, goes-silent, risen-clock, stays-around}
use Rattle.holder_ties.proofs.Orders.{none-held, one-held}

module _ (me from scn : ℕ) (links : List (List Packet)) (h : Holdings) (block_no : BlockNo) (entry : Entry) (block : Block)
    (is : IsShown links h block_no entry block) where
  abbrev clock : ℕ
  clock = clock_then me scn h

  abbrev wires : List Wire
  wires = bag_of block_no (taken links from me Main) ++ pleas_of entry.queue

  -- the block with another request of an instance
  abbrev asking : Inst → Request → Block
  asking i r = record (raised me scn block) { request = put block.request i r }

  -- a request that comes where none was under way
  request-comes : (i : ℕ) (r : Request) (wire : Wire) → i < instances → of_request i r ≡ wire ∷ [] → Same wires (flights instances (record block { request = put block.request i Quiet })) → Same (wire ∷ wires) (flights instances (asking i r))
  request-comes i r wire lt one same =
      let tail : List Wire = map of_note block.notes ++ map of_memo block.memos in
      more wire wires (flights instances (asking i r)) (flights instances (record block { request = put block.request i Quiet }))
      (Takes-right wire (of_operation block.op) (gather of_request instances (put block.request i r) ++ tail) (gather of_request instances (put block.request i Quiet) ++ tail)
      (Takes-left wire (gather of_request instances (put block.request i r)) (gather of_request instances (put block.request i Quiet)) tail
      (came-to instances i block.request r wire lt one))) same

  -- the requests that wait are as they were
  still-waits : (i : ℕ) (r then : Request) → block.request i ≡ r → of_waiting i r ≡ [] → of_waiting i then ≡ [] → Same (asks_of entry.queue) (gather of_waiting instances (put block.request i then))
  still-waits i r then was none-was none-is =
      subst (λ (l : List (ℕ × _)). Same (asks_of entry.queue) l)
      (sym (gather-none of_waiting instances i block.request then (ap (of_waiting i) was ∙ none-was) none-is)) is.shows.requests

  -- whose request is no Quiet one is asked for
  still-unasked : (i : ℕ) (r then : Request) → block.request i ≡ r → (r ≡ Quiet → ⊥) → (j : Inst) → IsUnasked block j → IsUnasked (asking i then) j
  still-unasked i r then was not j u =
      (put-elim (λ (q : Request). q ≡ Quiet) block.request i then j (λ e. absurd (not (sym was ∙ ap block.request e ∙ u.0))) (λ ne. u.0), u.1)

  module _ (message : Message) (grant : GrantNo) (reader : Inst) (about : block_of message ≡ Some block_no) (comes : Comes me from links scn message)
      (order : wire_of me scn message ≡ Some (CopyToWire me grant reader)) where
    asked : (reader < instances) × (block.request reader ≡ CopyTo me grant) × Same wires (flights instances (record block { request = put block.request reader Quiet }))
    asked =
        request-taken (CopyToWire me grant reader) wires block reader (CopyTo me grant) Quiet refl refl refl refl refl
        (bag-taken me from scn message links h block_no entry block is comes about (CopyToWire me grant reader) order)

    not-quiet : CopyTo me grant ≡ Quiet → ⊥
    not-quiet e = cc

    -- the order is answered by another message of the same request
    pub answers-reader : (to : Inst) (answer : Message) (r : Request) (wire : Wire) (after : Block) → to < instances → block_of answer ≡ Some block_no → wire_of to clock answer ≡ Some wire → of_request reader r ≡ wire ∷ [] → of_waiting reader r ≡ []
        → HolderRun me (raised me scn block) after
        → (floor : ℕ) (served : _) → after ≡ record (asking reader r) { floor = floor; served = served }
        → GoesOn me scn links (answered me from to clock answer links) (risen me scn h) block_no entry block
    answers-reader to answer r wire after there told bears one none run floor served same =
        goes-answering me from scn message links h block_no entry block is comes about to clock answer there told (risen me scn h)
        (record (asking reader r) { floor = floor; served = served }) wire bears
        (subst (λ (s : Block). HolderRun me (raised me scn block) s) same run)
        (record { lists = is.shows.tied.lists; alone = is.shows.tied.alone; sized = is.shows.tied.sized; draws = is.shows.tied.draws; operation = is.shows.tied.operation; known = is.shows.tied.known })
        (request-comes reader r wire asked.0 one asked.2)
        (still-waits reader (CopyTo me grant) r asked.1 refl none)
        (stays-around me scn h block (record (asking reader r) { floor = floor; served = served }) h.places is.around is.around.images (λ i. refl)
        (still-unasked reader (CopyTo me grant) r asked.1 not-quiet) refl refl refl refl) is.upgrade

pub copy-comes-back : CopyComesBack
copy-comes-back me from to scn grant reader links h block_no entry block is comes there none =
    let bound : ℕ = (raised me scn block).clock me in
    let after : Block = record (raised me scn block) { request = put block.request reader (BackCopy grant bound) } in
    let message : Message = messages.CopyTo block_no grant reader in
    answers-reader me from scn links h block_no entry block is message grant reader refl comes refl to (messages.Back (unfound.CopyTo block_no grant reader)) (BackCopy grant bound) (BackCopyWire grant reader bound) after there refl
    (ap (λ c. Some (BackCopyWire grant reader c)) (risen-clock me scn h block is.around)) refl refl
    (goes (copy_comes_back (raised me scn block) reader me grant (asked me from scn links h block_no entry block is message grant reader refl comes refl).1 (none-held block h.places me is.around.images none)) refl (stays after))
    block.floor block.served refl

pub copy-is-served : CopyIsServed
copy-is-served me from scn grant reader now links h block_no entry block is comes held number forced =
    let bound : ℕ = (raised me scn block).clock me in
    let image = one-held block h.places me now is.around.images held in
    let r : Request = Copy (block.version me) bound bound in
    let floor : ℕ = max block.floor bound in
    let message : Message = messages.CopyTo block_no grant reader in
    let it = asked me from scn links h block_no entry block is message grant reader refl comes refl in
    let step = serves_copy (raised me scn block) reader me grant image.0 it.1 image.1 forced in
    answers-reader me from scn links h block_no entry block is message grant reader refl comes refl reader (messages.Copy now.image (clock_then me scn h)) r (CopyWire reader (block.version me) bound bound) _ it.0 (ap Some number)
    (ap Some (rw ((is.around.images me).numbered now held, sym (risen-clock me scn h block is.around)) refl)) refl refl
    (goes step refl (stays _))
    floor (record { inst = me; grant = image.0.grant; scn = bound } ∷ block.served) refl

-- an operation serves nobody whose request is elsewhere
unserved : (op : Operation) (request : Inst → Request) (i : ℕ) → IsServedOnce request op → (request i ≡ Quiet → ⊥) → ServesNot op i
unserved Idle request i once not = tt
unserved (Clears a w) request i once not = λ e. not (ap request (sym e) ∙ once)
unserved (Grants a k (ShipTo x g)) request i once not = λ e. not (ap request (sym e) ∙ once)
unserved (Grants a k (BackShip g s)) request i once not = λ e. not (ap request (sym e) ∙ once)
unserved (Grants a k (Shipped v d s)) request i once not = λ e. not (ap request (sym e) ∙ once)
unserved (Grants a k (Grant d s)) request i once not = λ e. not (ap request (sym e) ∙ once)
unserved (Grants a k Done) request i once not = tt

pub copy-is-taken : CopyIsTaken
copy-is-taken me from scn image upto links h block_no entry block is comes number =
    let message : Message = messages.Copy image upto in
    let left : List Wire = bag_of block_no (taken links from me Main) ++ pleas_of entry.queue in
    let wire : Wire = CopyWire me image.front.version upto scn in
    let t = request-taken wire left block me (Copy image.front.version upto scn) Quiet refl refl refl refl refl
    (bag-taken me from scn message links h block_no entry block is comes (ap Some number) wire refl) in
    let kept : Inst → List (ℕ × ℕ) = put block.copies me ((image.front.version, upto) ∷ block.copies me) in
    let after : Block = record (raised me scn block) { request = put block.request me Quiet; copies = kept } in
    let out : block.request me ≡ Quiet → ⊥ = λ (e : block.request me ≡ Quiet). (let clash : Copy image.front.version upto scn ≡ Quiet = sym t.1 ∙ e in cc) in
    let le : scn ≤ max (block.clock me) scn = omega arith in
    goes-silent me from scn message links h block_no entry block is comes (ap Some number)
    (with_copy me image.front.version upto (risen me scn h)) after
    (goes (takes_copy (raised me scn block) me image.front.version upto scn t.1 (subst (λ c. scn ≤ c) (sym (put-same block.clock me (max (block.clock me) scn))) le)) refl (stays after))
    (record { lists = is.shows.tied.lists; alone = is.shows.tied.alone; sized = is.shows.tied.sized; draws = is.shows.tied.draws; operation = is.shows.tied.operation; known = is.shows.tied.known })
    t.2
    (still-waits me from scn links h block_no entry block is me (Copy image.front.version upto scn) Quiet t.1 refl refl)
    (record {
      images = λ i. put-elim (λ (p : Place). IsPlaceOf (block.frame i) (block.version i) (block.dirty i) (block.past i) p.current p.past) h.places me (with_ask None (h.places me)) i
          (λ e. subst (λ (k : ℕ). IsPlaceOf (block.frame i) (block.version i) (block.dirty i) (block.past i) (h.places k).current (h.places k).past) (sym e) (is.around.images i)) (λ ne. is.around.images i);
      unasked = λ i. put-elim (λ (p : Place). p.asked ≡ None → IsUnasked after i) h.places me (with_ask None (h.places me)) i
          (λ e none. subst (λ (k : ℕ). IsUnasked after k) e (put-same block.request me Quiet, unserved block.op block.request me is.sound.served.once out))
          (λ ne none. (put-other block.request me Quiet i ne ∙ (is.around.unasked i none).0, (is.around.unasked i none).1));
      copies = ap (λ (c : Inst → List (ℕ × ℕ)). put c me ((image.front.version, upto) ∷ c me)) is.around.copies;
      clock = ap (λ (c : Inst → ℕ). put c me (max (c me) scn)) is.around.clock;
      records = is.around.records;
      disk = is.around.disk;
    }) is.upgrade
