-- An Invalidate is obeyed.
use Rattle.std.proofs.Common.{◌≡◌, ◌≢◌, ◌∙◌, ℕ, ◌<◌, Bool, true, false, List, ◌∷◌, ◌++◌, refl, sym, ap, subst}
use Rattle.std.specs.Prelude.{map, Option, Some, None}
use Rattle.std.specs.Prelude.{◌==◌}
use Rattle.std.proofs.lemmas.Bool.{eqb-true, eqb-false}
use Rattle.base_types.specs.declared.names.BlockNo.{BlockNo}
use Rattle.wire_net.specs.declared.message.Message.TheVariants as messages
use Rattle.wire_net.specs.declared.message.Packet.{Packet}
use Rattle.wire_net.specs.declared.message.Lane.TheVariants.{Main}
use Rattle.wire_net.specs.declared.entry.Entry.{Entry}
use Rattle.wire_net.specs.Links.{taken}
use Rattle.buffer_cache.specs.Place.{without_grant}
use Rattle.block_protocol.specs.Block.{Block, GrantNo, Gone, Hold, Invalidate, Note, here, put}
use Rattle.block_protocol.specs.Steps.{invalidates, was_gone}
use Rattle.block_protocol.specs.Wire.{GoneWire, InvalidateWire, Wire, flights, gather, of_memo, of_note, of_operation, of_request, Same, more}
use Rattle.block_protocol.proofs.Bags.{Takes-right}
use Rattle.protocol_ties.specs.Messages.{instances, pleas_of}
use Rattle.protocol_ties.specs.Bags.{bag_of}
use Rattle.protocol_ties.specs.MasterRuns.{raised}
use Rattle.protocol_ties.proofs.Origins.{note-taken, some-one}
use Rattle.protocol_ties.proofs.Places.{cache-has-none, cache-invalidates}
use Rattle.holder_ties.specs.HolderRuns.{goes, stays}
use Rattle.holder_ties.specs.Shown.{Comes, GoesOn, Holdings, IsShown, answered, clock_then, risen, with_place}
use Rattle.holder_ties.specs.Holders.{InvalidateIsObeyed}
use Rattle.holder_ties.proofs.Taking.{asked-stays, bag-taken, goes-answering, risen-clock, stays-around}

-- a note more is under way
pub note-comes : (s : Block) (note : Note) (rest : List Note) (wires : List Wire) → Same wires (flights instances (record s { notes = rest })) → Same (of_note note ∷ wires) (flights instances (record s { notes = note ∷ rest }))
note-comes s note rest wires same =
    let tail : List Wire = map of_note rest ++ map of_memo s.memos in
    more (of_note note) wires (flights instances (record s { notes = note ∷ rest })) (flights instances (record s { notes = rest }))
    (Takes-right (of_note note) (of_operation s.op) (gather of_request instances s.request ++ (of_note note ∷ tail)) (gather of_request instances s.request ++ tail)
    (Takes-right (of_note note) (gather of_request instances s.request) (of_note note ∷ tail) tail (here tail))) same

-- whether an image of a grant is held
data Bears (o : Option Hold) (grant : ℕ) : Type 0 where
  bears : (hold : Hold) → o ≡ Some hold → hold.grant ≡ grant → Bears o grant
  not : ((hold : Hold) → o ≡ Some hold → hold.grant ≢ grant) → Bears o grant

bears-or-not : (o : Option Hold) (grant : ℕ) → Bears o grant
bears-or-not None grant = not (λ hold e. absurd (let clash : ◌≡◌ {A = Option Hold} None (Some hold) = e in cc))
bears-or-not (Some hold) grant = go (hold.grant == grant) refl
  where
    go : (t : Bool) → (hold.grant == grant) ≡ t → Bears (Some hold) grant
    go true e = bears hold refl (eqb-true hold.grant grant e)
    go false e = not (λ other same g. eqb-false hold.grant grant e (ap (λ h. h.grant) (some-one hold other same) ∙ g))

module _ (me from to scn : ℕ) (links : List (List Packet)) (h : Holdings) (block_no : BlockNo) (entry : Entry) (block : Block)
    (is : IsShown links h block_no entry block) (there : to < instances) where
  abbrev clock : ℕ
  clock = clock_then me scn h

  abbrev wires : List Wire
  wires = bag_of block_no (taken links from me Main) ++ pleas_of entry.queue

  obeyed : (grant : GrantNo) → Comes me from links scn (messages.Invalidate block_no grant) → Bears (block.frame me) grant
      → GoesOn me scn links (answered me from to clock (messages.Gone block_no grant) links) (with_place me (without_grant grant (h.places me)) (risen me scn h)) block_no entry block
  obeyed grant comes (bears hold held same) =
      subst (λ (g : ℕ). GoesOn me scn links (answered me from to clock (messages.Gone block_no g) links) (with_place me (without_grant g (h.places me)) (risen me scn h)) block_no entry block) same
      (drops hold held (subst (λ (g : ℕ). Comes me from links scn (messages.Invalidate block_no g)) (sym same) comes))
    where
      drops : (hold : Hold) → block.frame me ≡ Some hold → Comes me from links scn (messages.Invalidate block_no hold.grant)
          → GoesOn me scn links (answered me from to clock (messages.Gone block_no hold.grant) links) (with_place me (without_grant hold.grant (h.places me)) (risen me scn h)) block_no entry block
      drops hold held comes =
          let t = note-taken (InvalidateWire me hold.grant) wires block (Invalidate me hold.grant) refl refl refl refl (bag-taken me from scn (messages.Invalidate block_no hold.grant) links h block_no entry block is comes refl (InvalidateWire me hold.grant) refl) in
          let after : Block = record (raised me scn block) { frame = put block.frame me None; notes = Gone hold.grant ((raised me scn block).clock me) ∷ t.0 } in
          goes-answering me from scn (messages.Invalidate block_no hold.grant) links h block_no entry block is comes refl to clock (messages.Gone block_no hold.grant) there refl
          (with_place me (without_grant hold.grant (h.places me)) (risen me scn h)) after (GoneWire hold.grant ((raised me scn block).clock me))
          (ap (λ c. Some (GoneWire hold.grant c)) (risen-clock me scn h block is.around))
          (goes (invalidates (raised me scn block) me hold t.0 t.1 held) refl (stays after))
          (record { lists = is.shows.tied.lists; alone = is.shows.tied.alone; sized = is.shows.tied.sized; draws = is.shows.tied.draws; operation = is.shows.tied.operation; known = is.shows.tied.known })
          (note-comes block (Gone hold.grant ((raised me scn block).clock me)) t.0 wires t.2)
          is.shows.requests
          (stays-around me scn h block after (put h.places me (without_grant hold.grant (h.places me))) is.around (cache-invalidates (raised me scn block) h.places me hold t.0 t.1 held is.around.images) (asked-stays h.places me (without_grant hold.grant (h.places me)) refl) (λ i u. u) refl refl refl refl) is.upgrade
  obeyed grant comes (not another) =
      let t = note-taken (InvalidateWire me grant) wires block (Invalidate me grant) refl refl refl refl (bag-taken me from scn (messages.Invalidate block_no grant) links h block_no entry block is comes refl (InvalidateWire me grant) refl) in
      let after : Block = record (raised me scn block) { notes = Gone grant ((raised me scn block).clock me) ∷ t.0 } in
      goes-answering me from scn (messages.Invalidate block_no grant) links h block_no entry block is comes refl to clock (messages.Gone block_no grant) there refl
      (with_place me (without_grant grant (h.places me)) (risen me scn h)) after (GoneWire grant ((raised me scn block).clock me))
      (ap (λ c. Some (GoneWire grant c)) (risen-clock me scn h block is.around))
      (goes (was_gone (raised me scn block) me grant t.0 t.1 another) refl (stays after))
      (record { lists = is.shows.tied.lists; alone = is.shows.tied.alone; sized = is.shows.tied.sized; draws = is.shows.tied.draws; operation = is.shows.tied.operation; known = is.shows.tied.known })
      (note-comes block (Gone grant ((raised me scn block).clock me)) t.0 wires t.2)
      is.shows.requests
      (stays-around me scn h block after (put h.places me (without_grant grant (h.places me))) is.around (cache-has-none (raised me scn block) h.places me grant t.0 t.1 another is.around.images) (asked-stays h.places me (without_grant grant (h.places me)) refl) (λ i u. u) refl refl refl refl) is.upgrade

pub invalidate-is-obeyed : InvalidateIsObeyed
invalidate-is-obeyed me from to scn grant links h block_no entry block is comes there = obeyed me from to scn links h block_no entry block is there grant comes (bears-or-not (block.frame me) grant)
