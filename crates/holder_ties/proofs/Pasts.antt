-- Past images are dropped, and pleas to write are taken.
use Rattle.std.proofs.Common.{◌≡◌, ◌∙◌, ℕ, ◌<◌, List, ◌∷◌, ◌++◌, refl, sym, ap, subst}
use Rattle.std.specs.Prelude.{map, Some, None, false}
use Rattle.base_types.specs.declared.names.BlockNo.{BlockNo}
use Rattle.wire_net.specs.declared.message.Message.{Message}
use Rattle.wire_net.specs.declared.message.Message.TheVariants as messages
use Rattle.wire_net.specs.declared.message.Packet.{Packet}
use Rattle.wire_net.specs.declared.message.Unfound.TheVariants as unfound
use Rattle.wire_net.specs.declared.message.Lane.TheVariants.{Main}
use Rattle.wire_net.specs.declared.entry.Entry.{Entry}
use Rattle.wire_net.specs.Links.{taken}
use Rattle.buffer_cache.specs.declared.place.Current.{Current}
use Rattle.buffer_cache.specs.declared.place.Place.{Place}
use Rattle.buffer_cache.specs.Place.{with_wish, without_past}
use Rattle.block_protocol.specs.Block.{BackWrite, Block, GrantNo, Inst, Memo, Note, Takes, WritePlease, Wrote, DropPast, here, put}
use Rattle.block_protocol.specs.Steps.{drops_past, takes_wish, tells_written, write_comes_back}
use Rattle.block_protocol.specs.Wire.{BackWriteWire, DropPastWire, Wire, WritePleaseWire, WroteWire, flights, gather, of_memo, of_note, of_operation, of_request, Same, more}
use Rattle.block_protocol.proofs.Bags.{Takes-right}
use Rattle.block_protocol.proofs.Basics.{put-elim}
use Rattle.protocol_ties.specs.Messages.{instances, pleas_of}
use Rattle.protocol_ties.specs.Bags.{bag_of}
use Rattle.protocol_ties.specs.MasterRuns.{raised}
use Rattle.protocol_ties.specs.Places.{IsPlaceOf}
use Rattle.protocol_ties.proofs.Origins.{memo-taken, note-taken}
use Rattle.protocol_ties.proofs.Places.{cache-drops-past}
use Rattle.holder_ties.specs.HolderRuns.{goes, stays}
use Rattle.holder_ties.specs.Shown.{Comes, GoesOn, Holdings, IsShown, answered, clock_then, risen, with_place}
use Rattle.holder_ties.specs.Holders.{PastIsDropped, PleaComesBack, PleaIsMet, PleaIsNoted}
use Rattle.holder_ties.proofs.Taking.{asked-stays, bag-taken, goes-answering, goes-silent, risen-clock, stays-around}
use Rattle.holder_ties.proofs.Invalidates.{note-comes}
use Rattle.holder_ties.proofs.Orders.{none-held, one-held}

-- a memo more is under way
pub memo-comes : (s : Block) (memo : Memo) (wires : List Wire) → Same wires (flights instances s) → Same (of_memo memo ∷ wires) (flights instances (record s { memos = memo ∷ s.memos }))
memo-comes s memo wires same =
    let notes : List Wire = map of_note s.notes in
    let old : List Wire = map of_memo s.memos in
    more (of_memo memo) wires (flights instances (record s { memos = memo ∷ s.memos })) (flights instances s)
    (Takes-right (of_memo memo) (of_operation s.op) (gather of_request instances s.request ++ (notes ++ (of_memo memo ∷ old))) (gather of_request instances s.request ++ (notes ++ old))
    (Takes-right (of_memo memo) (gather of_request instances s.request) (notes ++ (of_memo memo ∷ old)) (notes ++ old)
    (Takes-right (of_memo memo) notes (of_memo memo ∷ old) old (here old)))) same

pub past-is-dropped : PastIsDropped
past-is-dropped me from scn version links h block_no entry block is comes =
    let wires : List Wire = bag_of block_no (taken links from me Main) ++ pleas_of entry.queue in
    let t = memo-taken (DropPastWire me version) wires block (DropPast me version) refl refl
    (bag-taken me from scn (messages.DropPast block_no version) links h block_no entry block is comes refl (DropPastWire me version) refl) in
    let step = drops_past (raised me scn block) me version t.0 t.1 in
    goes-silent me from scn (messages.DropPast block_no version) links h block_no entry block is comes refl
    (with_place me (without_past version (h.places me)) (risen me scn h)) _ (goes step refl (stays _))
    (record { lists = is.shows.tied.lists; alone = is.shows.tied.alone; sized = is.shows.tied.sized; draws = is.shows.tied.draws; operation = is.shows.tied.operation; known = is.shows.tied.known })
    t.2 is.shows.requests
    (stays-around me scn h block _ (put h.places me (without_past version (h.places me))) is.around (cache-drops-past (raised me scn block) h.places me version t.0 t.1 is.around.images)
    (asked-stays h.places me (without_past version (h.places me)) refl) (λ i u. u) refl refl refl refl) is.upgrade

module _ (me from scn : ℕ) (version holder : ℕ) (grant : GrantNo) (links : List (List Packet)) (h : Holdings) (block_no : BlockNo) (entry : Entry) (block : Block)
    (is : IsShown links h block_no entry block) (comes : Comes me from links scn (messages.WritePlease block_no version holder (Some grant))) where
  abbrev plea : Message
  plea = messages.WritePlease block_no version holder (Some grant)

  abbrev wires : List Wire
  wires = bag_of block_no (taken links from me Main) ++ pleas_of entry.queue

  wished : (rest : List Note) × Takes (WritePlease me grant) block.notes rest × Same wires (flights instances (record block { notes = rest }))
  wished =
      note-taken (WritePleaseWire me grant) wires block (WritePlease me grant) refl refl refl refl
      (bag-taken me from scn plea links h block_no entry block is comes refl (WritePleaseWire me grant) refl)

  pub goes-back : (to : Inst) → to < instances → (h.places me).current ≡ None
      → GoesOn me scn links (answered me from to (clock_then me scn h) (messages.Back (unfound.WritePlease block_no grant version holder)) links) (risen me scn h) block_no entry block
  goes-back to there none =
      let bound : ℕ = (raised me scn block).clock me in
      let after : Block = record (raised me scn block) { notes = BackWrite grant bound ∷ wished.0 } in
      goes-answering me from scn plea links h block_no entry block is comes refl to (clock_then me scn h) (messages.Back (unfound.WritePlease block_no grant version holder)) there refl
      (risen me scn h) after (BackWriteWire grant bound) (ap (λ c. Some (BackWriteWire grant c)) (risen-clock me scn h block is.around))
      (goes (write_comes_back (raised me scn block) me grant wished.0 wished.1 (none-held block h.places me is.around.images none)) refl (stays after))
      (record { lists = is.shows.tied.lists; alone = is.shows.tied.alone; sized = is.shows.tied.sized; draws = is.shows.tied.draws; operation = is.shows.tied.operation; known = is.shows.tied.known })
      (note-comes block (BackWrite grant bound) wished.0 wires wished.2) is.shows.requests
      (stays-around me scn h block after h.places is.around is.around.images (λ i. refl) (λ i u. u) refl refl refl refl) is.upgrade

  pub is-noted : GoesOn me scn links (taken links from me Main) (with_place me (with_wish (h.places me)) (risen me scn h)) block_no entry block
  is-noted =
      let after : Block = record (raised me scn block) { notes = wished.0 } in
      goes-silent me from scn plea links h block_no entry block is comes refl
      (with_place me (with_wish (h.places me)) (risen me scn h)) after
      (goes (takes_wish (raised me scn block) me grant wished.0 wished.1) refl (stays after))
      (record { lists = is.shows.tied.lists; alone = is.shows.tied.alone; sized = is.shows.tied.sized; draws = is.shows.tied.draws; operation = is.shows.tied.operation; known = is.shows.tied.known })
      wished.2 is.shows.requests
      (stays-around me scn h block after (put h.places me (with_wish (h.places me))) is.around
      (λ i. put-elim (λ (p : Place). IsPlaceOf (block.frame i) (block.version i) (block.dirty i) (block.past i) p.current p.past) h.places me (with_wish (h.places me)) i
      (λ e. subst (λ (k : ℕ). IsPlaceOf (block.frame i) (block.version i) (block.dirty i) (block.past i) (h.places k).current (h.places k).past) (sym e) (is.around.images i)) (λ ne. is.around.images i))
      (asked-stays h.places me (with_wish (h.places me)) refl) (λ i u. u) refl refl refl refl) is.upgrade

  pub is-met : (to : Inst) (now : Current) → to < instances → (h.places me).current ≡ Some now → now.dirty ≡ false
      → GoesOn me scn links (answered me from to (clock_then me scn h) (messages.Wrote block_no now.image.front.version) links) (risen me scn h) block_no entry block
  is-met to now there held clean =
      let image = one-held block h.places me now is.around.images held in
      let between : Block = record (raised me scn block) { notes = wished.0 } in
      let after : Block = record between { memos = Wrote (block.version me) ∷ block.memos } in
      goes-answering me from scn plea links h block_no entry block is comes refl to (clock_then me scn h) (messages.Wrote block_no now.image.front.version) there refl
      (risen me scn h) after (WroteWire (block.version me)) (ap (λ v. Some (WroteWire v)) (sym ((is.around.images me).numbered now held)))
      (goes (takes_wish (raised me scn block) me grant wished.0 wished.1) refl
      (goes (tells_written between me image.0 image.1 ((is.around.images me).marked now held ∙ clean)) refl (stays after)))
      (record { lists = is.shows.tied.lists; alone = is.shows.tied.alone; sized = is.shows.tied.sized; draws = is.shows.tied.draws; operation = is.shows.tied.operation; known = is.shows.tied.known })
      (memo-comes (record block { notes = wished.0 }) (Wrote (block.version me)) wires wished.2) is.shows.requests
      (stays-around me scn h block after h.places is.around is.around.images (λ i. refl) (λ i u. u) refl refl refl refl) is.upgrade

pub plea-comes-back : PleaComesBack
plea-comes-back me from to scn version holder grant links h block_no entry block is comes there none = goes-back me from scn version holder grant links h block_no entry block is comes to there none

pub plea-is-noted : PleaIsNoted
plea-is-noted me from scn version holder grant links h block_no entry block is comes = is-noted me from scn version holder grant links h block_no entry block is comes

pub plea-is-met : PleaIsMet
plea-is-met me from to scn version holder grant now links h block_no entry block is comes there held clean = is-met me from scn version holder grant links h block_no entry block is comes to now there held clean
