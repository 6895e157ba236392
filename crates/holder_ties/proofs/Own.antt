-- An instance asks, evicts, writes and tells of its own accord.
use Rattle.std.proofs.Common.{◌≡◌, ◌≢◌, ◌∙◌, ℕ, ◌≤◌, true, false, List, ◌∷◌, ◌++◌, length, refl, sym, ap, subst}
use Rattle.std.specs.Prelude.{map, option_map, Option, Some, None}
use Rattle.wire_net.specs.declared.message.Message.TheVariants as messages
use Rattle.wire_net.specs.declared.message.Mode.{Mode as HoldMode}
use Rattle.wire_net.specs.declared.message.Mode.TheVariants as modes
use Rattle.buffer_cache.specs.declared.place.Current.{Current}
use Rattle.buffer_cache.specs.declared.place.PastImage.{PastImage}
use Rattle.buffer_cache.specs.declared.place.Place.{Place}
use Rattle.buffer_cache.specs.Place.{marked, with_ask, with_past_asked, with_written, without_clean}
use Rattle.block_protocol.specs.Block.{Asks, Block, GaveUp, Inst, Please, Read, Request, Shared, Upgrade, Want, Write, Wrote, put}
use Rattle.block_protocol.specs.Steps.{IsReadyToAsk, asks, evicts, pleads, tells_written, writes}
use Rattle.block_protocol.specs.Wire.{Ask, GaveUpWire, PleaseWire, Wire, WroteWire, flights, gather, of_memo, of_note, of_operation, of_request, of_waiting, Same, more}
use Rattle.block_protocol.proofs.Bags.{Takes-left, Takes-right}
use Rattle.block_protocol.proofs.Basics.{put-elim, put-other}
use Rattle.block_protocol.proofs.RefinesAsk.{gather-comes, gather-none}
use Rattle.protocol_ties.specs.Messages.{asks_of, hold_of, instances, pleas_of, want_of, wire_of}
use Rattle.protocol_ties.specs.Bags.{bag_of}
use Rattle.protocol_ties.specs.Places.{ArePlaces, IsPlaceOf, hold_at, past_version_of}
use Rattle.protocol_ties.proofs.Places.{cache-evicts, cache-writes, grant-of}
use Rattle.holder_ties.specs.HolderRuns.{goes, stays}
use Rattle.holder_ties.specs.Own.{AskGoesOut, ImageIsEvicted, ImageIsWritten, MayAskBeside, WriteIsPleaded, WriteIsTold, with_image_written}
use Rattle.holder_ties.specs.Shown.{IsUnasked, with_place}
use Rattle.holder_ties.proofs.Taking.{asked-stays, does-sending, does-silent}
use Rattle.holder_ties.proofs.Invalidates.{note-comes}
use Rattle.holder_ties.proofs.Orders.{none-held, one-held}
use Rattle.holder_ties.proofs.Pasts.{memo-comes}

-- what is wanted by a mode beside another one, and the block is ready for it
wanted : (block : Block) (places : Inst → Place) (i : ℕ) (mode held : HoldMode) → ArePlaces places block → MayAskBeside mode held (places i) → (want : Want) × (want_of mode held ≡ Some want) × IsReadyToAsk block i want
wanted block places i modes.Null modes.Null are may = absurd (let clash : false ≡ true = may.1 in cc)
wanted block places i modes.Shared modes.Null are may = (Read, refl, none-held block places i are may.0)
wanted block places i modes.Exclusive modes.Null are may = (Write, refl, none-held block places i are may.0)
wanted block places i modes.Exclusive modes.Shared are may =
    let is : block.frame i ≡ Some (record { mode = Shared; grant = may.1.0.grant }) =
    (are i).held ∙ ap hold_at may.1.1 ∙ ap (λ (m : HoldMode). hold_of m may.1.0.grant) may.1.2 in
    (Upgrade, refl, (record { mode = Shared; grant = may.1.0.grant }, is, refl))
wanted block places i modes.Null modes.Shared are may = absurd (let clash : modes.Null ≡ modes.Exclusive = may.0 in cc)
wanted block places i modes.Shared modes.Shared are may = absurd (let clash : modes.Shared ≡ modes.Exclusive = may.0 in cc)
wanted block places i mode modes.Exclusive are may = absurd may

-- a place that changes in what is asked alone shows the same
shows-asked : (block : Block) (places : Inst → Place) (me : ℕ) (place : Place) → place.current ≡ (places me).current → place.past ≡ (places me).past → ArePlaces places block → ArePlaces (put places me place) block
shows-asked block places me place same_current same_past are i =
    put-elim (λ (p : Place). IsPlaceOf (block.frame i) (block.version i) (block.dirty i) (block.past i) p.current p.past) places me place i
    (λ e. subst (λ (c : Option Current). IsPlaceOf (block.frame i) (block.version i) (block.dirty i) (block.past i) c place.past) (sym same_current)
    (subst (λ (p : Option PastImage). IsPlaceOf (block.frame i) (block.version i) (block.dirty i) (block.past i) (places me).current p) (sym same_past)
    (subst (λ (k : ℕ). IsPlaceOf (block.frame i) (block.version i) (block.dirty i) (block.past i) (places k).current (places k).past) (sym e) (are i))))
    (λ ne. are i)

pub ask-goes-out : AskGoesOut
ask-goes-out me to mode held links h block_no entry block is low there none may =
    let w = wanted block h.places me mode held is.around.images may in
    let unasked = is.around.unasked me none in
    let wires : List Wire = bag_of block_no links ++ pleas_of entry.queue in
    let r : Request = Asks w.0 (block.clock me) in
    let wire : Wire = Ask me w.0 (block.clock me) in
    let after : Block = record block { request = put block.request me r } in
    let tail : List Wire = map of_note block.notes ++ map of_memo block.memos in
    let bears : wire_of to (h.clock me) (messages.Ask block_no mode held me) ≡ Some wire =
    ap (option_map (λ (want : Want). Ask me want (h.clock me))) w.1 ∙ ap (λ (c : Inst → ℕ). Some (Ask me w.0 (c me))) (sym is.around.clock) in
    does-sending me links h block_no entry block is to (h.clock me) (messages.Ask block_no mode held me) low there refl
    (with_place me (with_ask (Some mode) (h.places me)) h) after wire bears
    (goes (asks block me w.0 unasked.0 unasked.1 w.2) refl (stays after))
    (record { lists = is.shows.tied.lists; alone = is.shows.tied.alone; sized = is.shows.tied.sized; draws = is.shows.tied.draws; operation = is.shows.tied.operation; known = is.shows.tied.known })
    (more wire wires (flights instances after) (flights instances block)
    (Takes-right wire (of_operation block.op) (gather of_request instances (put block.request me r) ++ tail) (gather of_request instances block.request ++ tail)
    (Takes-left wire (gather of_request instances (put block.request me r)) (gather of_request instances block.request) tail
    (gather-comes of_request instances me block.request r wire low (ap (of_request me) unasked.0) refl))) is.shows.messages)
    (subst (λ (l : List (ℕ × Want)). Same (asks_of entry.queue) l) (sym (gather-none of_waiting instances me block.request r (ap (of_waiting me) unasked.0) refl)) is.shows.requests)
    (record {
      images = shows-asked after h.places me (with_ask (Some mode) (h.places me)) refl refl is.around.images;
      unasked = λ i. put-elim (λ (p : Place). p.asked ≡ None → IsUnasked after i) h.places me (with_ask (Some mode) (h.places me)) i
          (λ e none_there. absurd (let clash : ◌≡◌ {A = Option HoldMode} (Some mode) None = none_there in cc))
          (λ ne none_there. (put-other block.request me r i ne ∙ (is.around.unasked i none_there).0, (is.around.unasked i none_there).1));
      copies = is.around.copies;
      clock = is.around.clock;
      records = is.around.records;
      disk = is.around.disk;
    }) is.upgrade

pub image-is-evicted : ImageIsEvicted
image-is-evicted me to now links h block_no entry block is low there none held clean =
    let image = one-held block h.places me now is.around.images held in
    let unasked = is.around.unasked me none in
    let same : now.grant ≡ image.0.grant = grant-of now.mode now.grant image.0 (sym (ap hold_at held) ∙ sym (is.around.images me).held ∙ image.1) in
    let dirty : block.dirty me ≡ false = (is.around.images me).marked now held ∙ clean in
    let after : Block = record block { frame = put block.frame me None; notes = GaveUp image.0.grant (block.clock me) ∷ block.notes } in
    does-sending me links h block_no entry block is to (h.clock me) (messages.GaveUp block_no now.grant) low there refl
    (with_place me (without_clean (h.places me)) h) after (GaveUpWire image.0.grant (block.clock me))
    (ap (λ (g : ℕ). Some (GaveUpWire g (h.clock me))) same ∙ ap (λ (c : Inst → ℕ). Some (GaveUpWire image.0.grant (c me))) (sym is.around.clock))
    (goes (evicts block me image.0 image.1 dirty unasked.0 unasked.1) refl (stays after))
    (record { lists = is.shows.tied.lists; alone = is.shows.tied.alone; sized = is.shows.tied.sized; draws = is.shows.tied.draws; operation = is.shows.tied.operation; known = is.shows.tied.known })
    (note-comes block (GaveUp image.0.grant (block.clock me)) block.notes (bag_of block_no links ++ pleas_of entry.queue) is.shows.messages) is.shows.requests
    (record {
      images = cache-evicts block h.places me image.0 image.1 dirty unasked.0 unasked.1 is.around.images;
      unasked = λ i none_there. is.around.unasked i (sym (asked-stays h.places me (without_clean (h.places me)) refl i) ∙ none_there);
      copies = is.around.copies;
      clock = is.around.clock;
      records = is.around.records;
      disk = is.around.disk;
    }) is.upgrade

-- a past image that a write was asked for is of the same version
marked-version : (past : Option PastImage) → option_map past_version_of (option_map (marked true) past) ≡ option_map past_version_of past
marked-version None = refl
marked-version (Some past) = refl

pub write-is-pleaded : WriteIsPleaded
write-is-pleaded me to version links h block_no entry block is low there made =
    let after : Block = record block { memos = Please version ∷ block.memos } in
    does-sending me links h block_no entry block is to (h.clock me) (messages.WritePlease block_no version me None) low there refl
    (with_place me (with_past_asked (h.places me)) h) after (PleaseWire version) refl
    (goes (pleads block version (subst (λ l. version ≤ length l) (sym is.around.records) made)) tt (stays after))
    (record { lists = is.shows.tied.lists; alone = is.shows.tied.alone; sized = is.shows.tied.sized; draws = is.shows.tied.draws; operation = is.shows.tied.operation; known = is.shows.tied.known })
    (memo-comes block (Please version) (bag_of block_no links ++ pleas_of entry.queue) is.shows.messages) is.shows.requests
    (record {
      images = λ i. put-elim (λ (p : Place). IsPlaceOf (block.frame i) (block.version i) (block.dirty i) (block.past i) p.current p.past) h.places me (with_past_asked (h.places me)) i
          (λ e. record {
            held = subst (λ (k : ℕ). block.frame k ≡ hold_at (h.places me).current) e (is.around.images me).held;
            there = λ now held. subst (λ (k : ℕ). block.frame k ≢ None) e ((is.around.images me).there now held);
            numbered = λ now held. subst (λ (k : ℕ). block.version k ≡ now.image.front.version) e ((is.around.images me).numbered now held);
            marked = λ now held. subst (λ (k : ℕ). block.dirty k ≡ now.dirty) e ((is.around.images me).marked now held);
            kept = subst (λ (k : ℕ). block.past k ≡ option_map past_version_of (option_map (marked true) (h.places me).past)) e ((is.around.images me).kept ∙ sym (marked-version (h.places me).past));
          }) (λ ne. is.around.images i);
      unasked = λ i none_there. is.around.unasked i (sym (asked-stays h.places me (with_past_asked (h.places me)) refl i) ∙ none_there);
      copies = is.around.copies;
      clock = is.around.clock;
      records = is.around.records;
      disk = is.around.disk;
    }) is.upgrade

pub image-is-written : ImageIsWritten
image-is-written me now links h block_no entry block is held dirty forced =
    let image = one-held block h.places me now is.around.images held in
    let mark : block.dirty me ≡ true = (is.around.images me).marked now held ∙ dirty in
    let after : Block = record block { dirty = put block.dirty me false; disk = block.version me } in
    does-silent me links h block_no entry block is (with_image_written me now h) after
    (goes (writes block me image.0 image.1 mark forced) refl (stays after))
    (record { lists = is.shows.tied.lists; alone = is.shows.tied.alone; sized = is.shows.tied.sized; draws = is.shows.tied.draws; operation = is.shows.tied.operation; known = is.shows.tied.known })
    is.shows.messages is.shows.requests
    (record {
      images = cache-writes block h.places me image.0 image.1 mark forced is.around.images;
      unasked = λ i none_there. is.around.unasked i (sym (asked-stays h.places me (with_written (h.places me)) refl i) ∙ none_there);
      copies = is.around.copies;
      clock = is.around.clock;
      records = is.around.records;
      disk = (is.around.images me).numbered now held;
    }) is.upgrade

pub write-is-told : WriteIsTold
write-is-told me to now links h block_no entry block is low there held clean =
    let image = one-held block h.places me now is.around.images held in
    let after : Block = record block { memos = Wrote (block.version me) ∷ block.memos } in
    does-sending me links h block_no entry block is to (h.clock me) (messages.Wrote block_no now.image.front.version) low there refl h after (WroteWire (block.version me))
    (ap (λ v. Some (WroteWire v)) (sym ((is.around.images me).numbered now held)))
    (goes (tells_written block me image.0 image.1 ((is.around.images me).marked now held ∙ clean)) refl (stays after))
    (record { lists = is.shows.tied.lists; alone = is.shows.tied.alone; sized = is.shows.tied.sized; draws = is.shows.tied.draws; operation = is.shows.tied.operation; known = is.shows.tied.known })
    (memo-comes block (Wrote (block.version me)) (bag_of block_no links ++ pleas_of entry.queue) is.shows.messages) is.shows.requests
    (record { images = is.around.images; unasked = is.around.unasked; copies = is.around.copies; clock = is.around.clock; records = is.around.records; disk = is.around.disk })
    is.upgrade
