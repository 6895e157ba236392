-- A packet is taken, and an answer is sent: what is under way on the block, and on the others.
use Rattle.std.proofs.Common.{◌≡◌, ◌≢◌, ◌∙◌, ℕ, ◌<◌, List, [], ◌∷◌, ◌++◌, refl, sym, ap, subst, length, cond}
use Rattle.std.specs.Prelude.{option_to_list, drop, max, Some}
use Rattle.std.proofs.lemmas.Bool.{eq-eqb, ne_eqb}
use Rattle.std.proofs.lemmas.List.{length-set}
use Rattle.base_types.specs.declared.names.BlockNo.{BlockNo}
use Rattle.wire_net.specs.declared.message.Message.{Message}
use Rattle.wire_net.specs.declared.message.Lane.TheVariants.{Main}
use Rattle.wire_net.specs.declared.message.Packet.{Packet}
use Rattle.wire_net.specs.declared.entry.Entry.{Entry}
use Rattle.wire_net.specs.Links.{lane_for, place_of, waiting_on, sent, taken}
use Rattle.buffer_cache.specs.declared.place.Place.{Place}
use Rattle.block_protocol.specs.Block.{Block, Inst, Scn, put}
use Rattle.block_protocol.specs.Sound.{Sound}
use Rattle.block_protocol.specs.Wire.{Wire, flights, Same, gather, of_waiting}
use Rattle.block_protocol.proofs.Bags.{same-refl}
use Rattle.block_protocol.proofs.Basics.{put-elim, put-same}
use Rattle.block_protocol.proofs.Directory.{Sound-step}
use Rattle.protocol_ties.specs.Messages.{asks_of, block_of, instances, pleas_of, wire_of}
use Rattle.protocol_ties.specs.AmongAll.{is_block, wires_at}
use Rattle.protocol_ties.specs.Bags.{bag_of}
use Rattle.protocol_ties.specs.MasterRuns.{raised}
use Rattle.protocol_ties.specs.Places.{ArePlaces}
use Rattle.protocol_ties.proofs.Bag.{same-trans}
use Rattle.protocol_ties.proofs.Goes.{TiedTo}
use Rattle.protocol_ties.proofs.Links.{same-over, sent-comes-in, taken-has-gone}
use Rattle.protocol_ties.proofs.OnLinks.{same-sym}
use Rattle.holder_ties.specs.HolderRuns.{HolderRun, goes, stays}
use Rattle.holder_ties.specs.Shown.{AreHoldings, Comes, Does, GoesOn, Holdings, IsShown, IsUnasked, IsUpgrade, answered, clock_then, risen}

-- a message about the block is one of its messages, and of no other block's
wires-here : (block_no to scn : ℕ) (message : Message) (wire : Wire) → block_of message ≡ Some block_no → wire_of to scn message ≡ Some wire → wires_at block_no scn (to, message) ≡ wire ∷ []
wires-here block_no to scn message wire about is =
    ap (λ t. cond t (option_to_list (wire_of to scn message)) []) (ap (is_block block_no) about ∙ eq-eqb block_no block_no refl) ∙ ap option_to_list is

wires-there : (block_no other to scn : ℕ) (message : Message) → block_of message ≡ Some block_no → other ≢ block_no → wires_at other scn (to, message) ≡ []
wires-there block_no other to scn message about ne =
    ap (λ t. cond t (option_to_list (wire_of to scn message)) []) (ap (is_block other) about ∙ ne_eqb block_no other (λ e. ne (sym e)))

-- a clock that rises leaves all that is sound
pub raised-sound : (me scn : ℕ) (block : Block) → Sound block → Sound (raised me scn block)
raised-sound me scn block sound = record {
  listing = sound.listing;
  listed = sound.listed;
  operation = sound.operation;
  served = sound.served;
  requests = sound.requests;
  notes = sound.notes;
}

-- what is had of a block that goes on, where the copies, the records and the disk stay
pub stays-around : (me scn : ℕ) (h : Holdings) (block after : Block) (later : Inst → Place) → AreHoldings h block → ArePlaces later after
    → ((i : Inst) → (later i).asked ≡ (h.places i).asked) → ((i : Inst) → IsUnasked block i → IsUnasked after i)
    → after.copies ≡ block.copies → after.clock ≡ (raised me scn block).clock → after.records ≡ block.records → after.disk ≡ block.disk
    → AreHoldings (record (risen me scn h) { places = later }) after
stays-around me scn h block after later around images asked unasked copies clock records disk = record {
  images = images;
  unasked = λ i none. unasked i (around.unasked i (sym (asked i) ∙ none));
  copies = copies ∙ around.copies;
  clock = clock ∙ ap (λ (c : Inst → Scn). put c me (max (c me) scn)) around.clock;
  records = records ∙ around.records;
  disk = disk ∙ around.disk;
}

-- a place that changes but for what is asked
pub asked-stays : (places : Inst → Place) (me : ℕ) (place : Place) → place.asked ≡ (places me).asked → (i : Inst) → (put places me place i).asked ≡ (places i).asked
asked-stays places me place same i =
    put-elim (λ (p : Place). p.asked ≡ (places i).asked) places me place i (λ e. same ∙ ap (λ k. (places k).asked) e) (λ ne. refl)

-- the clock that an answer bears
pub risen-clock : (me scn : ℕ) (h : Holdings) (block : Block) → AreHoldings h block → clock_then me scn h ≡ (raised me scn block).clock me
risen-clock me scn h block around =
    ap (λ (c : Inst → Scn). max (c me) scn) (sym around.clock) ∙ sym (put-same block.clock me (max (block.clock me) scn))

-- such a run keeps all that is sound
sound-after : {me : Inst} {s t : Block} → HolderRun me s t → Sound s → Sound t
sound-after (stays s) sound = sound
sound-after (goes step is rest) sound = sound-after rest (Sound-step step sound)

-- A message about a block is sent on links on which it wasn't.
module _ (links : List (List Packet)) (long : length links ≡ 128) (block_no : BlockNo) (entry : Entry) (me to clock : ℕ) (message : Message)
    (low : me < instances) (there : to < instances) (told : block_of message ≡ Some block_no) where
  abbrev packet : Packet
  packet = record { scn = clock; message = message }

  pub sent-long : length (sent links me to packet) ≡ 128
  sent-long = length-set links (place_of me to (lane_for message)) (waiting_on links me to (lane_for message) ++ packet ∷ []) ∙ long

  -- it is under way then
  pub bag-sent : (wire : Wire) (under : List Wire) → wire_of to clock message ≡ Some wire → Same (wire ∷ (bag_of block_no links ++ pleas_of entry.queue)) under → Same (bag_of block_no (sent links me to packet) ++ pleas_of entry.queue) under
  bag-sent wire under bears same =
      let later : List (List Packet) = sent links me to packet in
      let come : Same (bag_of block_no later) (wire ∷ bag_of block_no links) =
      same-sym (wire ∷ bag_of block_no links) (bag_of block_no later)
      (subst (λ (l : List Wire). Same (l ++ bag_of block_no links) (bag_of block_no later)) (wires-here block_no to clock message wire told bears)
      (sent-comes-in block_no links me to packet long low there)) in
      same-trans (bag_of block_no later ++ pleas_of entry.queue) (wire ∷ (bag_of block_no links ++ pleas_of entry.queue)) under
      (same-over (bag_of block_no later) (wire ∷ bag_of block_no links) (pleas_of entry.queue) come) same

  -- of another block nothing is sent
  pub others-sent : (other : BlockNo) → other ≢ block_no → Same (bag_of other links) (bag_of other (sent links me to packet))
  others-sent other ne =
      subst (λ (l : List Wire). Same (l ++ bag_of other links) (bag_of other (sent links me to packet))) (wires-there block_no other to clock message told ne)
      (sent-comes-in other links me to packet long low there)

-- An instance makes steps of its own.
module _ (me : ℕ) (links : List (List Packet)) (h : Holdings) (block_no : BlockNo) (entry : Entry) (block : Block) (is : IsShown links h block_no entry block) where
  -- it sends nothing
  pub does-silent : (later : Holdings) (after : Block) → HolderRun me block after → TiedTo entry after → Same (bag_of block_no links ++ pleas_of entry.queue) (flights instances after)
      → Same (asks_of entry.queue) (gather of_waiting instances after.request) → AreHoldings later after → IsUpgrade after.op → Does me links links later block_no entry block
  does-silent later after run tied bag asks around upgrade = record {
    after = after;
    run = run;
    shown = record {
      sized = is.sized;
      sound = sound-after run is.sound;
      shows = record { tied = tied; messages = bag; requests = asks; proper = is.shows.proper };
      around = around;
      upgrade = upgrade;
    };
    others = λ other ne. same-refl (bag_of other links);
  }

  -- it sends a message
  pub does-sending : (to clock : ℕ) (message : Message) → me < instances → to < instances → block_of message ≡ Some block_no → (later : Holdings) (after : Block) (wire : Wire) → wire_of to clock message ≡ Some wire
      → HolderRun me block after → TiedTo entry after → Same (wire ∷ (bag_of block_no links ++ pleas_of entry.queue)) (flights instances after)
      → Same (asks_of entry.queue) (gather of_waiting instances after.request) → AreHoldings later after → IsUpgrade after.op
      → Does me links (sent links me to (record { scn = clock; message = message })) later block_no entry block
  does-sending to clock message low there told later after wire bears run tied bag asks around upgrade = record {
    after = after;
    run = run;
    shown = record {
      sized = sent-long links is.sized block_no entry me to clock message low there told;
      sound = sound-after run is.sound;
      shows = record {
        tied = tied;
        messages = bag-sent links is.sized block_no entry me to clock message low there told wire (flights instances after) bears bag;
        requests = asks;
        proper = is.shows.proper;
      };
      around = around;
      upgrade = upgrade;
    };
    others = λ other ne. others-sent links is.sized block_no entry me to clock message low there told other ne;
  }

module _ (me from scn : ℕ) (message : Message) (links : List (List Packet)) (h : Holdings) (block_no : BlockNo) (entry : Entry) (block : Block)
    (is : IsShown links h block_no entry block) (comes : Comes me from links scn message) (about : block_of message ≡ Some block_no) where
  -- what is left on the links
  abbrev left : List (List Packet)
  left = taken links from me Main

  long : length left ≡ 128
  long = length-set links (place_of from me Main) (drop 1 (waiting_on links from me Main)) ∙ is.sized

  -- the message is under way on the block beside what is left
  pub bag-taken : (wire : Wire) → wire_of me scn message ≡ Some wire → Same (wire ∷ (bag_of block_no left ++ pleas_of entry.queue)) (flights instances block)
  bag-taken wire bears =
      let gone : Same (wire ∷ bag_of block_no left) (bag_of block_no links) =
      subst (λ (l : List Wire). Same (l ++ bag_of block_no left) (bag_of block_no links)) (wires-here block_no me scn message wire about bears)
      (taken-has-gone block_no links from me Main (record { scn = scn; message = message }) is.sized comes.sender comes.receiver comes.first) in
      same-trans (wire ∷ (bag_of block_no left ++ pleas_of entry.queue)) (bag_of block_no links ++ pleas_of entry.queue) (flights instances block)
      (same-over (wire ∷ bag_of block_no left) (bag_of block_no links) (pleas_of entry.queue) gone) is.shows.messages

  -- of another block nothing is taken
  pub others-taken : (other : BlockNo) → other ≢ block_no → Same (bag_of other links) (bag_of other left)
  others-taken other ne =
      same-sym (bag_of other left) (bag_of other links)
      (subst (λ (l : List Wire). Same (l ++ bag_of other left) (bag_of other links)) (wires-there block_no other me scn message about ne)
      (taken-has-gone other links from me Main (record { scn = scn; message = message }) is.sized comes.sender comes.receiver comes.first))

  -- the block goes on by a step that sends nothing
  pub goes-silent : (later : Holdings) (after : Block) → HolderRun me (raised me scn block) after → TiedTo entry after
      → Same (bag_of block_no left ++ pleas_of entry.queue) (flights instances after) → Same (asks_of entry.queue) (gather of_waiting instances after.request) → AreHoldings later after → IsUpgrade after.op
      → GoesOn me scn links left later block_no entry block
  goes-silent later after run tied bag asks around upgrade = record {
    after = after;
    run = run;
    shown = record {
      sized = long;
      sound = sound-after run (raised-sound me scn block is.sound);
      shows = record { tied = tied; messages = bag; requests = asks; proper = is.shows.proper };
      around = around;
      upgrade = upgrade;
    };
    others = others-taken;
  }

  -- the block goes on by a step that sends an answer
  pub goes-answering : (to clock : ℕ) (answer : Message) → to < instances → block_of answer ≡ Some block_no → (had : Holdings) (after : Block) (wire : Wire) → wire_of to clock answer ≡ Some wire
      → HolderRun me (raised me scn block) after → TiedTo entry after
      → Same (wire ∷ (bag_of block_no left ++ pleas_of entry.queue)) (flights instances after) → Same (asks_of entry.queue) (gather of_waiting instances after.request) → AreHoldings had after → IsUpgrade after.op
      → GoesOn me scn links (answered me from to clock answer links) had block_no entry block
  goes-answering to clock answer there told had after wire bears run tied bag asks around upgrade = record {
    after = after;
    run = run;
    shown = record {
      sized = sent-long left long block_no entry me to clock answer comes.receiver there told;
      sound = sound-after run (raised-sound me scn block is.sound);
      shows = record {
        tied = tied;
        messages = bag-sent left long block_no entry me to clock answer comes.receiver there told wire (flights instances after) bears bag;
        requests = asks;
        proper = is.shows.proper;
      };
      around = around;
      upgrade = upgrade;
    };
    others = λ other ne. same-trans (bag_of other links) (bag_of other left) (bag_of other (answered me from to clock answer links)) (others-taken other ne) (others-sent left long block_no entry me to clock answer comes.receiver there told other ne);
  }
