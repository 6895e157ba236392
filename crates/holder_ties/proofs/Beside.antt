-- A block as others act.
use Rattle.std.proofs.Common.{◌≡◌, ◌≢◌, ◌∙◌, ℕ, ◌+◌, Bool, true, false, List, [], ◌∷◌, ◌++◌, length, refl, sym, ap, subst, cond}
use Rattle.std.specs.Prelude.{max, drop, option_to_list, Some}
use Rattle.std.proofs.lemmas.Bool.{eq-eqb, ne_eqb}
use Rattle.std.proofs.lemmas.List.{length-set}
use Rattle.wire_net.specs.declared.message.Message.{Message}
use Rattle.wire_net.specs.declared.message.Lane.TheVariants.{Main}
use Rattle.wire_net.specs.declared.message.Mode.{Mode as HoldMode}
use Rattle.wire_net.specs.declared.message.Mode.TheVariants as modes
use Rattle.wire_net.specs.declared.message.Packet.{Packet}
use Rattle.wire_net.specs.Links.{place_of, taken, waiting_on}
use Rattle.resource_dir.specs.Takes.{takes}
use Rattle.buffer_cache.specs.Place.{with_change}
use Rattle.block_protocol.specs.Block.{Asks, BackCopy, Block, CopyTo, Exclusive, Grant, Grants, Hold, Inst, Operation, Quiet, Read, Request, Waits, Want, place_clock, put}
use Rattle.block_protocol.specs.Steps.{ServesNot, is_none, Step, asked_on, clock_there, forced, wanted_again, arrives, asks, asks_copy_again, asks_ship_again, asks_to_write, begins_to_clear, changes, copy_comes_back, drops_copy, drops_past, drops_stale, ends, ends_before_done, evicts, forces, forwards_note, forwards_request, forwards_ship, gives, gives_shared, hears_back_write, hears_gave_up, hears_gone, hears_plea, hears_written, installs_from_disk, installs_held, installs_shipped, invalidates, lets_drop, orders, passes_plea, pleads, raises, sends_copy, sends_entry, serves_copy, ship_comes_back, ships, steps_back, takes_copy, takes_entry, takes_wish, tells_written, uses, uses_copy, was_gone, write_comes_back, writes}
use Rattle.block_protocol.specs.Wire.{Wire, flights, Same}
use Rattle.block_protocol.proofs.Basics.{put-elim, put-other}
use Rattle.block_protocol.proofs.Directory.{Sound-step}
use Rattle.protocol_ties.specs.AmongAll.{is_block, wires_about}
use Rattle.protocol_ties.specs.Bags.{bag_of}
use Rattle.protocol_ties.specs.Entries.{Shows}
use Rattle.protocol_ties.specs.MasterRuns.{IsMasters, LeavesRest, MasterRun, goes, raised, stays}
use Rattle.protocol_ties.specs.Messages.{block_of, hold_of, instances, pleas_of, wire_of, wires_of}
use Rattle.protocol_ties.specs.OnLinks.{all_sent}
use Rattle.protocol_ties.specs.Places.{hold_at}
use Rattle.protocol_ties.proofs.About.{wires-here as about-here, wires-there as about-there}
use Rattle.protocol_ties.proofs.Among.{sends-are-of-the-block}
use Rattle.protocol_ties.proofs.Bag.{same-trans}
use Rattle.protocol_ties.proofs.Goes.{sound-after}
use Rattle.protocol_ties.proofs.Numbered.{num-takes}
use Rattle.protocol_ties.proofs.Passes.{message-goes-on}
use Rattle.protocol_ties.proofs.OnLinks.{same-sym, sends-in, shows-same}
use Rattle.protocol_ties.proofs.Places.{cache-changes, masters-leave-caches}
use Rattle.protocol_ties.proofs.Reacts.{message-is-a-run}
use Rattle.holder_ties.specs.Beside.{ClocksMayRise, ImageIsChanged, LinksMayDiffer, MasterTakes, MessagePassesOn, RedoMayBeForced}
use Rattle.holder_ties.specs.Shown.{AreHoldings, Holdings, IsUnasked, IsUpgrade, clock_then, risen}
use Rattle.holder_ties.proofs.Orders.{one-held}
use Rattle.holder_ties.proofs.Taking.{asked-stays, bag-taken, others-taken, raised-sound, risen-clock, stays-around}

pub links-may-differ : LinksMayDiffer
links-may-differ links later h block_no entry block is sized same = record {
  sized = sized;
  sound = is.sound;
  shows = shows-same (same-sym (bag_of block_no links) (bag_of block_no later) same) is.shows;
  around = is.around;
  upgrade = is.upgrade;
}

pub clocks-may-rise : ClocksMayRise
clocks-may-rise me scn links h block_no entry block is = record {
  sized = is.sized;
  sound = raised-sound me scn block is.sound;
  shows = record {
    tied = record { lists = is.shows.tied.lists; alone = is.shows.tied.alone; sized = is.shows.tied.sized; draws = is.shows.tied.draws; operation = is.shows.tied.operation; known = is.shows.tied.known };
    messages = is.shows.messages;
    requests = is.shows.requests;
    proper = is.shows.proper;
  };
  around = stays-around me scn h block (raised me scn block) h.places is.around is.around.images (λ i. refl) (λ i u. u) refl refl refl refl;
  upgrade = is.upgrade;
}

pub redo-may-be-forced : RedoMayBeForced
redo-may-be-forced me links h block_no entry block is = record {
  sized = is.sized;
  sound = record { listing = is.sound.listing; listed = is.sound.listed; operation = is.sound.operation; served = is.sound.served; requests = is.sound.requests; notes = is.sound.notes };
  shows = record {
    tied = record { lists = is.shows.tied.lists; alone = is.shows.tied.alone; sized = is.shows.tied.sized; draws = is.shows.tied.draws; operation = is.shows.tied.operation; known = is.shows.tied.known };
    messages = is.shows.messages;
    requests = is.shows.requests;
    proper = is.shows.proper;
  };
  around = record {
    images = is.around.images;
    unasked = is.around.unasked;
    copies = is.around.copies;
    clock = is.around.clock;
    records = ap (forced me) is.around.records;
    disk = is.around.disk;
  };
  upgrade = is.upgrade;
}

-- an exclusive image is held so
exclusive-hold : (m : HoldMode) (g : ℕ) (k : Hold) → m ≡ modes.Exclusive → Some k ≡ hold_of m g → k.mode ≡ Exclusive
exclusive-hold modes.Null g k e is = absurd (let clash : modes.Null ≡ modes.Exclusive = e in cc)
exclusive-hold modes.Shared g k e is = absurd (let clash : modes.Shared ≡ modes.Exclusive = e in cc)
exclusive-hold modes.Exclusive g k e is = let same : k ≡ record { mode = Exclusive; grant = g } = cc in ap (λ (x : Hold). x.mode) same

pub image-is-changed : ImageIsChanged
image-is-changed me now change at links h block_no entry block is held exclusive =
    let image = one-held block h.places me now is.around.images held in
    let mode : image.0.mode ≡ Exclusive = exclusive-hold now.mode now.grant image.0 exclusive (sym image.1 ∙ (is.around.images me).held ∙ ap hold_at held) in
    let after : Block = record block {
      version = put block.version me (block.version me + 1);
      dirty = put block.dirty me true;
      records = record { maker = me; scn = block.clock me + 1; durable = false } ∷ block.records;
      clock = put block.clock me (block.clock me + 1);
      floor = max block.floor (block.clock me + 1);
    } in
    let step : Step block after = changes block me image.0 image.1 mode in
    let clock : block.clock me ≡ h.clock me = ap (λ (c : Inst → ℕ). c me) is.around.clock in
    record {
      after = after;
      changed = refl;
      step = step;
      shown = record {
        sized = is.sized;
        sound = Sound-step step is.sound;
        shows = record {
          tied = record { lists = is.shows.tied.lists; alone = is.shows.tied.alone; sized = is.shows.tied.sized; draws = is.shows.tied.draws; operation = is.shows.tied.operation; known = is.shows.tied.known };
          messages = is.shows.messages;
          requests = is.shows.requests;
          proper = is.shows.proper;
        };
        around = record {
          images = cache-changes block h.places me image.0 image.1 mode change (h.clock me + 1) at is.around.images;
          unasked = λ i none. is.around.unasked i (sym (asked-stays h.places me (with_change change (h.clock me + 1) at (h.places me)) refl i) ∙ none);
          copies = is.around.copies;
          clock = ap (λ (c : Inst → ℕ). put c me (c me + 1)) is.around.clock;
          records = ap (λ (n : ℕ). record { maker = me; scn = n + 1; durable = false } ∷ block.records) clock ∙ ap (λ rs. record { maker = me; scn = h.clock me + 1; durable = false } ∷ rs) is.around.records;
          disk = is.around.disk;
        };
        upgrade = is.upgrade;
      };
    }

-- who isn't served and has no request out stays so, whatever the master does
out-not-quiet : (block : Block) (inst i : ℕ) (r then : Request) → block.request inst ≡ r → (r ≡ Quiet → ⊥) → IsUnasked block i → (put block.request inst then i ≡ Quiet) × ServesNot block.op i
out-not-quiet block inst i r then was not u =
    (put-elim (λ (q : Request). q ≡ Quiet) block.request inst then i (λ e. absurd (not (sym was ∙ ap block.request e ∙ u.0))) (λ ne. u.0), u.1)

now-quiet : (block : Block) (inst i : ℕ) → IsUnasked block i → put block.request inst Quiet i ≡ Quiet
now-quiet block inst i u = put-elim (λ (q : Request). q ≡ Quiet) block.request inst Quiet i (λ e. refl) (λ ne. u.0)

waits-apart : (block : Block) (inst i : ℕ) (want : Want) → block.request inst ≡ Waits want → IsUnasked block i → inst ≢ i
waits-apart block inst i want was u e = let clash : Waits want ≡ Quiet = sym was ∙ ap block.request e ∙ u.0 in cc

unasked-step : {before after : Block} (step : Step before after) → IsMasters step → (i : Inst) → IsUnasked before i → IsUnasked after i
unasked-step (asks p_block p_inst p_want p_p1 p_p2 p_p3) is i u = absurd is
unasked-step (arrives p_block p_inst p_want p_scn p_p1 p_p2) is i u = out-not-quiet p_block p_inst i (Asks p_want p_scn) (Waits p_want) p_p1 (λ e. (let clash : Asks p_want p_scn ≡ Quiet = e in cc)) u
unasked-step (forwards_request p_block p_inst p_clock) is i u = (put-elim (λ (q : Request). q ≡ Quiet) p_block.request p_inst (asked_on p_clock (p_block.request p_inst)) i (λ e. ap (asked_on p_clock) (ap p_block.request e ∙ u.0)) (λ ne. u.0), u.1)
unasked-step (forwards_note p_block p_clock p_note p_rest p_p1) is i u = u
unasked-step (forwards_ship p_block p_clock p_asker p_granted p_grant p_scn p_p1) is i u = (u.0, subst (λ (o : Operation). ServesNot o i) p_p1 u.1)
unasked-step (steps_back p_block p_inst p_want p_p1 p_p2 p_p3) is i u = u
unasked-step (sends_copy p_block p_inst p_holder p_grant p_p1 p_p2 p_p3) is i u = out-not-quiet p_block p_inst i (Waits Read) (CopyTo p_holder p_grant) p_p2 (λ e. (let clash : Waits Read ≡ Quiet = e in cc)) u
unasked-step (orders p_block p_inst p_want p_holder p_grant p_p1 p_p2 p_p3 p_p4 p_p5) is i u = (now-quiet p_block p_inst i u, waits-apart p_block p_inst i p_want p_p2 u)
unasked-step (gives_shared p_block p_inst p_p1 p_p2 p_p3) is i u = (now-quiet p_block p_inst i u, waits-apart p_block p_inst i Read p_p2 u)
unasked-step (begins_to_clear p_block p_inst p_want p_sent p_p1 p_p2 p_p3 p_p4 p_p5 p_p6) is i u = (now-quiet p_block p_inst i u, waits-apart p_block p_inst i p_want p_p2 u)
unasked-step (gives p_block p_inst p_want p_p1 p_p2) is i u = (u.0, subst (λ (o : Operation). ServesNot o i) p_p1 u.1)
unasked-step (invalidates p_block p_holder p_hold p_rest p_p1 p_p2) is i u = absurd is
unasked-step (was_gone p_block p_holder p_grant p_rest p_p1 p_p2) is i u = absurd is
unasked-step (ships p_block p_asker p_granted p_holder p_grant p_hold p_p1 p_p2 p_p3) is i u = absurd is
unasked-step (ship_comes_back p_block p_asker p_granted p_holder p_grant p_p1 p_p2) is i u = absurd is
unasked-step (serves_copy p_block p_inst p_holder p_grant p_hold p_p1 p_p2 p_p3) is i u = absurd is
unasked-step (copy_comes_back p_block p_inst p_holder p_grant p_p1 p_p2) is i u = absurd is
unasked-step (asks_to_write p_block p_holder p_grant p_p1 p_p2) is i u = u
unasked-step (takes_wish p_block p_holder p_grant p_rest p_p1) is i u = absurd is
unasked-step (write_comes_back p_block p_holder p_grant p_rest p_p1 p_p2) is i u = absurd is
unasked-step (takes_copy p_block p_inst p_version p_upto p_scn p_p1 p_p2) is i u = absurd is
unasked-step (installs_shipped p_block p_asker p_granted p_version p_dirty p_scn p_p1 p_p2) is i u = absurd is
unasked-step (installs_from_disk p_block p_asker p_granted p_scn p_p1 p_p2) is i u = absurd is
unasked-step (installs_held p_block p_asker p_granted p_scn p_p1 p_p2) is i u = absurd is
unasked-step (evicts p_block p_inst p_hold p_p1 p_p2 p_p3 p_p4) is i u = absurd is
unasked-step (ends p_block p_asker p_granted p_p1) is i u = (u.0, tt)
unasked-step (hears_gone p_block p_grant p_scn p_rest p_p1 p_p2) is i u = u
unasked-step (hears_back_write p_block p_grant p_scn p_rest p_p1 p_p2) is i u = u
unasked-step (hears_gave_up p_block p_grant p_scn p_rest p_p1 p_p2 p_p3) is i u = u
unasked-step (ends_before_done p_block p_asker p_granted p_carrier p_scn p_rest p_p1 p_p2 p_p3) is i u = (u.0, tt)
unasked-step (drops_stale p_block p_grant p_rest p_p1) is i u = u
unasked-step (asks_copy_again p_block p_inst p_grant p_scn p_p1 p_p2) is i u = out-not-quiet p_block p_inst i (BackCopy p_grant p_scn) (Waits Read) p_p1 (λ e. (let clash : BackCopy p_grant p_scn ≡ Quiet = e in cc)) u
unasked-step (asks_ship_again p_block p_asker p_granted p_grant p_scn p_p1 p_p2) is i u = (put-other p_block.request p_asker (Waits (wanted_again p_granted.mode)) i (subst (λ (o : Operation). ServesNot o i) p_p1 u.1) ∙ u.0, tt)
unasked-step (changes p_block p_inst p_hold p_p1 p_p2) is i u = absurd is
unasked-step (writes p_block p_inst p_hold p_p1 p_p2 p_p3) is i u = absurd is
unasked-step (pleads p_block p_version p_p1) is i u = u
unasked-step (tells_written p_block p_inst p_hold p_p1 p_p2) is i u = absurd is
unasked-step (hears_written p_block p_version p_rest p_p1) is i u = u
unasked-step (hears_plea p_block p_version p_rest p_p1 p_p2 p_p3) is i u = u
unasked-step (passes_plea p_block p_version p_rest p_p1) is i u = u
unasked-step (lets_drop p_block p_inst p_version p_p1) is i u = u
unasked-step (drops_past p_block p_inst p_version p_rest p_p1) is i u = absurd is
unasked-step (forces p_block p_inst) is i u = absurd is
unasked-step (uses p_block p_inst p_hold p_scn p_p1 p_p2) is i u = absurd is
unasked-step (uses_copy p_block p_inst p_scn p_copy p_rest p_p1 p_p2) is i u = absurd is
unasked-step (drops_copy p_block p_inst p_copy p_rest p_p1) is i u = absurd is
unasked-step (raises p_block p_inst p_scn p_p1) is i u = absurd is
unasked-step (sends_entry p_block p_inst p_p1) is i u = u
unasked-step (takes_entry p_block p_inst p_scn p_p1 p_p2) is i u = u

unasked-run : {before after : Block} → MasterRun before after → (i : Inst) → IsUnasked before i → IsUnasked after i
unasked-run (stays block) i u = u
unasked-run (goes step is rest) i u = unasked-run rest i (unasked-step step is i u)

exclusive-upgrade : (from_disk : Bool) (asker grant scn : ℕ) → IsUpgrade (Grants asker (record { mode = Exclusive; grant = grant }) (Grant from_disk scn))
exclusive-upgrade true asker grant scn = tt
exclusive-upgrade false asker grant scn = refl

-- an image that becomes an exclusive one is granted so, by each step of a master
upgrade-step : {before after : Block} (step : Step before after) → IsMasters step → IsUpgrade before.op → IsUpgrade after.op
upgrade-step (asks p_block p_inst p_want p_p1 p_p2 p_p3) is up = absurd is
upgrade-step (arrives p_block p_inst p_want p_scn p_p1 p_p2) is up = up
upgrade-step (forwards_request p_block p_inst p_clock) is up = up
upgrade-step (forwards_note p_block p_clock p_note p_rest p_p1) is up = up
upgrade-step (forwards_ship p_block p_clock p_asker p_granted p_grant p_scn p_p1) is up = tt
upgrade-step (steps_back p_block p_inst p_want p_p1 p_p2 p_p3) is up = up
upgrade-step (sends_copy p_block p_inst p_holder p_grant p_p1 p_p2 p_p3) is up = up
upgrade-step (orders p_block p_inst p_want p_holder p_grant p_p1 p_p2 p_p3 p_p4 p_p5) is up = tt
upgrade-step (gives_shared p_block p_inst p_p1 p_p2 p_p3) is up = tt
upgrade-step (begins_to_clear p_block p_inst p_want p_sent p_p1 p_p2 p_p3 p_p4 p_p5 p_p6) is up = tt
upgrade-step (gives p_block p_inst p_want p_p1 p_p2) is up = exclusive-upgrade (is_none (p_block.lists p_inst)) p_inst p_block.next (place_clock p_block.place p_block.clock)
upgrade-step (invalidates p_block p_holder p_hold p_rest p_p1 p_p2) is up = absurd is
upgrade-step (was_gone p_block p_holder p_grant p_rest p_p1 p_p2) is up = absurd is
upgrade-step (ships p_block p_asker p_granted p_holder p_grant p_hold p_p1 p_p2 p_p3) is up = absurd is
upgrade-step (ship_comes_back p_block p_asker p_granted p_holder p_grant p_p1 p_p2) is up = absurd is
upgrade-step (serves_copy p_block p_inst p_holder p_grant p_hold p_p1 p_p2 p_p3) is up = absurd is
upgrade-step (copy_comes_back p_block p_inst p_holder p_grant p_p1 p_p2) is up = absurd is
upgrade-step (asks_to_write p_block p_holder p_grant p_p1 p_p2) is up = up
upgrade-step (takes_wish p_block p_holder p_grant p_rest p_p1) is up = absurd is
upgrade-step (write_comes_back p_block p_holder p_grant p_rest p_p1 p_p2) is up = absurd is
upgrade-step (takes_copy p_block p_inst p_version p_upto p_scn p_p1 p_p2) is up = absurd is
upgrade-step (installs_shipped p_block p_asker p_granted p_version p_dirty p_scn p_p1 p_p2) is up = absurd is
upgrade-step (installs_from_disk p_block p_asker p_granted p_scn p_p1 p_p2) is up = absurd is
upgrade-step (installs_held p_block p_asker p_granted p_scn p_p1 p_p2) is up = absurd is
upgrade-step (evicts p_block p_inst p_hold p_p1 p_p2 p_p3 p_p4) is up = absurd is
upgrade-step (ends p_block p_asker p_granted p_p1) is up = tt
upgrade-step (hears_gone p_block p_grant p_scn p_rest p_p1 p_p2) is up = up
upgrade-step (hears_back_write p_block p_grant p_scn p_rest p_p1 p_p2) is up = up
upgrade-step (hears_gave_up p_block p_grant p_scn p_rest p_p1 p_p2 p_p3) is up = up
upgrade-step (ends_before_done p_block p_asker p_granted p_carrier p_scn p_rest p_p1 p_p2 p_p3) is up = tt
upgrade-step (drops_stale p_block p_grant p_rest p_p1) is up = up
upgrade-step (asks_copy_again p_block p_inst p_grant p_scn p_p1 p_p2) is up = up
upgrade-step (asks_ship_again p_block p_asker p_granted p_grant p_scn p_p1 p_p2) is up = tt
upgrade-step (changes p_block p_inst p_hold p_p1 p_p2) is up = absurd is
upgrade-step (writes p_block p_inst p_hold p_p1 p_p2 p_p3) is up = absurd is
upgrade-step (pleads p_block p_version p_p1) is up = up
upgrade-step (tells_written p_block p_inst p_hold p_p1 p_p2) is up = absurd is
upgrade-step (hears_written p_block p_version p_rest p_p1) is up = up
upgrade-step (hears_plea p_block p_version p_rest p_p1 p_p2 p_p3) is up = up
upgrade-step (passes_plea p_block p_version p_rest p_p1) is up = up
upgrade-step (lets_drop p_block p_inst p_version p_p1) is up = up
upgrade-step (drops_past p_block p_inst p_version p_rest p_p1) is up = absurd is
upgrade-step (forces p_block p_inst) is up = absurd is
upgrade-step (uses p_block p_inst p_hold p_scn p_p1 p_p2) is up = absurd is
upgrade-step (uses_copy p_block p_inst p_scn p_copy p_rest p_p1 p_p2) is up = absurd is
upgrade-step (drops_copy p_block p_inst p_copy p_rest p_p1) is up = absurd is
upgrade-step (raises p_block p_inst p_scn p_p1) is up = absurd is
upgrade-step (sends_entry p_block p_inst p_p1) is up = up
upgrade-step (takes_entry p_block p_inst p_scn p_p1 p_p2) is up = up

upgrade-run : {before after : Block} → MasterRun before after → IsUpgrade before.op → IsUpgrade after.op
upgrade-run (stays block) up = up
upgrade-run (goes step is rest) up = upgrade-run rest (upgrade-step step is up)

-- what is had of a block stays where its master acts
pub master-around : (me scn : ℕ) (h : Holdings) (block after : Block) → MasterRun (raised me scn block) after → LeavesRest (raised me scn block) after → AreHoldings h block → AreHoldings (risen me scn h) after
master-around me scn h block after run beside around =
    stays-around me scn h block after h.places around
    (masters-leave-caches (raised me scn block) after h.places beside around.images) (λ i. refl)
    (λ i u. unasked-run run i u)
    (ap (λ (s : Block). s.copies) beside) (ap (λ (s : Block). s.clock) beside) (ap (λ (s : Block). s.records) beside) (ap (λ (s : Block). s.disk) beside)

pub master-takes : MasterTakes
master-takes me from scn message links h block_no entry block is comes about wire bears for_master numbered made place entry_of room =
    let left : List (List Packet) = taken links from me Main in
    let sends : List (ℕ × Message) = (takes entry message).sends in
    let clock : ℕ = clock_then me scn h in
    let long : length left ≡ 128 = length-set links (place_of from me Main) (drop 1 (waiting_on links from me Main)) ∙ is.sized in
    let under : Same (wire ∷ (bag_of block_no left ++ pleas_of entry.queue)) (flights instances block) =
    bag-taken me from scn message links h block_no entry block is comes about wire bears in
    let k = message-is-a-run me scn message (bag_of block_no left) entry block (record {
      place = place;
      sound = is.sound;
      for_master = for_master;
      of_made = made;
      wire = wire;
      is = bears;
      shows = record { tied = is.shows.tied; messages = under; requests = is.shows.requests; proper = is.shows.proper };
    }) room in
    let clocks : clock_there (raised me scn block) ≡ clock =
    ap (λ p. place_clock p (raised me scn block).clock) place ∙ sym (risen-clock me scn h block is.around) in
    let numbers = num-takes message entry numbered entry_of.1 in
    let of_block = sends-are-of-the-block block_no message entry about entry_of.0 in
    let said : wires_of (clock_there (raised me scn block)) sends ≡ wires_about block_no clock sends =
    ap (λ (c : ℕ). wires_of c sends) clocks ∙ sym (about-here block_no clock sends of_block.0) in
    let in_of = sends-in block_no me clock sends left long comes.receiver numbers.0 in
    record {
      after = k.after;
      run = k.run;
      place = ap (λ (s : Block). s.place) k.beside;
      is_entry = (of_block.1, numbers.1);
      shown = record {
        sized = in_of.1;
        sound = sound-after k.run (raised-sound me scn block is.sound);
        shows = shows-same (same-sym (wires_about block_no clock sends ++ bag_of block_no left) (bag_of block_no (all_sent me clock sends left)) in_of.0)
            (subst (λ (l : List Wire). Shows (l ++ bag_of block_no left) (takes entry message).entry k.after) said k.shows);
        around = master-around me scn h block k.after k.run k.beside is.around;
        upgrade = upgrade-run k.run is.upgrade;
      };
      others = λ other ne.
          let silent : wires_about other clock sends ≡ [] = about-there block_no other clock sends ne of_block.0 in
          let there = sends-in other me clock sends left long comes.receiver numbers.0 in
          same-trans (bag_of other links) (bag_of other left) (bag_of other (all_sent me clock sends left))
          (others-taken me from scn message links h block_no entry block is comes about other ne)
          (subst (λ (l : List Wire). Same (l ++ bag_of other left) (bag_of other (all_sent me clock sends left))) silent there.0);
    }

-- one message about a block is among its messages, and among no other block's
one-here : (b to clock : ℕ) (message : Message) → block_of message ≡ Some b → wires_about b clock ((to, message) ∷ []) ≡ wires_of clock ((to, message) ∷ [])
one-here b to clock message about = ap (λ t. cond t (option_to_list (wire_of to clock message)) [] ++ []) (ap (is_block b) about ∙ eq-eqb b b refl)

one-there : (b other to clock : ℕ) (message : Message) → block_of message ≡ Some b → other ≢ b → wires_about other clock ((to, message) ∷ []) ≡ []
one-there b other to clock message about ne = ap (λ t. cond t (option_to_list (wire_of to clock message)) [] ++ []) (ap (is_block other) about ∙ ne_eqb b other (λ e. ne (sym e)))

pub message-passes-on : MessagePassesOn
message-passes-on me from to scn message links h block_no entry block is comes about wire bears for_master there entry_of =
    let left : List (List Packet) = taken links from me Main in
    let clock : ℕ = clock_then me scn h in
    let sends : List (ℕ × Message) = (to, message) ∷ [] in
    let long : length left ≡ 128 = length-set links (place_of from me Main) (drop 1 (waiting_on links from me Main)) ∙ is.sized in
    let under : Same (wire ∷ (bag_of block_no left ++ pleas_of entry.queue)) (flights instances block) =
    bag-taken me from scn message links h block_no entry block is comes about wire bears in
    let k = message-goes-on me to scn message wire (bag_of block_no left) entry block for_master bears
    (record { tied = is.shows.tied; messages = under; requests = is.shows.requests; proper = is.shows.proper }) in
    let said : wires_of (max (block.clock me) scn) sends ≡ wires_about block_no clock sends =
    ap (λ (c : Inst → ℕ). wires_of (max (c me) scn) sends) is.around.clock ∙ sym (one-here block_no to clock message about) in
    let in_of = sends-in block_no me clock sends left long comes.receiver (there, tt) in
    record {
      after = k.after;
      run = k.run;
      place = ap (λ (s : Block). s.place) k.beside;
      is_entry = entry_of;
      shown = record {
        sized = in_of.1;
        sound = sound-after k.run (raised-sound me scn block is.sound);
        shows = shows-same (same-sym (wires_about block_no clock sends ++ bag_of block_no left) (bag_of block_no (all_sent me clock sends left)) in_of.0)
            (subst (λ (l : List Wire). Shows (l ++ bag_of block_no left) entry k.after) said k.shows);
        around = master-around me scn h block k.after k.run k.beside is.around;
        upgrade = upgrade-run k.run is.upgrade;
      };
      others = λ other ne.
          let silent : wires_about other clock sends ≡ [] = one-there block_no other to clock message about ne in
          let there_too = sends-in other me clock sends left long comes.receiver (there, tt) in
          same-trans (bag_of other links) (bag_of other left) (bag_of other (all_sent me clock sends left))
          (others-taken me from scn message links h block_no entry block is comes about other ne)
          (subst (λ (l : List Wire). Same (l ++ bag_of other left) (bag_of other (all_sent me clock sends left))) silent there_too.0);
    }
