-- The whole: each message, and what waited.
use Rattle.std.proofs.Common.{◌≡◌, ◌∙◌, ℕ, ◌≤◌, Bool, true, false, List, ◌∷◌, ◌++◌, refl, sym, ap, subst, arith}
use Rattle.std.specs.Prelude.{max, option_map, Option, Some, None, nat_le}
use Rattle.std.specs.List.{AllByRecursion}
use Rattle.wire_net.specs.declared.message.Mode.{Mode as HoldMode}
use Rattle.wire_net.specs.declared.message.Mode.TheVariants as modes
use Rattle.wire_net.specs.declared.message.Unfound.{Unfound}
use Rattle.wire_net.specs.declared.message.Unfound.TheVariants as unfound
use Rattle.wire_net.specs.declared.message.Message.{Message}
use Rattle.wire_net.specs.declared.message.Message.TheVariants as messages
use Rattle.wire_net.specs.declared.entry.PastHolder.{PastHolder}
use Rattle.wire_net.specs.declared.entry.Operation.{Operation}
use Rattle.wire_net.specs.declared.entry.Entry.{Entry}
use Rattle.resource_dir.specs.Holders.{is_granting, is_number}
use Rattle.resource_dir.specs.Taken.{Taken}
use Rattle.resource_dir.specs.Asks.{ask}
use Rattle.resource_dir.specs.Pasts.{is_superseded, wrote, keep, keep_any, keep_any_newer}
use Rattle.resource_dir.specs.Ends.{gone, gave_up, ended, entered, done, done_as, done_if, hear_back}
use Rattle.resource_dir.specs.Takes.{react, drain, takes}
use Rattle.block_protocol.specs.Block.{Shared, Exclusive, Want, Asks, Waits, Block, put, place_clock}
use Rattle.block_protocol.specs.Sound.{Sound}
use Rattle.block_protocol.specs.Steps.{clock_there, arrives, raises}
use Rattle.block_protocol.specs.Wire.{Wire, Ask, GoneWire, DoneWire, GaveUpWire, WroteWire, PleaseWire, of_waiting, gather, flights, Same, more}
use Rattle.block_protocol.proofs.Basics.{put-same}
use Rattle.block_protocol.proofs.Directory.{Sound-step}
use Rattle.block_protocol.proofs.RefinesAsk.{gather-comes}
use Rattle.protocol_ties.specs.Messages.{instances, want_of, wire_of, back_of, wires_of, asks_of, pleas_of}
use Rattle.protocol_ties.specs.Entries.{IsProper}
use Rattle.protocol_ties.specs.MasterRuns.{stays, goes, raised}
use Rattle.protocol_ties.specs.Takes.{IsOfMade, IsForMaster, HasRoom, IsRun, MessageIsARun}
use Rattle.protocol_ties.proofs.Goes.{TiedTo, goes-before, sound-after}
use Rattle.protocol_ties.proofs.Hears.{goes-gone, goes-gave_up, goes-done}
use Rattle.protocol_ties.proofs.Pleas.{goes-wrote}
use Rattle.protocol_ties.proofs.Drains.{Reacts, reacts-then, reacts-by, bag-next, asked, pleaded, drained}
use Rattle.protocol_ties.proofs.Backs.{gone-queue, back-copy, back-ship, back-write}
use Rattle.protocol_ties.proofs.Origins.{some-one, request-taken}

-- what is done with a Done leaves the queue
keep-queue : (b : ℕ) (past : Option PastHolder) (entry : Entry) → (keep_any b past entry).entry.queue ≡ entry.queue
keep-queue b None entry = refl
keep-queue b (Some past) entry = go (nat_le past.version entry.written) refl
  where
    go : (t : Bool) → nat_le past.version entry.written ≡ t → (keep b past entry).entry.queue ≡ entry.queue
    go true is = rw is refl
    go false is = rw is refl

newer-queue : (b : ℕ) (past : Option PastHolder) (entry : Entry) → (keep_any_newer b past entry).entry.queue ≡ entry.queue
newer-queue b None entry = refl
newer-queue b (Some past) entry = go (is_superseded past entry) refl
  where
    go : (t : Bool) → is_superseded past entry ≡ t → (keep_any_newer b (Some past) entry).entry.queue ≡ entry.queue
    go true is = rw is refl
    go false is = rw is (keep-queue b (Some past) entry)

entered-queue : (mode : HoldMode) (i g : ℕ) (entry : Entry) → (entered mode i g entry).queue ≡ entry.queue
entered-queue modes.Null i g entry = refl
entered-queue modes.Shared i g entry = refl
entered-queue modes.Exclusive i g entry = refl

pub done-queue : (b g : ℕ) (past : Option PastHolder) (entry : Entry) → (done b g past entry).entry.queue ≡ entry.queue
done-queue b g past entry = go entry.op
  where
    pick : (op : Operation) (t : Bool) → (done_if t op b g past entry).entry.queue ≡ entry.queue
    pick op true = keep-queue b past (ended (entered op.mode op.asker g entry)) ∙ entered-queue op.mode op.asker g entry
    pick op false = newer-queue b past entry

    go : (o : Option Operation) → (done_as o b g past entry).entry.queue ≡ entry.queue
    go None = newer-queue b past entry
    go (Some op) = pick op (is_number op.grant g)

pub gave-up-queue : (b g : ℕ) (entry : Entry) → (gave_up b g entry).entry.queue ≡ entry.queue
gave-up-queue b g entry = go (is_granting entry.op g) refl
  where
    go : (t : Bool) → is_granting entry.op g ≡ t → (gave_up b g entry).entry.queue ≡ entry.queue
    go true is = rw is refl
    go false is = rw is (gone-queue b g entry)

module _ (me scn : ℕ) (wires : List Wire) (entry : Entry) (s : Block) (sound : Sound s) (tied : TiedTo entry s) (room : HasRoom entry) (le : scn ≤ clock_there s)
    (queue : Same (asks_of entry.queue) (gather of_waiting instances s.request)) (proper : AllByRecursion IsProper entry.queue) where
  reacts-ask : (b : ℕ) (mode held : HoldMode) (asker : ℕ) (wire : Wire) → (o : Option Want) → want_of mode held ≡ o → option_map (λ want. Ask asker want scn) o ≡ Some wire
      → Same (wire ∷ (wires ++ pleas_of entry.queue)) (flights instances s) → Reacts wires (ask b mode held asker entry) s
  reacts-ask b mode held asker wire None wanted is bag = absurd (let clash : ◌≡◌ {A = Option Wire} None (Some wire) = is in cc)
  reacts-ask b mode held asker wire (Some want) wanted is bag =
      let same : Ask asker want scn ≡ wire = some-one (Ask asker want scn) wire is in
      let t = request-taken (Ask asker want scn) (wires ++ pleas_of entry.queue) s asker (Asks want scn) (Waits want) refl refl refl refl refl (subst (λ w. Same (w ∷ (wires ++ pleas_of entry.queue)) (flights instances s)) (sym same) bag) in
      let step = arrives s asker want scn t.1 le in
      let k = asked wires b asker want mode held entry (record s { request = put s.request asker (Waits want) }) (Sound-step step sound)
      (record { lists = tied.lists; alone = tied.alone; sized = tied.sized; draws = tied.draws; operation = tied.operation; known = tied.known }) (λ e. room) t.2
      (more (asker, want) (asks_of entry.queue) (gather of_waiting instances (put s.request asker (Waits want))) (gather of_waiting instances s.request)
      (gather-comes of_waiting instances asker s.request (Waits want) (asker, want) t.0 (rw t.1 refl) refl) queue) proper wanted in (
        goes-before (wires ++ pleas_of (ask b mode held asker entry).entry.queue) (asks_of (ask b mode held asker entry).entry.queue) (ask b mode held asker entry) s (record s { request = put s.request asker (Waits want) })
            (goes step tt (stays (record s { request = put s.request asker (Waits want) }))) refl k.0,
        k.1,
      )

  reacts-back : (u : Unfound) → IsOfMade (messages.Back u) s → Same (back_of scn u ∷ (wires ++ pleas_of entry.queue)) (flights instances s) → Reacts wires (hear_back u entry) s
  reacts-back (unfound.CopyTo b g reader) made bag = back-copy wires b scn entry s sound tied room le queue proper g reader bag
  reacts-back (unfound.ShareTo b g new asker) made bag = back-ship wires b scn entry s sound tied room le queue proper modes.Shared (record { mode = Shared; grant = new }) g asker refl bag
  reacts-back (unfound.ShipTo b g new asker) made bag = back-ship wires b scn entry s sound tied room le queue proper modes.Exclusive (record { mode = Exclusive; grant = new }) g asker refl bag
  reacts-back (unfound.WritePlease b g version holder) made bag = back-write wires b scn entry s sound tied room le queue proper g version holder made bag

  is-wire : (a wire : Wire) → Some a ≡ Some wire → Same (wire ∷ (wires ++ pleas_of entry.queue)) (flights instances s) → Same (a ∷ (wires ++ pleas_of entry.queue)) (flights instances s)
  is-wire a wire is bag = subst (λ w. Same (w ∷ (wires ++ pleas_of entry.queue)) (flights instances s)) (sym (some-one a wire is)) bag

  pub reacts : (message : Message) (wire : Wire) → IsForMaster message → IsOfMade message s → wire_of me scn message ≡ Some wire → Same (wire ∷ (wires ++ pleas_of entry.queue)) (flights instances s) → Reacts wires (react message entry) s
  reacts (messages.Ask b mode held asker) wire for made is bag = reacts-ask b mode held asker wire (want_of mode held) refl is bag
  reacts (messages.CopyTo b g r) wire for made is bag = absurd for
  reacts (messages.ShareTo b g n a) wire for made is bag = absurd for
  reacts (messages.ShipTo b g n a) wire for made is bag = absurd for
  reacts (messages.Invalidate b g) wire for made is bag = absurd for
  reacts (messages.Grant b g m d) wire for made is bag = absurd for
  reacts (messages.Shipped x) wire for made is bag = absurd for
  reacts (messages.Copy i u) wire for made is bag = absurd for
  reacts (messages.Gone b g) wire for made is bag =
      reacts-by wires entry (gone b g entry) s (gone-queue b g entry) proper
      (goes-gone (wires ++ pleas_of entry.queue) (asks_of entry.queue) b g scn entry s sound tied room le queue (is-wire (GoneWire g scn) wire is bag))
  reacts (messages.Done b g m past) wire for made is bag =
      reacts-by wires entry (done b g past entry) s (done-queue b g past entry) proper
      (goes-done (wires ++ pleas_of entry.queue) (asks_of entry.queue) b g past entry s sound tied room (is-wire (DoneWire g) wire is bag) queue)
  reacts (messages.GaveUp b g) wire for made is bag =
      reacts-by wires entry (gave_up b g entry) s (gave-up-queue b g entry) proper
      (goes-gave_up (wires ++ pleas_of entry.queue) (asks_of entry.queue) b g scn entry s sound tied room le queue (is-wire (GaveUpWire g scn) wire is bag))
  reacts (messages.Back u) wire for made is bag = reacts-back u made (is-wire (back_of scn u) wire is bag)
  reacts (messages.Wrote b version) wire for made is bag =
      reacts-by wires entry (wrote b version entry) s refl proper
      (goes-wrote (wires ++ pleas_of entry.queue) (asks_of entry.queue) b version entry s tied (λ e. room) queue (is-wire (WroteWire version) wire is bag))
  reacts (messages.WritePlease b version holder None) wire for made is bag = pleaded wires b version holder entry s tied (λ e. room) (is-wire (PleaseWire version) wire is bag) queue proper
  reacts (messages.WritePlease b version holder (Some g)) wire for made is bag = absurd (let clash : ◌≡◌ {A = Option ℕ} (Some g) None = for in cc)
  reacts (messages.DropPast b version) wire for made is bag = absurd for
  reacts (messages.NeedUndo b j) wire for made is bag = absurd for
  reacts (messages.UndoIs i j) wire for made is bag = absurd for
  reacts (messages.Commit c) wire for made is bag = absurd for
  reacts (messages.Heard c) wire for made is bag = absurd for
  reacts (messages.Bucket k e) wire for made is bag = absurd for

-- and what waited
goes-whole : (wires : List Wire) (entry : Entry) (message : Message) (s : Block) → Sound s → Reacts wires (react message entry) s → Reacts wires (takes entry message) s
goes-whole wires entry message s sound k =
    reacts-then wires (react message entry).entry.queue (asks_of (react message entry).entry.queue) (react message entry) drain s k.0
    (drained (react message entry).entry.queue (wires_of (clock_there s) (react message entry).sends ++ wires) (react message entry).entry k.0.after (sound-after k.0.run sound) k.0.tied k.0.room
    (bag-next (clock_there s) (react message entry).sends wires (react message entry).entry.queue (flights instances k.0.after) k.0.bags.0) k.0.bags.1 k.1)

made-raised : (me scn : ℕ) (message : Message) (s : Block) → IsOfMade message s → IsOfMade message (raised me scn s)
made-raised me scn (messages.Back (unfound.WritePlease b g v h)) s made = made
made-raised me scn _ s made = tt

abbrev pub run-of : (wires : List Wire) (taken : Taken) (s : Block) → Reacts wires taken s → IsRun wires taken s
run-of wires taken s k = record {
  after = k.0.after;
  run = k.0.run;
  shows = record {
    tied = k.0.tied;
    messages = bag-next (clock_there s) taken.sends wires taken.entry.queue (flights instances k.0.after) k.0.bags.0;
    requests = k.0.bags.1;
    proper = k.1;
  };
  beside = k.0.beside;
}

pub message-is-a-run : MessageIsARun
message-is-a-run me scn message wires entry block may room =
    let start : Sound (raised me scn block) = Sound-step (raises block me (max (block.clock me) scn) (omega arith)) may.sound in
    let shows = may.shows in
    let there : clock_there (raised me scn block) ≡ max (block.clock me) scn = ap (λ p. place_clock p (put block.clock me (max (block.clock me) scn))) may.place ∙ put-same block.clock me (max (block.clock me) scn) in
    let le : scn ≤ clock_there (raised me scn block) = omega (arith, there) in
    let tied : TiedTo entry (raised me scn block) = record { lists = shows.tied.lists; alone = shows.tied.alone; sized = shows.tied.sized; draws = shows.tied.draws; operation = shows.tied.operation; known = shows.tied.known } in
    run-of wires (takes entry message) (raised me scn block) (goes-whole wires entry message (raised me scn block) start
    (reacts me scn wires entry (raised me scn block) start tied room le shows.requests shows.proper message may.wire may.for_master (made-raised me scn message block may.of_made) may.is shows.messages))
