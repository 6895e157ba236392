-- A master takes a message, or passes it on.
use Rattle.std.proofs.Common.{◌≡◌, ◌≢◌, ◌∙◌, ℕ, ◌+◌, ◌%◌, ◌/◌, ◌<◌, ◌≤◌, Bool, true, false, List, [], ◌∷◌, ◌++◌, refl, sym, ap, subst, arith, true≢false, ◌⊎◌, inl, inr}
use Rattle.std.specs.Prelude.{max, is_some, if◌then◌else◌, option_map, Option, None, Some, slice_get, slice_index_or, slice_set}
use Rattle.std.specs.List.{AllByRecursion}
use Rattle.std.specs.Option.{option_and_then}
use Rattle.std.proofs.lemmas.List.{get_or-set_other}
use Rattle.std.proofs.lemmas.Option.{none-some}
use Rattle.rac_disk.specs.Content.{Content}
use Rattle.wire_net.specs.declared.entry.Entry.{Entry}
use Rattle.wire_net.specs.declared.message.Lane.TheVariants.{Main}
use Rattle.wire_net.specs.declared.message.Message.{Message}
use Rattle.wire_net.specs.declared.message.Message.TheVariants as messages
use Rattle.wire_net.specs.declared.message.Packet.{Packet}
use Rattle.wire_net.specs.declared.message.Unfound.{Unfound}
use Rattle.wire_net.specs.declared.message.Unfound.TheVariants as unfound
use Rattle.wire_net.specs.Links.{sent, taken}
use Rattle.wire_net.specs.Masters.{master_of}
use Rattle.resource_dir.specs.declared.directory.Directory.{Directory}
use Rattle.resource_dir.specs.Directory.{DirectoryTaken, bucket_of, directory_takes, directory_takes_in, entry_of}
use Rattle.resource_dir.specs.Takes.{takes}
use Rattle.inst_state.specs.declared.inst.Inst.{Inst}
use Rattle.inst_state.specs.declared.inst.Mastering.{Mastering}
use Rattle.inst_state.specs.declared.shared.Core.{Core}
use Rattle.inst_state.specs.Sending.{first_from}
use Rattle.image_steps.specs.Hear.{clock_heard, heard}
use Rattle.image_steps.specs.MasterTake.{is_master, master_block, master_sends, master_sends_at, master_sent, master_taken, mastering_at, mastering_takes, may_take_at_master, next_master, sends_all, sent_or}
use Rattle.image_steps.specs.Sends.{sends}
use Rattle.block_protocol.specs.AllBlocks.{AllBlocks, view}
use Rattle.block_protocol.specs.Block.{At, Want, put}
use Rattle.block_protocol.specs.Wire.{Ask, DoneWire, GaveUpWire, GoneWire, PleaseWire, Same, Wire, WroteWire}
use Rattle.protocol_ties.specs.AmongAll.{IsOfBlock, WaitsAbout, wires_about}
use Rattle.protocol_ties.specs.Bags.{AreLinks, bag_of}
use Rattle.protocol_ties.specs.Directories.{TakesAtOne}
use Rattle.protocol_ties.specs.Messages.{back_of, block_of, want_of, wire_of}
use Rattle.protocol_ties.specs.Numbered.{IsMessageNumbered}
use Rattle.protocol_ties.specs.OnLinks.{all_sent}
use Rattle.protocol_ties.specs.Takes.{HasRoom, IsForMaster, IsOfMade}
use Rattle.protocol_ties.proofs.About.{wires-there as about-there}
use Rattle.protocol_ties.proofs.Among.{sends-are-of-the-block}
use Rattle.protocol_ties.proofs.Bag.{same-trans}
use Rattle.protocol_ties.proofs.Directories.{directory-drops, directory-takes-at-one}
use Rattle.protocol_ties.proofs.Numbered.{Numbered, num-takes}
use Rattle.protocol_ties.proofs.OnLinks.{sends-in}
use Rattle.protocol_ties.proofs.Origins.{some-one}
use Rattle.holder_ties.specs.Beside.{Masters}
use Rattle.holder_ties.specs.Shown.{IsShown, answered, risen}
use Rattle.holder_ties.proofs.Beside.{master-takes, message-passes-on}
use Rattle.machine_ties.proofs.Heard.{comes, had-clock, heard-sane, low-me, own-place}
use Rattle.machine_ties.proofs.Holds.{Alike, Near, alike-near, fine-stays, plays-on, seat-stays}
use Rattle.machine_ties.proofs.Images.{alike-at}
use Rattle.machine_ties.proofs.Led.{led-masters, risen_clock}
use Rattle.machine_ties.proofs.Links.{sane-all-sent, sane-sent, sane-taken}
use Rattle.machine_ties.proofs.Moves.{low-or-not, others-sent, others-taken, own-clock, plays-hears, plays-rises, sent-sized, taken-sized}
use Rattle.machine_ties.proofs.Plays.{same-or-not, set-here}
use Rattle.machine_ties.proofs.Rooms.{few-drawn}
use Rattle.machine_ties.proofs.Sane.{sane-takes}
use Rattle.machine_ties.specs.Plays.{AreFew, IsFine, Plays, newest}
use Rattle.machine_ties.specs.Sane.{AreSane, AreSaneLinks, AreSaneWaiting, IsSane, IsSaneUnfound}
use Rattle.block_protocol.proofs.Basics.{put-other, put-same}

-- A message to a master, as the protocol has it.
record IsToMaster (me scn b : ℕ) (message : Message) : Type 0 where
  about : block_of message ≡ Some b
  for_master : IsForMaster message
  numbered : IsMessageNumbered message
  wire : Wire
  bears : wire_of me scn message ≡ Some wire

wanted : (o : Option Want) → is_some o ≡ true → (want : Want) × (o ≡ Some want)
wanted None e = absurd (true≢false (sym e))
wanted (Some want) e = (want, refl)

back-to-master : (me scn b : ℕ) (made : ℕ → ℕ) (u : Unfound) → master_block (messages.Back u) ≡ Some b → IsSaneUnfound made u → IsToMaster me scn b (messages.Back u)
back-to-master me scn b made (unfound.CopyTo c g reader) e ok = record { about = e; for_master = tt; numbered = ok; wire = back_of scn (unfound.CopyTo c g reader); bears = refl }
back-to-master me scn b made (unfound.ShareTo c g new asker) e ok = record { about = e; for_master = tt; numbered = ok; wire = back_of scn (unfound.ShareTo c g new asker); bears = refl }
back-to-master me scn b made (unfound.ShipTo c g new asker) e ok = record { about = e; for_master = tt; numbered = ok; wire = back_of scn (unfound.ShipTo c g new asker); bears = refl }
back-to-master me scn b made (unfound.WritePlease c g version holder) e ok = record { about = e; for_master = tt; numbered = ok.0; wire = back_of scn (unfound.WritePlease c g version holder); bears = refl }

to-master : (me scn b : ℕ) (made : ℕ → ℕ) (message : Message) → master_block message ≡ Some b → IsSane made message → IsToMaster me scn b message
to-master me scn b made (messages.Ask c mode held asker) e ok =
    let w = wanted (want_of mode held) ok.1 in
    record { about = e; for_master = tt; numbered = ok.0; wire = Ask asker w.0 scn; bears = ap (option_map (λ (want : Want). Ask asker want scn)) w.1 }
to-master me scn b made (messages.Gone c g) e ok = record { about = e; for_master = tt; numbered = tt; wire = GoneWire g scn; bears = refl }
to-master me scn b made (messages.Done c g mode past) e ok = record { about = e; for_master = tt; numbered = ok; wire = DoneWire g; bears = refl }
to-master me scn b made (messages.GaveUp c g) e ok = record { about = e; for_master = tt; numbered = tt; wire = GaveUpWire g scn; bears = refl }
to-master me scn b made (messages.Back u) e ok = back-to-master me scn b made u e ok
to-master me scn b made (messages.Wrote c version) e ok = record { about = e; for_master = tt; numbered = tt; wire = WroteWire version; bears = refl }
to-master me scn b made (messages.WritePlease c version holder None) e ok = record { about = e; for_master = refl; numbered = ok.0; wire = PleaseWire version; bears = refl }
to-master me scn b made _ e ok = absurd (none-some b e)

-- a plea that came back is for a version that was made
of-made : (whole : AllBlocks) (b : ℕ) (message : Message) → master_block message ≡ Some b → IsSane (newest whole) message → IsOfMade message (view whole b).block
of-made whole b (messages.Back (unfound.WritePlease c g version holder)) e ok = subst (λ (d : ℕ). version ≤ newest whole d) (some-one c b e) ok.1
of-made whole b (messages.Back (unfound.CopyTo c g reader)) e ok = tt
of-made whole b (messages.Back (unfound.ShareTo c g new asker)) e ok = tt
of-made whole b (messages.Back (unfound.ShipTo c g new asker)) e ok = tt
of-made whole b _ e ok = tt

-- messages that are sent one after the other
all-sends : (n : Inst) (sends : List (ℕ × Message)) (core : Core) → (sends_all n core sends).net.links ≡ all_sent n.plan.me n.clock.scn sends core.net.links
all-sends n [] core = refl
all-sends n (told ∷ rest) core = all-sends n rest (sends n core told.0 told.1)

none-there : {A : Type 0} (o : Option A) → is_some o ≡ false → o ≡ None
none-there None e = refl
none-there (Some x) e = absurd (true≢false e)

-- who masters a bucket after a message mastered it before
masters-taken : (directory : Directory) (b : ℕ) (message : Message) (c : ℕ) → is_some (bucket_of (directory_takes directory b message).directory (c % 16)) ≡ true → is_some (bucket_of directory (c % 16)) ≡ true
masters-taken directory b message c is = go (bucket_of directory (b % 16)) refl is
  where
    go : (o : Option (List Entry)) → bucket_of directory (b % 16) ≡ o → is_some (bucket_of (directory_takes_in directory (b % 16) o (b / 16) message).directory (c % 16)) ≡ true → is_some (bucket_of directory (c % 16)) ≡ true
    go None e some = some
    go (Some entries) e some = at (same-or-not (c % 16) (b % 16)) some
      where
        at : (c % 16 ≡ b % 16) ⊎ (c % 16 ≢ b % 16) → is_some (bucket_of (directory_takes_in directory (b % 16) (Some entries) (b / 16) message).directory (c % 16)) ≡ true → is_some (bucket_of directory (c % 16)) ≡ true
        at (inl same) some = ap (λ (k : ℕ). is_some (bucket_of directory k)) same ∙ ap (λ (o : Option (List Entry)). is_some o) e
        at (inr ne) some = sym (ap (λ (o : Option (List Entry)). is_some o) (get_or-set_other directory.buckets (b % 16) (c % 16) _ None ne)) ∙ some

-- what was played after so many steps was so after one more
abbrev pub plays-more : (count steps blocks : ℕ) (core : Core) (insts : List Inst) (disk : Content) → Plays count steps blocks core.net.links core.net.masters insts disk → Plays count (steps + 1) blocks core.net.links core.net.masters insts disk
plays-more count steps blocks core insts disk p = record {
  whole = p.whole;
  first_master = p.first_master;
  run = p.run;
  phase = p.phase;
  live = p.live;
  awake = p.awake;
  few = p.few;
  sized = p.sized;
  each = p.each;
  named = p.named;
  clocks = p.clocks;
  sane = p.sane;
  made = λ b. let few = p.made b in omega (arith, few);
  entries = λ i n b entry is it. let fine = p.entries i n b entry is it in record { names = fine.names; waits = fine.waits; drawn = let few = fine.drawn in omega (arith, few) };
  follows = p.follows;
}

module _ (count steps blocks : ℕ) (core : Core) (insts : List Inst) (disk : Content) (p : Plays count steps blocks core.net.links core.net.masters insts disk) (n : Inst) (at : slice_get insts n.plan.me ≡ Some n) (from : ℕ) where
  abbrev me : ℕ
  me = n.plan.me

  abbrev links : List (List Packet)
  links = core.net.links

  abbrev left : List (List Packet)
  left = taken core.net.links from me Main

  abbrev packet_of : ℕ → Message → Option Packet
  packet_of s message = Some (record { scn = s; message = message })

  abbrev made : ℕ → ℕ
  made = newest p.whole

  -- the instance once its clock has risen to the packet's, with what it masters then
  abbrev mastering : ℕ → Message → Mastering → Inst
  mastering s message it = record n { clock = clock_heard n.clock (packet_of s message); mastering = it }

  abbrev more : Plays count (steps + 1) blocks core.net.links core.net.masters insts disk
  more = plays-more count steps blocks core insts disk p

  module _ (s b : ℕ) (message : Message) (first : first_from core from me Main ≡ packet_of s message) (block : master_block message ≡ Some b) where
    abbrev clock : ℕ
    clock = max n.clock.scn s

    sane : IsSane made message
    sane = heard-sane count steps blocks core insts disk p n at from s Main message first

    it : IsToMaster me s b message
    it = to-master me s b made message block sane

    -- the message is of no other block
    taken-elsewhere : (c : ℕ) → c ≢ b → Same (bag_of c links) (bag_of c left)
    taken-elsewhere c ne =
        others-taken c from me s Main message links p.sized (comes count steps blocks core insts disk p n at from s message first).sender (low-me count steps blocks core insts disk p n at) first (λ is. ne (sym (some-one b c (sym it.about ∙ is))))

    left-sized : AreLinks left
    left-sized = taken-sized links from me Main p.sized

    left-sane : AreSaneLinks made left
    left-sane = sane-taken made links from me Main p.sane

    -- ---- a master takes it

    abbrev took : Mastering
    took = record n.mastering { directory = (directory_takes n.mastering.directory b message).directory }

    abbrev taker : Inst
    taker = mastering s message took

    module _ (few : AreFew steps) (entry : Entry) (has : entry_of n.mastering.directory b ≡ Some entry) where
      abbrev told : List (ℕ × Message)
      told = (takes entry message).sends

      abbrev links_now : List (List Packet)
      links_now = all_sent me clock told left

      fine : IsFine made steps b entry
      fine = p.entries me n b entry at has

      at-one : TakesAtOne n.mastering.directory b message entry
      at-one = directory-takes-at-one n.mastering.directory b message entry (p.each me n at).sized has

      near : Near b n taker
      near = record {
        plan = refl;
        life = refl;
        paused = refl;
        leading = refl;
        newest = refl;
        durable = refl;
        reaches = omega arith;
        cached = refl;
        numbers = λ are. are;
        sent = refl;
        sized = λ is. at-one.sized;
        masters = λ c is. masters-taken n.mastering.directory b message c is;
        entries = at-one.others;
      }

      numbers : Numbered (takes entry message)
      numbers = num-takes message entry it.numbered fine.names.1

      of-block : AllByRecursion (IsOfBlock b) told × WaitsAbout b (takes entry message).entry
      of-block = sends-are-of-the-block b message entry it.about fine.names.0

      waiting : AreSane made told × AreSaneWaiting made (takes entry message).entry.queue
      waiting = sane-takes message made entry sane fine.waits

      -- the entry is fine then, after one more step
      fine-then : (other : Entry) → entry_of took.directory b ≡ Some other → IsFine made (steps + 1) b other
      fine-then other is =
          subst (λ (x : Entry). IsFine made (steps + 1) b x) (some-one (takes entry message).entry other (sym at-one.here ∙ is)) (record {
            names = (of-block.1, numbers.1);
            waits = waiting.1;
            drawn = let before = fine.drawn in let drew = few-drawn message entry in omega (arith, before, drew);
          })

      sane-now : AreSaneLinks made links_now
      sane-now = sane-all-sent made me clock told left left-sane waiting.0

      links-sized : AreLinks links_now
      links-sized = (sends-in b me clock told left left-sized (low-me count steps blocks core insts disk p n at) numbers.0).1

      -- nothing is sent about another block
      elsewhere : (c : ℕ) → c ≢ b → Same (bag_of c links) (bag_of c links_now)
      elsewhere c ne =
          let silent : wires_about c clock told ≡ [] = about-there b c clock told ne of-block.0 in
          same-trans (bag_of c links) (bag_of c left) (bag_of c links_now) (taken-elsewhere c ne)
          (subst (λ (l : List Wire). Same (l ++ bag_of c left) (bag_of c links_now)) silent (sends-in c me clock told left left-sized (low-me count steps blocks core insts disk p n at) numbers.0).0)

      -- a block that there isn't
      takes-high : blocks ≤ b → Plays count (steps + 1) blocks links_now core.net.masters (slice_set insts me taker) disk
      takes-high high =
          plays-hears count (steps + 1) blocks links core.net.masters insts disk more me n taker at b near high fine-then s links_now disk refl (λ c low. refl) (λ c low. refl) links-sized
          (λ c low. elsewhere c (λ e. omega (arith, low, e, high))) sane-now

      -- one of the blocks, whose entry is this one
      takes-low : (low : b < blocks) → me ≡ (p.follows b low).master → (p.follows b low).entry ≡ entry → Plays count (steps + 1) blocks links_now core.net.masters (slice_set insts me taker) disk
      takes-low low is_me same =
          let f = p.follows b low in
          let room : HasRoom entry = let before = fine.drawn in omega (arith, before, few) in
          let k : Masters me s links links_now (risen me s f.h) b (takes entry message).entry (view p.whole b).block =
          subst (λ (c : ℕ). Masters me s links (all_sent me c told left) (risen me s f.h) b (takes entry message).entry (view p.whole b).block) (ap (λ (c : ℕ). max c s) (had-clock count steps blocks core insts disk p n at b low))
          (master-takes me from s message links f.h b entry (view p.whole b).block (subst (λ (x : Entry). IsShown links f.h b x (view p.whole b).block) same f.shown) (comes count steps blocks core insts disk p n at from s message first)
          it.about it.wire it.bears it.for_master it.numbered (of-made p.whole b message block sane) (f.at_master ∙ ap (λ (i : ℕ). At i) (sym is_me)) fine.names room) in
          plays-on count (steps + 1) blocks links core.net.masters insts disk more me n taker at b near low f (risen_clock p.whole me s) links_now disk (takes entry message).entry k.after (risen me s f.h) (record {
            led = led-masters p.whole me s b k.after p.phase p.awake k.run (k.shown.around.clock ∙ ap (λ (c : ℕ → ℕ). put c me (max (c me) s)) (sym f.shown.around.clock));
            shown = k.shown;
            seat = (taker, ap (slice_get (slice_set insts me taker)) (sym is_me) ∙ set-here insts me n taker at, at-one.here);
            fine = fine-then;
            bags = k.others;
            place = k.place;
            records = k.shown.around.records ∙ sym f.shown.around.records;
            others = λ i apart. refl;
            own = own-place count steps blocks core insts disk p n at b low;
            on_disk = f.on_disk;
          }) (λ c ne. refl)
          (λ i apart. put-other p.whole.clock me (max (p.whole.clock me) s) i (λ e. apart (sym e)))
          (put-same p.whole.clock me (max (p.whole.clock me) s) ∙ ap (λ (c : ℕ). max c s) (own-clock count steps blocks links core.net.masters insts disk p me n at)) (λ c ne. refl) sane-now

      -- what the directory told is what the entry does
      sent-so : (sends_all taker (heard n core from Main) (directory_takes n.mastering.directory b message).sends).net.links ≡ links_now
      sent-so = all-sends taker (directory_takes n.mastering.directory b message).sends (heard n core from Main) ∙ ap (λ (l : List (ℕ × Message)). all_sent me clock l left) at-one.sends

    -- what it leads to where the instance is the master
    abbrev TakerPlays : Type 0
    TakerPlays = Plays count (steps + 1) blocks (sends_all (mastering s message n.mastering) (heard n core from Main) (directory_takes n.mastering.directory b message).sends).net.links core.net.masters (slice_set insts me taker) disk

    by-entry : (few : AreFew steps) (entry : Entry) (has : entry_of n.mastering.directory b ≡ Some entry) → Plays count (steps + 1) blocks (all_sent me clock (takes entry message).sends left) core.net.masters (slice_set insts me taker) disk → TakerPlays
    by-entry few entry has plays = subst (λ (l : List (List Packet)). Plays count (steps + 1) blocks l core.net.masters (slice_set insts me taker) disk) (sym (sent-so few entry has)) plays

    -- an instance that masters the block's bucket, but no such block
    drops : entry_of n.mastering.directory b ≡ None → blocks ≤ b → TakerPlays
    drops none high =
        let gone = directory-drops n.mastering.directory b message none in
        let same : took ≡ n.mastering = ap (λ (t : DirectoryTaken). record n.mastering { directory = t.directory }) gone in
        subst (λ (l : List (ℕ × Message)). Plays count (steps + 1) blocks (sends_all (mastering s message n.mastering) (heard n core from Main) l).net.links core.net.masters (slice_set insts me taker) disk) (sym (ap (λ (t : DirectoryTaken). t.sends) gone))
        (plays-rises count (steps + 1) blocks links core.net.masters insts disk more me n taker at (alike-at n taker refl refl refl refl same refl refl refl (λ are. are)) s left disk refl (λ c low. refl) (λ c low. refl) left-sized
        (λ c low. taken-elsewhere c (λ e. omega (arith, low, e, high))) left-sane)

    taker-plays : AreFew steps → is_master n b ≡ true → TakerPlays
    taker-plays few is = go (low-or-not b blocks)
      where
        absent : (o : Option Entry) → entry_of n.mastering.directory b ≡ o → blocks ≤ b → TakerPlays
        absent None has high = drops has high
        absent (Some entry) has high = by-entry few entry has (takes-high few entry has high)

        go : (b < blocks) ⊎ (blocks ≤ b) → TakerPlays
        go (inl low) =
            let f = p.follows b low in
            let is_me : me ≡ f.master = f.only me n at is in
            let seat : n ≡ f.seat = some-one n f.seat (sym at ∙ ap (slice_get insts) is_me ∙ f.there) in
            let has : entry_of n.mastering.directory b ≡ Some f.entry = ap (λ (x : Inst). entry_of x.mastering.directory b) seat ∙ f.is_entry in
            by-entry few f.entry has (takes-low few f.entry has low is_me refl)
        go (inr high) = absent (entry_of n.mastering.directory b) refl high

    -- ---- another instance passes it on

    abbrev passer : Inst
    passer = mastering s message took

    abbrev to : ℕ
    to = next_master n core b

    to-there : to < 8
    to-there = go (slice_index_or n.mastering.sent.by_bucket (b % 16) None) refl
      where
        go : (o : Option ℕ) → slice_index_or n.mastering.sent.by_bucket (b % 16) None ≡ o → sent_or o (master_of core.net.masters b) < 8
        go None e = p.named b
        go (Some there) e = (p.each me n at).passes (b % 16) there e

    abbrev passed : List (List Packet)
    passed = sent left me to (record { scn = clock; message = message })

    passes : is_master n b ≡ false → Plays count (steps + 1) blocks passed core.net.masters (slice_set insts me passer) disk
    passes isnt = go (low-or-not b blocks)
      where
        same : took ≡ n.mastering
        same = ap (λ (o : Option (List Entry)). record n.mastering { directory = (directory_takes_in n.mastering.directory (b % 16) o (b / 16) message).directory }) (none-there (bucket_of n.mastering.directory (b % 16)) isnt)

        alike : Alike n passer
        alike = alike-at n passer refl refl refl refl same refl refl refl (λ are. are)

        elsewhere : (c : ℕ) → c ≢ b → Same (bag_of c links) (bag_of c passed)
        elsewhere c ne =
            same-trans (bag_of c links) (bag_of c left) (bag_of c passed) (taken-elsewhere c ne)
            (others-sent c me to clock message left left-sized (low-me count steps blocks core insts disk p n at) to-there (λ is. ne (sym (some-one b c (sym it.about ∙ is)))))

        sane-now : AreSaneLinks made passed
        sane-now = sane-sent made left me to (record { scn = clock; message = message }) left-sane sane

        go : (b < blocks) ⊎ (blocks ≤ b) → Plays count (steps + 1) blocks passed core.net.masters (slice_set insts me passer) disk
        go (inl low) =
            let f = p.follows b low in
            let near : Near b n passer = alike-near b n passer alike in
            let k : Masters me s links passed (risen me s f.h) b f.entry (view p.whole b).block =
            subst (λ (c : ℕ). Masters me s links (answered me from to c message links) (risen me s f.h) b f.entry (view p.whole b).block) (ap (λ (c : ℕ). max c s) (had-clock count steps blocks core insts disk p n at b low))
            (message-passes-on me from to s message links f.h b f.entry (view p.whole b).block f.shown (comes count steps blocks core insts disk p n at from s message first) it.about it.wire it.bears it.for_master to-there
            (p.entries f.master f.seat b f.entry f.there f.is_entry).names) in
            plays-on count (steps + 1) blocks links core.net.masters insts disk more me n passer at b near low f (risen_clock p.whole me s) passed disk f.entry k.after (risen me s f.h) (record {
              led = led-masters p.whole me s b k.after p.phase p.awake k.run (k.shown.around.clock ∙ ap (λ (c : ℕ → ℕ). put c me (max (c me) s)) (sym f.shown.around.clock));
              shown = k.shown;
              seat = seat-stays count (steps + 1) blocks links core.net.masters insts disk more me n passer at b near same f;
              fine = fine-stays count (steps + 1) blocks links core.net.masters insts disk more me n passer at b near same;
              bags = k.others;
              place = k.place;
              records = k.shown.around.records ∙ sym f.shown.around.records;
              others = λ i apart. refl;
              own = own-place count steps blocks core insts disk p n at b low;
              on_disk = f.on_disk;
            }) (λ c ne. refl)
            (λ i apart. put-other p.whole.clock me (max (p.whole.clock me) s) i (λ e. apart (sym e)))
            (put-same p.whole.clock me (max (p.whole.clock me) s) ∙ ap (λ (c : ℕ). max c s) (own-clock count steps blocks links core.net.masters insts disk p me n at)) (λ c ne. refl) sane-now
        go (inr high) =
            plays-rises count (steps + 1) blocks links core.net.masters insts disk more me n passer at alike s passed disk refl (λ c low. refl) (λ c low. refl) (sent-sized left me to (record { scn = clock; message = message }) left-sized)
            (λ c low. elsewhere c (λ e. omega (arith, low, e, high))) sane-now

    -- ---- MasterTake

    abbrev here : Inst
    here = mastering s message n.mastering

    at-block : AreFew steps → (t : Bool) → is_master n b ≡ t
        → Plays count (steps + 1) blocks (if t then sends_all here (heard n core from Main) (directory_takes n.mastering.directory b message).sends else sends here (heard n core from Main) to message).net.links core.net.masters (slice_set insts me taker) disk
    at-block few true is = taker-plays few is
    at-block few false is = passes is

  of-block-of : (s : ℕ) (message : Message) (o : Option ℕ) → first_from core from me Main ≡ packet_of s message → master_block message ≡ o → is_some o ≡ true → AreFew steps
      → Plays count (steps + 1) blocks (master_sends_at (mastering s message n.mastering) (heard n core from Main) message o).net.links core.net.masters (slice_set insts me (mastering s message (mastering_at n.mastering message o))) disk
  of-block-of s message None first block may few = absurd (true≢false (sym may))
  of-block-of s message (Some b) first block may few = at-block s b message first block few (is_master n b) refl

  master-by : (o : Option Packet) → first_from core from me Main ≡ o → is_some (option_and_then master_block (option_map (λ (packet : Packet). packet.message) o)) ≡ true → AreFew steps
      → Plays count (steps + 1) blocks (master_sends (record n { clock = clock_heard n.clock o }) (heard n core from Main) (option_map (λ (packet : Packet). packet.message) o)).net.links core.net.masters
      (slice_set insts me (record n { clock = clock_heard n.clock o; mastering = mastering_takes n.mastering (option_map (λ (packet : Packet). packet.message) o) })) disk
  master-by None first may few = absurd (true≢false (sym may))
  master-by (Some packet) first may few = of-block-of packet.scn packet.message (master_block packet.message) first refl may few

  pub master-plays : AreFew steps → may_take_at_master n core from ≡ true → Plays count (steps + 1) blocks (master_sent n core from).net.links core.net.masters (slice_set insts me (master_taken n core from)) disk
  master-plays few may = master-by (first_from core from me Main) refl may few
