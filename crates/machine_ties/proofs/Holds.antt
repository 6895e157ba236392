-- An instance acts on its image of one block: the others play on.
use Rattle.std.proofs.Common.{◌≡◌, ◌≢◌, ◌∙◌, ℕ, ◌<◌, ◌≤◌, List, length, refl, sym, ap, subst, arith, ◌⊎◌, inl, inr}
use Rattle.std.specs.Prelude.{is_some, Option, None, Some, slice_get, slice_index_or, slice_set, true, Bool, ◌%◌}
use Rattle.std.specs.List.{AllByRecursion}
use Rattle.base_types.specs.declared.names.BlockNo.{BlockNo}
use Rattle.wire_net.specs.declared.entry.Entry.{Entry}
use Rattle.wire_net.specs.declared.masters.Masters.{Masters}
use Rattle.wire_net.specs.declared.message.Packet.{Packet}
use Rattle.resource_dir.specs.Directory.{bucket_of, entry_of}
use Rattle.buffer_cache.specs.Cache.{place_at}
use Rattle.inst_state.specs.declared.inst.BucketsSent.{BucketsSent}
use Rattle.inst_state.specs.declared.inst.Inst.{Inst}
use Rattle.inst_state.specs.declared.inst.Leading.{Leading}
use Rattle.inst_state.specs.declared.inst.Mastering.{Mastering}
use Rattle.inst_state.specs.declared.plan.Plan.{Plan}
use Rattle.inst_state.specs.State.{newest_at}
use Rattle.rac_disk.specs.Content.{Content, block_at}
use Rattle.redo_thread.specs.Thread.{ThreadState, end_of}
use Rattle.image_steps.specs.MasterTake.{is_master}
use Rattle.block_protocol.specs.AllBlocks.{view}
use Rattle.block_protocol.specs.Block.{Block, Record, Scn}
use Rattle.block_protocol.specs.Steps.{IsForced, Step, arrives, asks, asks_copy_again, asks_ship_again, asks_to_write, begins_to_clear, changes, copy_comes_back, drops_copy, drops_past, drops_stale, ends, ends_before_done, evicts, forces, forwards_note, forwards_request, forwards_ship, gives, gives_shared, hears_back_write, hears_gave_up, hears_gone, hears_plea, hears_written, installs_from_disk, installs_held, installs_shipped, invalidates, lets_drop, orders, passes_plea, pleads, raises, sends_copy, sends_entry, serves_copy, ship_comes_back, ships, steps_back, takes_copy, takes_entry, takes_wish, tells_written, uses, uses_copy, was_gone, write_comes_back, writes}
use Rattle.block_protocol.specs.Wire.{Same}
use Rattle.protocol_ties.specs.Bags.{AreLinks, bag_of}
use Rattle.protocol_ties.specs.Directories.{IsSized}
use Rattle.protocol_ties.proofs.Origins.{some-one}
use Rattle.protocol_ties.proofs.Turns.{all-after}
use Rattle.holder_ties.specs.HolderRuns.{HolderRun, IsHolders, goes, stays}
use Rattle.holder_ties.specs.Shown.{Holdings, IsShown}
use Rattle.machine_ties.specs.InstPlaces.{place_of}
use Rattle.machine_ties.proofs.Led.{Led}
use Rattle.machine_ties.specs.Sane.{AreSaneLinks}
use Rattle.machine_ties.proofs.Links.{links-later, queue-later}
use Rattle.machine_ties.specs.Plays.{AreOfBlocks, Follows, IsFine, IsOnDisk, Plays, Serves, clock_of, newest}
use Rattle.machine_ties.proofs.Plays.{durable-before, each-after, other-clocks, other-links, read-after, same-or-not, set-here, set-there}

-- What a step with an image leaves of an instance: all but its clock, its cache, its sessions and its wave.
pub record Alike (n m : Inst) : Type 0 where
  pub plan : m.plan ≡ n.plan
  pub life : m.life ≡ n.life
  pub paused : m.paused ≡ n.paused
  pub leading : m.leading ≡ n.leading
  pub mastering : m.mastering ≡ n.mastering
  pub newest : m.newest ≡ n.newest
  pub thread : m.thread ≡ n.thread
  pub cached : length m.cache.places ≡ length n.cache.places
  pub numbers : AreOfBlocks n.cache → AreOfBlocks m.cache

-- The same where it masters one block in another way, and the others as before, and where more redo may wait.
pub record Near (b : ℕ) (n m : Inst) : Type 0 where
  pub plan : m.plan ≡ n.plan
  pub life : m.life ≡ n.life
  pub paused : m.paused ≡ n.paused
  pub leading : m.leading ≡ n.leading
  pub newest : m.newest ≡ n.newest
  pub durable : m.thread.durable ≡ n.thread.durable
  pub reaches : end_of n.thread ≤ end_of m.thread
  pub cached : length m.cache.places ≡ length n.cache.places
  pub numbers : AreOfBlocks n.cache → AreOfBlocks m.cache
  pub sent : m.mastering.sent ≡ n.mastering.sent
  pub sized : IsSized n.mastering.directory → IsSized m.mastering.directory
  pub masters : (c : ℕ) → is_master m c ≡ true → is_master n c ≡ true
  pub entries : (c : ℕ) → c ≢ b → entry_of m.mastering.directory c ≡ entry_of n.mastering.directory c

pub alike-near : (b : ℕ) (n m : Inst) → Alike n m → Near b n m
alike-near b n m a = record {
  plan = a.plan;
  life = a.life;
  paused = a.paused;
  leading = a.leading;
  newest = a.newest;
  durable = ap (λ (t : ThreadState). t.durable) a.thread;
  reaches = subst (λ (t : ThreadState). end_of n.thread ≤ end_of t) (sym a.thread) (omega arith);
  cached = a.cached;
  numbers = a.numbers;
  sent = ap (λ (g : Mastering). g.sent) a.mastering;
  sized = λ is. subst (λ (g : Mastering). IsSized g.directory) (sym a.mastering) is;
  masters = λ c is. subst (λ (g : Mastering). is_some (bucket_of g.directory (c % 16)) ≡ true) a.mastering is;
  entries = λ c ne. ap (λ (g : Mastering). entry_of g.directory c) a.mastering;
}

pub serves-still : (count blocks i b : ℕ) (n m : Inst) → Near b n m → Serves count blocks i n → Serves count blocks i m
serves-still count blocks i b n m a s = record {
  cached = a.cached ∙ s.cached;
  numbers = a.numbers s.numbers;
  reached = λ c. let same : newest_at m c ≡ newest_at n c = ap (λ (places : List ℕ). slice_index_or places c 0) a.newest in let was = s.reached c in let far = a.reaches in omega (arith, same, was, far);
  low = s.low;
  me = ap (λ (p : Plan). p.me) a.plan ∙ s.me;
  up = a.life ∙ s.up;
  paused = a.paused ∙ s.paused;
  leads = ap (λ (l : Leading). l.leads) a.leading ∙ s.leads;
  adopted = ap (λ (l : Leading). l.adopted) a.leading ∙ s.adopted;
  sized = a.sized s.sized;
  passes = λ bucket to is. s.passes bucket to (subst (λ (g : BucketsSent). slice_index_or g.by_bucket bucket None ≡ Some to) a.sent is);
}

-- the steps of a holder leave the entry where it is
place-step : (me : ℕ) {s t : Block} (step : Step s t) → IsHolders me step → t.place ≡ s.place
place-step me (asks p_block p_inst p_want p_p1 p_p2 p_p3) is = refl
place-step me (arrives p_block p_inst p_want p_scn p_p1 p_p2) is = absurd is
place-step me (forwards_request p_block p_inst p_clock) is = absurd is
place-step me (forwards_note p_block p_clock p_note p_rest p_p1) is = absurd is
place-step me (forwards_ship p_block p_clock p_asker p_granted p_grant p_scn p_p1) is = absurd is
place-step me (steps_back p_block p_inst p_want p_p1 p_p2 p_p3) is = absurd is
place-step me (sends_copy p_block p_inst p_holder p_grant p_p1 p_p2 p_p3) is = absurd is
place-step me (orders p_block p_inst p_want p_holder p_grant p_p1 p_p2 p_p3 p_p4 p_p5) is = absurd is
place-step me (gives_shared p_block p_inst p_p1 p_p2 p_p3) is = absurd is
place-step me (begins_to_clear p_block p_inst p_want p_sent p_p1 p_p2 p_p3 p_p4 p_p5 p_p6) is = absurd is
place-step me (gives p_block p_inst p_want p_p1 p_p2) is = absurd is
place-step me (invalidates p_block p_holder p_hold p_rest p_p1 p_p2) is = refl
place-step me (was_gone p_block p_holder p_grant p_rest p_p1 p_p2) is = refl
place-step me (ships p_block p_asker p_granted p_holder p_grant p_hold p_p1 p_p2 p_p3) is = refl
place-step me (ship_comes_back p_block p_asker p_granted p_holder p_grant p_p1 p_p2) is = refl
place-step me (serves_copy p_block p_inst p_holder p_grant p_hold p_p1 p_p2 p_p3) is = refl
place-step me (copy_comes_back p_block p_inst p_holder p_grant p_p1 p_p2) is = refl
place-step me (asks_to_write p_block p_holder p_grant p_p1 p_p2) is = absurd is
place-step me (takes_wish p_block p_holder p_grant p_rest p_p1) is = refl
place-step me (write_comes_back p_block p_holder p_grant p_rest p_p1 p_p2) is = refl
place-step me (takes_copy p_block p_inst p_version p_upto p_scn p_p1 p_p2) is = refl
place-step me (installs_shipped p_block p_asker p_granted p_version p_dirty p_scn p_p1 p_p2) is = refl
place-step me (installs_from_disk p_block p_asker p_granted p_scn p_p1 p_p2) is = refl
place-step me (installs_held p_block p_asker p_granted p_scn p_p1 p_p2) is = refl
place-step me (evicts p_block p_inst p_hold p_p1 p_p2 p_p3 p_p4) is = refl
place-step me (ends p_block p_asker p_granted p_p1) is = absurd is
place-step me (hears_gone p_block p_grant p_scn p_rest p_p1 p_p2) is = absurd is
place-step me (hears_back_write p_block p_grant p_scn p_rest p_p1 p_p2) is = absurd is
place-step me (hears_gave_up p_block p_grant p_scn p_rest p_p1 p_p2 p_p3) is = absurd is
place-step me (ends_before_done p_block p_asker p_granted p_carrier p_scn p_rest p_p1 p_p2 p_p3) is = absurd is
place-step me (drops_stale p_block p_grant p_rest p_p1) is = absurd is
place-step me (asks_copy_again p_block p_inst p_grant p_scn p_p1 p_p2) is = absurd is
place-step me (asks_ship_again p_block p_asker p_granted p_grant p_scn p_p1 p_p2) is = absurd is
place-step me (changes p_block p_inst p_hold p_p1 p_p2) is = absurd is
place-step me (writes p_block p_inst p_hold p_p1 p_p2 p_p3) is = refl
place-step me (pleads p_block p_version p_p1) is = refl
place-step me (tells_written p_block p_inst p_hold p_p1 p_p2) is = refl
place-step me (hears_written p_block p_version p_rest p_p1) is = absurd is
place-step me (hears_plea p_block p_version p_rest p_p1 p_p2 p_p3) is = absurd is
place-step me (passes_plea p_block p_version p_rest p_p1) is = absurd is
place-step me (lets_drop p_block p_inst p_version p_p1) is = absurd is
place-step me (drops_past p_block p_inst p_version p_rest p_p1) is = refl
place-step me (forces p_block p_inst) is = absurd is
place-step me (uses p_block p_inst p_hold p_scn p_p1 p_p2) is = absurd is
place-step me (uses_copy p_block p_inst p_scn p_copy p_rest p_p1 p_p2) is = absurd is
place-step me (drops_copy p_block p_inst p_copy p_rest p_p1) is = refl
place-step me (raises p_block p_inst p_scn p_p1) is = absurd is
place-step me (sends_entry p_block p_inst p_p1) is = absurd is
place-step me (takes_entry p_block p_inst p_scn p_p1 p_p2) is = absurd is

pub holder-place : {me : ℕ} {s t : Block} → HolderRun me s t → t.place ≡ s.place
holder-place (stays s) = refl
holder-place {me = me} (goes step is rest) = holder-place rest ∙ place-step me step is

-- the disk's image of a block is as it was where its bytes are
on-disk-still : (disk later : Content) (b version : ℕ) → block_at later b ≡ block_at disk b → IsOnDisk disk b version → IsOnDisk later b version
on-disk-still disk later b version same is = record { image = is.image; bytes = same ∙ is.bytes; numbered = is.numbered }

module _ (count steps blocks : ℕ) (links : List (List Packet)) (masters : Masters) (insts : List Inst) (disk : Content) (p : Plays count steps blocks links masters insts disk)
    (me : ℕ) (n m : Inst) (at : slice_get insts me ≡ Some n) (b : BlockNo) (near : Near b n m) where
  abbrev later : List Inst
  later = slice_set insts me m

  -- the instance at a place, with the entries that it has of another block
  seat-after : (i : ℕ) (k : Inst) → slice_get insts i ≡ Some k → (l : Inst) × (slice_get later i ≡ Some l) × ((c : ℕ) → c ≢ b → entry_of l.mastering.directory c ≡ entry_of k.mastering.directory c)
  seat-after i k is = go (same-or-not i me)
    where
      go : (i ≡ me) ⊎ (i ≢ me) → (l : Inst) × (slice_get later i ≡ Some l) × ((c : ℕ) → c ≢ b → entry_of l.mastering.directory c ≡ entry_of k.mastering.directory c)
      go (inl e) =
          let own : Some n ≡ Some k = sym at ∙ ap (slice_get insts) (sym e) ∙ is in
          let same : n ≡ k = some-one n k own in
          (m, ap (slice_get later) e ∙ set-here insts me n m at, λ c ne. near.entries c ne ∙ ap (λ (x : Inst). entry_of x.mastering.directory c) same)
      go (inr ne) = (k, set-there insts me i m ne ∙ is, λ c apart. refl)

  -- who masters a block did so before
  only-after : (c master : ℕ) → ((i : ℕ) (k : Inst) → slice_get insts i ≡ Some k → is_master k c ≡ true → i ≡ master) → (i : ℕ) (k : Inst) → slice_get later i ≡ Some k → is_master k c ≡ true → i ≡ master
  only-after c master only = each-after insts me n m at (λ i k. is_master k c ≡ true → i ≡ master) only (λ is. only me n at (near.masters c is))

  newest-same : (c : ℕ) → newest_at m c ≡ newest_at n c
  newest-same c = ap (λ (places : List ℕ). slice_index_or places c 0) near.newest

  -- where it masters what it mastered, the entry of the block is where it was
  pub seat-stays : m.mastering ≡ n.mastering → (f : Follows links insts disk p.whole b) → (seat : Inst) × (slice_get later f.master ≡ Some seat) × (entry_of seat.mastering.directory b ≡ Some f.entry)
  seat-stays unmoved f = go (same-or-not f.master me)
    where
      go : (f.master ≡ me) ⊎ (f.master ≢ me) → (seat : Inst) × (slice_get later f.master ≡ Some seat) × (entry_of seat.mastering.directory b ≡ Some f.entry)
      go (inl e) =
          let same : n ≡ f.seat = some-one n f.seat (sym at ∙ ap (slice_get insts) (sym e) ∙ f.there) in
          (m, ap (slice_get later) e ∙ set-here insts me n m at, ap (λ (g : Mastering). entry_of g.directory b) (unmoved ∙ ap (λ (x : Inst). x.mastering) same) ∙ f.is_entry)
      go (inr ne) = (f.seat, set-there insts me f.master m ne ∙ f.there, f.is_entry)

  pub fine-stays : m.mastering ≡ n.mastering → (entry : Entry) → entry_of m.mastering.directory b ≡ Some entry → IsFine (newest p.whole) steps b entry
  fine-stays unmoved entry is = p.entries me n b entry at (sym (ap (λ (g : Mastering). entry_of g.directory b) unmoved) ∙ is)

  -- an entry is fine still once others are
  pub fine-later : (made : ℕ → ℕ) → ((d : ℕ) → made d ≡ newest p.whole d) → ((entry : Entry) → entry_of m.mastering.directory b ≡ Some entry → IsFine (newest p.whole) steps b entry)
      → (i : ℕ) (k : Inst) → slice_get later i ≡ Some k → (c : BlockNo) (entry : Entry) → entry_of k.mastering.directory c ≡ Some entry → IsFine made steps c entry
  fine-later made same fine =
      each-after insts me n m at (λ i k. (c : BlockNo) (entry : Entry) → entry_of k.mastering.directory c ≡ Some entry → IsFine made steps c entry)
      (λ i k is c entry e. still c entry (p.entries i k c entry is e)) (λ c entry e. own c entry e (same-or-not c b))
    where
      still : (c : BlockNo) (entry : Entry) → IsFine (newest p.whole) steps c entry → IsFine made steps c entry
      still c entry it = record {
        names = it.names;
        waits = queue-later (newest p.whole) made (λ d. let equal = same d in omega (arith, equal)) entry.queue it.waits;
        drawn = it.drawn;
      }

      own : (c : BlockNo) (entry : Entry) → entry_of m.mastering.directory c ≡ Some entry → (c ≡ b) ⊎ (c ≢ b) → IsFine made steps c entry
      own c entry e (inl equal) = subst (λ (d : ℕ). IsFine made steps d entry) (sym equal) (still b entry (fine entry (subst (λ (d : ℕ). entry_of m.mastering.directory d ≡ Some entry) equal e)))
      own c entry e (inr ne) = still c entry (p.entries me n c entry at (sym (near.entries c ne) ∙ e))

  -- another block follows on, whose clocks and links are others
  pub other-follows : (c : BlockNo) (after : Block) (clock : ℕ → Scn) (links_now : List (List Packet)) (disk_now : Content) → (led : Led p.whole clock b after) → AreLinks links_now → Same (bag_of c links) (bag_of c links_now)
      → (place_at m.cache c ≡ place_at n.cache c) → (block_at disk_now c ≡ block_at disk c) → c ≢ b → Follows links insts disk p.whole c → Follows links_now later disk_now led.last c
  other-follows c after clock links_now disk_now led sized bag same bytes ne f =
      let seat = seat-after f.master f.seat f.there in
      let here : (view led.last c).block ≡ record (view p.whole c).block { clock = clock } = led.others c ne in
      record {
        entry = f.entry;
        h = record f.h { clock = clock };
        shown = subst (λ (s : Block). IsShown links_now (record f.h { clock = clock }) c f.entry s) (sym here)
            (other-links links links_now (record f.h { clock = clock }) c f.entry (record (view p.whole c).block { clock = clock })
            (other-clocks links f.h c f.entry (view p.whole c).block clock f.shown) sized bag);
        places = read-after insts me n m at (λ (o : Option Inst). place_of o c) f.h.places (λ i apart. f.places i) (f.places me ∙ ap (λ (o : Option Inst). place_of o c) at ∙ sym same);
        on_disk = on-disk-still disk disk_now c f.h.disk bytes f.on_disk;
        master = f.master;
        seat = seat.0;
        there = seat.1;
        is_entry = seat.2 c ne ∙ f.is_entry;
        at_master = ap (λ (s : Block). s.place) here ∙ f.at_master;
        only = only-after c f.master f.only;
        durable = λ i d. subst (λ (s : Block). IsForced s i) (sym here) (f.durable i (durable-before insts me n m at c i (newest-same c) near.durable d));
      }

  -- What an instance did with the block, as the protocol has it.
  pub record Did (f : Follows links insts disk p.whole b) (clock : ℕ → Scn) (links_now : List (List Packet)) (disk_now : Content) (entry : Entry) (after : Block) (h : Holdings) : Type 0 where
    pub led : Led p.whole clock b after
    pub shown : IsShown links_now h b entry after
    pub seat : (seat : Inst) × (slice_get later f.master ≡ Some seat) × (entry_of seat.mastering.directory b ≡ Some entry)
    pub fine : (other : Entry) → entry_of m.mastering.directory b ≡ Some other → IsFine (newest p.whole) steps b other
    pub bags : (d : BlockNo) → d ≢ b → Same (bag_of d links) (bag_of d links_now)
    pub place : after.place ≡ (view p.whole b).block.place
    pub records : after.records ≡ (view p.whole b).block.records
    pub others : (i : ℕ) → i ≢ me → h.places i ≡ f.h.places i
    pub own : h.places me ≡ place_at m.cache b
    pub on_disk : IsOnDisk disk_now b h.disk

  this-follows : (f : Follows links insts disk p.whole b) (clock : ℕ → Scn) (links_now : List (List Packet)) (disk_now : Content) (entry : Entry) (after : Block) (h : Holdings) (it : Did f clock links_now disk_now entry after h) → Follows links_now later disk_now it.led.last b
  this-follows f clock links_now disk_now entry after h it =
      record {
        entry = entry;
        h = h;
        shown = subst (λ (s : Block). IsShown links_now h b entry s) (sym it.led.here) it.shown;
        places = read-after insts me n m at (λ (o : Option Inst). place_of o b) h.places (λ i apart. it.others i apart ∙ f.places i) it.own;
        on_disk = it.on_disk;
        master = f.master;
        seat = it.seat.0;
        there = it.seat.1;
        is_entry = it.seat.2;
        at_master = ap (λ (s : Block). s.place) it.led.here ∙ it.place ∙ f.at_master;
        only = only-after b f.master f.only;
        durable = λ i d. subst (λ (rs : List Record). AllByRecursion (λ redo. redo.maker ≡ i → redo.durable ≡ true) rs) (sym (ap (λ (s : Block). s.records) it.led.here ∙ it.records))
            (f.durable i (durable-before insts me n m at b i (newest-same b) near.durable d));
      }

  -- all blocks play on
  pub plays-on : b < blocks → (f : Follows links insts disk p.whole b) (clock : ℕ → Scn) (links_now : List (List Packet)) (disk_now : Content) (entry : Entry) (after : Block) (h : Holdings) (it : Did f clock links_now disk_now entry after h)
      → ((c : ℕ) → c ≢ b → block_at disk_now c ≡ block_at disk c) → ((i : ℕ) → i ≢ me → clock i ≡ p.whole.clock i) → clock me ≡ m.clock.scn → ((c : ℕ) → c ≢ b → place_at m.cache c ≡ place_at n.cache c) → AreSaneLinks (newest p.whole) links_now
      → Plays count steps blocks links_now masters later disk_now
  plays-on few f clock links_now disk_now entry after h it disks others own places sane =
      let led = it.led in
      let made : (c : ℕ) → newest led.last c ≡ newest p.whole c = λ c. made-same c (same-or-not c b) in
      record {
        whole = led.last;
        first_master = p.first_master;
        run = all-after p.run led.run;
        phase = led.phase ∙ p.phase;
        live = λ i low. ap (λ (l : ℕ → Bool). l i) led.live ∙ p.live i low;
        awake = led.awake;
        few = p.few;
        sized = it.shown.sized;
        each = each-after insts me n m at (Serves count blocks) p.each (serves-still count blocks me b n m near (p.each me n at));
        named = p.named;
        clocks = read-after insts me n m at clock_of led.last.clock (λ i apart. ap (λ (c : ℕ → Scn). c i) led.clocks ∙ others i apart ∙ p.clocks i) (ap (λ (c : ℕ → Scn). c me) led.clocks ∙ own);
        sane = links-later (newest p.whole) (newest led.last) (λ c. let same = made c in omega (arith, same)) links_now sane;
        made = λ c. let same = made c in let few = p.made c in omega (arith, same, few);
        entries = λ j x d what is_there is_it. fine-later (newest led.last) made it.fine j x is_there d what is_it;
        follows = λ c low. follows-at c low (same-or-not c b);
      }
    where
      made-same : (c : ℕ) → (c ≡ b) ⊎ (c ≢ b) → newest it.led.last c ≡ newest p.whole c
      made-same c (inl e) = subst (λ (d : ℕ). newest it.led.last d ≡ newest p.whole d) (sym e) (ap (λ (s : Block). length s.records) it.led.here ∙ ap (λ (rs : List Record). length rs) it.records)
      made-same c (inr ne) = ap (λ (s : Block). length s.records) (it.led.others c ne)

      follows-at : (c : BlockNo) → c < blocks → (c ≡ b) ⊎ (c ≢ b) → Follows links_now later disk_now it.led.last c
      follows-at c low (inl e) = subst (λ (d : ℕ). Follows links_now later disk_now it.led.last d) (sym e) (this-follows f clock links_now disk_now entry after h it)
      follows-at c low (inr ne) = other-follows c after clock links_now disk_now it.led it.shown.sized (it.bags c ne) (places c ne) (disks c ne) ne (p.follows c low)
