-- What a step comes to, by what it does with a block's image, with the clock and with the links.
use Rattle.std.proofs.Common.{◌≡◌, ◌≢◌, ◌∙◌, ℕ, ◌<◌, ◌≤◌, List, [], ◌∷◌, ◌++◌, length, refl, sym, ap, subst, arith, ◌⊎◌, inl, inr, cond}
use Rattle.std.specs.Prelude.{max, drop, option_to_list, Option, None, Some, slice_get, slice_set, true, false, Bool, nat_lt, ◌==◌}
use Rattle.std.proofs.lemmas.Bool.{eqb-true, ltb-false, ltb-true}
use Rattle.std.proofs.lemmas.List.{length-set}
use Rattle.base_types.specs.declared.names.BlockNo.{BlockNo}
use Rattle.wire_net.specs.declared.entry.Entry.{Entry}
use Rattle.wire_net.specs.declared.masters.Masters.{Masters}
use Rattle.wire_net.specs.declared.message.Lane.{Lane}
use Rattle.wire_net.specs.declared.message.Message.{Message}
use Rattle.wire_net.specs.declared.message.Packet.{Packet}
use Rattle.wire_net.specs.Links.{first_on, lane_for, place_of as link_place, sent, taken, waiting_on}
use Rattle.resource_dir.specs.Directory.{entry_of}
use Rattle.buffer_cache.specs.Cache.{place_at}
use Rattle.rac_disk.specs.Content.{Content, block_at}
use Rattle.inst_state.specs.declared.inst.Inst.{Inst}
use Rattle.block_protocol.specs.AllBlocks.{view}
use Rattle.block_protocol.specs.Block.{Block, Scn}
use Rattle.block_protocol.specs.Wire.{Same, Wire}
use Rattle.block_protocol.proofs.Basics.{put-other, put-same}
use Rattle.protocol_ties.specs.AmongAll.{is_block, wires_at}
use Rattle.protocol_ties.specs.Bags.{AreLinks, bag_of}
use Rattle.protocol_ties.specs.MasterRuns.{raised}
use Rattle.protocol_ties.specs.Messages.{block_of, wire_of}
use Rattle.protocol_ties.proofs.Links.{sent-comes-in, taken-has-gone}
use Rattle.protocol_ties.proofs.OnLinks.{same-sym}
use Rattle.protocol_ties.proofs.Turns.{all-after}
use Rattle.holder_ties.specs.Shown.{Does, GoesOn, Holdings}
use Rattle.machine_ties.proofs.Holds.{Alike, Near, alike-near, fine-later, fine-stays, holder-place, other-follows, plays-on, seat-stays, serves-still}
use Rattle.machine_ties.proofs.Led.{Led, led-does, led-goes, led-rises, risen_clock}
use Rattle.machine_ties.specs.Sane.{AreSaneLinks}
use Rattle.machine_ties.proofs.Links.{links-later}
use Rattle.machine_ties.specs.Plays.{IsFine, IsOnDisk, Plays, Serves, clock_of, newest}
use Rattle.machine_ties.proofs.Plays.{each-after, read-after, same-or-not}

-- the clock of an instance that is there
pub own-clock : (count steps blocks : ℕ) (links : List (List Packet)) (masters : Masters) (insts : List Inst) (disk : Content) (p : Plays count steps blocks links masters insts disk) (me : ℕ) (n : Inst) → slice_get insts me ≡ Some n → p.whole.clock me ≡ n.clock.scn
own-clock count steps blocks links masters insts disk p me n at = p.clocks me ∙ ap clock_of at

-- a number is below another one or isn't
pub low-or-not : (a b : ℕ) → (a < b) ⊎ (b ≤ a)
low-or-not a b = go (nat_lt a b) refl
  where
    go : (t : Bool) → nat_lt a b ≡ t → (a < b) ⊎ (b ≤ a)
    go true e = inl (ltb-true a b e)
    go false e = inr (ltb-false a b e)

pub max-same : (a : ℕ) → max a a ≡ a
max-same a = omega arith

by_no : (b : Bool) → (b ≡ true → ⊥) → b ≡ false
by_no true isnt = absurd (isnt refl)
by_no false isnt = refl

module _ (count steps blocks : ℕ) (links : List (List Packet)) (masters : Masters) (insts : List Inst) (disk : Content) (p : Plays count steps blocks links masters insts disk)
    (me : ℕ) (n m : Inst) (at : slice_get insts me ≡ Some n) (b : BlockNo) (near : Near b n m) where
  -- its clock has risen, and messages that are about none of the blocks were taken or sent
  pub plays-hears : blocks ≤ b → ((entry : Entry) → entry_of m.mastering.directory b ≡ Some entry → IsFine (newest p.whole) steps b entry) → (scn : ℕ) (links_now : List (List Packet)) (disk_now : Content) → max n.clock.scn scn ≡ m.clock.scn
      → ((c : ℕ) → c < blocks → place_at m.cache c ≡ place_at n.cache c) → ((c : ℕ) → c < blocks → block_at disk_now c ≡ block_at disk c)
      → AreLinks links_now → ((c : ℕ) → c < blocks → Same (bag_of c links) (bag_of c links_now)) → AreSaneLinks (newest p.whole) links_now → Plays count steps blocks links_now masters (slice_set insts me m) disk_now
  plays-hears high fine scn links_now disk_now clock places disks sized bags sane =
      let led = led-rises p.whole me scn b p.phase p.awake in
      let made : (c : ℕ) → newest led.last c ≡ newest p.whole c = λ c. ap (λ (s : Block). length s.records) (raised-at led c) in
      record {
        whole = led.last;
        first_master = p.first_master;
        run = all-after p.run led.run;
        phase = led.phase ∙ p.phase;
        live = λ i low. ap (λ (l : ℕ → Bool). l i) led.live ∙ p.live i low;
        awake = led.awake;
        few = p.few;
        sized = sized;
        each = each-after insts me n m at (Serves count blocks) p.each (serves-still count blocks me b n m near (p.each me n at));
        named = p.named;
        clocks = read-after insts me n m at clock_of led.last.clock
            (λ i apart. ap (λ (c : ℕ → Scn). c i) led.clocks ∙ put-other p.whole.clock me (max (p.whole.clock me) scn) i (λ e. apart (sym e)) ∙ p.clocks i)
            (ap (λ (c : ℕ → Scn). c me) led.clocks ∙ put-same p.whole.clock me (max (p.whole.clock me) scn) ∙ ap (λ (c : ℕ). max c scn) (own-clock count steps blocks links masters insts disk p me n at) ∙ clock);
        sane = links-later (newest p.whole) (newest led.last) (λ c. let same = made c in omega (arith, same)) links_now sane;
        made = λ c. let same = made c in let few = p.made c in omega (arith, same, few);
        entries = λ j x d what is_there is_it. fine-later count steps blocks links masters insts disk p me n m at b near (newest led.last) made fine j x is_there d what is_it;
        follows = λ c low. other-follows count steps blocks links masters insts disk p me n m at b near c (raised me scn (view p.whole b).block) (risen_clock p.whole me scn) links_now disk_now led sized (bags c low) (places c low) (disks c low) (λ e. omega (arith, low, e, high)) (p.follows c low);
      }
    where
      raised-at : (led : Led p.whole (risen_clock p.whole me scn) b (raised me scn (view p.whole b).block)) (c : ℕ) → (view led.last c).block ≡ record (view p.whole c).block { clock = risen_clock p.whole me scn }
      raised-at led c = go (same-or-not c b)
        where
          go : (c ≡ b) ⊎ (c ≢ b) → (view led.last c).block ≡ record (view p.whole c).block { clock = risen_clock p.whole me scn }
          go (inl e) = subst (λ (d : ℕ). (view led.last d).block ≡ record (view p.whole d).block { clock = risen_clock p.whole me scn }) (sym e) led.here
          go (inr ne) = led.others c ne

module _ (count steps blocks : ℕ) (links : List (List Packet)) (masters : Masters) (insts : List Inst) (disk : Content) (p : Plays count steps blocks links masters insts disk)
    (me : ℕ) (n m : Inst) (at : slice_get insts me ≡ Some n) (alike : Alike n m) where
  abbrev later : List Inst
  later = slice_set insts me m

  live : p.whole.members.live me ≡ true
  live = p.live me (p.each me n at).low

  -- an instance has taken a message about a block
  pub plays-goes : (b : BlockNo) (low : b < blocks) (scn : ℕ) (links_now : List (List Packet)) (h : Holdings) → (it : GoesOn me scn links links_now h b (p.follows b low).entry (view p.whole b).block)
      → h.records ≡ (p.follows b low).h.records → ((i : ℕ) → i ≢ me → h.places i ≡ (p.follows b low).h.places i) → h.places me ≡ place_at m.cache b → IsOnDisk disk b h.disk
      → max n.clock.scn scn ≡ m.clock.scn → ((c : ℕ) → c ≢ b → place_at m.cache c ≡ place_at n.cache c) → AreSaneLinks (newest p.whole) links_now → Plays count steps blocks links_now masters later disk
  plays-goes b low scn links_now h it records others own on_disk clock places sane =
      plays-on count steps blocks links masters insts disk p me n m at b (alike-near b n m alike) low (p.follows b low) (risen_clock p.whole me scn) links_now disk (p.follows b low).entry it.after h (record {
        led = led-goes p.whole me scn b it.after p.phase live p.awake it.run;
        shown = it.shown;
        seat = seat-stays count steps blocks links masters insts disk p me n m at b (alike-near b n m alike) alike.mastering (p.follows b low);
        fine = fine-stays count steps blocks links masters insts disk p me n m at b (alike-near b n m alike) alike.mastering;
        bags = it.others;
        place = holder-place it.run;
        records = it.shown.around.records ∙ records ∙ sym (p.follows b low).shown.around.records;
        others = others;
        own = own;
        on_disk = on_disk;
      }) (λ c ne. refl)
      (λ i apart. put-other p.whole.clock me (max (p.whole.clock me) scn) i (λ e. apart (sym e)))
      (put-same p.whole.clock me (max (p.whole.clock me) scn) ∙ ap (λ (c : ℕ). max c scn) (own-clock count steps blocks links masters insts disk p me n at) ∙ clock) places sane

  -- an instance has acted of its own accord
  pub plays-does : (b : BlockNo) (low : b < blocks) (links_now : List (List Packet)) (disk_now : Content) (h : Holdings) → (it : Does me links links_now h b (p.follows b low).entry (view p.whole b).block)
      → h.records ≡ (p.follows b low).h.records → ((i : ℕ) → i ≢ me → h.places i ≡ (p.follows b low).h.places i) → h.places me ≡ place_at m.cache b → IsOnDisk disk_now b h.disk
      → ((c : ℕ) → c ≢ b → block_at disk_now c ≡ block_at disk c) → n.clock.scn ≡ m.clock.scn → ((c : ℕ) → c ≢ b → place_at m.cache c ≡ place_at n.cache c) → AreSaneLinks (newest p.whole) links_now
      → Plays count steps blocks links_now masters later disk_now
  plays-does b low links_now disk_now h it records others own on_disk disks clock places sane =
      plays-on count steps blocks links masters insts disk p me n m at b (alike-near b n m alike) low (p.follows b low) p.whole.clock links_now disk_now (p.follows b low).entry it.after h (record {
        led = led-does p.whole me b it.after p.phase live p.awake it.run;
        shown = it.shown;
        seat = seat-stays count steps blocks links masters insts disk p me n m at b (alike-near b n m alike) alike.mastering (p.follows b low);
        fine = fine-stays count steps blocks links masters insts disk p me n m at b (alike-near b n m alike) alike.mastering;
        bags = it.others;
        place = holder-place it.run;
        records = it.shown.around.records ∙ records ∙ sym (p.follows b low).shown.around.records;
        others = others;
        own = own;
        on_disk = on_disk;
      }) disks (λ i apart. refl) (own-clock count steps blocks links masters insts disk p me n at ∙ clock) places sane

  -- its clock has risen, and messages that are about none of the blocks were taken or sent
  pub plays-rises : (scn : ℕ) (links_now : List (List Packet)) (disk_now : Content) → max n.clock.scn scn ≡ m.clock.scn → ((c : ℕ) → c < blocks → place_at m.cache c ≡ place_at n.cache c)
      → ((c : ℕ) → c < blocks → block_at disk_now c ≡ block_at disk c)
      → AreLinks links_now → ((c : ℕ) → c < blocks → Same (bag_of c links) (bag_of c links_now)) → AreSaneLinks (newest p.whole) links_now → Plays count steps blocks links_now masters later disk_now
  plays-rises scn links_now disk_now clock places disks sized bags sane =
      plays-hears count steps blocks links masters insts disk p me n m at blocks (alike-near blocks n m alike) (omega arith)
      (fine-stays count steps blocks links masters insts disk p me n m at blocks (alike-near blocks n m alike) alike.mastering) scn links_now disk_now clock places disks sized bags sane

  -- an instance has taken a message about a block, which is one of these or another one
  pub plays-takes : (b : BlockNo) (scn : ℕ) (links_now : List (List Packet)) → AreLinks links_now → ((c : ℕ) → c ≢ b → Same (bag_of c links) (bag_of c links_now)) → AreSaneLinks (newest p.whole) links_now
      → max n.clock.scn scn ≡ m.clock.scn → ((c : ℕ) → c ≢ b → place_at m.cache c ≡ place_at n.cache c)
      → ((low : b < blocks) → (h : Holdings) × GoesOn me scn links links_now h b (p.follows b low).entry (view p.whole b).block × (h.records ≡ (p.follows b low).h.records) × ((i : ℕ) → i ≢ me → h.places i ≡ (p.follows b low).h.places i) × (h.places me ≡ place_at m.cache b) × IsOnDisk disk b h.disk)
      → Plays count steps blocks links_now masters later disk
  plays-takes b scn links_now sized bags sane clock places law = go (low-or-not b blocks)
    where
      go : (b < blocks) ⊎ (blocks ≤ b) → Plays count steps blocks links_now masters later disk
      go (inl low) = let k = law low in plays-goes b low scn links_now k.0 k.1 k.2 k.3 k.4 k.5 clock places sane
      go (inr high) = plays-rises scn links_now disk clock (λ c low. places c (λ e. omega (arith, low, e, high))) (λ c low. refl) sized (λ c low. bags c (λ e. omega (arith, low, e, high))) sane

  -- it has acted of its own accord on a block
  pub plays-acts : (b : BlockNo) (links_now : List (List Packet)) (disk_now : Content) → AreLinks links_now → ((c : ℕ) → c ≢ b → Same (bag_of c links) (bag_of c links_now)) → AreSaneLinks (newest p.whole) links_now
      → ((c : ℕ) → c ≢ b → block_at disk_now c ≡ block_at disk c) → n.clock.scn ≡ m.clock.scn → ((c : ℕ) → c ≢ b → place_at m.cache c ≡ place_at n.cache c)
      → ((low : b < blocks) → (h : Holdings) × Does me links links_now h b (p.follows b low).entry (view p.whole b).block × (h.records ≡ (p.follows b low).h.records) × ((i : ℕ) → i ≢ me → h.places i ≡ (p.follows b low).h.places i) × (h.places me ≡ place_at m.cache b) × IsOnDisk disk_now b h.disk)
      → Plays count steps blocks links_now masters later disk_now
  plays-acts b links_now disk_now sized bags sane disks clock places law = go (low-or-not b blocks)
    where
      go : (b < blocks) ⊎ (blocks ≤ b) → Plays count steps blocks links_now masters later disk_now
      go (inl low) = let k = law low in plays-does b low links_now disk_now k.0 k.1 k.2 k.3 k.4 k.5 disks clock places sane
      go (inr high) = plays-rises n.clock.scn links_now disk_now (max-same n.clock.scn ∙ clock) (λ c low. places c (λ e. omega (arith, low, e, high))) (λ c low. disks c (λ e. omega (arith, low, e, high))) sized (λ c low. bags c (λ e. omega (arith, low, e, high))) sane

-- links without the first packet of one, and with one packet more

pub taken-sized : (links : List (List Packet)) (from to : ℕ) (lane : Lane) → AreLinks links → AreLinks (taken links from to lane)
taken-sized links from to lane sized = length-set links (link_place from to lane) (drop 1 (waiting_on links from to lane)) ∙ sized

pub sent-sized : (links : List (List Packet)) (from to : ℕ) (packet : Packet) → AreLinks links → AreLinks (sent links from to packet)
sent-sized links from to packet sized = length-set links (link_place from to (lane_for packet.message)) (waiting_on links from to (lane_for packet.message) ++ packet ∷ []) ∙ sized

-- a message that isn't about a block is none of its messages
pub no-wires : (c to scn : ℕ) (message : Message) → (block_of message ≡ Some c → ⊥) → wires_at c scn (to, message) ≡ []
no-wires c to scn message not = ap (λ t. cond t (option_to_list (wire_of to scn message)) []) (go (block_of message) refl)
  where
    go : (o : Option ℕ) → block_of message ≡ o → is_block c o ≡ false
    go None e = refl
    go (Some d) e = by_no (d == c) (λ same. not (e ∙ ap Some (eqb-true d c same)))

pub others-taken : (c from to scn : ℕ) (lane : Lane) (message : Message) (links : List (List Packet)) → AreLinks links → from < 8 → to < 8 → first_on links from to lane ≡ Some (record { scn = scn; message = message }) → (block_of message ≡ Some c → ⊥)
    → Same (bag_of c links) (bag_of c (taken links from to lane))
others-taken c from to scn lane message links sized low there first not =
    same-sym (bag_of c (taken links from to lane)) (bag_of c links)
    (subst (λ (l : List Wire). Same (l ++ bag_of c (taken links from to lane)) (bag_of c links)) (no-wires c to scn message not)
    (taken-has-gone c links from to lane (record { scn = scn; message = message }) sized low there first))

pub others-sent : (c from to scn : ℕ) (message : Message) (links : List (List Packet)) → AreLinks links → from < 8 → to < 8 → (block_of message ≡ Some c → ⊥) → Same (bag_of c links) (bag_of c (sent links from to (record { scn = scn; message = message })))
others-sent c from to scn message links sized low there not =
    subst (λ (l : List Wire). Same (l ++ bag_of c links) (bag_of c (sent links from to (record { scn = scn; message = message })))) (no-wires c to scn message not)
    (sent-comes-in c links from to (record { scn = scn; message = message }) sized low there)
