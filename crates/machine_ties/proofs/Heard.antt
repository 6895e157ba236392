-- An instance takes the first packet of a link about a block, or acts on a block, and answers or tells.
use Rattle.std.proofs.Common.{◌≡◌, ◌≢◌, ◌∙◌, ℕ, zero, suc, ◌+◌, ◌*◌, ◌<◌, ◌≤◌, List, [], ◌∷◌, length, refl, sym, ap, subst, arith, ◌⊎◌, inl, inr, nat_le}
use Rattle.std.specs.Prelude.{max, if◌then◌else◌, Option, None, Some, slice_get, slice_index_or, slice_set, true, false, Bool}
use Rattle.std.proofs.lemmas.Bool.{leb-false, leb-true}
use Rattle.std.proofs.lemmas.List.{get_or-set_other, get_or-set_same, length-set}
use Rattle.std.proofs.lemmas.Option.{none-some}
use Rattle.base_types.specs.declared.names.BlockNo.{BlockNo}
use Rattle.wire_net.specs.declared.message.Lane.{Lane}
use Rattle.wire_net.specs.declared.message.Lane.TheVariants.{Main, Undo}
use Rattle.wire_net.specs.declared.message.Message.{Message}
use Rattle.wire_net.specs.declared.message.Packet.{Packet}
use Rattle.wire_net.specs.Links.{first_on, place_of as link_place, sent, taken, waiting_on}
use Rattle.buffer_cache.specs.declared.place.Current.{Current}
use Rattle.buffer_cache.specs.declared.place.Place.{Place}
use Rattle.buffer_cache.specs.Cache.{CacheState, at_place, place_at}
use Rattle.buffer_cache.specs.Place.{empty_place}
use Rattle.rac_disk.specs.Content.{Content}
use Rattle.inst_state.specs.declared.inst.Inst.{Inst}
use Rattle.inst_state.specs.declared.shared.Core.{Core}
use Rattle.inst_state.specs.Sending.{first_from}
use Rattle.block_protocol.specs.AllBlocks.{view}
use Rattle.protocol_ties.specs.Bags.{AreLinks, bag_of}
use Rattle.protocol_ties.specs.Messages.{block_of}
use Rattle.protocol_ties.proofs.Bag.{same-trans}
use Rattle.protocol_ties.proofs.Origins.{some-one}
use Rattle.holder_ties.specs.Own.{told}
use Rattle.holder_ties.specs.Shown.{Comes, Does, GoesOn, Holdings, answered, clock_then}
use Rattle.machine_ties.specs.InstPlaces.{place_of}
use Rattle.machine_ties.proofs.Holds.{Alike}
use Rattle.machine_ties.proofs.Links.{sane-first, sane-sent, sane-taken}
use Rattle.machine_ties.proofs.Moves.{low-or-not, others-sent, others-taken, own-clock, plays-acts, plays-rises, plays-takes, sent-sized, taken-sized}
use Rattle.machine_ties.specs.Plays.{AreOfBlocks, IsOnDisk, Plays, newest}
use Rattle.machine_ties.proofs.Plays.{same-or-not}
use Rattle.machine_ties.specs.Sane.{IsSane}

-- ---- the places of a cache

pub past-end : (places : List Place) (b : ℕ) → length places ≤ b → slice_index_or places b empty_place ≡ empty_place
past-end [] b far = refl
past-end (x ∷ places) zero far = absurd (omega arith)
past-end (x ∷ places) (suc b) far = past-end places b (omega arith)

pub place-own : (f : Place → Place) (cache : CacheState) (b : ℕ) → b < length cache.places → place_at (at_place f cache b) b ≡ f (place_at cache b)
place-own f cache b low = get_or-set_same cache.places b (f (place_at cache b)) empty_place low

pub place-other : (f : Place → Place) (cache : CacheState) (b c : ℕ) → c ≢ b → place_at (at_place f cache b) c ≡ place_at cache c
place-other f cache b c ne = get_or-set_other cache.places b c (f (place_at cache b)) empty_place ne

pub place-long : (f : Place → Place) (cache : CacheState) (b : ℕ) → length (at_place f cache b).places ≡ length cache.places
place-long f cache b = length-set cache.places b (f (place_at cache b))

-- each image stands at the place of its block still
pub numbers-place : (f : Place → Place) (cache : CacheState) (b : ℕ) → AreOfBlocks cache → ((now : Current) → (f (place_at cache b)).current ≡ Some now → now.image.front.number ≡ b) → AreOfBlocks (at_place f cache b)
numbers-place f cache b are one c now held = go (same-or-not c b)
  where
    beyond : length cache.places ≤ b → (place_at (at_place f cache b) b).current ≡ Some now → now.image.front.number ≡ b
    beyond far is =
        let long : length (at_place f cache b).places ≡ length cache.places = place-long f cache b in
        let none : place_at (at_place f cache b) b ≡ empty_place = past-end (at_place f cache b).places b (omega (arith, long, far)) in
        absurd (none-some now (sym (ap (λ (p : Place). p.current) none) ∙ is))

    here : (b < length cache.places) ⊎ (length cache.places ≤ b) → (place_at (at_place f cache b) b).current ≡ Some now → now.image.front.number ≡ b
    here (inl low) is = one now (sym (ap (λ (p : Place). p.current) (place-own f cache b low)) ∙ is)
    here (inr far) is = beyond far is

    go : (c ≡ b) ⊎ (c ≢ b) → now.image.front.number ≡ c
    go (inl e) = subst (λ (d : ℕ). now.image.front.number ≡ d) (sym e) (here (low-or-not b (length cache.places)) (subst (λ (d : ℕ). (place_at (at_place f cache b) d).current ≡ Some now) e held))
    go (inr ne) = are c now (sym (ap (λ (p : Place). p.current) (place-other f cache b c ne)) ∙ held)

-- ---- a packet is first on a link from an instance that is there

no-first : {A : Type 0} (xs : List (List A)) (i : ℕ) → length xs ≤ i → slice_index_or xs i [] ≡ []
no-first [] i le = refl
no-first (x ∷ xs) zero le = absurd (omega arith)
no-first (x ∷ xs) (suc i) le = no-first xs i (omega arith)

far-place : (from to : ℕ) (lane : Lane) → to < 8 → 8 ≤ from → 128 ≤ link_place from to lane
far-place from to Main there high = by (nat_le 8 to) refl
  where
    by : (t : Bool) → nat_le 8 to ≡ t → 128 ≤ (if t then 128 else (8 * from + to) * 2 + 0)
    by true e = omega arith
    by false e = omega (arith, high)
far-place from to Undo there high = by (nat_le 8 to) refl
  where
    by : (t : Bool) → nat_le 8 to ≡ t → 128 ≤ (if t then 128 else (8 * from + to) * 2 + 1)
    by true e = omega arith
    by false e = omega (arith, high)

low-or-high : (a : ℕ) → (a < 8) ⊎ (8 ≤ a)
low-or-high a = by (nat_le 8 a) refl
  where
    by : (t : Bool) → nat_le 8 a ≡ t → (a < 8) ⊎ (8 ≤ a)
    by true e = inr (leb-true 8 a e)
    by false e = inl (leb-false 8 a e)

pub first-low : (links : List (List Packet)) (from to : ℕ) (lane : Lane) (packet : Packet) → AreLinks links → to < 8 → first_on links from to lane ≡ Some packet → from < 8
first-low links from to lane packet sized there first = go (low-or-high from)
  where
    go : (from < 8) ⊎ (8 ≤ from) → from < 8
    go (inl low) = low
    go (inr high) =
        let far : 128 ≤ link_place from to lane = far-place from to lane there high in
        let none : waiting_on links from to lane ≡ [] = no-first links (link_place from to lane) (let n : length links ≡ 128 = sized in omega (arith, n, far)) in
        absurd (none-some packet (sym (ap (λ (l : List Packet). slice_get l 0) none) ∙ first))

module _ (count steps blocks : ℕ) (core : Core) (insts : List Inst) (disk : Content) (p : Plays count steps blocks core.net.links core.net.masters insts disk) (n : Inst) (at : slice_get insts n.plan.me ≡ Some n) where
  abbrev me : ℕ
  me = n.plan.me

  pub low-me : me < 8
  low-me = let low = (p.each me n at).low in let few = p.few in omega (arith, low, few)

  -- what it has of a block is what is had of it
  pub own-place : (b : BlockNo) (low : b < blocks) → (p.follows b low).h.places me ≡ place_at n.cache b
  own-place b low = (p.follows b low).places me ∙ ap (λ (o : Option Inst). place_of o b) at

  pub within : (b : BlockNo) → b < blocks → b < length n.cache.places
  within b low = let long = (p.each me n at).cached in omega (arith, low, long)

  pub had-clock : (b : BlockNo) (low : b < blocks) → (p.follows b low).h.clock me ≡ n.clock.scn
  had-clock b low = sym (ap (λ (c : ℕ → ℕ). c me) (p.follows b low).shown.around.clock) ∙ own-clock count steps blocks core.net.links core.net.masters insts disk p me n at

  -- the first packet of a link
  pub comes : (from s : ℕ) (message : Message) → first_from core from me Main ≡ Some (record { scn = s; message = message }) → Comes me from core.net.links s message
  comes from s message first = record {
    receiver = low-me;
    sender = first-low core.net.links from me Main (record { scn = s; message = message }) p.sized low-me first;
    first = first;
  }

  pub heard-sane : (from s : ℕ) (lane : Lane) (message : Message) → first_from core from me lane ≡ Some (record { scn = s; message = message }) → IsSane (newest p.whole) message
  heard-sane from s lane message first = sane-first (newest p.whole) core.net.links from me lane (record { scn = s; message = message }) p.sane first

  -- it is taken and answered
  pub plays-answering : (from s : ℕ) (b : BlockNo) (message answer : Message) (to : ℕ) (m : Inst) → first_from core from me Main ≡ Some (record { scn = s; message = message }) → block_of message ≡ Some b → block_of answer ≡ Some b
      → to < 8 → IsSane (newest p.whole) answer → Alike n m → max n.clock.scn s ≡ m.clock.scn → ((c : ℕ) → c ≢ b → place_at m.cache c ≡ place_at n.cache c)
      → ((low : b < blocks) → (h : Holdings) × GoesOn me s core.net.links (answered me from to (clock_then me s (p.follows b low).h) answer core.net.links) h b (p.follows b low).entry (view p.whole b).block
      × (h.records ≡ (p.follows b low).h.records) × ((i : ℕ) → i ≢ me → h.places i ≡ (p.follows b low).h.places i) × (h.places me ≡ place_at m.cache b) × IsOnDisk disk b h.disk)
      → Plays count steps blocks (sent (taken core.net.links from me Main) me to (record { scn = max n.clock.scn s; message = answer })) core.net.masters (slice_set insts me m) disk
  plays-answering from s b message answer to m first about says there sane alike clock places law =
      let left : List (List Packet) = taken core.net.links from me Main in
      let sender : from < 8 = (comes from s message first).sender in
      let packet : Packet = record { scn = max n.clock.scn s; message = answer } in
      let sized : AreLinks left = taken-sized core.net.links from me Main p.sized in
      plays-takes count steps blocks core.net.links core.net.masters insts disk p me n m at alike b s (sent left me to packet) (sent-sized left me to packet sized)
      (λ c ne.
      same-trans (bag_of c core.net.links) (bag_of c left) (bag_of c (sent left me to packet))
      (others-taken c from me s Main message core.net.links p.sized sender low-me first (λ is. ne (sym (some-one b c (sym about ∙ is)))))
      (others-sent c me to (max n.clock.scn s) answer left sized low-me there (λ is. ne (sym (some-one b c (sym says ∙ is))))))
      (sane-sent (newest p.whole) left me to packet (sane-taken (newest p.whole) core.net.links from me Main p.sane) sane) clock places
      (λ low.
      let k = law low in
      (k.0, subst (λ (c : ℕ). GoesOn me s core.net.links (answered me from to c answer core.net.links) k.0 b (p.follows b low).entry (view p.whole b).block) (ap (λ (c : ℕ). max c s) (had-clock b low)) k.1, k.2, k.3, k.4, k.5))

  -- it is taken and not answered
  pub plays-silent : (from s : ℕ) (b : BlockNo) (message : Message) (m : Inst) → first_from core from me Main ≡ Some (record { scn = s; message = message }) → block_of message ≡ Some b
      → Alike n m → max n.clock.scn s ≡ m.clock.scn → ((c : ℕ) → c ≢ b → place_at m.cache c ≡ place_at n.cache c)
      → ((low : b < blocks) → (h : Holdings) × GoesOn me s core.net.links (taken core.net.links from me Main) h b (p.follows b low).entry (view p.whole b).block
      × (h.records ≡ (p.follows b low).h.records) × ((i : ℕ) → i ≢ me → h.places i ≡ (p.follows b low).h.places i) × (h.places me ≡ place_at m.cache b) × IsOnDisk disk b h.disk)
      → Plays count steps blocks (taken core.net.links from me Main) core.net.masters (slice_set insts me m) disk
  plays-silent from s b message m first about alike clock places law =
      let left : List (List Packet) = taken core.net.links from me Main in
      let sender : from < 8 = (comes from s message first).sender in
      plays-takes count steps blocks core.net.links core.net.masters insts disk p me n m at alike b s left (taken-sized core.net.links from me Main p.sized)
      (λ c ne. others-taken c from me s Main message core.net.links p.sized sender low-me first (λ is. ne (sym (some-one b c (sym about ∙ is)))))
      (sane-taken (newest p.whole) core.net.links from me Main p.sane) clock places law

  -- one that is about no block is taken from either lane
  pub plays-hearing : (from s : ℕ) (lane : Lane) (message : Message) (m : Inst) → first_from core from me lane ≡ Some (record { scn = s; message = message }) → block_of message ≡ None
      → Alike n m → max n.clock.scn s ≡ m.clock.scn → ((c : ℕ) → place_at m.cache c ≡ place_at n.cache c)
      → Plays count steps blocks (taken core.net.links from me lane) core.net.masters (slice_set insts me m) disk
  plays-hearing from s lane message m first about alike clock places =
      plays-rises count steps blocks core.net.links core.net.masters insts disk p me n m at alike s (taken core.net.links from me lane) disk clock (λ c low. places c) (λ c low. refl) (taken-sized core.net.links from me lane p.sized)
      (λ c low. others-taken c from me s lane message core.net.links p.sized (first-low core.net.links from me lane (record { scn = s; message = message }) p.sized low-me first) low-me first (λ is. none-some c (sym about ∙ is)))
      (sane-taken (newest p.whole) core.net.links from me lane p.sane)

  -- it acts and tells
  pub plays-telling : (b : BlockNo) (message : Message) (to : ℕ) (m : Inst) → block_of message ≡ Some b → to < 8 → IsSane (newest p.whole) message → Alike n m → n.clock.scn ≡ m.clock.scn → ((c : ℕ) → c ≢ b → place_at m.cache c ≡ place_at n.cache c)
      → ((low : b < blocks) → (h : Holdings) × Does me core.net.links (told me to message (p.follows b low).h core.net.links) h b (p.follows b low).entry (view p.whole b).block
      × (h.records ≡ (p.follows b low).h.records) × ((i : ℕ) → i ≢ me → h.places i ≡ (p.follows b low).h.places i) × (h.places me ≡ place_at m.cache b) × IsOnDisk disk b h.disk)
      → Plays count steps blocks (sent core.net.links me to (record { scn = n.clock.scn; message = message })) core.net.masters (slice_set insts me m) disk
  plays-telling b message to m about there sane alike clock places law =
      let packet : Packet = record { scn = n.clock.scn; message = message } in
      plays-acts count steps blocks core.net.links core.net.masters insts disk p me n m at alike b (sent core.net.links me to packet) disk (sent-sized core.net.links me to packet p.sized)
      (λ c ne. others-sent c me to n.clock.scn message core.net.links p.sized low-me there (λ is. ne (sym (some-one b c (sym about ∙ is)))))
      (sane-sent (newest p.whole) core.net.links me to packet p.sane sane) (λ c ne. refl) clock places
      (λ low.
      let k = law low in
      (k.0, subst (λ (c : ℕ). Does me core.net.links (sent core.net.links me to (record { scn = c; message = message })) k.0 b (p.follows b low).entry (view p.whole b).block) (had-clock b low) k.1, k.2, k.3, k.4, k.5))
