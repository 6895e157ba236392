-- What a cache does to a place is what a step does to the images.
use Rattle.std.proofs.Common.{max, ◌≡◌, ◌≢◌, ◌∙◌, ℕ, ◌+◌, Bool, true, false, cond, [], ◌∷◌, refl, sym, ap, subst}
use Rattle.std.specs.Prelude.{option_map, Option, Some, None, nat_le}
use Rattle.std.proofs.lemmas.Bool.{eq-eqb, ne_eqb, or_right}
use Rattle.base_types.specs.declared.names.RedoAt.{RedoAt}
use Rattle.base_types.specs.declared.names.Scn.{Scn as RecordScn}
use Rattle.redo_types.specs.declared.blocks.RowChange.{RowChange}
use Rattle.block_image.specs.Changes.{applied}
use Rattle.wire_net.specs.declared.message.Mode.{Mode as HoldMode}
use Rattle.wire_net.specs.declared.message.Mode.TheVariants as modes
use Rattle.buffer_cache.specs.declared.place.Current.{Current}
use Rattle.buffer_cache.specs.declared.place.PastImage.{PastImage}
use Rattle.buffer_cache.specs.declared.place.Place.{Place}
use Rattle.buffer_cache.specs.Place.{empty_place, with_grant, is_exclusive, changed, lacking, left_behind, given_up, read_from_disk, shipped, unless_clean, unless_granted, upgraded, written, past_above, past_mine, with_change, with_current, with_written, without_clean, without_grant, without_past}
use Rattle.block_protocol.specs.Block.{Mode, Shared, Exclusive, Hold, Grants, Grant, Shipped, Done, Gone, GaveUp, Block, put, past_kept, unless_written}
use Rattle.block_protocol.specs.Steps.{left}
use Rattle.block_protocol.proofs.Basics.{none-some, put-same, put-other, put-elim}
use Rattle.block_protocol.proofs.Keep.{Sound-at}
use Rattle.block_protocol.specs.Members.{after_loss}
use Rattle.block_protocol.specs.Turns.{regranted as grant_anew}
use Rattle.wire_net.specs.declared.message.Role.{Role}
use Rattle.protocol_ties.specs.Messages.{hold_of, shipped_hold}
use Rattle.protocol_ties.specs.Places.{past_version_of, IsPlaceOf, ArePlaces, place_shipped, CacheChanges, CacheWrites, CacheEvicts, CacheInvalidates, CacheHasNone, CacheShips, CacheInstalls, CacheReads, CacheUpgrades, CacheDropsPast, MastersLeaveCaches, NoCacheHasNewBlock, LostCacheIsEmpty, CachesAreRegranted}
use Rattle.protocol_ties.proofs.Origins.{some-one}

-- the parts of the protocol's state are known by equations
as-is : (hold hold1 : Option Hold) (v v1 : ℕ) (d d1 : Bool) (p p1 : Option ℕ) (c : Option Current) (past : Option PastImage) → hold ≡ hold1 → v ≡ v1 → d ≡ d1 → p ≡ p1 → IsPlaceOf hold1 v1 d1 p1 c past → IsPlaceOf hold v d p c past
as-is hold hold1 v v1 d d1 p p1 c past a b e f is = record {
  held = a ∙ is.held;
  there = λ now e n. is.there now e (sym a ∙ n);
  numbered = λ now e. b ∙ is.numbered now e;
  marked = λ now q. e ∙ is.marked now q;
  kept = f ∙ is.kept;
}

-- one place changes, and the others are as they were
all-places : (places : ℕ → Place) (s t : Block) (i : ℕ) (p : Place) → ArePlaces places s → IsPlaceOf (t.frame i) (t.version i) (t.dirty i) (t.past i) p.current p.past
    → ((j : ℕ) → i ≢ j → (t.frame j ≡ s.frame j) × (t.version j ≡ s.version j) × (t.dirty j ≡ s.dirty j) × (t.past j ≡ s.past j)) → ArePlaces (put places i p) t
all-places places s t i p are here others j = put-elim (λ q. IsPlaceOf (t.frame j) (t.version j) (t.dirty j) (t.past j) q.current q.past) places i p j
    (λ same. subst (λ k. IsPlaceOf (t.frame k) (t.version k) (t.dirty k) (t.past k) p.current p.past) same here)
    (λ ne. let o = others j ne in as-is (t.frame j) (s.frame j) (t.version j) (s.version j) (t.dirty j) (s.dirty j) (t.past j) (s.past j) (places j).current (places j).past o.0 o.1 o.2 o.3 (are j))

no-image : (hold : Hold) (o : Option Hold) → o ≡ Some hold → o ≡ None → ⊥
no-image hold o some none = none-some o hold none some

-- the mode and the grant of an image that is held
pub grant-of : (m : HoldMode) (g : ℕ) (k : Hold) → hold_of m g ≡ Some k → g ≡ k.grant
grant-of modes.Null g k e = absurd (let clash : ◌≡◌ {A = Option Hold} None (Some k) = e in cc)
grant-of modes.Shared g k e = ap (λ h. h.grant) (some-one (record { mode = Shared; grant = g }) k e)
grant-of modes.Exclusive g k e = ap (λ h. h.grant) (some-one (record { mode = Exclusive; grant = g }) k e)

is-alone : (m : HoldMode) (g : ℕ) (k : Hold) → hold_of m g ≡ Some k → k.mode ≡ Exclusive → is_exclusive m ≡ true
is-alone modes.Null g k e mode = absurd (let clash : ◌≡◌ {A = Option Hold} None (Some k) = e in cc)
is-alone modes.Shared g k e mode = absurd (let clash : Shared ≡ Exclusive = ap (λ h. h.mode) (some-one (record { mode = Shared; grant = g }) k e) ∙ mode in cc)
is-alone modes.Exclusive g k e mode = refl

some-now : (a b : Current) → Some a ≡ Some b → a ≡ b
some-now a b e = some-one a b e

module _ (hold : Option Hold) (v : ℕ) (d : Bool) (p : Option ℕ) (past : Option PastImage) where
  core-changes : (c : Option Current) (k : Hold) (change : RowChange) (scn : RecordScn) (at : RedoAt) → hold ≡ Some k → k.mode ≡ Exclusive → IsPlaceOf hold v d p c past → IsPlaceOf hold (v + 1) true p (option_map (changed change scn at) c) past
  core-changes None k change scn at e mode is = absurd (no-image k hold e is.held)
  core-changes (Some now) k change scn at e mode is =
      let alone : is_exclusive now.mode ≡ true = is-alone now.mode now.grant k (sym is.held ∙ e) mode in
      record {
        held = is.held;
        there = λ other q. is.there now refl;
        numbered = λ other q. ap (λ n. n + 1) (is.numbered now refl) ∙ ap (λ t. (cond t (applied now.image change scn) now.image).front.version) (sym alone) ∙ ap (λ z. z.image.front.version) (some-now (changed change scn at now) other q);
        marked = λ other q. sym (or_right now.dirty (is_exclusive now.mode) alone) ∙ ap (λ z. z.dirty) (some-now (changed change scn at now) other q);
        kept = is.kept;
      }

  core-writes : (c : Option Current) → IsPlaceOf hold v d p c past → IsPlaceOf hold v false p (option_map written c) past
  core-writes None is = record { held = is.held; there = is.there; numbered = is.numbered; marked = λ other q. absurd (let clash : ◌≡◌ {A = Option Current} None (Some other) = q in cc); kept = is.kept }
  core-writes (Some now) is = record {
    held = is.held;
    there = λ other q. is.there now refl;
    numbered = λ other q. is.numbered now refl ∙ ap (λ z. z.image.front.version) (some-now (written now) other q);
    marked = λ other q. ap (λ z. z.dirty) (some-now (written now) other q);
    kept = is.kept;
  }

  -- nothing is held
  none-there : (c : Option Current) → p ≡ option_map past_version_of past → c ≡ None → IsPlaceOf None v d p c past
  none-there c kept e = subst (λ o. IsPlaceOf None v d p o past) (sym e) (record {
    held = refl;
    there = λ other q. absurd (let clash : ◌≡◌ {A = Option Current} None (Some other) = q in cc);
    numbered = λ other q. absurd (let clash : ◌≡◌ {A = Option Current} None (Some other) = q in cc);
    marked = λ other q. absurd (let clash : ◌≡◌ {A = Option Current} None (Some other) = q in cc);
    kept = kept;
  })

  core-evicts : (c : Option Current) → d ≡ false → IsPlaceOf hold v d p c past → IsPlaceOf None v d p (unless_clean c) past
  core-evicts None clean is = none-there None is.kept refl
  core-evicts (Some now) clean is = none-there (unless_clean (Some now)) is.kept (ap (λ t. cond t (Some now) None) (sym (is.marked now refl) ∙ clean))

  core-invalidates : (c : Option Current) (k : Hold) → hold ≡ Some k → IsPlaceOf hold v d p c past → IsPlaceOf None v d p (unless_granted k.grant c) past
  core-invalidates None k e is = none-there None is.kept refl
  core-invalidates (Some now) k e is = none-there (unless_granted k.grant (Some now)) is.kept (ap (λ t. cond t None (Some now)) (eq-eqb now.grant k.grant (grant-of now.mode now.grant k (sym is.held ∙ e))))

  core-keeps : (c : Option Current) (g : ℕ) → ((k : Hold) → hold ≡ Some k → k.grant ≢ g) → IsPlaceOf hold v d p c past → IsPlaceOf hold v d p (unless_granted g c) past
  core-keeps None g other is = is
  core-keeps (Some now) g other is = subst (λ o. IsPlaceOf hold v d p o past) (sym (ap (λ t. cond t None (Some now)) (ne_eqb now.grant g not-it))) is
    where
      not-it : now.grant ≢ g
      not-it same = go hold refl
        where
          go : (o : Option Hold) → hold ≡ o → ⊥
          go None e = is.there now refl e
          go (Some k) e = other k e (sym (grant-of now.mode now.grant k (sym is.held ∙ e)) ∙ same)

  core-drops : (c : Option Current) (version : ℕ) (o : Option PastImage) → o ≡ past → IsPlaceOf hold v d p c past → IsPlaceOf hold v d (unless_written version p) c (past_above version o)
  core-drops c version o e is = record {
    held = is.held;
    there = is.there;
    numbered = is.numbered;
    marked = is.marked;
    kept = ap (unless_written version) (is.kept ∙ ap (option_map past_version_of) (sym e)) ∙ above o;
  }
    where
      above : (o : Option PastImage) → unless_written version (option_map past_version_of o) ≡ option_map past_version_of (past_above version o)
      above None = refl
      above (Some x) = go (nat_le x.image.front.version version)
        where
          go : (t : Bool) → cond t None (Some x.image.front.version) ≡ option_map past_version_of (cond t None (Some x))
          go true = refl
          go false = refl

  core-upgrades : (c : Option Current) (first : Option RedoAt) (k : Hold) (g : ℕ) → hold ≡ Some k → IsPlaceOf hold v d p c past
      → IsPlaceOf (Some (record { mode = Exclusive; grant = g })) v d None (option_map (lacking first) (option_map (upgraded g) c)) None
  core-upgrades None first k g e is = absurd (no-image k hold e is.held)
  core-upgrades (Some now) first k g e is = record {
    held = refl;
    there = λ other q none. let clash : ◌≡◌ {A = Option Hold} (Some (record { mode = Exclusive; grant = g })) None = none in cc;
    numbered = λ other q. is.numbered now refl ∙ ap (λ z. z.image.front.version) (some-now (lacking first (upgraded g now)) other q);
    marked = λ other q. is.marked now refl ∙ ap (λ z. z.dirty) (some-now (lacking first (upgraded g now)) other q);
    kept = refl;
  }

-- an exclusive image moves out
core-ships : (hold : Option Hold) (v : ℕ) (d : Bool) (p : Option ℕ) (past : Option PastImage) (c : Option Current) (k : Hold) → hold ≡ Some k → IsPlaceOf hold v d p c past
    → (t : Bool) → d ≡ t → IsPlaceOf None v d (cond t (Some v) p) None (left_behind c past)
core-ships hold v d p past None k e is t dirty = absurd (no-image k hold e is.held)
core-ships hold v d p past (Some now) k e is t dirty = none-there hold v d (cond t (Some v) p) (left_behind (Some now) past) None (stays t (sym (is.marked now refl) ∙ dirty)) refl
  where
    stays : (t : Bool) → now.dirty ≡ t → cond t (Some v) p ≡ option_map past_version_of (cond now.dirty (Some (record { image = now.image; mine = now.mine; asked = false })) past)
    stays true e = rw e (ap (λ n. Some n) (is.numbered now refl))
    stays false e = rw e is.kept

-- an image comes that is held by this grant
came : (now : Current) (k : Hold) (v : ℕ) (d : Bool) → hold_of now.mode now.grant ≡ Some k → v ≡ now.image.front.version → d ≡ now.dirty → IsPlaceOf (Some k) v d None (Some now) None
came now k v d holds number mark = record {
  held = sym holds;
  there = λ other q none. let clash : ◌≡◌ {A = Option Hold} (Some k) None = none in cc;
  numbered = λ other q. number ∙ ap (λ z. z.image.front.version) (some-now now other q);
  marked = λ other q. mark ∙ ap (λ z. z.dirty) (some-now now other q);
  kept = refl;
}

pub cache-changes : CacheChanges
cache-changes s places i k image mode change scn at are =
    all-places places s (record s { version = put s.version i (s.version i + 1); dirty = put s.dirty i true; records = record { maker = i; scn = s.clock i + 1; durable = false } ∷ s.records; clock = put s.clock i (s.clock i + 1); floor = max s.floor (s.clock i + 1) }) i (with_change change scn at (places i)) are
    (as-is (s.frame i) (s.frame i) (put s.version i (s.version i + 1) i) (s.version i + 1) (put s.dirty i true i) true (s.past i) (s.past i) (with_change change scn at (places i)).current (places i).past refl (put-same s.version i (s.version i + 1)) (put-same s.dirty i true) refl
    (core-changes (s.frame i) (s.version i) (s.dirty i) (s.past i) (places i).past (places i).current k change scn at image mode (are i)))
    (λ j ne. (refl, put-other s.version i (s.version i + 1) j ne, put-other s.dirty i true j ne, refl))

pub cache-writes : CacheWrites
cache-writes s places i k image dirty forced are =
    all-places places s (record s { dirty = put s.dirty i false; disk = s.version i }) i (with_written (places i)) are
    (as-is (s.frame i) (s.frame i) (s.version i) (s.version i) (put s.dirty i false i) false (s.past i) (s.past i) (with_written (places i)).current (places i).past refl refl (put-same s.dirty i false) refl
    (core-writes (s.frame i) (s.version i) (s.dirty i) (s.past i) (places i).past (places i).current (are i)))
    (λ j ne. (refl, refl, put-other s.dirty i false j ne, refl))

pub cache-evicts : CacheEvicts
cache-evicts s places i k image clean quiet free are =
    all-places places s (record s { frame = put s.frame i None; notes = GaveUp k.grant (s.clock i) ∷ s.notes }) i (without_clean (places i)) are
    (as-is (put s.frame i None i) None (s.version i) (s.version i) (s.dirty i) (s.dirty i) (s.past i) (s.past i) (without_clean (places i)).current (places i).past (put-same s.frame i None) refl refl refl
    (core-evicts (s.frame i) (s.version i) (s.dirty i) (s.past i) (places i).past (places i).current clean (are i)))
    (λ j ne. (put-other s.frame i None j ne, refl, refl, refl))

pub cache-invalidates : CacheInvalidates
cache-invalidates s places i k rest takes image are =
    all-places places s (record s { frame = put s.frame i None; notes = Gone k.grant (s.clock i) ∷ rest }) i (without_grant k.grant (places i)) are
    (as-is (put s.frame i None i) None (s.version i) (s.version i) (s.dirty i) (s.dirty i) (s.past i) (s.past i) (without_grant k.grant (places i)).current (places i).past (put-same s.frame i None) refl refl refl
    (core-invalidates (s.frame i) (s.version i) (s.dirty i) (s.past i) (places i).past (places i).current k image (are i)))
    (λ j ne. (put-other s.frame i None j ne, refl, refl, refl))

pub cache-has-none : CacheHasNone
cache-has-none s places i g rest takes another are =
    all-places places s (record s { notes = Gone g (s.clock i) ∷ rest }) i (without_grant g (places i)) are
    (core-keeps (s.frame i) (s.version i) (s.dirty i) (s.past i) (places i).past (places i).current g another (are i))
    (λ j ne. (refl, refl, refl, refl))

pub cache-ships : CacheShips
cache-ships s places a k i g hold ordered image forced are = go k.mode
  where
    go : (m : Mode) → ArePlaces (put places i (place_shipped m (places i))) (record s { frame = left s.frame i m; past = past_kept s.past i m (s.dirty i) (s.version i); op = Grants a k (Shipped (s.version i) (s.dirty i) (s.clock i)) })
    go Shared = all-places places s (record s { op = Grants a k (Shipped (s.version i) (s.dirty i) (s.clock i)) }) i (places i) are (are i) (λ j ne. (refl, refl, refl, refl))
    go Exclusive =
        all-places places s (record s { frame = put s.frame i None; past = past_kept s.past i Exclusive (s.dirty i) (s.version i); op = Grants a k (Shipped (s.version i) (s.dirty i) (s.clock i)) }) i (given_up (places i)) are
        (as-is (put s.frame i None i) None (s.version i) (s.version i) (s.dirty i) (s.dirty i) (past_kept s.past i Exclusive (s.dirty i) (s.version i) i) (cond (s.dirty i) (Some (s.version i)) (s.past i)) None (left_behind (places i).current (places i).past)
        (put-same s.frame i None) refl refl (here (s.dirty i))
        (core-ships (s.frame i) (s.version i) (s.dirty i) (s.past i) (places i).past (places i).current hold image (are i) (s.dirty i) refl))
        (λ j ne. (put-other s.frame i None j ne, refl, refl, there (s.dirty i) j ne))
      where
        here : (d : Bool) → past_kept s.past i Exclusive d (s.version i) i ≡ cond d (Some (s.version i)) (s.past i)
        here true = put-same s.past i (Some (s.version i))
        here false = refl

        there : (d : Bool) (j : ℕ) → i ≢ j → past_kept s.past i Exclusive d (s.version i) j ≡ s.past j
        there true j ne = put-other s.past i (Some (s.version i)) j ne
        there false j ne = refl

shipment-holds : (t : Bool) (g : ℕ) → hold_of (cond t modes.Shared modes.Exclusive) g ≡ Some (shipped_hold t g)
shipment-holds true g = refl
shipment-holds false g = refl

pub cache-installs : CacheInstalls
cache-installs s places i x scn comes le are =
    all-places places s (record s { frame = put s.frame i (Some (shipped_hold x.shared x.grant)); past = put s.past i None; version = put s.version i x.image.front.version; dirty = put s.dirty i x.dirty; op = Grants i (shipped_hold x.shared x.grant) Done; copies = put s.copies i [] }) i (with_current (Some (shipped x)) (places i)) are
    (as-is (put s.frame i (Some (shipped_hold x.shared x.grant)) i) (Some (shipped_hold x.shared x.grant)) (put s.version i x.image.front.version i) x.image.front.version (put s.dirty i x.dirty i) x.dirty (put s.past i None i) None (Some (lacking (past_mine (places i).past) (shipped x))) None
    (put-same s.frame i (Some (shipped_hold x.shared x.grant))) (put-same s.version i x.image.front.version) (put-same s.dirty i x.dirty) (put-same s.past i None)
    (came (lacking (past_mine (places i).past) (shipped x)) (shipped_hold x.shared x.grant) x.image.front.version x.dirty (shipment-holds x.shared x.grant) refl refl))
    (λ j ne. (put-other s.frame i (Some (shipped_hold x.shared x.grant)) j ne, put-other s.version i x.image.front.version j ne, put-other s.dirty i x.dirty j ne, put-other s.past i None j ne))

pub cache-reads : CacheReads
cache-reads s places i mode k content scn comes le holds number are =
    all-places places s (record s { frame = put s.frame i (Some k); past = put s.past i None; version = put s.version i s.disk; dirty = put s.dirty i false; op = Grants i k Done; copies = put s.copies i [] }) i (with_current (Some (read_from_disk k.grant mode content)) (places i)) are
    (as-is (put s.frame i (Some k) i) (Some k) (put s.version i s.disk i) s.disk (put s.dirty i false i) false (put s.past i None i) None (Some (read_from_disk k.grant mode content)) None
    (put-same s.frame i (Some k)) (put-same s.version i s.disk) (put-same s.dirty i false) (put-same s.past i None)
    (came (read_from_disk k.grant mode content) k s.disk false holds (sym number) refl))
    (λ j ne. (put-other s.frame i (Some k) j ne, put-other s.version i s.disk j ne, put-other s.dirty i false j ne, put-other s.past i None j ne))

pub cache-upgrades : CacheUpgrades
cache-upgrades s places i k scn comes le sound mode are =
    let was = Sound-at s (Grants i k (Grant false scn)) comes sound in
    let held = was.operation.carrier.0 in
    let whole : k ≡ record { mode = Exclusive; grant = k.grant } = ap {A = Mode} {B = Hold} (λ m. record { mode = m; grant = k.grant }) mode in
    all-places places s (record s { frame = put s.frame i (Some k); past = put s.past i None; op = Grants i k Done; copies = put s.copies i [] }) i (with_current (option_map (upgraded k.grant) (places i).current) (places i)) are
    (as-is (put s.frame i (Some k) i) (Some (record { mode = Exclusive; grant = k.grant })) (s.version i) (s.version i) (s.dirty i) (s.dirty i) (put s.past i None i) None (option_map (lacking (past_mine (places i).past)) (option_map (upgraded k.grant) (places i).current)) None
    (put-same s.frame i (Some k) ∙ ap (λ h. Some h) whole) refl refl (put-same s.past i None)
    (core-upgrades (s.frame i) (s.version i) (s.dirty i) (s.past i) (places i).past (places i).current (past_mine (places i).past) held.0 k.grant held.1 (are i)))
    (λ j ne. (put-other s.frame i (Some k) j ne, refl, refl, put-other s.past i None j ne))

pub cache-drops-past : CacheDropsPast
cache-drops-past s places i version rest takes are =
    all-places places s (record s { past = put s.past i (unless_written version (s.past i)); memos = rest }) i (without_past version (places i)) are
    (as-is (s.frame i) (s.frame i) (s.version i) (s.version i) (s.dirty i) (s.dirty i) (put s.past i (unless_written version (s.past i)) i) (unless_written version (s.past i)) (places i).current (past_above version (places i).past) refl refl refl (put-same s.past i (unless_written version (s.past i)))
    (core-drops (s.frame i) (s.version i) (s.dirty i) (s.past i) (places i).past (places i).current version (places i).past refl (are i)))
    (λ j ne. (refl, refl, refl, put-other s.past i (unless_written version (s.past i)) j ne))

pub masters-leave-caches : MastersLeaveCaches
masters-leave-caches s t places beside are i =
    as-is (t.frame i) (s.frame i) (t.version i) (s.version i) (t.dirty i) (s.dirty i) (t.past i) (s.past i) (places i).current (places i).past (ap (λ z. z.frame i) beside) (ap (λ z. z.version i) beside) (ap (λ z. z.dirty i) beside) (ap (λ z. z.past i) beside) (are i)

nothing-held : IsPlaceOf None 0 false None None None
nothing-held = none-there None 0 false None None None refl refl

pub no-cache-has-new-block : NoCacheHasNewBlock
no-cache-has-new-block master i = nothing-held

pub lost-cache-is-empty : LostCacheIsEmpty
lost-cache-is-empty s places actual i kept bound scn are =
    all-places places s (after_loss s actual i kept bound scn) i empty_place are
    (as-is (put s.frame i None i) None (s.version i) (s.version i) (s.dirty i) (s.dirty i) (put s.past i None i) None None None (put-same s.frame i None) refl refl (put-same s.past i None)
    (none-there (s.frame i) (s.version i) (s.dirty i) None None None refl refl))
    (λ j ne. (put-other s.frame i None j ne, refl, refl, put-other s.past i None j ne))

core-thaws : (hold : Option Hold) (v : ℕ) (d : Bool) (p : Option ℕ) (past : Option PastImage) (c : Option Current) (n : ℕ) (role : Role) → IsPlaceOf hold v d p c past → IsPlaceOf (grant_anew n hold) v d p (option_map (with_grant n role) c) past
core-thaws hold v d p past None n role is = record {
  held = ap (grant_anew n) is.held;
  there = λ other q. absurd (let clash : ◌≡◌ {A = Option Current} None (Some other) = q in cc);
  numbered = λ other q. absurd (let clash : ◌≡◌ {A = Option Current} None (Some other) = q in cc);
  marked = λ other q. absurd (let clash : ◌≡◌ {A = Option Current} None (Some other) = q in cc);
  kept = is.kept;
}
core-thaws hold v d p past (Some now) n role is = record {
  held = ap (grant_anew n) is.held ∙ anew now.mode;
  there = λ other q none. is.there now refl (was-none hold none);
  numbered = λ other q. is.numbered now refl ∙ ap (λ z. z.image.front.version) (some-now (with_grant n role now) other q);
  marked = λ other q. is.marked now refl ∙ ap (λ z. z.dirty) (some-now (with_grant n role now) other q);
  kept = is.kept;
}
  where
    anew : (m : HoldMode) → grant_anew n (hold_of m now.grant) ≡ hold_of m n
    anew modes.Null = refl
    anew modes.Shared = refl
    anew modes.Exclusive = refl

    was-none : (o : Option Hold) → grant_anew n o ≡ None → o ≡ None
    was-none None e = refl
    was-none (Some k) e = absurd (let clash : ◌≡◌ {A = Option Hold} (Some (record { mode = k.mode; grant = n })) None = e in cc)

pub caches-are-regranted : CachesAreRegranted
caches-are-regranted s places number next bound role are i = core-thaws (s.frame i) (s.version i) (s.dirty i) (s.past i) (places i).past (places i).current (number i) (role i) (are i)
