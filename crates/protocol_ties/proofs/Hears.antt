-- A master hears what ends a hold or an operation.
use Rattle.std.proofs.Common.{◌≡◌, ◌≢◌, ◌∙◌, ℕ, ◌<◌, ◌≤◌, Bool, true, false, cond, List, [], ◌∷◌, ◌++◌, refl, sym, ap, subst, arith, inl, inr, length}
use Rattle.std.specs.Prelude.{map, Option, Some, None, nat_le}
use Rattle.std.proofs.lemmas.Bool.{eq-eqb, ne_eqb, cases_lt, leb-true}
use Rattle.wire_net.specs.declared.message.Mode.{Mode as HoldMode}
use Rattle.wire_net.specs.declared.message.Mode.TheVariants as modes
use Rattle.wire_net.specs.declared.message.Message.TheVariants as messages
use Rattle.wire_net.specs.declared.entry.PastHolder.{PastHolder}
use Rattle.wire_net.specs.declared.entry.Operation.{Operation}
use Rattle.wire_net.specs.declared.entry.Entry.{Entry}
use Rattle.wire_net.specs.Entry.{grant_of, with_grant, no_grants, with_version}
use Rattle.resource_dir.specs.Holders.{is_granting, is_number, taken_out}
use Rattle.resource_dir.specs.Taken.{silent, telling}
use Rattle.resource_dir.specs.Pasts.{is_superseded, keep, keep_any, keep_any_newer}
use Rattle.resource_dir.specs.Ends.{gone, ended, entered, done_if, done_as, done, gave_up}
use Rattle.block_protocol.specs.Block.{Shared, Exclusive, Hold, Want, Carrier, Done, Idle, Clears, Grants, Gone, GaveUp, Stale, Note, DropPast, Request, Block, put, without, Takes, Operation as ProtocolOperation, entered as entered_there}
use Rattle.block_protocol.specs.Sound.{IsSettled, NoteFits, Sound}
use Rattle.block_protocol.specs.Steps.{Step, clock_there, hears_gone, hears_gave_up, ends, ends_before_done, drops_stale, lets_drop}
use Rattle.block_protocol.specs.Wire.{Wire, DoneWire, GoneWire, GaveUpWire, DropPastWire, of_operation, of_request, of_waiting, gather, of_note, of_memo, flights, Same, more}
use Rattle.block_protocol.proofs.Basics.{none-some, put-elim, all-taken}
use Rattle.block_protocol.proofs.Directory.{Sound-step}
use Rattle.block_protocol.proofs.Keep.{Sound-at}
use Rattle.block_protocol.proofs.Bags.{Takes-right, same-move}
use Rattle.block_protocol.proofs.Origin.{Origin, origin, carried, asked, noted, told, of-request-asked, of-memo-told}
use Rattle.block_protocol.specs.Block.{here}
use Rattle.protocol_ties.specs.Messages.{instances, hold_of}
use Rattle.protocol_ties.specs.Entries.{shared_hold, listed_beside, listing_of, IsGranting, IsOperation}
use Rattle.protocol_ties.specs.MasterRuns.{IsMasters, stays, goes}
use Rattle.protocol_ties.specs.Takes.{HasRoom}
use Rattle.protocol_ties.proofs.Bag.{same-trans, first-of, TakenFirst}
use Rattle.protocol_ties.proofs.Tables.{past-none, each-of, grant-same, grant-other, table-sized, is-number, not-number}
use Rattle.protocol_ties.proofs.Out.{out-tied, no-x}
use Rattle.protocol_ties.proofs.Goes.{TiedTo, Goes, goes-before, nothing-done}
use Rattle.protocol_ties.proofs.Asks.{goes-on}
use Rattle.protocol_ties.proofs.Origins.{some-one, note_of, note-of, note-taken, done-of}

-- the entry without a grant is tied to the block without it
pub tied-without : (g : ℕ) (entry : Entry) (s : Block) (notes : List Note) (request : ℕ → Request) → Sound s → TiedTo entry s
    → TiedTo (taken_out g entry) (record s { lists = without g s.lists; notes = notes; request = request })
tied-without g entry s notes request sound tied =
    let t = out-tied g entry.x entry.shared entry.next_grant entry.op entry.written s sound tied in
    record { lists = t.0; sized = t.1; alone = t.2; operation = t.3; draws = tied.draws; known = tied.known }

module _ (wires : List Wire) (asks : List (ℕ × Want)) (b g scn : ℕ) (entry : Entry) (s : Block) (sound : Sound s) (tied : TiedTo entry s) (room : HasRoom entry) (le : scn ≤ clock_there s)
    (queue : Same asks (gather of_waiting instances s.request)) where
  -- a step takes the holder out, and who waited goes on
  pub out-by : (rest : List Note) (step : Step s (record s { lists = without g s.lists; notes = rest })) → IsMasters step → Same wires (flights instances (record s { notes = rest })) → Goes wires asks (gone b g entry) s
  out-by rest step masters bag =
      goes-before wires asks (gone b g entry) s (record s { lists = without g s.lists; notes = rest }) (goes step masters (stays (record s { lists = without g s.lists; notes = rest }))) refl
      (goes-on wires asks b (taken_out g entry) (record s { lists = without g s.lists; notes = rest }) (Sound-step step sound) (tied-without g entry s rest s.request sound tied) room bag queue)

  pub goes-gone : Same (GoneWire g scn ∷ wires) (flights instances s) → Goes wires asks (gone b g entry) s
  goes-gone bag =
      let t = note-taken (GoneWire g scn) wires s (Gone g scn) refl refl refl refl bag in
      out-by t.0 (hears_gone s g scn t.0 t.1 le) tt t.2

  -- a grant that is given up is the operation's, or another's
  granting-of : is_granting entry.op g ≡ true → (op : Option Operation) (other : ProtocolOperation) → entry.op ≡ op → s.op ≡ other → IsOperation op other s.lists → (a : ℕ) × (k : Hold) × (c : Carrier) × (s.op ≡ Grants a k c) × (k.grant ≡ g)
  granting-of is None other e f t = absurd (let clash : false ≡ true = rw e at is in cc)
  granting-of is (Some op) Idle e f t = absurd t
  granting-of is (Some op) (Clears a w) e f t = absurd (let un = t.undrawn in let here : is_number op.grant g ≡ true = rw e at is in let clash : false ≡ true = rw un at here in cc)
  granting-of is (Some op) (Grants a k c) e f t = (a, k, c, f, some-one k.grant g (sym t.drawn ∙ is-number op.grant g (rw e at is)))

  pub other-grant : is_granting entry.op g ≡ false → (op : Option Operation) → entry.op ≡ op → (a : ℕ) (k : Hold) (c : Carrier) → s.op ≡ Grants a k c → k.grant ≢ g
  other-grant is None e a k c f same = absurd (let t : IsOperation None (Grants a k c) s.lists = subst (λ o. IsOperation None o s.lists) f (subst (λ o. IsOperation o s.op s.lists) e tied.operation) in t)
  other-grant is (Some op) e a k c f same =
      let t : IsGranting op a k = subst (λ o. IsOperation (Some op) o s.lists) f (subst (λ o. IsOperation o s.op s.lists) e tied.operation) in
      let here : is_number op.grant g ≡ false = rw e at is in
      not-number op.grant g here (t.drawn ∙ ap (λ n. Some n) same)

  -- the operation's new grant ends it
  ended-by : (rest : List Note) → Takes (GaveUp g scn) s.notes rest → Same wires (flights instances (record s { notes = rest })) → (a : ℕ) (k : Hold) → s.op ≡ Grants a k Done → k.grant ≡ g → Goes wires asks (silent (ended entry)) s
  ended-by rest takes bag a k op same = record {
    after = record s { op = Idle; notes = Stale k.grant ∷ rest };
    run = goes (ends_before_done s a k Done scn rest op (subst (λ n. Takes (GaveUp n scn) s.notes rest) (sym same) takes) le) tt (stays (record s { op = Idle; notes = Stale k.grant ∷ rest }));
    tied = record { lists = tied.lists; alone = tied.alone; sized = tied.sized; draws = tied.draws; operation = tt; known = tied.known };
    bags = (
      same-trans wires (DoneWire k.grant ∷ (gather of_request instances s.request ++ (map of_note rest ++ map of_memo s.memos))) (gather of_request instances s.request ++ (DoneWire k.grant ∷ (map of_note rest ++ map of_memo s.memos)))
          (subst (λ o. Same wires (of_operation o ++ (gather of_request instances s.request ++ (map of_note rest ++ map of_memo s.memos)))) op bag)
          (same-move (DoneWire k.grant ∷ []) (gather of_request instances s.request) (map of_note rest ++ map of_memo s.memos)),
      queue,
    );
    beside = refl;
    room = λ e. room;
  }

  pub goes-gave_up : Same (GaveUpWire g scn ∷ wires) (flights instances s) → Goes wires asks (gave_up b g entry) s
  goes-gave_up bag = go (is_granting entry.op g) refl
    where
      t : (rest : List Note) × Takes (GaveUp g scn) s.notes rest × Same wires (flights instances (record s { notes = rest }))
      t = note-taken (GaveUpWire g scn) wires s (GaveUp g scn) refl refl refl refl bag

      go : (is : Bool) → is_granting entry.op g ≡ is → Goes wires asks (cond is (silent (ended entry)) (gone b g entry)) s
      go true is =
          let o = granting-of is entry.op s.op refl refl tied.operation in
          let fits : NoteFits s.next s.frame s.op (GaveUp g scn) = (all-taken (NoteFits s.next s.frame s.op) (GaveUp g scn) s.notes t.0 t.1 sound.notes).0 in
          let settled : o.1.grant ≡ g → o.2 ≡ Done = subst (λ op. IsSettled op g) o.3 fits.settled in
          ended-by t.0 t.1 t.2 o.0 o.1 (o.3 ∙ ap (λ c. Grants o.0 o.1 c) (settled o.4)) o.4
      go false is = out-by t.0 (hears_gave_up s g scn t.0 t.1 le (other-grant is entry.op refl)) tt t.2

-- past images that were written may go
abbrev pub drops-one : (wires : List Wire) (asks : List (ℕ × Want)) (b to version : ℕ) (entry : Entry) (s : Block) → TiedTo entry s → (entry.op ≡ None → HasRoom entry) → version ≤ s.written
    → Same wires (flights instances s) → Same asks (gather of_waiting instances s.request) → Goes wires asks (telling entry to (messages.DropPast b version)) s
drops-one wires asks b to version entry s tied room le bag queue = record {
  after = record s { memos = DropPast to version ∷ s.memos };
  run = goes (lets_drop s to version le) tt (stays (record s { memos = DropPast to version ∷ s.memos }));
  tied = record { lists = tied.lists; alone = tied.alone; sized = tied.sized; draws = tied.draws; operation = tied.operation; known = tied.known };
  bags = (
    more (DropPastWire to version) wires (of_operation s.op ++ (gather of_request instances s.request ++ (map of_note s.notes ++ (DropPastWire to version ∷ map of_memo s.memos)))) (flights instances s)
        (Takes-right (DropPastWire to version) (of_operation s.op) (gather of_request instances s.request ++ (map of_note s.notes ++ (DropPastWire to version ∷ map of_memo s.memos))) (gather of_request instances s.request ++ (map of_note s.notes ++ map of_memo s.memos))
        (Takes-right (DropPastWire to version) (gather of_request instances s.request) (map of_note s.notes ++ (DropPastWire to version ∷ map of_memo s.memos)) (map of_note s.notes ++ map of_memo s.memos)
        (Takes-right (DropPastWire to version) (map of_note s.notes) (DropPastWire to version ∷ map of_memo s.memos) (map of_memo s.memos) (here (map of_memo s.memos)))))
        bag,
    queue,
  );
  beside = refl;
  room = room;
}

module _ (wires : List Wire) (asks : List (ℕ × Want)) (b : ℕ) (entry : Entry) (s : Block) (tied : TiedTo entry s) (room : entry.op ≡ None → HasRoom entry)
    (bag : Same wires (flights instances s)) (queue : Same asks (gather of_waiting instances s.request)) where
  -- what is known of a past image
  pub keeps : (past : PastHolder) → Goes wires asks (keep b past entry) s
  keeps past = go (nat_le past.version entry.written) refl
    where
      go : (t : Bool) → nat_le past.version entry.written ≡ t → Goes wires asks (cond t (telling entry past.inst (messages.DropPast b past.version)) (silent (record entry { past = with_version entry.past past.inst (Some past.version) }))) s
      go true is =
          let low : past.version ≤ entry.written = leb-true past.version entry.written is in let known = tied.known in
          drops-one wires asks b past.inst past.version entry s tied room (omega (arith, low, known)) bag queue
      go false is = nothing-done wires asks (record entry { past = with_version entry.past past.inst (Some past.version) }) s tied bag queue room

  pub keeps-any : (past : Option PastHolder) → Goes wires asks (keep_any b past entry) s
  keeps-any None = nothing-done wires asks entry s tied bag queue room
  keeps-any (Some past) = keeps past

  pub keeps-newer : (past : Option PastHolder) → Goes wires asks (keep_any_newer b past entry) s
  keeps-newer None = nothing-done wires asks entry s tied bag queue room
  keeps-newer (Some past) = go (is_superseded past entry)
    where
      go : (t : Bool) → Goes wires asks (cond t (silent entry) (keep b past entry)) s
      go true = nothing-done wires asks entry s tied bag queue room
      go false = keeps past

-- after an exclusive grant nobody shares the block
pub nobody-shares : (j : ℕ) → grant_of no_grants j ≡ None
nobody-shares j = elim (cases_lt j instances) [
  | inl low ↦ each-of (λ i. grant_of no_grants i ≡ None) (refl, (refl, (refl, (refl, (refl, (refl, (refl, (refl, tt)))))))) j low
  | inr high ↦ past-none no_grants j refl high
]

-- the asker is entered
entered-tied : (g : ℕ) (entry : Entry) (s : Block) → Sound s → TiedTo entry s → (op : Operation) (a : ℕ) (k : Hold) → s.op ≡ Grants a k Done → k.grant ≡ g → IsGranting op a k
    → TiedTo (ended (entered op.mode op.asker g entry)) (record s { lists = entered_there s.lists a k k.mode; op = Idle })
entered-tied g entry s sound tied op a k done same is = go op.mode is.grants
  where
    low : op.asker < length entry.shared.by_inst
    low = let lt = is.instance in let own = is.serves in let long = tied.sized in omega (arith, lt, own, long)

    shared : (j : ℕ) → k ≡ record { mode = Shared; grant = g } → entry.x ≡ None → put s.lists a (Some k) j ≡ shared_hold (grant_of (with_grant entry.shared op.asker (Some g)) j)
    shared j whole none = put-elim (λ o. o ≡ shared_hold (grant_of (with_grant entry.shared op.asker (Some g)) j)) s.lists a (Some k) j
        (λ at. ap (λ h. Some h) whole ∙ sym (ap shared_hold (subst (λ i. grant_of (with_grant entry.shared op.asker (Some g)) i ≡ Some g) (is.serves ∙ at) (grant-same entry.shared op.asker g low))))
        (λ ne. tied.lists j ∙ ap (λ o. listed_beside o (grant_of entry.shared j) j) none ∙ sym (ap shared_hold (grant-other entry.shared op.asker j (Some g) (λ e. ne (sym is.serves ∙ e)))))

    alone : (j : ℕ) → k ≡ record { mode = Exclusive; grant = g } → put (λ other. None) a (Some k) j ≡ listing_of (Some (record { inst = op.asker; grant = g })) no_grants j
    alone j whole = put-elim (λ o. o ≡ listing_of (Some (record { inst = op.asker; grant = g })) no_grants j) (λ other. None) a (Some k) j
        (λ at. ap (λ h. Some h) whole ∙ sym (rw (eq-eqb op.asker j (is.serves ∙ at)) refl))
        (λ ne. sym (rw (ne_eqb op.asker j (λ e. ne (sym is.serves ∙ e))) (ap shared_hold (nobody-shares j))))

    go : (mode : HoldMode) → hold_of mode k.grant ≡ Some k → TiedTo (ended (entered mode op.asker g entry)) (record s { lists = entered_there s.lists a k k.mode; op = Idle })
    go modes.Null e = absurd (let clash : ◌≡◌ {A = Option Hold} None (Some k) = e in cc)
    go modes.Shared e =
        let is-shared : record { mode = Shared; grant = k.grant } ≡ k = some-one (record { mode = Shared; grant = k.grant }) k e in
        let whole : k ≡ record { mode = Shared; grant = g } = sym is-shared ∙ ap (λ n. record { mode = Shared; grant = n }) same in
        let mode : k.mode ≡ Shared = sym (ap (λ h. h.mode) is-shared) in
        let was = Sound-at s (Grants a k Done) done sound in
        let none : entry.x ≡ None = no-x entry.x entry.shared s.lists (was.operation.only_shared mode) tied.lists in
        record {
          lists = λ j. ap (λ m. entered_there s.lists a k m j) mode ∙ shared j whole none ∙ sym (ap (λ o. listed_beside o (grant_of (with_grant entry.shared op.asker (Some g)) j) j) none);
          alone = λ h f. absurd (none-some entry.x h none f);
          sized = table-sized entry.shared op.asker (Some g) ∙ tied.sized;
          draws = tied.draws;
          operation = tt;
          known = tied.known;
        }
    go modes.Exclusive e =
        let is-alone : record { mode = Exclusive; grant = k.grant } ≡ k = some-one (record { mode = Exclusive; grant = k.grant }) k e in
        let whole : k ≡ record { mode = Exclusive; grant = g } = sym is-alone ∙ ap (λ n. record { mode = Exclusive; grant = n }) same in
        let mode : k.mode ≡ Exclusive = sym (ap (λ h. h.mode) is-alone) in
        record {
          lists = λ j. ap (λ m. entered_there s.lists a k m j) mode ∙ alone j whole;
          alone = λ h f j. nobody-shares j;
          sized = refl;
          draws = tied.draws;
          operation = tt;
          known = tied.known;
        }

module _ (wires : List Wire) (asks : List (ℕ × Want)) (b g : ℕ) (past : Option PastHolder) (entry : Entry) (s : Block) (sound : Sound s) (tied : TiedTo entry s) (room : HasRoom entry)
    (bag : Same (DoneWire g ∷ wires) (flights instances s)) (queue : Same asks (gather of_waiting instances s.request)) where
  -- the Done is the operation's, or one of an operation that ended before it
  data Kind : Type 0 where
    own : (a : ℕ) (k : Hold) → s.op ≡ Grants a k Done → k.grant ≡ g → Same wires (gather of_request instances s.request ++ (map of_note s.notes ++ map of_memo s.memos)) → Kind
    stale : (rest : List Note) → Takes (Stale g) s.notes rest → Same wires (flights instances (record s { notes = rest })) → Kind

  kind : Kind
  kind = go (origin instances s (DoneWire g) f.rest f.takes)
    where
      f : TakenFirst (DoneWire g) wires (flights instances s)
      f = first-of (DoneWire g) wires (flights instances s) bag

      go : Origin instances s (DoneWire g) f.rest → Kind
      go (carried e l) = let d = done-of s.op g e in own d.0 d.1 d.2 d.3 (subst (λ l. Same wires l) l f.same)
      go (asked i lt e) = absurd (let yes = of-request-asked i (s.request i) (DoneWire g) e in let clash : false ≡ true = yes in cc)
      go (noted note rest e t l) =
          let same : note ≡ Stale g = some-one note (Stale g) (sym (note-of note) ∙ ap note_of e) in
          stale rest (subst (λ n. Takes n s.notes rest) same t) (subst (λ l. Same wires l) l f.same)
      go (told memo e) = absurd (let yes = of-memo-told memo (DoneWire g) e in let clash : false ≡ true = yes in cc)

  -- of a stale one the past image alone is dealt with
  stale-done : (rest : List Note) → Takes (Stale g) s.notes rest → Same wires (flights instances (record s { notes = rest })) → Goes wires asks (keep_any_newer b past entry) s
  stale-done rest takes left =
      goes-before wires asks (keep_any_newer b past entry) s (record s { notes = rest }) (goes (drops_stale s g rest takes) tt (stays (record s { notes = rest }))) refl
      (keeps-newer wires asks b entry (record s { notes = rest }) (record { lists = tied.lists; alone = tied.alone; sized = tied.sized; draws = tied.draws; operation = tied.operation; known = tied.known }) (λ e. room) left queue past)

  own-done : (op : Operation) (a : ℕ) (k : Hold) → s.op ≡ Grants a k Done → k.grant ≡ g → IsGranting op a k → Same wires (gather of_request instances s.request ++ (map of_note s.notes ++ map of_memo s.memos))
      → Goes wires asks (keep_any b past (ended (entered op.mode op.asker g entry))) s
  own-done op a k done same is left =
      goes-before wires asks (keep_any b past (ended (entered op.mode op.asker g entry))) s (record s { lists = entered_there s.lists a k k.mode; op = Idle })
      (goes (ends s a k done) tt (stays (record s { lists = entered_there s.lists a k k.mode; op = Idle }))) refl
      (keeps-any wires asks b (ended (entered op.mode op.asker g entry)) (record s { lists = entered_there s.lists a k k.mode; op = Idle }) (entered-tied g entry s sound tied op a k done same is) (λ e. room-in op.mode op.asker) left queue past)
    where
      room-in : (mode : HoldMode) (i : ℕ) → HasRoom (ended (entered mode i g entry))
      room-in modes.Null i = room
      room-in modes.Shared i = room
      room-in modes.Exclusive i = room

  goes-done-if : (op : Operation) → entry.op ≡ Some op → (t : Bool) → is_number op.grant g ≡ t → Kind → Goes wires asks (done_if t op b g past entry) s
  goes-done-if op e true is (own a k done same left) = own-done op a k done same (subst (λ o. IsOperation (Some op) o s.lists) done (subst (λ o. IsOperation o s.op s.lists) e tied.operation)) left
  goes-done-if op e true is (stale rest takes left) = absurd (
      let fits : NoteFits s.next s.frame s.op (Stale g) = (all-taken (NoteFits s.next s.frame s.op) (Stale g) s.notes rest takes sound.notes).0 in
      clash s.op refl (subst (λ o. IsOperation o s.op s.lists) e tied.operation) fits)
    where
      clash : (other : ProtocolOperation) → s.op ≡ other → IsOperation (Some op) other s.lists → NoteFits s.next s.frame other (Stale g) → ⊥
      clash Idle f t fits = t
      clash (Clears a w) f t fits = none-some op.grant g t.undrawn (is-number op.grant g is)
      clash (Grants a k c) f t fits = fits.1 (some-one k.grant g (sym t.drawn ∙ is-number op.grant g is))
  goes-done-if op e false is (own a k done same left) = absurd (
      let t : IsGranting op a k = subst (λ o. IsOperation (Some op) o s.lists) done (subst (λ o. IsOperation o s.op s.lists) e tied.operation) in
      not-number op.grant g is (t.drawn ∙ ap (λ n. Some n) same))
  goes-done-if op e false is (stale rest takes left) = stale-done rest takes left

  goes-done-as : (o : Option Operation) → entry.op ≡ o → Kind → Goes wires asks (done_as o b g past entry) s
  goes-done-as None e (own a k done same left) = absurd (let t : IsOperation None (Grants a k Done) s.lists = subst (λ o. IsOperation None o s.lists) done (subst (λ o. IsOperation o s.op s.lists) e tied.operation) in t)
  goes-done-as None e (stale rest takes left) = stale-done rest takes left
  goes-done-as (Some op) e k = goes-done-if op e (is_number op.grant g) refl k

  pub goes-done : Goes wires asks (done b g past entry) s
  goes-done = goes-done-as entry.op refl kind
