-- An asker is served.
use Rattle.std.proofs.Common.{◌≡◌, ◌≢◌, ◌∙◌, ℕ, ◌+◌, ◌<◌, ◌&&◌, Bool, true, false, cond, not, List, [], ◌∷◌, ◌++◌, refl, sym, ap, subst, arith, eqb, inl, inr}
use Rattle.std.specs.Prelude.{map, flat_map, Option, Some, None, is_some, unwrap_or}
use Rattle.std.specs.List.{AllByRecursion}
use Rattle.std.proofs.lemmas.Bool.{eq-eqb, ne_eqb, cases_lt, eqb-true, eqb-false, and_parts}
use Rattle.wire_net.specs.declared.message.Mode.{Mode as HoldMode}
use Rattle.wire_net.specs.declared.message.Mode.TheVariants as modes
use Rattle.wire_net.specs.declared.message.Message.{Message}
use Rattle.wire_net.specs.declared.message.Message.TheVariants as messages
use Rattle.wire_net.specs.declared.entry.Grants.{Grants as GrantTable}
use Rattle.wire_net.specs.declared.entry.Holder.{Holder}
use Rattle.wire_net.specs.declared.entry.Entry.{Entry}
use Rattle.inst_set.specs.Sets.{all_insts}
use Rattle.wire_net.specs.Entry.{grant_of}
use Rattle.resource_dir.specs.Holders.{other_than, first_sharer, has_other_sharer, is_other_sharer, is_sharer}
use Rattle.resource_dir.specs.Taken.{telling}
use Rattle.resource_dir.specs.Asks.{granting, granted, shipped_from, shared_from, read_beside, invalidates_to, cleared, written_beside}
use Rattle.block_protocol.specs.Block.{Mode, Shared, Exclusive, Hold, Want, Read, Write, Upgrade, mode_for, Quiet, Waits, CopyTo, ShipTo, Grant, Idle, Clears, Grants, Note, Invalidate, Block, put, count}
use Rattle.block_protocol.specs.Sound.{Upgrades, OnlyShared, clears, Sound}
use Rattle.block_protocol.specs.Steps.{SteppedBack, IsInvalidate, is_none, clock_there, sends_copy, orders, gives_shared, begins_to_clear, gives}
use Rattle.block_protocol.specs.Wire.{Wire, CopyToWire, ShipToWire, GrantWire, InvalidateWire, of_operation, of_request, of_waiting, gather, of_note, of_memo, flights, Same, more}
use Rattle.block_protocol.proofs.Basics.{none-some, all-keep}
use Rattle.block_protocol.proofs.Begins.{idle-listed}
use Rattle.block_protocol.proofs.Bags.{Takes-left, Takes-right, same-move}
use Rattle.block_protocol.proofs.RefinesAsk.{gather-taken, gather-comes, gather-none}
use Rattle.protocol_ties.specs.Messages.{instances, want_of, hold_of, wires_of}
use Rattle.protocol_ties.specs.Entries.{shared_hold, listed_beside}
use Rattle.protocol_ties.specs.MasterRuns.{MasterRun, stays, goes}
use Rattle.protocol_ties.specs.Takes.{HasRoom}
use Rattle.protocol_ties.proofs.Bag.{same-under, same-trans, left-by}
use Rattle.protocol_ties.proofs.Tables.{past-none, each-of, find-none, find-some, any-none, has-others}
use Rattle.protocol_ties.proofs.Goes.{TiedTo, Goes, begun}

-- how a sharer is listed
some-sharer : (o : Option ℕ) → is_some o ≡ true → o ≡ Some (unwrap_or o 0)
some-sharer None e = absurd (let clash : false ≡ true = e in cc)
some-sharer (Some g) e = refl

no-sharer : (o : Option ℕ) → is_some o ≡ false → o ≡ None
no-sharer None e = refl
no-sharer (Some g) e = absurd (let clash : true ≡ false = e in cc)

pub from-disk : (o : Option ℕ) → is_none (shared_hold o) ≡ not (is_some o)
from-disk None = refl
from-disk (Some g) = refl

some-hold : (o : Option ℕ) → is_some (shared_hold o) ≡ is_some o
some-hold None = refl
some-hold (Some g) = refl

pub hold-grant : (o : Option ℕ) (hold : Hold) → shared_hold o ≡ Some hold → (o ≡ Some hold.grant) × (hold.mode ≡ Shared)
hold-grant None hold e = absurd (let clash : ◌≡◌ {A = Option Hold} None (Some hold) = e in cc)
hold-grant (Some g) hold e = let same : record { mode = Shared; grant = g } ≡ hold = cc in (ap (λ h. Some h.grant) same, sym (ap (λ h. h.mode) same))

pub other-some : (asker : ℕ) (x : Option Holder) (h : Holder) → other_than asker x ≡ Some h → (x ≡ Some h) × (h.inst ≢ asker)
other-some asker None h e = absurd (let clash : ◌≡◌ {A = Option Holder} None (Some h) = e in cc)
other-some asker (Some k) h e = go (eqb k.inst asker) refl e
  where
    go : (t : Bool) → eqb k.inst asker ≡ t → cond t None (Some k) ≡ Some h → (◌≡◌ {A = Option Holder} (Some k) (Some h)) × (h.inst ≢ asker)
    go true is f = absurd (let clash : ◌≡◌ {A = Option Holder} None (Some h) = f in cc)
    go false is f = (f, λ same. eqb-false k.inst asker is (let one : k ≡ h = cc in ap (λ z. z.inst) one ∙ same))

other-none : (asker : ℕ) (x : Option Holder) → other_than asker x ≡ None → ((h : Holder) → x ≡ Some h → h.inst ≢ asker) → x ≡ None
other-none asker None e not-own = refl
other-none asker (Some k) e not-own = absurd (let clash : ◌≡◌ {A = Option Holder} (Some k) None = rw (ne_eqb k.inst asker (not-own k refl)) at e in cc)

-- the notes that tell each other sharer
abbrev pub told_to : ℕ → GrantTable → ℕ → List Note
told_to asker shared inst = cond (is_other_sharer shared asker inst) (Invalidate inst (unwrap_or (grant_of shared inst) 0) ∷ []) []

abbrev pub told : ℕ → GrantTable → List ℕ → List Note
told asker shared insts = flat_map (told_to asker shared) insts

told-wires : (scn b asker : ℕ) (shared : GrantTable) (insts : List ℕ) → wires_of scn (flat_map (invalidates_to b asker shared) insts) ≡ map of_note (told asker shared insts)
told-wires scn b asker shared [] = refl
told-wires scn b asker shared (i ∷ insts) = go (is_other_sharer shared asker i) (told-wires scn b asker shared insts)
  where
    go : (t : Bool) → wires_of scn (flat_map (invalidates_to b asker shared) insts) ≡ map of_note (told asker shared insts)
        → wires_of scn (cond t ((i, messages.Invalidate b (unwrap_or (grant_of shared i) 0)) ∷ []) [] ++ flat_map (invalidates_to b asker shared) insts)
        ≡ map of_note (cond t (Invalidate i (unwrap_or (grant_of shared i) 0) ∷ []) [] ++ told asker shared insts)
    go true ih = ap (λ l. InvalidateWire i (unwrap_or (grant_of shared i) 0) ∷ l) ih
    go false ih = ih

told-each : (s : Block) (asker : ℕ) (shared : GrantTable) (insts : List ℕ) → ((i : ℕ) → s.lists i ≡ shared_hold (grant_of shared i)) → AllByRecursion (IsInvalidate s asker) (told asker shared insts)
told-each s asker shared [] same = tt
told-each s asker shared (i ∷ insts) same = go (is_other_sharer shared asker i) refl (told-each s asker shared insts same)
  where
    go : (t : Bool) → is_other_sharer shared asker i ≡ t → AllByRecursion (IsInvalidate s asker) (told asker shared insts)
        → AllByRecursion (IsInvalidate s asker) (cond t (Invalidate i (unwrap_or (grant_of shared i) 0) ∷ []) [] ++ told asker shared insts)
    go true is ih =
        let parts = and_parts (is_sharer shared i) (not (eqb i asker)) is in
        let ne : i ≢ asker = λ e. let own : eqb i asker ≡ true = eq-eqb i asker e in let clash : false ≡ true = rw own at parts.1 in cc in
        ((ne, same i ∙ ap shared_hold (some-sharer (grant_of shared i) parts.0)), ih)
    go false is ih = ih

-- each other sharer of a list is told
told-all : (asker : ℕ) (shared : GrantTable) (xs : List ℕ) → AllByRecursion (λ j. (g : ℕ) → grant_of shared j ≡ Some g → j ≢ asker → 0 < count (clears g) (told asker shared xs)) xs
told-all asker shared [] = tt
told-all asker shared (x ∷ xs) = (here, all-keep (λ j. (g : ℕ) → grant_of shared j ≡ Some g → j ≢ asker → 0 < count (clears g) (told asker shared xs)) (λ j. (g : ℕ) → grant_of shared j ≡ Some g → j ≢ asker → 0 < count (clears g) (told asker shared (x ∷ xs))) xs (λ j told g e ne. later (is_other_sharer shared asker x) g (told g e ne)) (told-all asker shared xs))
  where
    later : (t : Bool) (g : ℕ) → 0 < count (clears g) (told asker shared xs) → 0 < count (clears g) (cond t (Invalidate x (unwrap_or (grant_of shared x) 0) ∷ []) [] ++ told asker shared xs)
    later true g lt = omega (arith, lt)
    later false g lt = lt

    here : (g : ℕ) → grant_of shared x ≡ Some g → x ≢ asker → 0 < count (clears g) (told asker shared (x ∷ xs))
    here g e ne = rw (e, ne_eqb x asker ne, eq-eqb g g refl) (omega arith)

map-append : (xs ys : List Note) (zs : List Wire) → map of_note (xs ++ ys) ++ zs ≡ map of_note xs ++ (map of_note ys ++ zs)
map-append [] ys zs = refl
map-append (x ∷ xs) ys zs = ap (λ l. of_note x ∷ l) (map-append xs ys zs)

module _ (wires : List Wire) (asks : List (ℕ × Want)) (b asker : ℕ) (want : Want) (held : HoldMode) (entry : Entry) (s : Block) (sound : Sound s) (idle : s.op ≡ Idle) (none : entry.op ≡ None)
    (waits : s.request asker ≡ Waits want) (lt : asker < instances) (tied : TiedTo entry s) (room : HasRoom entry) (bag : Same wires (flights instances s))
    (queue : Same ((asker, want) ∷ asks) (gather of_waiting instances s.request)) (back : SteppedBack s asker want) where
  listed-x : (h : Holder) → entry.x ≡ Some h → s.lists h.inst ≡ Some (record { mode = Exclusive; grant = h.grant })
  listed-x h e = tied.lists h.inst ∙ (rw (e, eq-eqb h.inst h.inst refl) refl)

  -- the asker isn't the exclusive holder
  not-own : (v : Want) → want ≡ v → (h : Holder) → entry.x ≡ Some h → h.inst ≢ asker
  not-own Read q h e own = none-some (s.lists asker) (record { mode = Exclusive; grant = h.grant }) (back (λ d. let clash : Read ≡ Upgrade = sym q ∙ d in cc)) (subst (λ i. s.lists i ≡ Some (record { mode = Exclusive; grant = h.grant })) own (listed-x h e))
  not-own Write q h e own = none-some (s.lists asker) (record { mode = Exclusive; grant = h.grant }) (back (λ d. let clash : Write ≡ Upgrade = sym q ∙ d in cc)) (subst (λ i. s.lists i ≡ Some (record { mode = Exclusive; grant = h.grant })) own (listed-x h e))
  not-own Upgrade q h e own =
      let fits : Upgrades s.lists s.frame s.op asker = rw (waits, q) at (sound.requests asker) in
      let mine : s.lists asker ≡ Some (record { mode = Exclusive; grant = h.grant }) = subst (λ i. s.lists i ≡ Some (record { mode = Exclusive; grant = h.grant })) own (listed-x h e) in
      elim fits.still [
        | inl f ↦ (let l = idle-listed s idle sound asker f.0 f.1 in let is : f.0 ≡ record { mode = Exclusive; grant = h.grant } = cc in
            let shared = fits.shared f.0 f.1 in let clash : Exclusive ≡ Shared = sym (ap (λ z. z.mode) is) ∙ shared in cc)
        | inr r ↦ elim r [ inl a ↦ (let no : ⊥ = rw idle at a in no) | inr a ↦ none-some (s.lists asker) (record { mode = Exclusive; grant = h.grant }) a.0 mine ]
      ]

  x-none : other_than asker entry.x ≡ None → entry.x ≡ None
  x-none e = other-none asker entry.x e (not-own want refl)

  shared-lists : other_than asker entry.x ≡ None → (i : ℕ) → s.lists i ≡ shared_hold (grant_of entry.shared i)
  shared-lists e i = tied.lists i ∙ ap (λ o. listed_beside o (grant_of entry.shared i) i) (x-none e)

  only-shared : other_than asker entry.x ≡ None → OnlyShared s.lists
  only-shared e i hold l = (hold-grant (grant_of entry.shared i) hold (sym (shared-lists e i) ∙ l)).1

  -- a reader gets a copy
  copies-from : (h : Holder) → want ≡ Read → other_than asker entry.x ≡ Some h → Goes wires asks (telling entry h.inst (messages.CopyTo b h.grant asker)) s
  copies-from h read e = record {
    after = record s { request = put s.request asker (CopyTo h.inst h.grant) };
    run = goes (sends_copy s asker h.inst h.grant idle (waits ∙ ap (λ v. Waits v) read) (listed-x h (other-some asker entry.x h e).0)) tt (stays (record s { request = put s.request asker (CopyTo h.inst h.grant) }));
    tied = record { lists = tied.lists; alone = tied.alone; sized = tied.sized; draws = tied.draws; operation = tied.operation; known = tied.known };
    bags = (
      more (CopyToWire h.inst h.grant asker) wires (of_operation s.op ++ (gather of_request instances (put s.request asker (CopyTo h.inst h.grant)) ++ (map of_note s.notes ++ map of_memo s.memos))) (flights instances s)
          (Takes-right (CopyToWire h.inst h.grant asker) (of_operation s.op) (gather of_request instances (put s.request asker (CopyTo h.inst h.grant)) ++ (map of_note s.notes ++ map of_memo s.memos)) (gather of_request instances s.request ++ (map of_note s.notes ++ map of_memo s.memos))
          (Takes-left (CopyToWire h.inst h.grant asker) (gather of_request instances (put s.request asker (CopyTo h.inst h.grant))) (gather of_request instances s.request) (map of_note s.notes ++ map of_memo s.memos)
          (gather-comes of_request instances asker s.request (CopyTo h.inst h.grant) (CopyToWire h.inst h.grant asker) lt (rw waits refl) refl)))
          bag,
      left-by (asker, want) asks (gather of_waiting instances s.request) (gather of_waiting instances (put s.request asker (CopyTo h.inst h.grant))) queue
          (gather-taken of_waiting instances asker s.request (CopyTo h.inst h.grant) (asker, want) lt (rw waits refl) refl),
    );
    beside = refl;
    room = λ e. room;
  }

  -- an image is ordered
  orders-from : (mode : HoldMode) (m : Mode) → ((g : ℕ) → hold_of mode g ≡ Some (record { mode = m; grant = g })) → mode_for want ≡ m → (i g : ℕ) → s.lists i ≡ Some (record { mode = m; grant = g }) → i ≢ asker
      → (sends : List (ℕ × Message)) → ((new : ℕ) → s.next ≡ new → wires_of (clock_there s) sends ≡ ShipToWire i g asker (record { mode = m; grant = new }) ∷ [])
      → Goes wires asks (record { entry = granting asker mode held entry; sends = sends }) s
  orders-from mode m holds is i g there ne sends sent =
      begun wires asks mode m held asker want (ShipTo i g) entry s sends holds lt idle waits tied room bag queue (sent s.next refl)
      (subst (λ k. MasterRun s (record s { request = put s.request asker Quiet; next = s.next + 1; op = Grants asker (record { mode = k; grant = s.next }) (ShipTo i g) })) is
      (goes (orders s asker want i g idle waits back (subst (λ k. s.lists i ≡ Some (record { mode = k; grant = g })) (sym is) there) ne) tt (stays (record s { request = put s.request asker Quiet; next = s.next + 1; op = Grants asker (record { mode = mode_for want; grant = s.next }) (ShipTo i g) }))))

  ships-from : (h : Holder) → mode_for want ≡ Exclusive → other_than asker entry.x ≡ Some h → Goes wires asks (shipped_from h b asker held entry) s
  ships-from h is e =
      orders-from modes.Exclusive Exclusive (λ g. refl) is h.inst h.grant (listed-x h (other-some asker entry.x h e).0) (other-some asker entry.x h e).1 (shipped_from h b asker held entry).sends
      (λ new q. ap (λ n. ShipToWire h.inst h.grant asker (record { mode = Exclusive; grant = n }) ∷ []) (sym tied.draws ∙ q))

  nobody : first_sharer entry.shared ≡ None → other_than asker entry.x ≡ None → (i : ℕ) → s.lists i ≡ None
  nobody f e i = shared-lists e i ∙ ap shared_hold (elim (cases_lt i instances) [
    | inl low ↦ no-sharer (grant_of entry.shared i) (each-of (λ k. is_sharer entry.shared k ≡ false) (find-none (is_sharer entry.shared) all_insts f) i low)
    | inr high ↦ past-none entry.shared i tied.sized high
  ])

  shares-from : (sharer : Option ℕ) → want ≡ Read → other_than asker entry.x ≡ None → first_sharer entry.shared ≡ sharer → Goes wires asks (shared_from sharer b asker held entry) s
  shares-from None read e f =
      begun wires asks modes.Shared Shared held asker want (Grant true (clock_there s)) entry s (granted b asker modes.Shared held true entry).sends (λ g. refl) lt idle waits tied room bag queue
      (ap (λ n. GrantWire asker (record { mode = Shared; grant = n }) true (clock_there s) ∷ []) (sym tied.draws))
      (goes (gives_shared s asker idle (waits ∙ ap (λ v. Waits v) read) (nobody f e)) tt (stays (record s { request = put s.request asker Quiet; next = s.next + 1; op = Grants asker (record { mode = Shared; grant = s.next }) (Grant true (clock_there s)) })))
  shares-from (Some i) read e f =
      let g : ℕ = unwrap_or (grant_of entry.shared i) 0 in
      let there : s.lists i ≡ Some (record { mode = Shared; grant = unwrap_or (grant_of entry.shared i) 0 }) = shared-lists e i ∙ ap shared_hold (some-sharer (grant_of entry.shared i) (find-some (is_sharer entry.shared) all_insts i f)) in
      let away : s.lists asker ≡ None = back (λ d. let clash : Read ≡ Upgrade = sym read ∙ d in cc) in
      orders-from modes.Shared Shared (λ g. refl) (ap mode_for read) i (unwrap_or (grant_of entry.shared i) 0) there
      (λ own. none-some (s.lists asker) (record { mode = Shared; grant = unwrap_or (grant_of entry.shared i) 0 }) away (subst (λ k. s.lists k ≡ Some (record { mode = Shared; grant = unwrap_or (grant_of entry.shared i) 0 })) own there))
      (shared_from (Some i) b asker held entry).sends
      (λ new q. ap (λ n. ShipToWire i (unwrap_or (grant_of entry.shared i) 0) asker (record { mode = Shared; grant = n }) ∷ []) (sym tied.draws ∙ q))

  pub reads : (x : Option Holder) → want ≡ Read → other_than asker entry.x ≡ x → Goes wires asks (read_beside x b asker held entry) s
  reads (Some h) read e = copies-from h read e
  reads None read e = shares-from (first_sharer entry.shared) read e refl

  -- the sharers are told
  clears-others : mode_for want ≡ Exclusive → want_of modes.Exclusive held ≡ Some want → other_than asker entry.x ≡ None → Goes wires asks (cleared true b asker held entry) s
  clears-others is wanted e = record {
    after = record s { request = put s.request asker Quiet; op = Clears asker want; notes = told asker entry.shared all_insts ++ s.notes };
    run = goes (begins_to_clear s asker want (told asker entry.shared all_insts) idle waits is back (only-shared e)
        (record { each = told-each s asker entry.shared all_insts (shared-lists e); all = all })) tt
        (stays (record s { request = put s.request asker Quiet; op = Clears asker want; notes = told asker entry.shared all_insts ++ s.notes }));
    tied = record {
      lists = tied.lists;
      alone = tied.alone;
      sized = tied.sized;
      draws = tied.draws;
      operation = record { serves = refl; instance = lt; wants = wanted; undrawn = refl; waits = λ i. has-others entry.shared asker i tied.sized ∙ ap (λ t. t && not (eqb i asker)) (sym (some-hold (grant_of entry.shared i)) ∙ ap is_some (sym (shared-lists e i))) };
      known = tied.known;
    };
    bags = (
      subst (λ l. Same (l ++ wires) (gather of_request instances (put s.request asker Quiet) ++ (map of_note (told asker entry.shared all_insts ++ s.notes) ++ map of_memo s.memos))) (sym (told-wires (clock_there s) b asker entry.shared all_insts)) sent,
      left-by (asker, want) asks (gather of_waiting instances s.request) (gather of_waiting instances (put s.request asker Quiet)) queue
          (gather-taken of_waiting instances asker s.request Quiet (asker, want) lt (rw waits refl) refl),
    );
    beside = refl;
    room = λ e. room;
  }
    where
      all : (other : ℕ) (hold : Hold) → s.lists other ≡ Some hold → other ≢ asker → 0 < count (clears hold.grant) (told asker entry.shared all_insts)
      all other hold l ne =
          let its = hold-grant (grant_of entry.shared other) hold (sym (shared-lists e other) ∙ l) in
          elim (cases_lt other instances) [
            | inl low ↦ each-of (λ j. (g : ℕ) → grant_of entry.shared j ≡ Some g → j ≢ asker → 0 < count (clears g) (told asker entry.shared all_insts)) (told-all asker entry.shared all_insts) other low hold.grant its.0 ne
            | inr high ↦ absurd (none-some (grant_of entry.shared other) hold.grant (past-none entry.shared other tied.sized high) its.0)
          ]

      rest : List Wire
      rest = map of_note s.notes ++ map of_memo s.memos

      quiet : gather of_request instances (put s.request asker Quiet) ≡ gather of_request instances s.request
      quiet = gather-none of_request instances asker s.request Quiet (rw waits refl) refl

      under : flights instances s ≡ gather of_request instances (put s.request asker Quiet) ++ rest
      under = ap (λ op. of_operation op ++ (gather of_request instances s.request ++ rest)) idle ∙ sym (ap (λ l. l ++ rest) quiet)

      sent : Same (map of_note (told asker entry.shared all_insts) ++ wires) (gather of_request instances (put s.request asker Quiet) ++ (map of_note (told asker entry.shared all_insts ++ s.notes) ++ map of_memo s.memos))
      sent = subst (λ l. Same (map of_note (told asker entry.shared all_insts) ++ wires) (gather of_request instances (put s.request asker Quiet) ++ l)) (sym (map-append (told asker entry.shared all_insts) s.notes (map of_memo s.memos)))
          (same-trans (map of_note (told asker entry.shared all_insts) ++ wires) (map of_note (told asker entry.shared all_insts) ++ (gather of_request instances (put s.request asker Quiet) ++ rest)) (gather of_request instances (put s.request asker Quiet) ++ (map of_note (told asker entry.shared all_insts) ++ rest))
          (same-under (map of_note (told asker entry.shared all_insts)) wires (gather of_request instances (put s.request asker Quiet) ++ rest) (subst (λ l. Same wires l) under bag))
          (same-move (map of_note (told asker entry.shared all_insts)) (gather of_request instances (put s.request asker Quiet)) rest))

  -- nobody else shares the block
  gives-alone : mode_for want ≡ Exclusive → other_than asker entry.x ≡ None → has_other_sharer entry.shared asker ≡ false → Goes wires asks (cleared false b asker held entry) s
  gives-alone is e others =
      begun wires asks modes.Exclusive Exclusive held asker want (Grant (is_none (s.lists asker)) (clock_there s)) entry s (cleared false b asker held entry).sends (λ g. refl) lt idle waits tied room bag queue
      (sent s.next (is_none (s.lists asker)) tied.draws (ap is_none (shared-lists e asker) ∙ from-disk (grant_of entry.shared asker)))
      (goes (begins_to_clear s asker want [] idle waits is back (only-shared e) (record { each = tt; all = λ j hold l ne. absurd (ne (alone j hold l)) })) tt
      (goes (gives (record s { request = put s.request asker Quiet; op = Clears asker want }) asker want refl alone) tt
      (stays (record s { request = put s.request asker Quiet; next = s.next + 1; op = Grants asker (record { mode = Exclusive; grant = s.next }) (Grant (is_none (s.lists asker)) (clock_there s)) }))))
    where
      sent : (n : ℕ) (d : Bool) → n ≡ entry.next_grant → d ≡ not (is_sharer entry.shared asker) → wires_of (clock_there s) (cleared false b asker held entry).sends ≡ GrantWire asker (record { mode = Exclusive; grant = n }) d (clock_there s) ∷ []
      sent n d p q = rw (p, q) refl

      alone : (j : ℕ) (hold : Hold) → s.lists j ≡ Some hold → j ≡ asker
      alone j hold l =
          let its = hold-grant (grant_of entry.shared j) hold (sym (shared-lists e j) ∙ l) in
          elim (cases_lt j instances) [
            | inl low ↦ (let off = each-of (λ k. is_other_sharer entry.shared asker k ≡ false) (any-none (is_other_sharer entry.shared asker) all_insts others) j low in
                let here : not (eqb j asker) ≡ false = rw its.0 at off in go (eqb j asker) refl here)
            | inr high ↦ absurd (none-some (grant_of entry.shared j) hold.grant (past-none entry.shared j tied.sized high) its.0)
          ]
        where
          go : (t : Bool) → eqb j asker ≡ t → not t ≡ false → j ≡ asker
          go true is n = eqb-true j asker is
          go false is n = absurd (let clash : true ≡ false = n in cc)

  clears-if : (t : Bool) → has_other_sharer entry.shared asker ≡ t → mode_for want ≡ Exclusive → want_of modes.Exclusive held ≡ Some want → other_than asker entry.x ≡ None → Goes wires asks (cleared t b asker held entry) s
  clears-if true o is wanted e = clears-others is wanted e
  clears-if false o is wanted e = gives-alone is e o

  pub writes : (x : Option Holder) → mode_for want ≡ Exclusive → want_of modes.Exclusive held ≡ Some want → other_than asker entry.x ≡ x → Goes wires asks (written_beside x b asker held entry) s
  writes (Some h) is wanted e = ships-from h is e
  writes None is wanted e = clears-if (has_other_sharer entry.shared asker) refl is wanted e
