-- An Ask is answered, and an operation goes on.
use Rattle.std.proofs.Common.{◌≡◌, ◌≢◌, ◌∙◌, ℕ, ◌+◌, ◌<◌, ◌&&◌, Bool, true, false, cond, not, List, [], ◌∷◌, ◌++◌, refl, sym, ap, subst, eqb, inl, inr}
use Rattle.std.specs.Prelude.{map, Option, Some, None, is_some, is_none as is_nothing}
use Rattle.std.proofs.lemmas.Bool.{eq-eqb, ne_eqb, cases_eq, eqb-true, and_parts}
use Rattle.wire_net.specs.declared.message.Mode.{Mode as HoldMode}
use Rattle.wire_net.specs.declared.message.Mode.TheVariants as modes
use Rattle.wire_net.specs.declared.entry.Grants.{Grants as GrantTable}
use Rattle.wire_net.specs.declared.entry.Holder.{Holder}
use Rattle.wire_net.specs.declared.entry.Operation.{Operation}
use Rattle.wire_net.specs.declared.entry.Entry.{Entry}
use Rattle.inst_set.specs.Sets.{is_empty}
use Rattle.wire_net.specs.Entry.{grant_of, with_grant}
use Rattle.resource_dir.specs.Holders.{other_than, is_sharer}
use Rattle.resource_dir.specs.Taken.{silent}
use Rattle.resource_dir.specs.Asks.{stepped_out, granting, granted, answer, is_clear, go_on_if, go_on_as, go_on}
use Rattle.block_protocol.specs.Block.{Exclusive, Hold, Want, Read, Write, Upgrade, mode_for, Waits, Grant, Idle, Clears, Grants, Block, put, Operation as ProtocolOperation}
use Rattle.block_protocol.specs.Sound.{Sound}
use Rattle.block_protocol.specs.Steps.{Step, is_none, clock_there, steps_back, gives}
use Rattle.block_protocol.specs.Wire.{Wire, GrantWire, of_operation, of_request, of_waiting, gather, of_note, of_memo, flights, Same}
use Rattle.block_protocol.proofs.Basics.{put-same, put-elim}
use Rattle.block_protocol.proofs.Directory.{Sound-step}
use Rattle.block_protocol.proofs.Keep.{Sound-at}
use Rattle.protocol_ties.specs.Messages.{instances, want_of, wires_of}
use Rattle.protocol_ties.specs.Entries.{shared_hold, listed_beside, listing_of, IsClearing, IsOperation}
use Rattle.protocol_ties.specs.MasterRuns.{stays, goes}
use Rattle.protocol_ties.specs.Takes.{HasRoom}
use Rattle.protocol_ties.proofs.Bag.{same-under}
use Rattle.protocol_ties.proofs.Tables.{grant-none, table-sized, empty-has}
use Rattle.protocol_ties.proofs.Out.{no-x}
use Rattle.protocol_ties.proofs.Goes.{TiedTo, Goes, goes-before, nothing-done, next-grant}
use Rattle.protocol_ties.proofs.Serves.{other-some, from-disk, reads, writes}

-- the asker is taken out of the listing
back-lists : (asker : ℕ) (x : Option Holder) (shared : GrantTable) (lists : ℕ → Option Hold) → ((h : Holder) → x ≡ Some h → (i : ℕ) → grant_of shared i ≡ None) → ((i : ℕ) → lists i ≡ listing_of x shared i)
    → (j : ℕ) → put lists asker None j ≡ listing_of (other_than asker x) (with_grant shared asker None) j
back-lists asker None shared lists alone same j = put-elim (λ o. o ≡ shared_hold (grant_of (with_grant shared asker None) j)) lists asker None j
    (λ here. sym (ap shared_hold ((grant-none shared asker j).0 here)))
    (λ ne. same j ∙ sym (ap shared_hold ((grant-none shared asker j).1 ne)))
back-lists asker (Some h) shared lists alone same j = go (eqb h.inst asker) refl
  where
    gone : grant_of (with_grant shared asker None) j ≡ None
    gone = elim (cases_eq asker j) [ inl here ↦ (grant-none shared asker j).0 here | inr ne ↦ (grant-none shared asker j).1 ne ∙ alone h refl j ]

    before : lists j ≡ listed_beside (Some h) None j
    before = same j ∙ ap (λ o. listed_beside (Some h) o j) (alone h refl j)

    go : (t : Bool) → eqb h.inst asker ≡ t → put lists asker None j ≡ listed_beside (cond t None (Some h)) (grant_of (with_grant shared asker None) j) j
    go true is = put-elim (λ o. o ≡ shared_hold (grant_of (with_grant shared asker None) j)) lists asker None j
        (λ here. sym (ap shared_hold gone))
        (λ ne. before ∙ (rw (ne_eqb h.inst j (λ e. ne (sym (eqb-true h.inst asker is) ∙ e)), gone) refl))
    go false is = put-elim (λ o. o ≡ listed_beside (Some h) (grant_of (with_grant shared asker None) j) j) lists asker None j
        (λ here. sym (rw (ne_eqb h.inst j (λ e. not-it (e ∙ sym here)), gone) refl))
        (λ ne. before ∙ sym (ap (λ o. listed_beside (Some h) o j) gone))
      where
        not-it : h.inst ≢ asker
        not-it e = let clash : true ≡ false = sym (eq-eqb h.inst asker e) ∙ is in cc

back-tied : (asker : ℕ) (entry : Entry) (s : Block) → s.op ≡ Idle → entry.op ≡ None → TiedTo entry s → TiedTo (stepped_out asker modes.Null entry) (record s { lists = put s.lists asker None })
back-tied asker entry s idle none tied = record {
  lists = back-lists asker entry.x entry.shared s.lists tied.alone tied.lists;
  alone = λ h e i. elim (cases_eq asker i) [ inl here ↦ (grant-none entry.shared asker i).0 here | inr ne ↦ (grant-none entry.shared asker i).1 ne ∙ tied.alone h (other-some asker entry.x h e).0 i ];
  sized = table-sized entry.shared asker None ∙ tied.sized;
  draws = tied.draws;
  operation = subst (λ o. IsOperation o s.op (put s.lists asker None)) (sym none) (subst (λ o. IsOperation None o (put s.lists asker None)) (sym idle) tt);
  known = tied.known;
}

pub answered : (wires : List Wire) (asks : List (ℕ × Want)) (b asker : ℕ) (want : Want) (mode held : HoldMode) (entry : Entry) (s : Block) → Sound s → s.op ≡ Idle → entry.op ≡ None
    → s.request asker ≡ Waits want → asker < instances → TiedTo entry s → HasRoom entry → Same wires (flights instances s)
    → Same ((asker, want) ∷ asks) (gather of_waiting instances s.request) → want_of mode held ≡ Some want → Goes wires asks (answer b mode held asker entry) s
answered wires asks b asker want modes.Null held entry s sound idle none waits lt tied room bag queue wanted = absurd (let clash : ◌≡◌ {A = Option Want} None (Some want) = wanted in cc)
answered wires asks b asker want modes.Shared modes.Null entry s sound idle none waits lt tied room bag queue wanted =
    let is : Read ≡ want = cc in
    let back : Step s (record s { lists = put s.lists asker None }) = steps_back s asker Read idle (waits ∙ ap (λ v. Waits v) (sym is)) (λ d. cc) in
    goes-before wires asks (answer b modes.Shared modes.Null asker entry) s (record s { lists = put s.lists asker None })
    (goes (steps_back s asker Read idle (waits ∙ ap (λ v. Waits v) (sym is)) (λ d. cc)) tt (stays (record s { lists = put s.lists asker None }))) refl
    (reads wires asks b asker want modes.Null (stepped_out asker modes.Null entry) (record s { lists = put s.lists asker None }) (Sound-step back sound) idle none waits lt (back-tied asker entry s idle none tied) room bag queue
    (λ ne. put-same s.lists asker None) (other_than asker (other_than asker entry.x)) (sym is) refl)
answered wires asks b asker want modes.Shared modes.Shared entry s sound idle none waits lt tied room bag queue wanted = absurd (let clash : ◌≡◌ {A = Option Want} None (Some want) = wanted in cc)
answered wires asks b asker want modes.Shared modes.Exclusive entry s sound idle none waits lt tied room bag queue wanted = absurd (let clash : ◌≡◌ {A = Option Want} None (Some want) = wanted in cc)
answered wires asks b asker want modes.Exclusive modes.Null entry s sound idle none waits lt tied room bag queue wanted =
    let is : Write ≡ want = cc in
    let back : Step s (record s { lists = put s.lists asker None }) = steps_back s asker Write idle (waits ∙ ap (λ v. Waits v) (sym is)) (λ d. cc) in
    goes-before wires asks (answer b modes.Exclusive modes.Null asker entry) s (record s { lists = put s.lists asker None })
    (goes (steps_back s asker Write idle (waits ∙ ap (λ v. Waits v) (sym is)) (λ d. cc)) tt (stays (record s { lists = put s.lists asker None }))) refl
    (writes wires asks b asker want modes.Null (stepped_out asker modes.Null entry) (record s { lists = put s.lists asker None }) (Sound-step back sound) idle none waits lt (back-tied asker entry s idle none tied) room bag queue
    (λ ne. put-same s.lists asker None) (other_than asker (other_than asker entry.x)) (ap mode_for (sym is)) wanted refl)
answered wires asks b asker want modes.Exclusive modes.Shared entry s sound idle none waits lt tied room bag queue wanted =
    let is : Upgrade ≡ want = cc in
    writes wires asks b asker want modes.Shared entry s sound idle none waits lt tied room bag queue (λ ne. absurd (ne (sym is))) (other_than asker entry.x) (ap mode_for (sym is)) wanted refl
answered wires asks b asker want modes.Exclusive modes.Exclusive entry s sound idle none waits lt tied room bag queue wanted = absurd (let clash : ◌≡◌ {A = Option Want} None (Some want) = wanted in cc)

-- who cleared gets the block alone
gives-on : (wires : List Wire) (asks : List (ℕ × Want)) (b : ℕ) (entry : Entry) (s : Block) → Sound s → TiedTo entry s → HasRoom entry → Same wires (flights instances s) → Same asks (gather of_waiting instances s.request)
    → (op : Operation) (asker : ℕ) (want : Want) → s.op ≡ Clears asker want → IsClearing op asker want s.lists → is_empty op.waits ≡ true → Goes wires asks (granted b op.asker modes.Exclusive op.held (not (is_sharer entry.shared op.asker)) entry) s
gives-on wires asks b entry s sound tied room bag queue op asker want clears c empty = record {
  after = record s { next = s.next + 1; op = Grants op.asker (record { mode = Exclusive; grant = s.next }) (Grant (is_none (s.lists op.asker)) (clock_there s)) };
  run = goes (gives s op.asker want clears-own alone) tt (stays (record s { next = s.next + 1; op = Grants op.asker (record { mode = Exclusive; grant = s.next }) (Grant (is_none (s.lists op.asker)) (clock_there s)) }));
  tied = record {
    lists = tied.lists;
    alone = tied.alone;
    sized = tied.sized;
    draws = ap (λ n. n + 1) tied.draws ∙ sym (next-grant entry.next_grant room);
    operation = record { serves = refl; instance = subst (λ i. i < instances) (sym c.serves) c.instance; grants = refl; drawn = ap (λ n. Some n) (sym tied.draws) };
    known = tied.known;
  };
  bags = (
    subst (λ l. Same (l ++ wires) (GrantWire op.asker (record { mode = Exclusive; grant = s.next }) (is_none (s.lists op.asker)) (clock_there s) ∷ (gather of_request instances s.request ++ (map of_note s.notes ++ map of_memo s.memos))))
        (sym (sent s.next (is_none (s.lists op.asker)) tied.draws disk))
        (same-under (GrantWire op.asker (record { mode = Exclusive; grant = s.next }) (is_none (s.lists op.asker)) (clock_there s) ∷ []) wires (gather of_request instances s.request ++ (map of_note s.notes ++ map of_memo s.memos))
        (subst (λ o. Same wires (of_operation o ++ (gather of_request instances s.request ++ (map of_note s.notes ++ map of_memo s.memos)))) clears bag)),
    queue,
  );
  beside = refl;
  room = λ e. absurd (let clash : ◌≡◌ {A = Option Operation} (granting op.asker modes.Exclusive op.held entry).op None = e in cc);
}
  where
    clears-own : s.op ≡ Clears op.asker want
    clears-own = clears ∙ ap (λ i. Clears i want) (sym c.serves)

    alone : (other : ℕ) (hold : Hold) → s.lists other ≡ Some hold → other ≡ op.asker
    alone other hold l =
        let off : is_some (s.lists other) && not (eqb other op.asker) ≡ false = sym (c.waits other) ∙ empty-has op.waits other empty in
        let here : not (eqb other op.asker) ≡ false = rw l at off in
        go (eqb other op.asker) refl here
      where
        go : (t : Bool) → eqb other op.asker ≡ t → not t ≡ false → other ≡ op.asker
        go true is n = eqb-true other op.asker is
        go false is n = absurd (let clash : true ≡ false = n in cc)

    no-exclusive : entry.x ≡ None
    no-exclusive = let was = Sound-at s (Clears asker want) clears sound in no-x entry.x entry.shared s.lists was.operation.only_shared tied.lists

    disk : is_none (s.lists op.asker) ≡ not (is_sharer entry.shared op.asker)
    disk = ap is_none (tied.lists op.asker ∙ ap (λ o. listed_beside o (grant_of entry.shared op.asker) op.asker) no-exclusive) ∙ from-disk (grant_of entry.shared op.asker)

    sent : (n : ℕ) (d : Bool) → n ≡ entry.next_grant → d ≡ not (is_sharer entry.shared op.asker)
        → wires_of (clock_there s) (granted b op.asker modes.Exclusive op.held (not (is_sharer entry.shared op.asker)) entry).sends ≡ GrantWire op.asker (record { mode = Exclusive; grant = n }) d (clock_there s) ∷ []
    sent n d p q = rw (p, q) refl

pub goes-on : (wires : List Wire) (asks : List (ℕ × Want)) (b : ℕ) (entry : Entry) (s : Block) → Sound s → TiedTo entry s → HasRoom entry → Same wires (flights instances s)
    → Same asks (gather of_waiting instances s.request) → Goes wires asks (go_on b entry) s
goes-on wires asks b entry s sound tied room bag queue = go entry.op refl
  where
    silently : Goes wires asks (silent entry) s
    silently = nothing-done wires asks entry s tied bag queue (λ e. room)

    clear : (op : Operation) (other : ProtocolOperation) → s.op ≡ other → IsOperation (Some op) other s.lists → is_clear op ≡ true → Goes wires asks (granted b op.asker modes.Exclusive op.held (not (is_sharer entry.shared op.asker)) entry) s
    clear op Idle e t is = absurd t
    clear op (Clears asker want) e t is = gives-on wires asks b entry s sound tied room bag queue op asker want e t (and_parts (is_nothing op.grant) (is_empty op.waits) is).1
    clear op (Grants asker hold carrier) e t is = absurd (let drawn = t.drawn in let nothing : is_nothing op.grant ≡ true = (and_parts (is_nothing op.grant) (is_empty op.waits) is).0 in let clash : false ≡ true = rw drawn at nothing in cc)

    if-clear : (op : Operation) → entry.op ≡ Some op → (t : Bool) → is_clear op ≡ t → Goes wires asks (go_on_if t op b entry) s
    if-clear op e true is = clear op s.op refl (subst (λ o. IsOperation o s.op s.lists) e tied.operation) is
    if-clear op e false is = silently

    go : (o : Option Operation) → entry.op ≡ o → Goes wires asks (go_on_as o b entry) s
    go None e = silently
    go (Some op) e = if-clear op e (is_clear op) refl
