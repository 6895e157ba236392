-- A message that found no image comes back to the master.
use Rattle.std.proofs.Common.{◌≡◌, ◌∙◌, ℕ, ◌≤◌, ◌&&◌, Bool, true, false, cond, List, ◌∷◌, ◌++◌, refl, sym, ap, subst}
use Rattle.std.specs.Prelude.{map, Option, Some, None, length, is_none as is_nothing}
use Rattle.std.specs.List.{AllByRecursion}
use Rattle.std.proofs.lemmas.Bool.{eq-eqb, ne_eqb}
use Rattle.wire_net.specs.declared.message.Mode.{Mode as HoldMode}
use Rattle.wire_net.specs.declared.message.Mode.TheVariants as modes
use Rattle.wire_net.specs.declared.entry.Operation.{Operation}
use Rattle.wire_net.specs.declared.entry.Entry.{Entry}
use Rattle.inst_set.specs.Sets.{is_empty, without_inst}
use Rattle.resource_dir.specs.Holders.{is_granting, is_number, taken_out, sharer_under, unwaited}
use Rattle.resource_dir.specs.Taken.{silent, and_then}
use Rattle.resource_dir.specs.Asks.{ask, answer, is_clear, go_on_if, go_on_as, go_on}
use Rattle.resource_dir.specs.Pasts.{write_please}
use Rattle.resource_dir.specs.Ends.{gone, gave_up, ended, ask_anew}
use Rattle.resource_dir.proofs.DrainLemmas.{take_up-queue}
use Rattle.wire_net.specs.declared.message.Waiting.TheVariants as waiting
use Rattle.block_protocol.specs.Block.{Hold, Read, Quiet, Waits, BackCopy, BackShip, Idle, Clears, Grants, BackWrite, Please, Block, put, without, Operation as ProtocolOperation}
use Rattle.block_protocol.specs.Sound.{IsOld, RequestFits, NoteFits, Sound}
use Rattle.block_protocol.specs.Steps.{clock_there, wanted_again, asks_copy_again, asks_ship_again, hears_back_write, pleads}
use Rattle.block_protocol.specs.Wire.{Wire, BackCopyWire, BackShipWire, BackWriteWire, PleaseWire, of_operation, of_request, of_waiting, gather, of_note, of_memo, flights, Same, more}
use Rattle.block_protocol.proofs.Basics.{all-taken, put-same}
use Rattle.block_protocol.proofs.Directory.{Sound-step}
use Rattle.block_protocol.proofs.Keep.{Sound-at}
use Rattle.block_protocol.proofs.Bags.{Takes-right}
use Rattle.block_protocol.specs.Block.{here}
use Rattle.block_protocol.proofs.RefinesAsk.{gather-comes, gather-none}
use Rattle.protocol_ties.specs.Messages.{instances, want_of, wires_of, asks_of, pleas_of}
use Rattle.protocol_ties.specs.Entries.{IsGranting, IsOperation, IsProper}
use Rattle.protocol_ties.specs.MasterRuns.{stays, goes}
use Rattle.protocol_ties.specs.Takes.{HasRoom}
use Rattle.protocol_ties.proofs.Goes.{TiedTo, Goes, goes-before, sound-after}
use Rattle.protocol_ties.proofs.Asks.{answered, goes-on}
use Rattle.protocol_ties.proofs.Hears.{tied-without, out-by}
use Rattle.protocol_ties.proofs.Drains.{Reacts, reacts-then, reacts-by, bag-next, asked, pleaded}
use Rattle.protocol_ties.proofs.Origins.{note-taken, request-taken, carrier-taken}

-- an operation that grants another grant isn't ended by this one
not-granting : (g : ℕ) (op : Option Operation) (other : ProtocolOperation) (lists : ℕ → Option Hold) → IsOperation op other lists → IsOld other g → is_granting op g ≡ false
not-granting g None other lists t old = refl
not-granting g (Some op) Idle lists t old = absurd t
not-granting g (Some op) (Clears a w) lists t old = ap (λ o. is_number o g) t.undrawn
not-granting g (Some op) (Grants a k c) lists t old = ap (λ o. is_number o g) t.drawn ∙ ne_eqb k.grant g old

gave-up-other : (b g : ℕ) (entry : Entry) → is_granting entry.op g ≡ false → gave_up b g entry ≡ gone b g entry
gave-up-other b g entry is = ap (λ t. cond t (silent (ended entry)) (gone b g entry)) is

-- what goes on leaves the queue
on-queue : (o : Option Operation) (b : ℕ) (entry : Entry) → (go_on_as o b entry).entry.queue ≡ entry.queue
on-queue None b entry = refl
on-queue (Some op) b entry = go (is_clear op)
  where
    go : (t : Bool) → (go_on_if t op b entry).entry.queue ≡ entry.queue
    go true = refl
    go false = refl

pub gone-queue : (b g : ℕ) (entry : Entry) → (gone b g entry).entry.queue ≡ entry.queue
gone-queue b g entry = on-queue (taken_out g entry).op b (taken_out g entry)

module _ (wires : List Wire) (b scn : ℕ) (entry : Entry) (s : Block) (sound : Sound s) (tied : TiedTo entry s) (room : HasRoom entry) (le : scn ≤ clock_there s)
    (queue : Same (asks_of entry.queue) (gather of_waiting instances s.request)) (proper : AllByRecursion IsProper entry.queue) where
  -- the reader is out of the holders, and asks again
  copy-again : (g reader : ℕ) (s1 : Block) → Sound s1 → TiedTo (taken_out g entry) s1 → Same (wires ++ pleas_of entry.queue) (flights instances s1) → Same ((reader, Read) ∷ asks_of entry.queue) (gather of_waiting instances s1.request)
      → Reacts wires (and_then (gone b g entry) (ask b modes.Shared modes.Null reader)) s1
  copy-again g reader s1 sound1 tied1 bag1 queue1 =
      let k : Goes (wires ++ pleas_of entry.queue) ((reader, Read) ∷ asks_of entry.queue) (gone b g entry) s1 = goes-on (wires ++ pleas_of entry.queue) ((reader, Read) ∷ asks_of entry.queue) b (taken_out g entry) s1 sound1 tied1 room bag1 queue1 in
      let same : entry.queue ≡ (gone b g entry).entry.queue = sym (gone-queue b g entry) in
      reacts-then wires entry.queue ((reader, Read) ∷ asks_of entry.queue) (gone b g entry) (ask b modes.Shared modes.Null reader) s1 k
      (asked (wires_of (clock_there s1) (gone b g entry).sends ++ wires) b reader Read modes.Shared modes.Null (gone b g entry).entry k.after (sound-after k.run sound1) k.tied k.room
      (subst (λ q. Same ((wires_of (clock_there s1) (gone b g entry).sends ++ wires) ++ pleas_of q) (flights instances k.after)) same
      (bag-next (clock_there s1) (gone b g entry).sends wires entry.queue (flights instances k.after) k.bags.0))
      (subst (λ q. Same ((reader, Read) ∷ asks_of q) (gather of_waiting instances k.after.request)) same k.bags.1)
      (subst (λ q. AllByRecursion IsProper q) same proper) refl)

  pub back-copy : (g reader : ℕ) → Same (BackCopyWire g reader scn ∷ (wires ++ pleas_of entry.queue)) (flights instances s) → Reacts wires (and_then (gave_up b g entry) (ask b modes.Shared modes.Null reader)) s
  back-copy g reader bag =
      let t = request-taken (BackCopyWire g reader scn) (wires ++ pleas_of entry.queue) s reader (BackCopy g scn) (Waits Read) refl refl refl refl refl bag in
      let fits : RequestFits s.next s.lists s.frame s.op reader (BackCopy g scn) = subst (λ r. RequestFits s.next s.lists s.frame s.op reader r) t.1 (sound.requests reader) in
      let is : is_granting entry.op g ≡ false = not-granting g entry.op s.op s.lists tied.operation fits.1.old in
      let again = copy-again g reader (record s { lists = without g s.lists; request = put s.request reader (Waits Read) }) (Sound-step (asks_copy_again s reader g scn t.1 le) sound)
      (tied-without g entry s s.notes (put s.request reader (Waits Read)) sound tied) t.2
      (more (reader, Read) (asks_of entry.queue) (gather of_waiting instances (put s.request reader (Waits Read))) (gather of_waiting instances s.request)
      (gather-comes of_waiting instances reader s.request (Waits Read) (reader, Read) t.0 (rw t.1 refl) refl) queue) in
      subst (λ o. Reacts wires (and_then o (ask b modes.Shared modes.Null reader)) s) (sym (gave-up-other b g entry is)) (
        goes-before (wires ++ pleas_of (and_then (gone b g entry) (ask b modes.Shared modes.Null reader)).entry.queue) (asks_of (and_then (gone b g entry) (ask b modes.Shared modes.Null reader)).entry.queue)
            (and_then (gone b g entry) (ask b modes.Shared modes.Null reader)) s (record s { lists = without g s.lists; request = put s.request reader (Waits Read) })
            (goes (asks_copy_again s reader g scn t.1 le) tt (stays (record s { lists = without g s.lists; request = put s.request reader (Waits Read) }))) refl again.0,
        again.1,
      )

  -- a wish that came back
  pub back-write : (g version holder : ℕ) → version ≤ length s.records → Same (BackWriteWire g scn ∷ (wires ++ pleas_of entry.queue)) (flights instances s) → Reacts wires (and_then (gave_up b g entry) (write_please b version holder)) s
  back-write g version holder made bag =
      let t = note-taken (BackWriteWire g scn) (wires ++ pleas_of entry.queue) s (BackWrite g scn) refl refl refl refl bag in
      let fits : NoteFits s.next s.frame s.op (BackWrite g scn) = (all-taken (NoteFits s.next s.frame s.op) (BackWrite g scn) s.notes t.0 t.1 sound.notes).0 in
      let is : is_granting entry.op g ≡ false = not-granting g entry.op s.op s.lists tied.operation fits.old in
      let k : Goes (wires ++ pleas_of entry.queue) (asks_of entry.queue) (gone b g entry) s = out-by (wires ++ pleas_of entry.queue) (asks_of entry.queue) b g scn entry s sound tied room le queue t.0 (hears_back_write s g scn t.0 t.1 le) tt t.2 in
      let same : entry.queue ≡ (gone b g entry).entry.queue = sym (gone-queue b g entry) in
      let enough : version ≤ length k.after.records = subst (λ n. version ≤ n) (sym (ap (λ z. length z.records) k.beside)) made in
      let plea : Same (PleaseWire version ∷ ((wires_of (clock_there s) (gone b g entry).sends ++ wires) ++ pleas_of entry.queue)) (flights instances (record k.after { memos = Please version ∷ k.after.memos })) = comes version k.after ((wires_of (clock_there s) (gone b g entry).sends ++ wires) ++ pleas_of entry.queue) (bag-next (clock_there s) (gone b g entry).sends wires entry.queue (flights instances k.after) k.bags.0) in
      let last = pleaded (wires_of (clock_there s) (gone b g entry).sends ++ wires) b version holder (gone b g entry).entry (record k.after { memos = Please version ∷ k.after.memos })
      (record { lists = k.tied.lists; alone = k.tied.alone; sized = k.tied.sized; draws = k.tied.draws; operation = k.tied.operation; known = k.tied.known }) k.room
      (subst (λ q. Same (PleaseWire version ∷ ((wires_of (clock_there s) (gone b g entry).sends ++ wires) ++ pleas_of q)) (flights instances (record k.after { memos = Please version ∷ k.after.memos }))) same plea)
      (subst (λ q. Same (asks_of q) (gather of_waiting instances k.after.request)) same k.bags.1)
      (subst (λ q. AllByRecursion IsProper q) same proper) in
      subst (λ o. Reacts wires (and_then o (write_please b version holder)) s) (sym (gave-up-other b g entry is))
      (reacts-then wires entry.queue (asks_of entry.queue) (gone b g entry) (write_please b version holder) s k (
        goes-before ((wires_of (clock_there s) (gone b g entry).sends ++ wires) ++ pleas_of (write_please b version holder (gone b g entry).entry).entry.queue) (asks_of (write_please b version holder (gone b g entry).entry).entry.queue)
            (write_please b version holder (gone b g entry).entry) k.after (record k.after { memos = Please version ∷ k.after.memos }) (goes (pleads k.after version enough) tt (stays (record k.after { memos = Please version ∷ k.after.memos }))) refl last.0,
        last.1,
      ))
    where
      comes : (v : ℕ) (t : Block) (ws : List Wire) → Same ws (flights instances t) → Same (PleaseWire v ∷ ws) (flights instances (record t { memos = Please v ∷ t.memos }))
      comes v t ws s = more (PleaseWire v) ws (flights instances (record t { memos = Please v ∷ t.memos })) (flights instances t)
          (Takes-right (PleaseWire v) (of_operation t.op) (gather of_request instances t.request ++ (map of_note t.notes ++ (PleaseWire v ∷ map of_memo t.memos))) (gather of_request instances t.request ++ (map of_note t.notes ++ map of_memo t.memos))
          (Takes-right (PleaseWire v) (gather of_request instances t.request) (map of_note t.notes ++ (PleaseWire v ∷ map of_memo t.memos)) (map of_note t.notes ++ map of_memo t.memos)
          (Takes-right (PleaseWire v) (map of_note t.notes) (PleaseWire v ∷ map of_memo t.memos) (map of_memo t.memos) (here (map of_memo t.memos)))))
          s

-- the operation that waits for nobody more has the same grant
unwaited-op : (op : Operation) (o : Option ℕ) → (after : Operation) × (unwaited (Some op) o ≡ Some after) × (after.grant ≡ op.grant)
unwaited-op op None = (op, refl, refl)
unwaited-op op (Some i) = (record op { waits = without_inst op.waits i }, refl, refl)

on-drawn : (b : ℕ) (entry : Entry) (op : Operation) (n : ℕ) → entry.op ≡ Some op → op.grant ≡ Some n → go_on b entry ≡ silent entry
on-drawn b entry op n e drawn = ap (λ o. go_on_as o b entry) e ∙ ap (λ t. go_on_if t op b entry) (ap (λ o. is_nothing o && is_empty op.waits) drawn)

-- the operation of an order that came back ends, and its asker is served again
again-is : (b g new asker : ℕ) (mode : HoldMode) (entry : Entry) (op : Operation) → entry.op ≡ Some op → op.grant ≡ Some new → is_granting entry.op g ≡ false
    → and_then (gave_up b g entry) (ask_anew b mode new asker) ≡ answer b mode modes.Null asker (ended (taken_out g entry))
again-is b g new asker mode entry op e drawn is =
    let u = unwaited-op op (sharer_under entry.shared g) in
    let here : (taken_out g entry).op ≡ Some u.0 = ap (λ o. unwaited o (sharer_under entry.shared g)) e ∙ u.1 in
    let still : u.0.grant ≡ Some new = u.2 ∙ drawn in
    let grants : is_granting (taken_out g entry).op new ≡ true = ap (λ o. is_granting o new) here ∙ ap (λ o. is_number o new) still ∙ eq-eqb new new refl in
    ap (λ o. and_then o (ask_anew b mode new asker)) (gave-up-other b g entry is ∙ on-drawn b (taken_out g entry) u.0 new here still)
    ∙ ap (λ t. cond t (answer b mode modes.Null asker (ended (taken_out g entry))) (silent (taken_out g entry))) grants

module _ (wires : List Wire) (b scn : ℕ) (entry : Entry) (s : Block) (sound : Sound s) (tied : TiedTo entry s) (room : HasRoom entry) (le : scn ≤ clock_there s)
    (queue : Same (asks_of entry.queue) (gather of_waiting instances s.request)) (proper : AllByRecursion IsProper entry.queue) where
  served-again : (mode : HoldMode) (k : Hold) (g asker : ℕ) → want_of mode modes.Null ≡ Some (wanted_again k.mode) → s.op ≡ Grants asker k (BackShip g scn) → Same (wires ++ pleas_of entry.queue) (gather of_request instances s.request ++ (map of_note s.notes ++ map of_memo s.memos))
      → (o : Option Operation) → entry.op ≡ o → Reacts wires (and_then (gave_up b g entry) (ask_anew b mode k.grant asker)) s
  served-again mode k g asker wanted op bag None e = absurd (let t : IsOperation None (Grants asker k (BackShip g scn)) s.lists = subst (λ o. IsOperation None o s.lists) op (subst (λ o. IsOperation o s.op s.lists) e tied.operation) in t)
  served-again mode k g asker wanted op bag (Some under) e =
      let was = Sound-at s (Grants asker k (BackShip g scn)) op sound in
      let t : IsGranting under asker k = subst (λ o. IsOperation (Some under) o s.lists) op (subst (λ o. IsOperation o s.op s.lists) e tied.operation) in
      let quiet : s.request asker ≡ Quiet = was.served.once in
      let old : IsOld (Grants asker k (BackShip g scn)) g = was.operation.carrier.1.old in
      let is : is_granting entry.op g ≡ false = not-granting g entry.op s.op s.lists tied.operation (subst (λ o. IsOld o g) (sym op) old) in
      let out = tied-without g entry s s.notes s.request sound tied in
      let step = asks_ship_again s asker k g scn op le in
      let same : gather of_request instances (put s.request asker (Waits (wanted_again k.mode))) ≡ gather of_request instances s.request = gather-none of_request instances asker s.request (Waits (wanted_again k.mode)) (rw quiet refl) refl in
      let answers = answered (wires ++ pleas_of entry.queue) (asks_of entry.queue) b asker (wanted_again k.mode) mode modes.Null (ended (taken_out g entry))
      (record s { lists = without g s.lists; op = Idle; request = put s.request asker (Waits (wanted_again k.mode)) }) (Sound-step step sound) refl refl (put-same s.request asker (Waits (wanted_again k.mode))) t.instance
      (record { lists = out.lists; alone = out.alone; sized = out.sized; draws = out.draws; operation = tt; known = out.known }) room
      (subst (λ l. Same (wires ++ pleas_of entry.queue) (l ++ (map of_note s.notes ++ map of_memo s.memos))) (sym same) bag)
      (more (asker, wanted_again k.mode) (asks_of entry.queue) (gather of_waiting instances (put s.request asker (Waits (wanted_again k.mode)))) (gather of_waiting instances s.request)
      (gather-comes of_waiting instances asker s.request (Waits (wanted_again k.mode)) (asker, wanted_again k.mode) t.instance (rw quiet refl) refl) queue) wanted in
      subst (λ taken. Reacts wires taken s) (sym (again-is b g k.grant asker mode entry under e t.drawn is))
      (reacts-by wires entry (answer b mode modes.Null asker (ended (taken_out g entry))) s (take_up-queue (waiting.Ask b mode modes.Null asker) (ended (taken_out g entry))) proper
      (goes-before (wires ++ pleas_of entry.queue) (asks_of entry.queue) (answer b mode modes.Null asker (ended (taken_out g entry))) s (record s { lists = without g s.lists; op = Idle; request = put s.request asker (Waits (wanted_again k.mode)) })
      (goes step tt (stays (record s { lists = without g s.lists; op = Idle; request = put s.request asker (Waits (wanted_again k.mode)) }))) refl answers))

  pub back-ship : (mode : HoldMode) (k : Hold) (g asker : ℕ) → want_of mode modes.Null ≡ Some (wanted_again k.mode) → Same (BackShipWire g asker k scn ∷ (wires ++ pleas_of entry.queue)) (flights instances s)
      → Reacts wires (and_then (gave_up b g entry) (ask_anew b mode k.grant asker)) s
  back-ship mode k g asker wanted bag =
      let t = carrier-taken (BackShipWire g asker k scn) (wires ++ pleas_of entry.queue) s (Grants asker k (BackShip g scn)) refl refl refl refl bag in
      served-again mode k g asker wanted t.0 t.1 entry.op refl
