-- What waits in the queue is taken up, and an Ask or a plea comes to it.
use Rattle.std.proofs.Common.{◌≡◌, ◌∙◌, ℕ, Bool, true, false, cond, List, [], ◌∷◌, ◌++◌, refl, sym, ap, subst, append_assoc}
use Rattle.std.specs.Prelude.{option_map, option_to_list, Option, Some, None, nat_le}
use Rattle.std.specs.List.{AllByRecursion}
use Rattle.std.proofs.lemmas.Grind.{flat_map-append}
use Rattle.wire_net.specs.declared.message.Mode.{Mode as HoldMode}
use Rattle.wire_net.specs.declared.message.Message.{Message}
use Rattle.wire_net.specs.declared.message.Message.TheVariants as messages
use Rattle.wire_net.specs.declared.message.Waiting.{Waiting}
use Rattle.wire_net.specs.declared.message.Waiting.TheVariants as waiting
use Rattle.wire_net.specs.declared.entry.Holder.{Holder}
use Rattle.wire_net.specs.declared.entry.Operation.{Operation}
use Rattle.wire_net.specs.declared.entry.Entry.{Entry}
use Rattle.resource_dir.specs.Taken.{Taken, silent, telling, and_then, where_busy, queued}
use Rattle.resource_dir.specs.Asks.{answer, ask}
use Rattle.resource_dir.specs.Pasts.{plead, write_please}
use Rattle.resource_dir.specs.Takes.{take_up, drain_all}
use Rattle.resource_dir.proofs.DrainLemmas.{take_up-queue}
use Rattle.block_protocol.specs.Block.{Want, Idle, Clears, Grants, Block, Operation as ProtocolOperation, here}
use Rattle.block_protocol.specs.Sound.{Sound}
use Rattle.block_protocol.specs.Steps.{clock_there}
use Rattle.block_protocol.specs.Wire.{Wire, PleaseWire, of_waiting, gather, flights, Same}
use Rattle.block_protocol.proofs.Bags.{same-refl, same-move, put-both, Takes-last}
use Rattle.protocol_ties.specs.Messages.{instances, want_of, wires_of, ask_of, asks_of, waiting_plea, pleas_of}
use Rattle.protocol_ties.specs.Entries.{IsOperation, IsProper}
use Rattle.protocol_ties.specs.Takes.{HasRoom}
use Rattle.protocol_ties.proofs.Bag.{same-trans, sent-after, first-of, waiting-of}
use Rattle.protocol_ties.proofs.Goes.{TiedTo, Goes, nothing-done, sound-after, run-trans, rest-trans, clock-same}
use Rattle.protocol_ties.proofs.Asks.{answered}
use Rattle.protocol_ties.proofs.Pleas.{goes-met, goes-plead, goes-plea}

-- a part of a handler, with the queue that it leaves
abbrev pub Reacts : List Wire → Taken → Block → Type 0
Reacts wires taken s = Goes (wires ++ pleas_of taken.entry.queue) (asks_of taken.entry.queue) taken s × AllByRecursion IsProper taken.entry.queue

-- where no operation is under way, none is in the protocol
pub idle-there : (entry : Entry) (s : Block) → TiedTo entry s → entry.op ≡ None → s.op ≡ Idle
idle-there entry s tied none = go s.op refl (subst (λ o. IsOperation o s.op s.lists) none tied.operation)
  where
    go : (o : ProtocolOperation) → s.op ≡ o → IsOperation None o s.lists → s.op ≡ Idle
    go Idle e t = e
    go (Clears a w) e t = absurd t
    go (Grants a k c) e t = absurd t

pub reacts-then : (wires : List Wire) (queue : List Waiting) (asks : List (ℕ × Want)) (first : Taken) (next : Entry → Taken) (s : Block) (k : Goes (wires ++ pleas_of queue) asks first s)
    → Reacts (wires_of (clock_there s) first.sends ++ wires) (next first.entry) k.after → Reacts wires (and_then first next) s
reacts-then wires queue asks first next s k m = (
  record {
    after = m.0.after;
    run = run-trans k.run m.0.run;
    tied = m.0.tied;
    bags = (
      sent-after (clock_there s) first.sends (next first.entry).sends (wires ++ pleas_of (next first.entry).entry.queue) (flights instances m.0.after)
          (subst (λ c. Same (wires_of c (next first.entry).sends ++ (wires_of (clock_there s) first.sends ++ (wires ++ pleas_of (next first.entry).entry.queue))) (flights instances m.0.after)) (clock-same s k.after k.beside)
          (subst (λ l. Same (wires_of (clock_there k.after) (next first.entry).sends ++ l) (flights instances m.0.after)) (append_assoc (wires_of (clock_there s) first.sends) wires (pleas_of (next first.entry).entry.queue)) m.0.bags.0)),
      m.0.bags.1,
    );
    beside = rest-trans s k.after m.0.after k.beside m.0.beside;
    room = m.0.room;
  },
  m.1,
)

-- the bag as the next part sees it
pub bag-next : (scn : ℕ) (sends : List (ℕ × Message)) (wires : List Wire) (queue : List Waiting) (under : List Wire) → Same (wires_of scn sends ++ (wires ++ pleas_of queue)) under → Same ((wires_of scn sends ++ wires) ++ pleas_of queue) under
bag-next scn sends wires queue under bag = subst (λ l. Same l under) (sym (append_assoc (wires_of scn sends) wires (pleas_of queue))) bag

-- a plea that waited stands before the rest
plea-first : (v : ℕ) (wires rest under : List Wire) → Same (wires ++ (PleaseWire v ∷ rest)) under → Same (PleaseWire v ∷ (wires ++ rest)) under
plea-first v wires rest under bag = same-trans (PleaseWire v ∷ (wires ++ rest)) (wires ++ (PleaseWire v ∷ rest)) under (same-move (PleaseWire v ∷ []) wires rest) bag

-- the first that waits is taken up
takes-up : (wires : List Wire) (rest : List Waiting) (first : Waiting) (entry : Entry) (s : Block) → Sound s → TiedTo entry s → HasRoom entry → entry.op ≡ None
    → Same (wires ++ pleas_of (first ∷ rest)) (flights instances s) → Same (asks_of (first ∷ rest)) (gather of_waiting instances s.request) → IsProper first
    → Goes (wires ++ pleas_of rest) (asks_of rest) (take_up first (record entry { queue = rest })) s
takes-up wires rest (waiting.Ask b mode held asker) entry s sound tied room none bag queue proper =
    let one : Same ((asker, proper.0) ∷ asks_of rest) (gather of_waiting instances s.request) = subst (λ o. Same (option_to_list (option_map (λ want. (asker, want)) o) ++ asks_of rest) (gather of_waiting instances s.request)) proper.1 queue in
    let f = first-of (asker, proper.0) (asks_of rest) (gather of_waiting instances s.request) one in
    let w = waiting-of instances s.request (asker, proper.0) f.rest f.takes in
    answered (wires ++ pleas_of rest) (asks_of rest) b asker proper.0 mode held (record entry { queue = rest }) s sound (idle-there entry s tied none) none w.1 w.0 (record { lists = tied.lists; alone = tied.alone; sized = tied.sized; draws = tied.draws; operation = tied.operation; known = tied.known }) room bag one proper.1
takes-up wires rest (waiting.WritePlease b version holder) entry s sound tied room none bag queue proper =
    goes-plea (wires ++ pleas_of rest) (asks_of rest) b version (record entry { queue = rest }) s (record { lists = tied.lists; alone = tied.alone; sized = tied.sized; draws = tied.draws; operation = tied.operation; known = tied.known }) (λ e. room) queue holder (idle-there entry s tied none)
    (plea-first version wires (pleas_of rest) (flights instances s) bag)

pub drained : (waits : List Waiting) (wires : List Wire) (entry : Entry) (s : Block) → Sound s → TiedTo entry s → (entry.op ≡ None → HasRoom entry)
    → Same (wires ++ pleas_of waits) (flights instances s) → Same (asks_of waits) (gather of_waiting instances s.request) → AllByRecursion IsProper waits
    → Reacts wires (drain_all waits entry) s
drained [] wires entry s sound tied room bag queue proper =
    (nothing-done (wires ++ []) [] (record entry { queue = [] }) s (record { lists = tied.lists; alone = tied.alone; sized = tied.sized; draws = tied.draws; operation = tied.operation; known = tied.known }) bag queue room, tt)
drained (first ∷ rest) wires entry s sound tied room bag queue proper = go entry.op refl (λ ws e t. drained rest ws e t)
  where
    go : (o : Option Operation) → entry.op ≡ o
        → ((ws : List Wire) (e : Entry) (t : Block) → Sound t → TiedTo e t → (e.op ≡ None → HasRoom e) → Same (ws ++ pleas_of rest) (flights instances t) → Same (asks_of rest) (gather of_waiting instances t.request)
        → AllByRecursion IsProper rest → Reacts ws (drain_all rest e) t)
        → Reacts wires (where_busy o (silent (record entry { queue = first ∷ rest })) (and_then (take_up first (record entry { queue = rest })) (drain_all rest))) s
    go (Some op) e others =
        (nothing-done (wires ++ pleas_of (first ∷ rest)) (asks_of (first ∷ rest)) (record entry { queue = first ∷ rest }) s (record { lists = tied.lists; alone = tied.alone; sized = tied.sized; draws = tied.draws; operation = tied.operation; known = tied.known }) bag queue room, proper)
    go None e others =
        let k : Goes (wires ++ pleas_of rest) (asks_of rest) (take_up first (record entry { queue = rest })) s = takes-up wires rest first entry s sound tied (room e) e bag queue proper.0 in
        reacts-then wires rest (asks_of rest) (take_up first (record entry { queue = rest })) (drain_all rest) s k
        (others (wires_of (clock_there s) (take_up first (record entry { queue = rest })).sends ++ wires) (take_up first (record entry { queue = rest })).entry k.after (sound-after k.run sound) k.tied k.room
        (bag-next (clock_there s) (take_up first (record entry { queue = rest })).sends wires rest (flights instances k.after) k.bags.0) k.bags.1 proper.1)

-- a part that leaves the queue as it was
pub reacts-by : (wires : List Wire) (entry : Entry) (taken : Taken) (s : Block) → taken.entry.queue ≡ entry.queue → AllByRecursion IsProper entry.queue → Goes (wires ++ pleas_of entry.queue) (asks_of entry.queue) taken s → Reacts wires taken s
reacts-by wires entry taken s same proper k = (subst (λ q. Goes (wires ++ pleas_of q) (asks_of q) taken s) (sym same) k, subst (λ q. AllByRecursion IsProper q) (sym same) proper)

-- one more waits
proper-last : (queue : List Waiting) (w : Waiting) → AllByRecursion IsProper queue → IsProper w → AllByRecursion IsProper (queue ++ w ∷ [])
proper-last [] w all one = (one, tt)
proper-last (x ∷ queue) w all one = (all.0, proper-last queue w all.1 one)

same-last : {A : Type 0} (x : A) (xs under : List A) → Same (x ∷ xs) under → Same (xs ++ x ∷ []) under
same-last x xs under s = same-trans (xs ++ x ∷ []) (x ∷ xs) under (put-both x (xs ++ x ∷ []) xs (x ∷ xs) xs (Takes-last x xs) (here xs) (same-refl xs)) s

pub append-none : {A : Type 0} (xs : List A) → xs ++ [] ≡ xs
append-none [] = refl
append-none (x ∷ xs) = ap (λ l. x ∷ l) (append-none xs)

-- an Ask is answered, or waits
pub asked : (wires : List Wire) (b asker : ℕ) (want : Want) (mode held : HoldMode) (entry : Entry) (s : Block) → Sound s → TiedTo entry s → (entry.op ≡ None → HasRoom entry)
    → Same (wires ++ pleas_of entry.queue) (flights instances s) → Same ((asker, want) ∷ asks_of entry.queue) (gather of_waiting instances s.request) → AllByRecursion IsProper entry.queue → want_of mode held ≡ Some want
    → Reacts wires (ask b mode held asker entry) s
asked wires b asker want mode held entry s sound tied room bag queue proper wanted = go entry.op refl
  where
    pleas : pleas_of (entry.queue ++ waiting.Ask b mode held asker ∷ []) ≡ pleas_of entry.queue
    pleas = flat_map-append waiting_plea entry.queue (waiting.Ask b mode held asker ∷ []) ∙ append-none (pleas_of entry.queue)

    asks : asks_of (entry.queue ++ waiting.Ask b mode held asker ∷ []) ≡ asks_of entry.queue ++ (asker, want) ∷ []
    asks = flat_map-append ask_of entry.queue (waiting.Ask b mode held asker ∷ []) ∙ ap (λ o. asks_of entry.queue ++ (option_to_list (option_map (λ w. (asker, w)) o) ++ [])) wanted

    go : (o : Option Operation) → entry.op ≡ o → Reacts wires (where_busy o (queued entry (waiting.Ask b mode held asker)) (answer b mode held asker entry)) s
    go (Some op) e = (
      nothing-done (wires ++ pleas_of (entry.queue ++ waiting.Ask b mode held asker ∷ [])) (asks_of (entry.queue ++ waiting.Ask b mode held asker ∷ [])) (record entry { queue = entry.queue ++ waiting.Ask b mode held asker ∷ [] }) s
          (record { lists = tied.lists; alone = tied.alone; sized = tied.sized; draws = tied.draws; operation = tied.operation; known = tied.known })
          (subst (λ l. Same (wires ++ l) (flights instances s)) (sym pleas) bag)
          (subst (λ l. Same l (gather of_waiting instances s.request)) (sym asks) (same-last (asker, want) (asks_of entry.queue) (gather of_waiting instances s.request) queue)) room,
      proper-last entry.queue (waiting.Ask b mode held asker) proper (want, wanted),
    )
    go None e =
        let f = first-of (asker, want) (asks_of entry.queue) (gather of_waiting instances s.request) queue in
        let w = waiting-of instances s.request (asker, want) f.rest f.takes in
        reacts-by wires entry (answer b mode held asker entry) s (take_up-queue (waiting.Ask b mode held asker) entry) proper
        (answered (wires ++ pleas_of entry.queue) (asks_of entry.queue) b asker want mode held entry s sound (idle-there entry s tied e) e w.1 w.0 tied (room e) bag queue wanted)

-- a plea is met, or passed on, or waits
pub pleaded : (wires : List Wire) (b version holder : ℕ) (entry : Entry) (s : Block) → TiedTo entry s → (entry.op ≡ None → HasRoom entry)
    → Same (PleaseWire version ∷ (wires ++ pleas_of entry.queue)) (flights instances s) → Same (asks_of entry.queue) (gather of_waiting instances s.request) → AllByRecursion IsProper entry.queue
    → Reacts wires (write_please b version holder entry) s
pleaded wires b version holder entry s tied room bag queue proper = pick (nat_le version entry.written) refl
  where
    pleas : pleas_of (entry.queue ++ waiting.WritePlease b version holder ∷ []) ≡ pleas_of entry.queue ++ PleaseWire version ∷ []
    pleas = flat_map-append waiting_plea entry.queue (waiting.WritePlease b version holder ∷ [])

    asks : asks_of (entry.queue ++ waiting.WritePlease b version holder ∷ []) ≡ asks_of entry.queue
    asks = flat_map-append ask_of entry.queue (waiting.WritePlease b version holder ∷ []) ∙ append-none (asks_of entry.queue)

    plead-queue : (x : Option Holder) → (plead x b version holder entry).entry.queue ≡ entry.queue
    plead-queue None = refl
    plead-queue (Some x) = refl

    go : (o : Option Operation) → entry.op ≡ o → Reacts wires (where_busy o (queued entry (waiting.WritePlease b version holder)) (plead entry.x b version holder entry)) s
    go (Some op) e = (
      nothing-done (wires ++ pleas_of (entry.queue ++ waiting.WritePlease b version holder ∷ [])) (asks_of (entry.queue ++ waiting.WritePlease b version holder ∷ [])) (record entry { queue = entry.queue ++ waiting.WritePlease b version holder ∷ [] }) s
          (record { lists = tied.lists; alone = tied.alone; sized = tied.sized; draws = tied.draws; operation = tied.operation; known = tied.known })
          (subst (λ l. Same (wires ++ l) (flights instances s)) (sym pleas)
          (subst (λ l. Same l (flights instances s)) (append_assoc wires (pleas_of entry.queue) (PleaseWire version ∷ [])) (same-last (PleaseWire version) (wires ++ pleas_of entry.queue) (flights instances s) bag)))
          (subst (λ l. Same l (gather of_waiting instances s.request)) (sym asks) queue) room,
      proper-last entry.queue (waiting.WritePlease b version holder) proper tt,
    )
    go None e =
        reacts-by wires entry (plead entry.x b version holder entry) s (plead-queue entry.x) proper
        (goes-plead (wires ++ pleas_of entry.queue) (asks_of entry.queue) b version entry s tied room queue holder (idle-there entry s tied e) bag entry.x refl)

    pick : (t : Bool) → nat_le version entry.written ≡ t
        → Reacts wires (cond t (telling entry holder (messages.DropPast b version)) (where_busy entry.op (queued entry (waiting.WritePlease b version holder)) (plead entry.x b version holder entry))) s
    pick true is = reacts-by wires entry (telling entry holder (messages.DropPast b version)) s refl proper (goes-met (wires ++ pleas_of entry.queue) (asks_of entry.queue) b version entry s tied room queue holder is bag)
    pick false is = go entry.op refl
