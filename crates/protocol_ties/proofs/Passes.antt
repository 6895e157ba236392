-- A message goes on to the master.
use Rattle.std.proofs.Common.{◌≡◌, ◌∙◌, ℕ, ◌<◌, List, [], ◌∷◌, ◌++◌, refl, sym, ap, subst, arith}
use Rattle.std.specs.Prelude.{map, max, option_map, option_to_list, Option, Some, None}
use Rattle.std.specs.List.{AllByRecursion}
use Rattle.wire_net.specs.declared.message.Mode.{Mode as HoldMode}
use Rattle.wire_net.specs.declared.message.Unfound.{Unfound}
use Rattle.wire_net.specs.declared.message.Unfound.TheVariants as unfound
use Rattle.wire_net.specs.declared.message.Message.{Message}
use Rattle.wire_net.specs.declared.message.Message.TheVariants as messages
use Rattle.wire_net.specs.declared.entry.Operation.{Operation}
use Rattle.wire_net.specs.declared.entry.Entry.{Entry}
use Prim.Native.Nat.{zero, suc}
use Rattle.block_protocol.specs.Block.{Shared, Exclusive, Hold, Want, Request, Quiet, Asks, BackCopy, BackShip, Grants, Note, Gone, GaveUp, BackWrite, Block, put, Takes}
use Rattle.block_protocol.specs.Steps.{sent_on, asked_on, forwards_request, forwards_note, forwards_ship}
use Rattle.block_protocol.specs.Wire.{Wire, Ask, BackCopyWire, BackShipWire, GoneWire, GaveUpWire, BackWriteWire, DoneWire, WroteWire, PleaseWire, of_operation, of_request, of_waiting, gather, of_note, of_memo, flights, Same, more}
use Rattle.block_protocol.proofs.Basics.{put-same, put-other, put-elim}
use Rattle.block_protocol.proofs.Bags.{Takes-left, Takes-right}
use Rattle.block_protocol.specs.Block.{here}
use Rattle.block_protocol.proofs.RefinesAsk.{gather-taken, gather-none}
use Rattle.protocol_ties.specs.Messages.{instances, want_of, wire_of, back_of, wires_of, asks_of, pleas_of}
use Rattle.protocol_ties.specs.Entries.{IsOperation, IsProper}
use Rattle.protocol_ties.specs.MasterRuns.{stays, goes, raised}
use Rattle.protocol_ties.specs.Takes.{IsForMaster}
use Rattle.protocol_ties.specs.GoesOn.{IsPassedOn, MessageGoesOn}
use Rattle.protocol_ties.proofs.Goes.{TiedTo}
use Rattle.protocol_ties.proofs.Origins.{some-one, note-taken, request-taken, carrier-taken}

-- requests that are the same one by one make the same messages
gather-same : {A : Type 0} (f : ℕ → Request → List A) (n : ℕ) (one other : ℕ → Request) → ((j : ℕ) → one j ≡ other j) → gather f n one ≡ gather f n other
gather-same f zero one other same = refl
gather-same f (suc n) one other same = let rest = gather-same f n one other same in let here = same n in rw (rest, here) refl

-- a request that comes where none was
pub came-to : (n i : ℕ) (request : ℕ → Request) (r : Request) (w : Wire) → i < n → of_request i r ≡ w ∷ [] → Takes w (gather of_request n (put request i r)) (gather of_request n (put request i Quiet))
came-to n i request r w lt one =
    subst (λ l. Takes w (gather of_request n (put request i r)) l) (gather-same of_request n (put (put request i r) i Quiet) (put request i Quiet) twice)
    (gather-taken of_request n i (put request i r) Quiet w lt (rw (put-same request i r) one) refl)
  where
    twice : (j : ℕ) → put (put request i r) i Quiet j ≡ put request i Quiet j
    twice j = put-elim (λ x. x ≡ put request i Quiet j) (put request i r) i Quiet j
        (λ e. subst (λ k. Quiet ≡ put request i Quiet k) e (sym (put-same request i Quiet)))
        (λ ne. put-other request i r j ne ∙ sym (put-other request i Quiet j ne))

module _ (me to scn : ℕ) (wires : List Wire) (entry : Entry) (s : Block) (tied : TiedTo entry s) (queue : Same (asks_of entry.queue) (gather of_waiting instances s.request)) (proper : AllByRecursion IsProper entry.queue) where
  same-clock : max scn (s.clock me) ≡ max (s.clock me) scn
  same-clock = omega arith

  -- nothing is to be done where a message bears no clock
  passes-bare : (message : Message) (wire : Wire) → wires_of (max (s.clock me) scn) ((to, message) ∷ []) ≡ wire ∷ [] → Same (wire ∷ (wires ++ pleas_of entry.queue)) (flights instances s) → IsPassedOn me to scn message wires entry s
  passes-bare message wire is bag = record {
    after = raised me scn s;
    run = stays (raised me scn s);
    shows = record {
      tied = record { lists = tied.lists; alone = tied.alone; sized = tied.sized; draws = tied.draws; operation = tied.operation; known = tied.known };
      messages = subst (λ l. Same ((l ++ wires) ++ pleas_of entry.queue) (flights instances s)) (sym is) bag;
      requests = queue;
      proper = proper;
    };
    beside = refl;
  }

  passes-request : (message : Message) (i : ℕ) (r : Request) (wire : Wire) → wires_of (max (s.clock me) scn) ((to, message) ∷ []) ≡ wire ∷ [] → i < instances → s.request i ≡ r → of_waiting i r ≡ [] → of_waiting i (asked_on (s.clock me) r) ≡ []
      → of_request i (asked_on (s.clock me) r) ≡ wire ∷ [] → Same (wires ++ pleas_of entry.queue) (flights instances (record s { request = put s.request i Quiet })) → IsPassedOn me to scn message wires entry s
  passes-request message i r wire is lt its still then one left = record {
    after = record (raised me scn s) { request = put s.request i (asked_on (s.clock me) (s.request i)) };
    run = goes (forwards_request (raised me scn s) i (s.clock me)) tt (stays (record (raised me scn s) { request = put s.request i (asked_on (s.clock me) (s.request i)) }));
    shows = record {
      tied = record { lists = tied.lists; alone = tied.alone; sized = tied.sized; draws = tied.draws; operation = tied.operation; known = tied.known };
      messages = subst (λ q. Same ((wires_of (max (s.clock me) scn) ((to, message) ∷ []) ++ wires) ++ pleas_of entry.queue) (of_operation s.op ++ (gather of_request instances (put s.request i (asked_on (s.clock me) q)) ++ (map of_note s.notes ++ map of_memo s.memos)))) (sym its)
          (subst (λ l. Same ((l ++ wires) ++ pleas_of entry.queue) (of_operation s.op ++ (gather of_request instances (put s.request i (asked_on (s.clock me) r)) ++ (map of_note s.notes ++ map of_memo s.memos)))) (sym is)
          (more wire (wires ++ pleas_of entry.queue) (of_operation s.op ++ (gather of_request instances (put s.request i (asked_on (s.clock me) r)) ++ (map of_note s.notes ++ map of_memo s.memos))) (flights instances (record s { request = put s.request i Quiet }))
          (Takes-right wire (of_operation s.op) (gather of_request instances (put s.request i (asked_on (s.clock me) r)) ++ (map of_note s.notes ++ map of_memo s.memos)) (gather of_request instances (put s.request i Quiet) ++ (map of_note s.notes ++ map of_memo s.memos))
          (Takes-left wire (gather of_request instances (put s.request i (asked_on (s.clock me) r))) (gather of_request instances (put s.request i Quiet)) (map of_note s.notes ++ map of_memo s.memos)
          (came-to instances i s.request (asked_on (s.clock me) r) wire lt one))) left));
      requests = subst (λ l. Same (asks_of entry.queue) l) (sym (gather-none of_waiting instances i s.request (asked_on (s.clock me) (s.request i)) (rw its still) (rw its then))) queue;
      proper = proper;
    };
    beside = refl;
  }

  passes-note : (message : Message) (note : Note) (rest : List Note) → wires_of (max (s.clock me) scn) ((to, message) ∷ []) ≡ of_note (sent_on (s.clock me) note) ∷ [] → Takes note s.notes rest → Same (wires ++ pleas_of entry.queue) (flights instances (record s { notes = rest })) → IsPassedOn me to scn message wires entry s
  passes-note message note rest is takes left = record {
    after = record (raised me scn s) { notes = sent_on (s.clock me) note ∷ rest };
    run = goes (forwards_note (raised me scn s) (s.clock me) note rest takes) tt (stays (record (raised me scn s) { notes = sent_on (s.clock me) note ∷ rest }));
    shows = record {
      tied = record { lists = tied.lists; alone = tied.alone; sized = tied.sized; draws = tied.draws; operation = tied.operation; known = tied.known };
      messages = subst (λ l. Same ((l ++ wires) ++ pleas_of entry.queue) (of_operation s.op ++ (gather of_request instances s.request ++ (of_note (sent_on (s.clock me) note) ∷ (map of_note rest ++ map of_memo s.memos))))) (sym is)
          (more (of_note (sent_on (s.clock me) note)) (wires ++ pleas_of entry.queue) (of_operation s.op ++ (gather of_request instances s.request ++ (of_note (sent_on (s.clock me) note) ∷ (map of_note rest ++ map of_memo s.memos)))) (flights instances (record s { notes = rest }))
          (Takes-right (of_note (sent_on (s.clock me) note)) (of_operation s.op) (gather of_request instances s.request ++ (of_note (sent_on (s.clock me) note) ∷ (map of_note rest ++ map of_memo s.memos))) (gather of_request instances s.request ++ (map of_note rest ++ map of_memo s.memos))
          (Takes-right (of_note (sent_on (s.clock me) note)) (gather of_request instances s.request) (of_note (sent_on (s.clock me) note) ∷ (map of_note rest ++ map of_memo s.memos)) (map of_note rest ++ map of_memo s.memos) (here (map of_note rest ++ map of_memo s.memos)))) left);
      requests = queue;
      proper = proper;
    };
    beside = refl;
  }

  -- which message carries the grant the entry doesn't tell
  other-carrier : (o : Option Operation) (a g c : ℕ) (k : Hold) → IsOperation o (Grants a k (BackShip g c)) s.lists → IsOperation o (Grants a k (BackShip g (max c (s.clock me)))) s.lists
  other-carrier None a g c k t = absurd t
  other-carrier (Some op) a g c k t = t

  passes-ship : (message : Message) (a g : ℕ) (k : Hold) → wires_of (max (s.clock me) scn) ((to, message) ∷ []) ≡ BackShipWire g a k (max (s.clock me) scn) ∷ [] → Same (BackShipWire g a k scn ∷ (wires ++ pleas_of entry.queue)) (flights instances s) → IsPassedOn me to scn message wires entry s
  passes-ship message a g k is bag =
      let t = carrier-taken (BackShipWire g a k scn) (wires ++ pleas_of entry.queue) s (Grants a k (BackShip g scn)) refl refl refl refl bag in
      record {
        after = record (raised me scn s) { op = Grants a k (BackShip g (max scn (s.clock me))) };
        run = goes (forwards_ship (raised me scn s) (s.clock me) a k g scn t.0) tt (stays (record (raised me scn s) { op = Grants a k (BackShip g (max scn (s.clock me))) }));
        shows = record {
          tied = record { lists = tied.lists; alone = tied.alone; sized = tied.sized; draws = tied.draws; operation = other-carrier entry.op a g scn k (subst (λ o. IsOperation entry.op o s.lists) t.0 tied.operation); known = tied.known };
          messages = subst (λ l. Same ((l ++ wires) ++ pleas_of entry.queue) (BackShipWire g a k (max scn (s.clock me)) ∷ (gather of_request instances s.request ++ (map of_note s.notes ++ map of_memo s.memos)))) (sym (is ∙ ap (λ c. BackShipWire g a k c ∷ []) (sym same-clock)))
              (more (BackShipWire g a k (max scn (s.clock me))) (wires ++ pleas_of entry.queue) (BackShipWire g a k (max scn (s.clock me)) ∷ (gather of_request instances s.request ++ (map of_note s.notes ++ map of_memo s.memos))) (gather of_request instances s.request ++ (map of_note s.notes ++ map of_memo s.memos))
              (here (gather of_request instances s.request ++ (map of_note s.notes ++ map of_memo s.memos))) t.1);
          requests = queue;
          proper = proper;
        };
        beside = refl;
      }

  is-wire : (a wire : Wire) → Some a ≡ Some wire → Same (wire ∷ (wires ++ pleas_of entry.queue)) (flights instances s) → Same (a ∷ (wires ++ pleas_of entry.queue)) (flights instances s)
  is-wire a wire is bag = subst (λ w. Same (w ∷ (wires ++ pleas_of entry.queue)) (flights instances s)) (sym (some-one a wire is)) bag

  passes-ask : (b : ℕ) (mode held : HoldMode) (asker : ℕ) (wire : Wire) (o : Option Want) → want_of mode held ≡ o → option_map (λ want. Ask asker want scn) o ≡ Some wire → Same (wire ∷ (wires ++ pleas_of entry.queue)) (flights instances s)
      → IsPassedOn me to scn (messages.Ask b mode held asker) wires entry s
  passes-ask b mode held asker wire None wanted is bag = absurd (let clash : ◌≡◌ {A = Option Wire} None (Some wire) = is in cc)
  passes-ask b mode held asker wire (Some want) wanted is bag =
      let t = request-taken (Ask asker want scn) (wires ++ pleas_of entry.queue) s asker (Asks want scn) Quiet refl refl refl refl refl (is-wire (Ask asker want scn) wire is bag) in
      passes-request (messages.Ask b mode held asker) asker (Asks want scn) (Ask asker want (max (s.clock me) scn))
      (ap (λ w. option_to_list (option_map (λ want. Ask asker want (max (s.clock me) scn)) w) ++ []) wanted) t.0 t.1 refl refl (ap (λ c. Ask asker want c ∷ []) same-clock) t.2

  passes-back : (u : Unfound) → Same (back_of scn u ∷ (wires ++ pleas_of entry.queue)) (flights instances s) → IsPassedOn me to scn (messages.Back u) wires entry s
  passes-back (unfound.CopyTo b g reader) bag =
      let t = request-taken (BackCopyWire g reader scn) (wires ++ pleas_of entry.queue) s reader (BackCopy g scn) Quiet refl refl refl refl refl bag in
      passes-request (messages.Back (unfound.CopyTo b g reader)) reader (BackCopy g scn) (BackCopyWire g reader (max (s.clock me) scn)) refl t.0 t.1 refl refl (ap (λ c. BackCopyWire g reader c ∷ []) same-clock) t.2
  passes-back (unfound.ShareTo b g new asker) bag = passes-ship (messages.Back (unfound.ShareTo b g new asker)) asker g (record { mode = Shared; grant = new }) refl bag
  passes-back (unfound.ShipTo b g new asker) bag = passes-ship (messages.Back (unfound.ShipTo b g new asker)) asker g (record { mode = Exclusive; grant = new }) refl bag
  passes-back (unfound.WritePlease b g version holder) bag =
      let t = note-taken (BackWriteWire g scn) (wires ++ pleas_of entry.queue) s (BackWrite g scn) refl refl refl refl bag in
      passes-note (messages.Back (unfound.WritePlease b g version holder)) (BackWrite g scn) t.0 (ap (λ c. BackWriteWire g c ∷ []) (sym same-clock)) t.1 t.2

  pub passes : (message : Message) (wire : Wire) → IsForMaster message → wire_of me scn message ≡ Some wire → Same (wire ∷ (wires ++ pleas_of entry.queue)) (flights instances s) → IsPassedOn me to scn message wires entry s
  passes (messages.Ask b mode held asker) wire for is bag = passes-ask b mode held asker wire (want_of mode held) refl is bag
  passes (messages.CopyTo b g r) wire for is bag = absurd for
  passes (messages.ShareTo b g n a) wire for is bag = absurd for
  passes (messages.ShipTo b g n a) wire for is bag = absurd for
  passes (messages.Invalidate b g) wire for is bag = absurd for
  passes (messages.Grant b g m d) wire for is bag = absurd for
  passes (messages.Shipped x) wire for is bag = absurd for
  passes (messages.Copy i u) wire for is bag = absurd for
  passes (messages.Gone b g) wire for is bag =
      let t = note-taken (GoneWire g scn) (wires ++ pleas_of entry.queue) s (Gone g scn) refl refl refl refl (is-wire (GoneWire g scn) wire is bag) in
      passes-note (messages.Gone b g) (Gone g scn) t.0 (ap (λ c. GoneWire g c ∷ []) (sym same-clock)) t.1 t.2
  passes (messages.Done b g m past) wire for is bag = passes-bare (messages.Done b g m past) (DoneWire g) refl (is-wire (DoneWire g) wire is bag)
  passes (messages.GaveUp b g) wire for is bag =
      let t = note-taken (GaveUpWire g scn) (wires ++ pleas_of entry.queue) s (GaveUp g scn) refl refl refl refl (is-wire (GaveUpWire g scn) wire is bag) in
      passes-note (messages.GaveUp b g) (GaveUp g scn) t.0 (ap (λ c. GaveUpWire g c ∷ []) (sym same-clock)) t.1 t.2
  passes (messages.Back u) wire for is bag = passes-back u (is-wire (back_of scn u) wire is bag)
  passes (messages.Wrote b version) wire for is bag = passes-bare (messages.Wrote b version) (WroteWire version) refl (is-wire (WroteWire version) wire is bag)
  passes (messages.WritePlease b version holder None) wire for is bag = passes-bare (messages.WritePlease b version holder None) (PleaseWire version) refl (is-wire (PleaseWire version) wire is bag)
  passes (messages.WritePlease b version holder (Some g)) wire for is bag = absurd (let clash : ◌≡◌ {A = Option ℕ} (Some g) None = for in cc)
  passes (messages.DropPast b version) wire for is bag = absurd for
  passes (messages.NeedUndo b j) wire for is bag = absurd for
  passes (messages.UndoIs i j) wire for is bag = absurd for
  passes (messages.Commit c) wire for is bag = absurd for
  passes (messages.Heard c) wire for is bag = absurd for
  passes (messages.Bucket k e) wire for is bag = absurd for

pub message-goes-on : MessageGoesOn
message-goes-on me to scn message wire wires entry block for is shows = passes me to scn wires entry block shows.tied shows.requests shows.proper message wire for is shows.messages
