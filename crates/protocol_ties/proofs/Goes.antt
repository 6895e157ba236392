-- What a part of a master's handler does is a run, and one part goes after another.
use Rattle.std.proofs.Common.{◌≡◌, ◌∙◌, ℕ, ◌+◌, ◌<◌, ◌-◌, ◌^◌, List, ◌∷◌, ◌++◌, refl, sym, ap, subst, arith}
use Rattle.std.specs.Prelude.{map, Option, Some, None}
use Rattle.wire_net.specs.declared.message.Mode.{Mode as HoldMode}
use Rattle.wire_net.specs.declared.message.Message.{Message}
use Rattle.wire_net.specs.declared.entry.Operation.{Operation}
use Rattle.wire_net.specs.declared.entry.Entry.{Entry}
use Rattle.inst_set.specs.Sets.{no_insts}
use Rattle.resource_dir.specs.Holders.{grant_after}
use Rattle.resource_dir.specs.Taken.{Taken, silent, and_then}
use Rattle.resource_dir.specs.Asks.{granting}
use Rattle.block_protocol.specs.Block.{Mode, Want, Quiet, Waits, Carrier, Grants, Idle, Block, put}
use Rattle.block_protocol.specs.Sound.{Sound}
use Rattle.block_protocol.specs.Steps.{clock_there}
use Rattle.block_protocol.specs.Wire.{Wire, of_operation, of_request, of_waiting, gather, of_note, of_memo, flights, Same}
use Rattle.block_protocol.proofs.Directory.{Sound-step}
use Rattle.block_protocol.proofs.RefinesAsk.{gather-taken, gather-none}
use Rattle.protocol_ties.specs.Messages.{instances, hold_of, wires_of}
use Rattle.protocol_ties.specs.Entries.{Tied}
use Rattle.protocol_ties.specs.MasterRuns.{MasterRun, stays, goes, LeavesRest}
use Rattle.protocol_ties.specs.Takes.{HasRoom}
use Rattle.protocol_ties.proofs.Bag.{same-under, sent-after, left-by}

-- the parts of an entry that the protocol has
abbrev pub TiedTo : Entry → Block → Type 0
TiedTo entry block = Tied entry.x entry.shared entry.next_grant entry.op entry.written block

pub record Goes (wires : List Wire) (asks : List (ℕ × Want)) (taken : Taken) (before : Block) : Type 0 where
  pub after : Block
  pub run : MasterRun before after
  pub tied : TiedTo taken.entry after
  pub bags : Same (wires_of (clock_there before) taken.sends ++ wires) (flights instances after) × Same asks (gather of_waiting instances after.request)
  pub beside : LeavesRest before after
  pub room : taken.entry.op ≡ None → HasRoom taken.entry

pub run-trans : {s t u : Block} → MasterRun s t → MasterRun t u → MasterRun s u
run-trans (stays s) k = k
run-trans (goes step is rest) k = goes step is (run-trans rest k)

pub sound-after : {s t : Block} → MasterRun s t → Sound s → Sound t
sound-after (stays s) sound = sound
sound-after (goes step is rest) sound = sound-after rest (Sound-step step sound)

pub rest-trans : (s t u : Block) → LeavesRest s t → LeavesRest t u → LeavesRest s u
rest-trans s t u one two = two ∙ ap {A = Block} {B = Block} (λ z. record z { lists = u.lists; next = u.next; op = u.op; written = u.written; request = u.request; notes = u.notes; memos = u.memos }) one

pub clock-same : (s t : Block) → LeavesRest s t → clock_there t ≡ clock_there s
clock-same s t one = ap clock_there one

abbrev pub nothing-done : (wires : List Wire) (asks : List (ℕ × Want)) (entry : Entry) (s : Block) → TiedTo entry s → Same wires (flights instances s) → Same asks (gather of_waiting instances s.request)
    → (entry.op ≡ None → HasRoom entry) → Goes wires asks (silent entry) s
nothing-done wires asks entry s tied messages requests room = record { after = s; run = stays s; tied = tied; bags = (messages, requests); beside = refl; room = room }

-- one thing after another
abbrev pub goes-then : (wires : List Wire) (asks later : List (ℕ × Want)) (first : Taken) (next : Entry → Taken) (s : Block) (k : Goes wires asks first s)
    → Goes (wires_of (clock_there s) first.sends ++ wires) later (next first.entry) k.after → Goes wires later (and_then first next) s
goes-then wires asks later first next s k m = record {
  after = m.after;
  run = run-trans k.run m.run;
  tied = m.tied;
  bags = (
    sent-after (clock_there s) first.sends (next first.entry).sends wires (flights instances m.after)
        (subst (λ c. Same (wires_of c (next first.entry).sends ++ (wires_of (clock_there s) first.sends ++ wires)) (flights instances m.after)) (clock-same s k.after k.beside) m.bags.0),
    m.bags.1,
  );
  beside = rest-trans s k.after m.after k.beside m.beside;
  room = m.room;
}

-- a step before it
abbrev pub goes-before : (wires : List Wire) (asks : List (ℕ × Want)) (taken : Taken) (s t : Block) → MasterRun s t → LeavesRest s t → Goes wires asks taken t → Goes wires asks taken s
goes-before wires asks taken s t run beside k = record {
  after = k.after;
  run = run-trans run k.run;
  tied = k.tied;
  bags = (subst (λ c. Same (wires_of c taken.sends ++ wires) (flights instances k.after)) (clock-same s t beside) k.bags.0, k.bags.1);
  beside = rest-trans s t k.after beside k.beside;
  room = k.room;
}

pub next-grant : (grant : ℕ) → grant < 2 ^ 64 - 1 → grant_after grant ≡ grant + 1
next-grant grant lt = omega (arith, lt)

-- an operation begins with a grant, for a request that waited
pub begun : (wires : List Wire) (asks : List (ℕ × Want)) (mode : HoldMode) (m : Mode) (held : HoldMode) (asker : ℕ) (want : Want) (carrier : Carrier) (entry : Entry) (s : Block) (sends : List (ℕ × Message))
    → ((g : ℕ) → hold_of mode g ≡ Some (record { mode = m; grant = g })) → asker < instances → s.op ≡ Idle → s.request asker ≡ Waits want → TiedTo entry s → HasRoom entry
    → Same wires (flights instances s) → Same ((asker, want) ∷ asks) (gather of_waiting instances s.request)
    → wires_of (clock_there s) sends ≡ of_operation (Grants asker (record { mode = m; grant = s.next }) carrier)
    → MasterRun s (record s { request = put s.request asker Quiet; next = s.next + 1; op = Grants asker (record { mode = m; grant = s.next }) carrier })
    → Goes wires asks (record { entry = granting asker mode held entry; sends = sends }) s
begun wires asks mode m held asker want carrier entry s sends holds lt idle waits tied room messages requests sent run = record {
  after = record s { request = put s.request asker Quiet; next = s.next + 1; op = Grants asker (record { mode = m; grant = s.next }) carrier };
  run = run;
  tied = record {
    lists = tied.lists;
    alone = tied.alone;
    sized = tied.sized;
    draws = ap (λ n. n + 1) tied.draws ∙ sym (next-grant entry.next_grant room);
    operation = record { serves = refl; instance = lt; grants = holds s.next; drawn = ap (λ n. Some n) (sym tied.draws) };
    known = tied.known;
  };
  bags = (
    subst (λ l. Same (l ++ wires) (of_operation (Grants asker (record { mode = m; grant = s.next }) carrier) ++ rest)) (sym sent)
        (same-under (of_operation (Grants asker (record { mode = m; grant = s.next }) carrier)) wires rest (subst (λ l. Same wires l) under messages)),
    left-by (asker, want) asks (gather of_waiting instances s.request) (gather of_waiting instances (put s.request asker Quiet)) requests
        (gather-taken of_waiting instances asker s.request Quiet (asker, want) lt (rw waits refl) refl),
  );
  beside = refl;
  room = λ e. absurd (let clash : ◌≡◌ {A = Option Operation} (Some (record { asker = asker; mode = mode; held = held; grant = Some entry.next_grant; waits = no_insts })) None = e in cc);
}
  where
    rest : List Wire
    rest = gather of_request instances (put s.request asker Quiet) ++ (map of_note s.notes ++ map of_memo s.memos)

    under : flights instances s ≡ rest
    under =
        let quiet : gather of_request instances (put s.request asker Quiet) ≡ gather of_request instances s.request = gather-none of_request instances asker s.request Quiet (rw waits refl) refl in
        ap (λ op. of_operation op ++ (gather of_request instances s.request ++ (map of_note s.notes ++ map of_memo s.memos))) idle ∙ sym (ap (λ l. l ++ (map of_note s.notes ++ map of_memo s.memos)) quiet)
