-- The sample states.
use Rattle.std.proofs.Common.{◌≡◌, ℕ, ◌≤◌, true, [], ◌∷◌, refl, sym, ap, arith, inl}
use Rattle.std.specs.Prelude.{Option, Some, None}
use Rattle.std.proofs.lemmas.Bool.{eq-eqb, ne_eqb}
use Rattle.wire_net.specs.declared.message.Mode.TheVariants as modes
use Rattle.wire_net.specs.declared.message.Unfound.TheVariants as unfound
use Rattle.wire_net.specs.declared.message.Message.TheVariants as messages
use Rattle.wire_net.specs.Entry.{empty_entry, grant_of, no_grants}
use Rattle.block_protocol.specs.Block.{Shared, Exclusive, Hold, Read, Write, Asks, Block, put, here}
use Rattle.block_protocol.specs.Steps.{asks, arrives, gives_shared, begins_to_clear, gives, installs_from_disk, ends, changes, orders, ship_comes_back, evicts, pleads}
use Rattle.block_protocol.specs.Runs.{start, Run, stays, goes}
use Rattle.block_protocol.specs.Wire.{Ask, DoneWire, BackShipWire, GaveUpWire, PleaseWire, none, more}
use Rattle.block_protocol.proofs.Basics.{none-some, put-other, put-elim}
use Rattle.block_protocol.proofs.Directory.{Sound-run, Sound-start, one-seat}
use Rattle.block_protocol.specs.ClusterRuns.{first}
use Rattle.block_protocol.specs.AllBlocks.{AllBlocks, view, first_of_all, RunOfAll, all_go, all_end, one_acts}
use Rattle.resource_dir.specs.Rebuilt.{rebuilt, rebuilt_directory}
use Rattle.protocol_ties.specs.Entries.{shared_hold, listed_beside}
use Rattle.protocol_ties.specs.AmongAll.{MayTakeAmong}
use Rattle.protocol_ties.specs.Reports.{AreReports, IsExclusiveAlone}
use Rattle.protocol_ties.specs.Samples.{IsSample, shared_and_wanted, alone_and_ordered, alone, reports, all_to_one, asking, one_asks}
use Rattle.protocol_ties.specs.OnLinks.{IsMastered, IsFirst}
use Rattle.protocol_ties.proofs.Hears.{nobody-shares}

pub first-ask : IsSample (messages.Ask 5 modes.Shared modes.Null 1) empty_entry ((1, messages.Grant 5 1 modes.Shared true) ∷ [])
first-ask = record {
  block = record (start 0) { request = put (start 0).request 1 (Asks Read 0) };
  run = goes (asks (start 0) 1 Read refl tt refl) (stays _);
  wires = [];
  may = record {
    place = refl;
    sound = Sound-run (goes (asks (start 0) 1 Read refl tt refl) (stays _)) (Sound-start 0);
    for_master = tt;
    of_made = tt;
    wire = Ask 1 Read 0;
    is = refl;
    shows = record {
      tied = record { lists = λ i. sym (ap shared_hold (nobody-shares i)); alone = λ h e. absurd (none-some None h refl e); sized = refl; draws = refl; operation = tt; known = omega arith };
      messages = more (Ask 1 Read 0) [] (Ask 1 Read 0 ∷ []) [] (here []) none;
      requests = none;
      proper = tt;
    };
  };
  room = omega arith;
  sent = refl;
}

-- instance 1 shares the block, and instance 2 waits to change it
lined-up : (s : Block) × Run (start 0) s
lined-up = (
  _,
  goes (asks (start 0) 1 Read refl tt refl)
      (goes (arrives _ 1 Read 0 refl (omega arith))
      (goes (gives_shared _ 1 refl refl (λ other. refl))
      (goes (installs_from_disk _ 1 (record { mode = Shared; grant = 1 }) 0 refl (omega arith))
      (goes (asks _ 2 Write refl tt refl)
      (goes (arrives _ 2 Write 0 refl (omega arith))
      (stays _)))))),
)

pub next-in-line : IsSample (messages.Done 5 1 modes.Shared None) shared_and_wanted ((1, messages.Invalidate 5 1) ∷ [])
unfolding lined-up
next-in-line = record {
  block = lined-up.0;
  run = lined-up.1;
  wires = [];
  may = record {
    place = refl;
    sound = Sound-run lined-up.1 (Sound-start 0);
    for_master = tt;
    of_made = tt;
    wire = DoneWire 1;
    is = refl;
    shows = record {
      tied = record { lists = λ i. sym (ap shared_hold (nobody-shares i)); alone = λ h e. absurd (none-some None h refl e); sized = refl; draws = refl; operation = record { serves = refl; instance = omega arith; grants = refl; drawn = refl }; known = omega arith };
      messages = more (DoneWire 1) [] (DoneWire 1 ∷ []) [] (here []) none;
      requests = more (2, Write) [] ((2, Write) ∷ []) [] (here []) none;
      proper = ((Write, refl), tt);
    };
  };
  room = omega arith;
  sent = refl;
}

-- instance 1 has the block alone
has-alone : (s : Block) × Run (start 0) s
has-alone = (
  _,
  goes (asks (start 0) 1 Write refl tt refl)
      (goes (arrives _ 1 Write 0 refl (omega arith))
      (goes (begins_to_clear _ 1 Write [] refl refl refl (λ n. refl) (λ i h e. absurd (none-some None h refl e)) (record { each = tt; all = λ j h e n. absurd (none-some None h refl e) }))
      (goes (gives _ 1 Write refl (λ j h e. absurd (none-some None h refl e)))
      (goes (installs_from_disk _ 1 (record { mode = Exclusive; grant = 1 }) 0 refl (omega arith))
      (goes (ends _ 1 (record { mode = Exclusive; grant = 1 }) refl)
      (stays _)))))),
)

-- as the entry lists it
alone-listed : (i : ℕ) → put (λ other. None) 1 (Some (record { mode = Exclusive; grant = 1 })) i ≡ listed_beside (Some (record { inst = 1; grant = 1 })) (grant_of no_grants i) i
alone-listed i = put-elim (λ o. o ≡ listed_beside (Some (record { inst = 1; grant = 1 })) (grant_of no_grants i) i) (λ other. None) 1 (Some (record { mode = Exclusive; grant = 1 })) i
    (λ at. sym (rw (eq-eqb 1 i at) refl))
    (λ ne. sym (rw (ne_eqb 1 i ne) (ap shared_hold (nobody-shares i))))

run-then : {s t u : Block} → Run s t → Run t u → Run s u
run-then (stays s) k = k
run-then (goes step rest) k = goes step (run-then rest k)

-- it gives the image up as the order comes to ship it
ordered-late : (s : Block) × Run has-alone.0 s
unfolding has-alone
ordered-late = (
  _,
  goes (asks _ 2 Write refl tt refl)
      (goes (arrives _ 2 Write 0 refl (omega arith))
      (goes (orders _ 2 Write 1 1 refl refl (λ n. refl) refl (omega arith))
      (goes (evicts _ 1 (record { mode = Exclusive; grant = 1 }) refl refl refl (omega arith))
      (goes (ship_comes_back _ 2 (record { mode = Exclusive; grant = 2 }) 1 1 refl refl)
      (stays _))))),
)

pub order-came-back : IsSample (messages.Back (unfound.ShipTo 5 1 2 2)) alone_and_ordered ((2, messages.Grant 5 3 modes.Exclusive true) ∷ [])
unfolding has-alone ordered-late
order-came-back = record {
  block = ordered-late.0;
  run = run-then has-alone.1 ordered-late.1;
  wires = GaveUpWire 1 0 ∷ [];
  may = record {
    place = refl;
    sound = Sound-run ordered-late.1 (Sound-run has-alone.1 (Sound-start 0));
    for_master = tt;
    of_made = tt;
    wire = BackShipWire 1 2 (record { mode = Exclusive; grant = 2 }) 0;
    is = refl;
    shows = record {
      tied = record { lists = alone-listed; alone = λ h e. nobody-shares; sized = refl; draws = refl; operation = record { serves = refl; instance = omega arith; grants = refl; drawn = refl }; known = omega arith };
      messages = more (BackShipWire 1 2 (record { mode = Exclusive; grant = 2 }) 0) (GaveUpWire 1 0 ∷ []) (BackShipWire 1 2 (record { mode = Exclusive; grant = 2 }) 0 ∷ (GaveUpWire 1 0 ∷ [])) (GaveUpWire 1 0 ∷ []) (here (GaveUpWire 1 0 ∷ []))
          (more (GaveUpWire 1 0) [] (GaveUpWire 1 0 ∷ []) [] (here []) none);
      requests = none;
      proper = tt;
    };
  };
  room = omega arith;
  sent = refl;
}

-- it changes the block, and somebody wants that written
pleaded-for : (s : Block) × Run has-alone.0 s
unfolding has-alone
pleaded-for = (_, goes (changes _ 1 (record { mode = Exclusive; grant = 1 }) refl refl) (goes (pleads _ 1 (omega arith)) (stays _)))

pub plea : IsSample (messages.WritePlease 5 1 2 None) alone ((1, messages.WritePlease 5 1 2 (Some 1)) ∷ [])
unfolding has-alone pleaded-for
plea = record {
  block = pleaded-for.0;
  run = run-then has-alone.1 pleaded-for.1;
  wires = [];
  may = record {
    place = refl;
    sound = Sound-run pleaded-for.1 (Sound-run has-alone.1 (Sound-start 0));
    for_master = refl;
    of_made = tt;
    wire = PleaseWire 1;
    is = refl;
    shows = record {
      tied = record { lists = alone-listed; alone = λ h e. nobody-shares; sized = refl; draws = refl; operation = tt; known = omega arith };
      messages = more (PleaseWire 1) [] (PleaseWire 1 ∷ []) [] (here []) none;
      requests = none;
      proper = tt;
    };
  };
  room = omega arith;
  sent = refl;
}

pub reported : (block : Block) × Run (start 0) block × AreReports 5 reports block.frame × IsExclusiveAlone block.frame × (rebuilt 5 reports ≡ alone)
unfolding has-alone
reported = (
  has-alone.0,
  has-alone.1,
  (
    omega arith,
    omega arith,
    (λ j a b. absurd (omega (arith, a, b))),
    tt,
    (omega arith, omega arith, (λ j a b. absurd (omega (arith, a, b))), refl, (omega arith, omega arith, (λ j a b. absurd (omega (arith, a, b))), tt, beyond)),
  ),
  (one-seat has-alone.0 (Sound-run has-alone.1 (Sound-start 0))).held,
  refl,
)
  where
    beyond : (j : ℕ) → 3 ≤ j → put {A = Option Hold} (λ inst. None) 1 (Some (record { mode = Exclusive; grant = 1 })) j ≡ None
    beyond j le = put-other {A = Option Hold} (λ inst. None) 1 (Some (record { mode = Exclusive; grant = 1 })) j (λ e. omega (arith, e, le))

-- the whole database, with one request under way
asked-for : AllBlocks
asked-for = record {
  members = (first_of_all 3 (λ b. 0)).members;
  clock = λ inst. 0;
  blocks = put (first_of_all 3 (λ b. 0)).blocks 5 (record (first 3 0) { block = record (start 0) { request = put (start 0).request 1 (Asks Read 0) } });
}

pub among-all : (whole : AllBlocks) × RunOfAll (first_of_all 3 (λ block_no. 0)) whole × MayTakeAmong whole (rebuilt_directory 0 all_to_one []) 0 0 5 (messages.Ask 5 modes.Shared modes.Null 1) [] empty_entry
unfolding asked-for first-ask
among-all = (
  asked-for,
  all_go (one_acts (first_of_all 3 (λ b. 0)) 5 (record (start 0) { request = put (start 0).request 1 (Asks Read 0) }) (λ inst. 0) (asks (start 0) 1 Read refl tt refl) tt (record { rises = λ t. omega arith; drawn = λ t l c. inl refl }) tt tt) (all_end asked-for),
  record { sized = refl; masters = refl; about = refl; waits = tt; may = first-ask.may },
)

pub on-links : (whole : AllBlocks) × RunOfAll (first_of_all 3 (λ block_no. 0)) whole × IsMastered 0 (rebuilt_directory 0 all_to_one []) one_asks 5 empty_entry (view whole 5).block
    × IsFirst 0 1 one_asks asking 5 (view whole 5).block
unfolding asked-for first-ask among-all
on-links = (
  among-all.0,
  among-all.1,
  record { sized = (refl, refl); masters = refl; waits = (tt, (tt, tt, tt)); place = refl; sound = first-ask.may.sound; shows = first-ask.may.shows },
  record { instances = (omega arith, omega arith); first = refl; about = refl; for_master = (tt, omega arith, tt); wire = Ask 1 Read 0; is = refl },
)
