-- A run of a master's steps is one of turns.
use Rattle.std.proofs.Common.{◌≡◌, ◌≢◌, ◌∙◌, Bool, refl, sym, ap, subst, arith, inl}
use Rattle.std.specs.Prelude.{max}
use Rattle.block_protocol.specs.Block.{Inst, Scn, Block, put}
use Rattle.block_protocol.specs.Steps.{Step, asks, arrives, forwards_request, forwards_note, forwards_ship, steps_back, sends_copy, orders, gives_shared, begins_to_clear, gives, invalidates, was_gone, ships, ship_comes_back, serves_copy, copy_comes_back, asks_to_write, takes_wish, write_comes_back, takes_copy, installs_shipped, installs_from_disk, installs_held, evicts, ends, hears_gone, hears_back_write, hears_gave_up, ends_before_done, drops_stale, asks_copy_again, asks_ship_again, changes, writes, pleads, tells_written, hears_written, hears_plea, passes_plea, lets_drop, drops_past, forces, uses, uses_copy, drops_copy, raises, sends_entry, takes_entry}
use Rattle.block_protocol.specs.Members.{Phase, Members, Cluster, RedoComes, Permits, IsAwake, actual_after, role_after}
use Rattle.block_protocol.specs.Positions.{Firsts, firsts_after}
use Rattle.block_protocol.specs.Turns.{IsEra, Turn, acts}
use Rattle.block_protocol.specs.ClusterRuns.{Turns, ends_here, goes_on}
use Rattle.block_protocol.specs.AllBlocks.{BlockNo, AllBlocks, seen, view, after_step, TurnOfAll, one_acts, RunOfAll, all_end, all_go}
use Rattle.block_protocol.proofs.Basics.{put-same, put-other}
use Rattle.protocol_ties.specs.MasterRuns.{IsMasters, MasterRun, stays, goes, raised}
use Rattle.protocol_ties.specs.MasterTurns.{cluster_raised, MasterRunsAreTurns, all_raised, LeadsTo, MasterRunsAreTurnsOfAll}

-- a step that asks for nothing beyond its block, and leaves the clocks, the roles and the first records
record IsQuiet {before after : Block} (step : Step before after) : Type 0 where
  permits : (live : Inst → Bool) (found : Inst → Scn) → Permits live found step
  awake : (actual : Inst → Scn) → IsAwake actual step
  actual : (actual : Inst → Scn) → actual_after step actual ≡ actual
  marks : (global : Inst → Bool) (mine : Firsts) → (role_after step global ≡ global) × (firsts_after step mine ≡ mine)
  clocks : after.clock ≡ before.clock

quiet : {before after : Block} (step : Step before after) → IsMasters step → IsQuiet step
quiet (asks p_block p_inst p_want p_p1 p_p2 p_p3) is = absurd is
quiet (arrives p_block p_inst p_want p_scn p_p1 p_p2) is = record { permits = λ live found. tt; awake = λ actual. tt; actual = λ actual. refl; marks = λ global mine. (refl, refl); clocks = refl }
quiet (forwards_request p_block p_inst p_clock) is = record { permits = λ live found. tt; awake = λ actual. tt; actual = λ actual. refl; marks = λ global mine. (refl, refl); clocks = refl }
quiet (forwards_note p_block p_clock p_note p_rest p_p1) is = record { permits = λ live found. tt; awake = λ actual. tt; actual = λ actual. refl; marks = λ global mine. (refl, refl); clocks = refl }
quiet (forwards_ship p_block p_clock p_asker p_granted p_grant p_scn p_p1) is = record { permits = λ live found. tt; awake = λ actual. tt; actual = λ actual. refl; marks = λ global mine. (refl, refl); clocks = refl }
quiet (steps_back p_block p_inst p_want p_p1 p_p2 p_p3) is = record { permits = λ live found. tt; awake = λ actual. tt; actual = λ actual. refl; marks = λ global mine. (refl, refl); clocks = refl }
quiet (sends_copy p_block p_inst p_holder p_grant p_p1 p_p2 p_p3) is = record { permits = λ live found. tt; awake = λ actual. tt; actual = λ actual. refl; marks = λ global mine. (refl, refl); clocks = refl }
quiet (orders p_block p_inst p_want p_holder p_grant p_p1 p_p2 p_p3 p_p4 p_p5) is = record { permits = λ live found. tt; awake = λ actual. tt; actual = λ actual. refl; marks = λ global mine. (refl, refl); clocks = refl }
quiet (gives_shared p_block p_inst p_p1 p_p2 p_p3) is = record { permits = λ live found. tt; awake = λ actual. tt; actual = λ actual. refl; marks = λ global mine. (refl, refl); clocks = refl }
quiet (begins_to_clear p_block p_inst p_want p_sent p_p1 p_p2 p_p3 p_p4 p_p5 p_p6) is = record { permits = λ live found. tt; awake = λ actual. tt; actual = λ actual. refl; marks = λ global mine. (refl, refl); clocks = refl }
quiet (gives p_block p_inst p_want p_p1 p_p2) is = record { permits = λ live found. tt; awake = λ actual. tt; actual = λ actual. refl; marks = λ global mine. (refl, refl); clocks = refl }
quiet (invalidates p_block p_holder p_hold p_rest p_p1 p_p2) is = absurd is
quiet (was_gone p_block p_holder p_grant p_rest p_p1 p_p2) is = absurd is
quiet (ships p_block p_asker p_granted p_holder p_grant p_hold p_p1 p_p2 p_p3) is = absurd is
quiet (ship_comes_back p_block p_asker p_granted p_holder p_grant p_p1 p_p2) is = absurd is
quiet (serves_copy p_block p_inst p_holder p_grant p_hold p_p1 p_p2 p_p3) is = absurd is
quiet (copy_comes_back p_block p_inst p_holder p_grant p_p1 p_p2) is = absurd is
quiet (asks_to_write p_block p_holder p_grant p_p1 p_p2) is = record { permits = λ live found. tt; awake = λ actual. tt; actual = λ actual. refl; marks = λ global mine. (refl, refl); clocks = refl }
quiet (takes_wish p_block p_holder p_grant p_rest p_p1) is = absurd is
quiet (write_comes_back p_block p_holder p_grant p_rest p_p1 p_p2) is = absurd is
quiet (takes_copy p_block p_inst p_version p_upto p_scn p_p1 p_p2) is = absurd is
quiet (installs_shipped p_block p_asker p_granted p_version p_dirty p_scn p_p1 p_p2) is = absurd is
quiet (installs_from_disk p_block p_asker p_granted p_scn p_p1 p_p2) is = absurd is
quiet (installs_held p_block p_asker p_granted p_scn p_p1 p_p2) is = absurd is
quiet (evicts p_block p_inst p_hold p_p1 p_p2 p_p3 p_p4) is = absurd is
quiet (ends p_block p_asker p_granted p_p1) is = record { permits = λ live found. tt; awake = λ actual. tt; actual = λ actual. refl; marks = λ global mine. (refl, refl); clocks = refl }
quiet (hears_gone p_block p_grant p_scn p_rest p_p1 p_p2) is = record { permits = λ live found. tt; awake = λ actual. tt; actual = λ actual. refl; marks = λ global mine. (refl, refl); clocks = refl }
quiet (hears_back_write p_block p_grant p_scn p_rest p_p1 p_p2) is = record { permits = λ live found. tt; awake = λ actual. tt; actual = λ actual. refl; marks = λ global mine. (refl, refl); clocks = refl }
quiet (hears_gave_up p_block p_grant p_scn p_rest p_p1 p_p2 p_p3) is = record { permits = λ live found. tt; awake = λ actual. tt; actual = λ actual. refl; marks = λ global mine. (refl, refl); clocks = refl }
quiet (ends_before_done p_block p_asker p_granted p_carrier p_scn p_rest p_p1 p_p2 p_p3) is = record { permits = λ live found. tt; awake = λ actual. tt; actual = λ actual. refl; marks = λ global mine. (refl, refl); clocks = refl }
quiet (drops_stale p_block p_grant p_rest p_p1) is = record { permits = λ live found. tt; awake = λ actual. tt; actual = λ actual. refl; marks = λ global mine. (refl, refl); clocks = refl }
quiet (asks_copy_again p_block p_inst p_grant p_scn p_p1 p_p2) is = record { permits = λ live found. tt; awake = λ actual. tt; actual = λ actual. refl; marks = λ global mine. (refl, refl); clocks = refl }
quiet (asks_ship_again p_block p_asker p_granted p_grant p_scn p_p1 p_p2) is = record { permits = λ live found. tt; awake = λ actual. tt; actual = λ actual. refl; marks = λ global mine. (refl, refl); clocks = refl }
quiet (changes p_block p_inst p_hold p_p1 p_p2) is = absurd is
quiet (writes p_block p_inst p_hold p_p1 p_p2 p_p3) is = absurd is
quiet (pleads p_block p_version p_p1) is = record { permits = λ live found. tt; awake = λ actual. tt; actual = λ actual. refl; marks = λ global mine. (refl, refl); clocks = refl }
quiet (tells_written p_block p_inst p_hold p_p1 p_p2) is = absurd is
quiet (hears_written p_block p_version p_rest p_p1) is = record { permits = λ live found. tt; awake = λ actual. tt; actual = λ actual. refl; marks = λ global mine. (refl, refl); clocks = refl }
quiet (hears_plea p_block p_version p_rest p_p1 p_p2 p_p3) is = record { permits = λ live found. tt; awake = λ actual. tt; actual = λ actual. refl; marks = λ global mine. (refl, refl); clocks = refl }
quiet (passes_plea p_block p_version p_rest p_p1) is = record { permits = λ live found. tt; awake = λ actual. tt; actual = λ actual. refl; marks = λ global mine. (refl, refl); clocks = refl }
quiet (lets_drop p_block p_inst p_version p_p1) is = record { permits = λ live found. tt; awake = λ actual. tt; actual = λ actual. refl; marks = λ global mine. (refl, refl); clocks = refl }
quiet (drops_past p_block p_inst p_version p_rest p_p1) is = absurd is
quiet (forces p_block p_inst) is = absurd is
quiet (uses p_block p_inst p_hold p_scn p_p1 p_p2) is = absurd is
quiet (uses_copy p_block p_inst p_scn p_copy p_rest p_p1 p_p2) is = absurd is
quiet (drops_copy p_block p_inst p_copy p_rest p_p1) is = absurd is
quiet (raises p_block p_inst p_scn p_p1) is = absurd is
quiet (sends_entry p_block p_inst p_p1) is = record { permits = λ live found. tt; awake = λ actual. tt; actual = λ actual. refl; marks = λ global mine. (refl, refl); clocks = refl }
quiet (takes_entry p_block p_inst p_scn p_p1 p_p2) is = record { permits = λ live found. tt; awake = λ actual. tt; actual = λ actual. refl; marks = λ global mine. (refl, refl); clocks = refl }

no-redo : (members : Members) → RedoComes members members.found
no-redo members = record { rises = λ thread. omega arith; drawn = λ thread live closed. inl refl }

step-turns : (cluster : Cluster) (after : Block) (step : Step cluster.block after) → IsMasters step → IsEra cluster.members.phase → Turn cluster (record cluster { block = after })
step-turns cluster after step is era =
    let q = quiet step is in
    let marks = q.marks cluster.global cluster.mine in
    subst (λ (m : Firsts). Turn cluster (record cluster { block = after; mine = m })) marks.1
    (subst (λ (g : Inst → Bool). Turn cluster (record cluster { block = after; global = g; mine = firsts_after step cluster.mine })) marks.0
    (subst (λ (a : Inst → Scn). Turn cluster (record cluster { members = record cluster.members { actual = a }; block = after; global = role_after step cluster.global; mine = firsts_after step cluster.mine })) (q.actual cluster.members.actual)
    (acts cluster after cluster.members.found step era (no-redo cluster.members) (q.permits cluster.members.live cluster.members.found) (q.awake cluster.members.actual))))

steps-turn : (cluster : Cluster) {before after : Block} → MasterRun before after → IsEra cluster.members.phase → Turns (record cluster { block = before }) (record cluster { block = after })
steps-turn cluster (stays block) era = ends_here (record cluster { block = block })
steps-turn cluster (goes {before = before} {between = between} step is rest) era = goes_on (step-turns (record cluster { block = before }) between step is era) (steps-turn cluster rest era)

pub master-runs-are-turns : MasterRunsAreTurns
master-runs-are-turns cluster inst scn after era run =
    goes_on (acts cluster (raised inst scn cluster.block) cluster.members.found (raises cluster.block inst (max (cluster.block.clock inst) scn) (omega arith)) era (no-redo cluster.members) tt tt)
    (steps-turn (cluster_raised inst scn cluster) run era)

-- all blocks after a step at one of them
abbrev stepped : (whole : AllBlocks) (b : BlockNo) (after : Block) → AllBlocks
stepped whole b after = record { members = whole.members; clock = whole.clock; blocks = put whole.blocks b (record (view whole b) { block = after }) }

step-all : (whole : AllBlocks) (b : BlockNo) (after : Block) (step : Step (view whole b).block after) → IsMasters step → IsEra whole.members.phase → TurnOfAll whole (stepped whole b after)
step-all whole b after step is era =
    let q = quiet step is in
    let marks = q.marks (whole.blocks b).global (whole.blocks b).mine in
    subst (λ (c : Inst → Scn). TurnOfAll whole (record { members = whole.members; clock = c; blocks = put whole.blocks b (record (view whole b) { block = after }) })) q.clocks
    (subst (λ (m : Firsts). TurnOfAll whole (record { members = whole.members; clock = after.clock; blocks = put whole.blocks b (record (view whole b) { block = after; mine = m }) })) marks.1
    (subst (λ (g : Inst → Bool). TurnOfAll whole (record { members = whole.members; clock = after.clock; blocks = put whole.blocks b (record (view whole b) { block = after; global = g; mine = firsts_after step (whole.blocks b).mine }) })) marks.0
    (subst (λ (a : Inst → Scn). TurnOfAll whole (record { members = record whole.members { actual = a }; clock = after.clock; blocks = put whole.blocks b (after_step whole b step) })) (q.actual whole.members.actual)
    (one_acts whole b after whole.members.found step era (no-redo whole.members) (q.permits whole.members.live whole.members.found) (q.awake whole.members.actual)))))

stepped-here : (whole : AllBlocks) (b : BlockNo) (after : Block) → after.clock ≡ whole.clock → view (stepped whole b after) b ≡ record (view whole b) { block = after }
stepped-here whole b after same =
    ap {A = Cluster} {B = Cluster} (λ z. seen whole.members whole.clock z) (put-same whole.blocks b (record (view whole b) { block = after }))
    ∙ ap {A = Inst → Scn} {B = Cluster} (λ c. record (view whole b) { block = record after { clock = c } }) (sym same)

stepped-other : (whole : AllBlocks) (b : BlockNo) (after : Block) (c : BlockNo) → c ≢ b → view (stepped whole b after) c ≡ view whole c
stepped-other whole b after c ne = ap {A = Cluster} {B = Cluster} (λ z. seen whole.members whole.clock z) (put-other whole.blocks b (record (view whole b) { block = after }) c (λ e. ne (sym e)))

steps-all : (whole : AllBlocks) (b : BlockNo) {before after : Block} → MasterRun before after → (view whole b).block ≡ before → IsEra whole.members.phase → LeadsTo whole whole b after
steps-all whole b (stays block) e era = record {
  last = whole;
  run = all_end whole;
  here = ap {A = Block} {B = Cluster} (λ z. record (view whole b) { block = z }) e;
  others = λ c ne. refl;
}
steps-all whole b {after = after} (goes {before = before} {between = between} step is rest) e era =
    let own : (st : Step (view whole b).block between) × IsMasters st = subst (λ x. (st : Step x between) × IsMasters st) (sym e) (step, is) in
    let q = quiet own.0 own.1 in
    let here = stepped-here whole b between q.clocks in
    let k = steps-all (stepped whole b between) b rest (ap {A = Cluster} {B = Block} (λ z. z.block) here) era in
    record {
      last = k.last;
      run = all_go (step-all whole b between own.0 own.1 era) k.run;
      here = k.here ∙ ap {A = Cluster} {B = Cluster} (λ z. record z { block = after }) here;
      others = λ c ne. k.others c ne ∙ stepped-other whole b between c ne;
    }

-- a packet comes to one block, and raises the clock for all
came-all : (whole : AllBlocks) (inst : Inst) (scn : Scn) (b : BlockNo) → IsEra whole.members.phase → LeadsTo whole (all_raised inst scn whole) b (raised inst scn (view whole b).block)
came-all whole inst scn b era = record {
  last = record { members = (all_raised inst scn whole).members; clock = (all_raised inst scn whole).clock; blocks = put whole.blocks b (record (view whole b) { block = raised inst scn (view whole b).block }) };
  run = all_go (one_acts whole b (raised inst scn (view whole b).block) whole.members.found (raises (view whole b).block inst (max (whole.clock inst) scn) (omega arith)) era (no-redo whole.members) tt tt)
      (all_end (record { members = (all_raised inst scn whole).members; clock = (all_raised inst scn whole).clock; blocks = put whole.blocks b (record (view whole b) { block = raised inst scn (view whole b).block }) }));
  here = ap {A = Cluster} {B = Cluster} (λ z. seen (all_raised inst scn whole).members (all_raised inst scn whole).clock z) (put-same whole.blocks b (record (view whole b) { block = raised inst scn (view whole b).block }));
  others = λ c ne. ap {A = Cluster} {B = Cluster} (λ z. seen (all_raised inst scn whole).members (all_raised inst scn whole).clock z) (put-other whole.blocks b (record (view whole b) { block = raised inst scn (view whole b).block }) c (λ e. ne (sym e)));
}

pub all-after : {one two three : AllBlocks} → RunOfAll one two → RunOfAll two three → RunOfAll one three
all-after (all_end whole) k = k
all-after (all_go turn rest) k = all_go turn (all-after rest k)

pub master-runs-are-turns-of-all : MasterRunsAreTurnsOfAll
master-runs-are-turns-of-all whole inst scn b after era run =
    let came = came-all whole inst scn b era in
    let era-there : IsEra came.last.members.phase = subst (λ z. IsEra z) (sym (ap {A = Cluster} {B = Phase} (λ z. z.members.phase) came.here)) era in
    let k = steps-all came.last b run (ap {A = Cluster} {B = Block} (λ z. z.block) came.here) era-there in
    record {
      last = k.last;
      run = all-after came.run k.run;
      here = k.here ∙ ap {A = Cluster} {B = Cluster} (λ z. record z { block = after }) came.here;
      others = λ c ne. k.others c ne ∙ came.others c ne;
    }
