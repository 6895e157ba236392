-- What an instance does with its image is a run of turns of all blocks.
use Rattle.std.proofs.Common.{◌≡◌, ◌∙◌, refl, sym, ap, subst, arith, true, inl}
use Rattle.block_protocol.specs.Block.{Block, Inst, Scn, put}
use Rattle.block_protocol.specs.Steps.{Step, asks, arrives, forwards_request, forwards_note, forwards_ship, steps_back, sends_copy, orders, gives_shared, begins_to_clear, gives, invalidates, was_gone, ships, ship_comes_back, serves_copy, copy_comes_back, asks_to_write, takes_wish, write_comes_back, takes_copy, installs_shipped, installs_from_disk, installs_held, evicts, ends, hears_gone, hears_back_write, hears_gave_up, ends_before_done, drops_stale, asks_copy_again, asks_ship_again, changes, writes, pleads, tells_written, hears_written, hears_plea, passes_plea, lets_drop, drops_past, forces, uses, uses_copy, drops_copy, raises, sends_entry, takes_entry}
use Rattle.block_protocol.specs.Members.{Cluster, IsAwake, Members, Permits, RedoComes, actual_after}
use Rattle.block_protocol.specs.Turns.{IsEra}
use Rattle.block_protocol.specs.AllBlocks.{AllBlocks, BlockNo, TurnOfAll, after_step, all_end, all_go, one_acts, seen, view}
use Rattle.block_protocol.proofs.Basics.{put-other, put-same}
use Rattle.holder_ties.specs.HolderRuns.{HolderRun, IsHolders, goes, stays}
use Rattle.holder_ties.specs.HolderTurns.{HolderRunsAreTurnsOfAll, LeadsBlock}

-- a step that an instance which is up may make, and that leaves the clocks
record AtEase (members : Members) {before after : Block} (step : Step before after) : Type 0 where
  permits : Permits members.live members.found step
  awake : IsAwake members.actual step
  actual : actual_after step members.actual ≡ members.actual
  clocks : after.clock ≡ before.clock

module _ (members : Members) (me : Inst) (clock : Inst → Scn) where
  at-ease : {before after : Block} (step : Step before after) → members.live me ≡ true → members.actual me ≡ clock me → before.clock ≡ clock → IsHolders me step → AtEase members step
  at-ease (asks p_block p_inst p_want p_p1 p_p2 p_p3) live awake same is = record { permits = tt; awake = tt; actual = refl; clocks = refl }
  at-ease (arrives p_block p_inst p_want p_scn p_p1 p_p2) live awake same is = absurd is
  at-ease (forwards_request p_block p_inst p_clock) live awake same is = absurd is
  at-ease (forwards_note p_block p_clock p_note p_rest p_p1) live awake same is = absurd is
  at-ease (forwards_ship p_block p_clock p_asker p_granted p_grant p_scn p_p1) live awake same is = absurd is
  at-ease (steps_back p_block p_inst p_want p_p1 p_p2 p_p3) live awake same is = absurd is
  at-ease (sends_copy p_block p_inst p_holder p_grant p_p1 p_p2 p_p3) live awake same is = absurd is
  at-ease (orders p_block p_inst p_want p_holder p_grant p_p1 p_p2 p_p3 p_p4 p_p5) live awake same is = absurd is
  at-ease (gives_shared p_block p_inst p_p1 p_p2 p_p3) live awake same is = absurd is
  at-ease (begins_to_clear p_block p_inst p_want p_sent p_p1 p_p2 p_p3 p_p4 p_p5 p_p6) live awake same is = absurd is
  at-ease (gives p_block p_inst p_want p_p1 p_p2) live awake same is = absurd is
  at-ease (invalidates p_block p_holder p_hold p_rest p_p1 p_p2) live awake same is = record { permits = tt; awake = tt; actual = refl; clocks = refl }
  at-ease (was_gone p_block p_holder p_grant p_rest p_p1 p_p2) live awake same is = record { permits = tt; awake = tt; actual = refl; clocks = refl }
  at-ease (ships p_block p_asker p_granted p_holder p_grant p_hold p_p1 p_p2 p_p3) live awake same is = record { permits = tt; awake = tt; actual = refl; clocks = refl }
  at-ease (ship_comes_back p_block p_asker p_granted p_holder p_grant p_p1 p_p2) live awake same is = record { permits = tt; awake = tt; actual = refl; clocks = refl }
  at-ease (serves_copy p_block p_inst p_holder p_grant p_hold p_p1 p_p2 p_p3) live awake same is = record { permits = tt; awake = ap members.actual is ∙ awake ∙ sym (ap clock is) ∙ sym (ap (λ (c : Inst → Scn). c p_holder) same); actual = refl; clocks = refl }
  at-ease (copy_comes_back p_block p_inst p_holder p_grant p_p1 p_p2) live awake same is = record { permits = tt; awake = tt; actual = refl; clocks = refl }
  at-ease (asks_to_write p_block p_holder p_grant p_p1 p_p2) live awake same is = absurd is
  at-ease (takes_wish p_block p_holder p_grant p_rest p_p1) live awake same is = record { permits = tt; awake = tt; actual = refl; clocks = refl }
  at-ease (write_comes_back p_block p_holder p_grant p_rest p_p1 p_p2) live awake same is = record { permits = tt; awake = tt; actual = refl; clocks = refl }
  at-ease (takes_copy p_block p_inst p_version p_upto p_scn p_p1 p_p2) live awake same is = record { permits = ap members.live is ∙ live; awake = ap members.actual is ∙ awake ∙ sym (ap clock is) ∙ sym (ap (λ (c : Inst → Scn). c p_inst) same); actual = refl; clocks = refl }
  at-ease (installs_shipped p_block p_asker p_granted p_version p_dirty p_scn p_p1 p_p2) live awake same is = record { permits = ap members.live is ∙ live; awake = ap members.actual is ∙ awake ∙ sym (ap clock is) ∙ sym (ap (λ (c : Inst → Scn). c p_asker) same); actual = refl; clocks = refl }
  at-ease (installs_from_disk p_block p_asker p_granted p_scn p_p1 p_p2) live awake same is = record { permits = ap members.live is ∙ live; awake = ap members.actual is ∙ awake ∙ sym (ap clock is) ∙ sym (ap (λ (c : Inst → Scn). c p_asker) same); actual = refl; clocks = refl }
  at-ease (installs_held p_block p_asker p_granted p_scn p_p1 p_p2) live awake same is = record { permits = ap members.live is ∙ live; awake = ap members.actual is ∙ awake ∙ sym (ap clock is) ∙ sym (ap (λ (c : Inst → Scn). c p_asker) same); actual = refl; clocks = refl }
  at-ease (evicts p_block p_inst p_hold p_p1 p_p2 p_p3 p_p4) live awake same is = record { permits = tt; awake = tt; actual = refl; clocks = refl }
  at-ease (ends p_block p_asker p_granted p_p1) live awake same is = absurd is
  at-ease (hears_gone p_block p_grant p_scn p_rest p_p1 p_p2) live awake same is = absurd is
  at-ease (hears_back_write p_block p_grant p_scn p_rest p_p1 p_p2) live awake same is = absurd is
  at-ease (hears_gave_up p_block p_grant p_scn p_rest p_p1 p_p2 p_p3) live awake same is = absurd is
  at-ease (ends_before_done p_block p_asker p_granted p_carrier p_scn p_rest p_p1 p_p2 p_p3) live awake same is = absurd is
  at-ease (drops_stale p_block p_grant p_rest p_p1) live awake same is = absurd is
  at-ease (asks_copy_again p_block p_inst p_grant p_scn p_p1 p_p2) live awake same is = absurd is
  at-ease (asks_ship_again p_block p_asker p_granted p_grant p_scn p_p1 p_p2) live awake same is = absurd is
  at-ease (changes p_block p_inst p_hold p_p1 p_p2) live awake same is = absurd is
  at-ease (writes p_block p_inst p_hold p_p1 p_p2 p_p3) live awake same is = record { permits = tt; awake = tt; actual = refl; clocks = refl }
  at-ease (pleads p_block p_version p_p1) live awake same is = record { permits = tt; awake = tt; actual = refl; clocks = refl }
  at-ease (tells_written p_block p_inst p_hold p_p1 p_p2) live awake same is = record { permits = tt; awake = tt; actual = refl; clocks = refl }
  at-ease (hears_written p_block p_version p_rest p_p1) live awake same is = absurd is
  at-ease (hears_plea p_block p_version p_rest p_p1 p_p2 p_p3) live awake same is = absurd is
  at-ease (passes_plea p_block p_version p_rest p_p1) live awake same is = absurd is
  at-ease (lets_drop p_block p_inst p_version p_p1) live awake same is = absurd is
  at-ease (drops_past p_block p_inst p_version p_rest p_p1) live awake same is = record { permits = tt; awake = tt; actual = refl; clocks = refl }
  at-ease (forces p_block p_inst) live awake same is = absurd is
  at-ease (uses p_block p_inst p_hold p_scn p_p1 p_p2) live awake same is = absurd is
  at-ease (uses_copy p_block p_inst p_scn p_copy p_rest p_p1 p_p2) live awake same is = absurd is
  at-ease (drops_copy p_block p_inst p_copy p_rest p_p1) live awake same is = record { permits = tt; awake = tt; actual = refl; clocks = refl }
  at-ease (raises p_block p_inst p_scn p_p1) live awake same is = absurd is
  at-ease (sends_entry p_block p_inst p_p1) live awake same is = absurd is
  at-ease (takes_entry p_block p_inst p_scn p_p1 p_p2) live awake same is = absurd is

no-redo : (members : Members) → RedoComes members members.found
no-redo members = record { rises = λ thread. omega arith; drawn = λ thread live closed. inl refl }

steps-all : (me : Inst) (whole : AllBlocks) (b : BlockNo) {before after : Block} → HolderRun me before after → (view whole b).block ≡ before → IsEra whole.members.phase
    → whole.members.live me ≡ true → whole.members.actual me ≡ whole.clock me → LeadsBlock whole b after
steps-all me whole b (stays block) e era live awake = record {
  last = whole;
  run = all_end whole;
  here = e;
  others = λ c ne. refl;
  members = refl;
  clock = refl;
}
steps-all me whole b {after = after} (goes {before = before} {between = between} step is rest) e era live awake =
    let own : (st : Step (view whole b).block between) × IsHolders me st = subst (λ x. (st : Step x between) × IsHolders me st) (sym e) (step, is) in
    let q = at-ease whole.members me whole.clock own.0 live awake refl own.1 in
    let then : AllBlocks = record { members = record whole.members { actual = actual_after own.0 whole.members.actual }; clock = between.clock; blocks = put whole.blocks b (after_step whole b own.0) } in
    let turn : TurnOfAll whole then = one_acts whole b between whole.members.found own.0 era (no-redo whole.members) q.permits q.awake in
    let members : then.members ≡ whole.members = ap {A = Inst → Scn} {B = Members} (λ a. record whole.members { actual = a }) q.actual in
    let here : (view then b).block ≡ between = ap {A = Cluster} {B = Block} (λ z. record z.block { clock = between.clock }) (put-same whole.blocks b (after_step whole b own.0)) in
    let k = steps-all me then b rest here era (ap (λ (m : Members). m.live me) members ∙ live) (ap (λ (m : Members). m.actual me) members ∙ awake ∙ ap (λ (c : Inst → Scn). c me) (sym q.clocks)) in
    record {
      last = k.last;
      run = all_go turn k.run;
      here = k.here;
      others = λ c ne. k.others c ne
          ∙ ap {A = Cluster} {B = Cluster} (λ z. seen then.members then.clock z) (put-other whole.blocks b (after_step whole b own.0) c (λ s. ne (sym s)))
          ∙ ap {A = Members} {B = Cluster} (λ m. seen m then.clock (whole.blocks c)) members ∙ ap {A = Inst → Scn} {B = Cluster} (λ c2. seen whole.members c2 (whole.blocks c)) q.clocks;
      members = k.members ∙ members;
      clock = k.clock ∙ q.clocks;
    }

pub holder-runs-are-turns-of-all : HolderRunsAreTurnsOfAll
holder-runs-are-turns-of-all whole me b after era live awake run = steps-all me whole b run refl era live awake
