-- All blocks go on by a run, which leads one of them to a state.
use Rattle.std.proofs.Common.{◌≡◌, ◌≢◌, ◌∙◌, Bool, true, refl, sym, ap, subst}
use Rattle.std.specs.Prelude.{max}
use Rattle.block_protocol.specs.AllBlocks.{AllBlocks, BlockNo, RunOfAll, view}
use Rattle.block_protocol.specs.Block.{Block, Inst, Scn, put}
use Rattle.block_protocol.specs.Members.{Cluster, Members, Phase, Running}
use Rattle.block_protocol.specs.Turns.{IsEra}
use Rattle.protocol_ties.specs.MasterRuns.{MasterRun, raised, stays as master_stays}
use Rattle.protocol_ties.specs.MasterTurns.{LeadsTo, all_raised}
use Rattle.protocol_ties.proofs.Turns.{all-after, master-runs-are-turns-of-all}
use Rattle.holder_ties.specs.HolderRuns.{HolderRun}
use Rattle.holder_ties.proofs.Turns.{holder-runs-are-turns-of-all}

-- Of all blocks, which serve statements: one has come to a state, the others see other clocks alone, and who is up is as before.
pub record Led (whole : AllBlocks) (clock : Inst → Scn) (b : BlockNo) (after : Block) : Type 0 where
  pub last : AllBlocks
  pub run : RunOfAll whole last
  pub here : (view last b).block ≡ after
  pub others : (other : BlockNo) → other ≢ b → (view last other).block ≡ record (view whole other).block { clock = clock }
  pub phase : last.members.phase ≡ whole.members.phase
  pub live : last.members.live ≡ whole.members.live
  pub awake : last.members.actual ≡ last.clock
  pub clocks : last.clock ≡ clock

era : (whole : AllBlocks) → whole.members.phase ≡ Running → IsEra whole.members.phase
era whole running = subst (λ (p : Phase). IsEra p) (sym running) tt

pub led-does : (whole : AllBlocks) (me : Inst) (b : BlockNo) (after : Block) → whole.members.phase ≡ Running → whole.members.live me ≡ true → whole.members.actual ≡ whole.clock
    → HolderRun me (view whole b).block after → Led whole whole.clock b after
led-does whole me b after running live awake run =
    let k = holder-runs-are-turns-of-all whole me b after (era whole running) live (ap (λ (c : Inst → Scn). c me) awake) run in
    record {
      last = k.last;
      run = k.run;
      here = k.here;
      others = λ c ne. ap (λ (z : Cluster). z.block) (k.others c ne);
      phase = ap (λ (m : Members). m.phase) k.members;
      live = ap (λ (m : Members). m.live) k.members;
      awake = ap (λ (m : Members). m.actual) k.members ∙ awake ∙ sym k.clock;
      clocks = k.clock;
    }

-- the clocks once one has risen
abbrev pub risen_clock : AllBlocks → Inst → Scn → Inst → Scn
risen_clock whole me scn = put whole.clock me (max (whole.clock me) scn)

came-by : (whole : AllBlocks) (me : Inst) (scn : Scn) (b : BlockNo) (after : Block) → whole.members.actual ≡ whole.clock → LeadsTo whole (all_raised me scn whole) b after
    → (run : LeadsTo whole (all_raised me scn whole) b after) → after.clock ≡ risen_clock whole me scn → Led whole (risen_clock whole me scn) b after
came-by whole me scn b after awake unused k clocks =
    let members : k.last.members ≡ (all_raised me scn whole).members = ap (λ (z : Cluster). z.members) k.here in
    let clock : k.last.clock ≡ risen_clock whole me scn = ap (λ (z : Cluster). z.block.clock) k.here ∙ clocks in
    record {
      last = k.last;
      run = k.run;
      here = ap (λ (z : Cluster). z.block) k.here;
      others = λ c ne. ap (λ (z : Cluster). z.block) (k.others c ne);
      phase = ap (λ (m : Members). m.phase) members;
      live = ap (λ (m : Members). m.live) members;
      awake = ap (λ (m : Members). m.actual) members ∙ ap (λ (a : Inst → Scn). put a me (max (whole.clock me) scn)) awake ∙ sym clock;
      clocks = clock;
    }

pub led-masters : (whole : AllBlocks) (me : Inst) (scn : Scn) (b : BlockNo) (after : Block) → whole.members.phase ≡ Running → whole.members.actual ≡ whole.clock
    → MasterRun (raised me scn (view whole b).block) after → after.clock ≡ (raised me scn (view whole b).block).clock → Led whole (risen_clock whole me scn) b after
led-masters whole me scn b after running awake run clocks =
    let k = master-runs-are-turns-of-all whole me scn b after (era whole running) run in
    came-by whole me scn b after awake k k clocks

-- a clock rises
pub led-rises : (whole : AllBlocks) (me : Inst) (scn : Scn) (b : BlockNo) → whole.members.phase ≡ Running → whole.members.actual ≡ whole.clock
    → Led whole (risen_clock whole me scn) b (raised me scn (view whole b).block)
led-rises whole me scn b running awake =
    led-masters whole me scn b (raised me scn (view whole b).block) running awake (master_stays (raised me scn (view whole b).block)) refl

pub led-goes : (whole : AllBlocks) (me : Inst) (scn : Scn) (b : BlockNo) (after : Block) → whole.members.phase ≡ Running → whole.members.live me ≡ true → whole.members.actual ≡ whole.clock
    → HolderRun me (raised me scn (view whole b).block) after → Led whole (risen_clock whole me scn) b after
led-goes whole me scn b after running live awake run =
    let first = led-rises whole me scn b running awake in
    let then = led-does first.last me b after (first.phase ∙ running) (ap (λ (l : Inst → Bool). l me) first.live ∙ live) first.awake (subst (λ (s : Block). HolderRun me s after) (sym first.here) run) in
    record {
      last = then.last;
      run = all-after first.run then.run;
      here = then.here;
      others = λ c ne. then.others c ne ∙ ap (λ (s : Block). record s { clock = first.last.clock }) (first.others c ne)
          ∙ ap (λ (k : Inst → Scn). record (view whole c).block { clock = k }) first.clocks;
      phase = then.phase ∙ first.phase;
      live = then.live ∙ first.live;
      awake = then.awake;
      clocks = then.clocks ∙ first.clocks;
    }
