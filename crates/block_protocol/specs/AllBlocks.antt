-- All data blocks together: they share the membership and the clocks. A turn of the whole is a run of turns at each block.
use Rattle.std.specs.Prelude.{ℕ, ◌+◌, ◌≡◌, ◌≤◌, max, true, false, [], Some, None}
use Rattle.std.specs.List.{AllByRecursion}
use Rattle.block_protocol.specs.Block.{GrantNo, Inst, Scn, Version, Hold, Block, put}
use Rattle.block_protocol.specs.Steps.{Step, forced}
use Rattle.block_protocol.specs.Crash.{left_over}
use Rattle.block_protocol.specs.Members.{Frozen, Thawed, Running, Members, Cluster, RedoComes, IsAbove, IsBound, Permits, IsAwake, IsStill, actual_after, role_after, after_loss}
use Rattle.block_protocol.specs.Positions.{firsts_after}
use Rattle.block_protocol.specs.Recovery.{AllReported, IsLed, NoImages, IsBaseOf, rolled_from, IsReady}
use Rattle.block_protocol.specs.Turns.{IsEra, AreGrants, thawed}
use Rattle.block_protocol.specs.ClusterRuns.{first}

-- a block, by its number
abbrev pub BlockNo : Type 0
BlockNo = ℕ

-- all blocks with what they share
pub record AllBlocks : Type 0 where
  pub members : Members
  pub clock : Inst → Scn
  pub blocks : BlockNo → Cluster  -- by number; its membership and its clocks are the shared ones

-- one block as it is seen with what is shared
abbrev pub seen : Members → (Inst → Scn) → Cluster → Cluster
seen members clock cluster = record cluster { members = members; block = record cluster.block { clock = clock } }

-- the same, by the block's number
abbrev pub view : AllBlocks → BlockNo → Cluster
view whole b = seen whole.members whole.clock (whole.blocks b)

-- a block after a step of its own
abbrev pub after_step : (whole : AllBlocks) (b : BlockNo) {after : Block} → Step (view whole b).block after → Cluster
after_step whole b {after} step = record (view whole b) { block = after; global = role_after step (whole.blocks b).global; mine = firsts_after step (whole.blocks b).mine }

-- a block after all redo of an instance came to disk
abbrev pub all_forced : AllBlocks → Inst → BlockNo → Cluster
all_forced whole inst b = record (view whole b) { block = record (view whole b).block { records = forced inst (whole.blocks b).block.records } }

-- what may happen to all blocks at once
pub data TurnOfAll : AllBlocks → AllBlocks → Type 0 where
  -- a step at one block
  one_acts : (whole : AllBlocks) (b : BlockNo) (after : Block) (later : Inst → Scn) (step : Step (view whole b).block after)
      → IsEra whole.members.phase → RedoComes whole.members later
      → Permits whole.members.live later step → IsAwake whole.members.actual step
      → TurnOfAll whole (record {
        members = record whole.members { found = later; actual = actual_after step whole.members.actual };
        clock = after.clock;
        blocks = put whole.blocks b (after_step whole b step);
      })
  -- the same while all is frozen
  one_stirs : (whole : AllBlocks) (b : BlockNo) (after : Block) (later : Inst → Scn) (step : Step (view whole b).block after)
      → whole.members.phase ≡ Frozen → RedoComes whole.members later
      → Permits whole.members.live later step → IsStill whole.members.live whole.members.reported step
      → TurnOfAll whole (record {
        members = record whole.members { phase = Frozen; found = later; actual = actual_after step whole.members.actual };
        clock = after.clock;
        blocks = put whole.blocks b (after_step whole b step);
      })
  -- one block is rebuilt
  one_rebuilds : (whole : AllBlocks) (b : BlockNo) (base version : Version) → whole.members.phase ≡ Frozen → IsLed whole.members
      → AllReported whole.members → NoImages (view whole b).block
      → IsBaseOf (view whole b).block base → rolled_from whole.members base (whole.blocks b).block.records ≡ Some version
      → TurnOfAll whole (record {
        members = record whole.members { phase = Frozen };
        clock = whole.clock;
        blocks = put whole.blocks b (record (view whole b) { block = record (view whole b).block { disk = version }; rebuilt = true });
      })
  -- an instance forces its redo, of all blocks at once
  all_force : (whole : AllBlocks) (inst : Inst) (later : Inst → Scn) → RedoComes whole.members later
      → ((b : BlockNo) → AllByRecursion (λ redo. redo.maker ≡ inst → redo.scn ≤ later inst) (whole.blocks b).block.records)
      → TurnOfAll whole (record { members = record whole.members { found = later }; clock = whole.clock; blocks = all_forced whole inst })
  -- an instance is lost: one SCN, that of its last record which came to disk, tells what each block loses
  all_lose : (whole : AllBlocks) (inst : Inst) (last scn bound : Scn) (later : Inst → Scn) → whole.members.live inst ≡ true
      → RedoComes (record whole.members { live = put whole.members.live inst false }) later
      → ((b : BlockNo) → AllByRecursion (λ redo. redo.maker ≡ inst → redo.scn ≤ later inst) (left_over inst last (whole.blocks b).block.records))
      → IsBound (put whole.members.live inst false) (put whole.members.actual inst scn) later bound
      → TurnOfAll whole (record {
        members = record whole.members {
          phase = Frozen;
          live = put whole.members.live inst false;
          reported = λ other. false;
          unclosed = put whole.members.unclosed inst true;
          found = later;
          actual = put whole.members.actual inst scn;
        };
        clock = put whole.members.actual inst scn;
        blocks = λ b. record (view whole b) { block = after_loss (view whole b).block whole.members.actual inst (left_over inst last (whole.blocks b).block.records) bound scn; mine = put (whole.blocks b).mine inst None; rebuilt = false };
      })
  -- an instance comes
  all_join : (whole : AllBlocks) (inst : Inst) (scn bound : Scn) → whole.members.live inst ≡ false
      → (whole.members.unclosed inst ≡ false → whole.members.found inst ≤ scn)
      → IsBound (put whole.members.live inst true) (put whole.members.actual inst scn) whole.members.found bound
      → TurnOfAll whole (record {
        members = record whole.members {
          phase = Frozen;
          live = put whole.members.live inst true;
          reported = λ other. false;
          actual = put whole.members.actual inst scn;
        };
        clock = put whole.members.actual inst scn;
        blocks = λ b. record (view whole b) { block = after_loss (view whole b).block whole.members.actual inst (view whole b).block.records bound scn; mine = put (whole.blocks b).mine inst None; rebuilt = false };
      })
  -- an instance reports where none of its images of any block is dirty and global
  all_report : (whole : AllBlocks) (inst : Inst) → whole.members.phase ≡ Frozen → whole.members.live inst ≡ true
      → ((b : BlockNo) (hold : Hold) → (whole.blocks b).block.frame inst ≡ Some hold → (whole.blocks b).block.dirty inst ≡ true → (whole.blocks b).global inst ≡ false)
      → TurnOfAll whole (record {
        members = record whole.members { phase = Frozen; reported = put whole.members.reported inst true };
        clock = whole.clock;
        blocks = λ b. record (view whole b) { block = record (view whole b).block { copies = put (whole.blocks b).block.copies inst [] } };
      })
  -- a thread is closed where every block is ready
  all_close : (whole : AllBlocks) (thread : Inst) → whole.members.phase ≡ Frozen → IsLed whole.members → AllReported whole.members
      → ((b : BlockNo) → IsReady (view whole b))
      → whole.members.unclosed thread ≡ true → (whole.members.live thread ≡ true → whole.members.found thread ≤ whole.members.actual thread)
      → TurnOfAll whole (record {
        members = record whole.members {
          phase = Frozen;
          unclosed = put whole.members.unclosed thread false;
          running = put whole.members.running thread false;
          position = put whole.members.position thread 0;
        };
        clock = whole.clock;
        blocks = whole.blocks;
      })
  -- every entry is made anew, each with grants of its own
  all_thaw : (whole : AllBlocks) (number : BlockNo → Inst → GrantNo) (next : BlockNo → GrantNo) (bound : Scn) → whole.members.phase ≡ Frozen
      → IsLed whole.members → AllReported whole.members → ((b : BlockNo) → IsReady (view whole b))
      → ((thread : Inst) → whole.members.unclosed thread ≡ false)
      → ((inst : Inst) → whole.members.live inst ≡ true → whole.members.running inst ≡ true)
      → ((b : BlockNo) → AreGrants (number b) (next b) (whole.blocks b).block.frame)
      → IsAbove whole.members.live whole.members.actual whole.members.found bound
      → TurnOfAll whole (record {
        members = record whole.members { phase = Thawed; paused = whole.members.live; bound = bound };
        clock = λ inst. max (whole.clock inst) bound;
        blocks = λ b. record (view whole b) { block = thawed (view whole b).block (number b) (next b) bound; global = λ inst. false };
      })
  -- a checkpoint passes no first record of any block
  all_check : (whole : AllBlocks) (inst : Inst) (start : Scn) → whole.members.live inst ≡ true → whole.members.unclosed inst ≡ false
      → ((b : BlockNo) (scn : Scn) → (whole.blocks b).mine inst ≡ Some scn → start ≤ scn) → start ≤ whole.members.actual inst + 1
      → TurnOfAll whole (record {
        members = record whole.members { position = put whole.members.position inst start; running = put whole.members.running inst true };
        clock = whole.clock;
        blocks = whole.blocks;
      })
  -- statements go on, and then each instance
  all_reopen : (whole : AllBlocks) → whole.members.phase ≡ Thawed
      → TurnOfAll whole (record { members = record whole.members { phase = Running }; clock = whole.clock; blocks = whole.blocks })
  all_resume : (whole : AllBlocks) (inst : Inst) → whole.members.phase ≡ Running → whole.members.bound ≤ whole.members.actual inst
      → TurnOfAll whole (record {
        members = record whole.members { phase = Running; paused = put whole.members.paused inst false };
        clock = whole.clock;
        blocks = whole.blocks;
      })

-- new blocks, each with its first master, and the first n instances up
abbrev pub first_of_all : ℕ → (BlockNo → Inst) → AllBlocks
first_of_all n master = record { members = (first n 0).members; clock = λ inst. 0; blocks = λ b. first n (master b) }

-- turns of all blocks, one after another
pub data RunOfAll : AllBlocks → AllBlocks → Type 0 where
  all_end : (whole : AllBlocks) → RunOfAll whole whole
  all_go : {before between after : AllBlocks} → TurnOfAll before between → RunOfAll between after → RunOfAll before after
