-- What a master does in a cluster: turns of one block, and of all blocks together.
use Rattle.std.specs.Prelude.{◌≡◌, ◌≢◌, max}
use Rattle.block_protocol.specs.Block.{Inst, Scn, Block, put}
use Rattle.block_protocol.specs.Members.{Cluster}
use Rattle.block_protocol.specs.Turns.{IsEra}
use Rattle.block_protocol.specs.ClusterRuns.{Turns}
use Rattle.block_protocol.specs.AllBlocks.{BlockNo, AllBlocks, view, RunOfAll}
use Rattle.protocol_ties.specs.MasterRuns.{MasterRun, raised}

-- a cluster after a packet with a clock has come to an instance
abbrev pub cluster_raised : Inst → Scn → Cluster → Cluster
cluster_raised inst scn cluster = record cluster {
  members = record cluster.members { actual = put cluster.members.actual inst (max (cluster.block.clock inst) scn) };
  block = raised inst scn cluster.block;
}

-- while blocks are served, a packet that comes and then a run of a master's steps are a run of turns
abbrev pub MasterRunsAreTurns : Type 0
MasterRunsAreTurns = (cluster : Cluster) (inst : Inst) (scn : Scn) (after : Block) → IsEra cluster.members.phase → MasterRun (raised inst scn cluster.block) after
    → Turns cluster (record (cluster_raised inst scn cluster) { block = after })

-- all blocks after a packet with a clock has come to an instance: its clock has risen for each
abbrev pub all_raised : Inst → Scn → AllBlocks → AllBlocks
all_raised inst scn whole = record {
  members = record whole.members { actual = put whole.members.actual inst (max (whole.clock inst) scn) };
  clock = put whole.clock inst (max (whole.clock inst) scn);
  blocks = whole.blocks;
}

-- a run of all blocks, which leads one of them to a state and leaves the others
pub record LeadsTo (whole from : AllBlocks) (block_no : BlockNo) (after : Block) : Type 0 where
  pub last : AllBlocks
  pub run : RunOfAll whole last
  pub here : view last block_no ≡ record (view from block_no) { block = after }
  pub others : (other : BlockNo) → other ≢ block_no → view last other ≡ view from other

-- the same of all blocks: but for the clock of the instance, the others are as they were
abbrev pub MasterRunsAreTurnsOfAll : Type 0
MasterRunsAreTurnsOfAll = (whole : AllBlocks) (inst : Inst) (scn : Scn) (block_no : BlockNo) (after : Block) → IsEra whole.members.phase
    → MasterRun (raised inst scn (view whole block_no).block) after
    → LeadsTo whole (all_raised inst scn whole) block_no after
