-- What an instance does with its image, among all blocks: runs of turns.
use Rattle.std.specs.Prelude.{◌≡◌, ◌≢◌, true}
use Rattle.block_protocol.specs.AllBlocks.{AllBlocks, BlockNo, RunOfAll, view}
use Rattle.block_protocol.specs.Block.{Block, Inst}
use Rattle.block_protocol.specs.Turns.{IsEra}
use Rattle.holder_ties.specs.HolderRuns.{HolderRun}

-- A run of all blocks leads one of them to a state. Of the others it leaves all, and of what is shared the phase, who is up, and the
-- clocks.
pub record LeadsBlock (whole : AllBlocks) (block_no : BlockNo) (after : Block) : Type 0 where
  pub last : AllBlocks
  pub run : RunOfAll whole last
  pub here : (view last block_no).block ≡ after
  pub others : (other : BlockNo) → other ≢ block_no → view last other ≡ view whole other
  pub members : last.members ≡ whole.members
  pub clock : last.clock ≡ whole.clock

-- While blocks are served, what an instance that is up does with its image of a block is a run of all blocks. Its clock is as it counts.
abbrev pub HolderRunsAreTurnsOfAll : Type 0
HolderRunsAreTurnsOfAll = (whole : AllBlocks) (me : Inst) (block_no : BlockNo) (after : Block) → IsEra whole.members.phase → whole.members.live me ≡ true
    → whole.members.actual me ≡ whole.clock me → HolderRun me (view whole block_no).block after → LeadsBlock whole block_no after
