-- The invariant of a run with changes of membership: all that holds of each of its states.
use Rattle.std.specs.Prelude.{◌≡◌, ◌≤◌, max, Bool, true, false, Some, length}
use Rattle.block_protocol.specs.Block.{Inst, Hold, Block}
use Rattle.block_protocol.specs.Whole.{Whole}
use Rattle.block_protocol.specs.Members.{Phase, Frozen, Thawed, Running, Members, Cluster, ArePaced}
use Rattle.block_protocol.specs.Lasting.{Settled, Lasting, Core}
use Rattle.block_protocol.specs.Recovery.{AllReported}
use Rattle.block_protocol.specs.Positions.{Placed, Entries}
use Rattle.block_protocol.specs.Turns.{IsEra}

-- what was reported has its own records alone above the disk's version
abbrev pub AreOwn : Members → (Inst → Bool) → Block → Type 0
AreOwn members global block = (inst : Inst) (hold : Hold) → members.reported inst ≡ true → block.frame inst ≡ Some hold → block.dirty inst ≡ true → global inst ≡ false

-- what holds in every phase
abbrev pub CoreOf : Cluster → Type 0
CoreOf cluster = Core cluster.members.live cluster.members.unclosed cluster.members.actual cluster.members.found cluster.global cluster.block

-- where recovery would read each thread from, and that its control entry says that it runs
pub record Located (cluster : Cluster) : Type 0 where
  pub placed : Placed cluster.members.live cluster.members.unclosed cluster.mine cluster.members.position cluster.members.actual cluster.block.disk cluster.block.records
  pub entries : Entries cluster.members.running cluster.block.frame cluster.block.disk cluster.block.records
  pub up : IsEra cluster.members.phase → (inst : Inst) → cluster.members.live inst ≡ true → cluster.members.running inst ≡ true

-- in the phase Frozen
pub record Still (cluster : Cluster) : Type 0 where
  pub core : CoreOf cluster
  -- the clocks that count are as they are
  pub awake : (inst : Inst) → cluster.members.actual inst ≡ cluster.block.clock inst
  pub own : AreOwn cluster.members cluster.global cluster.block
  pub rebuilt : cluster.rebuilt ≡ true → (AllReported cluster.members) × (cluster.block.disk ≡ length cluster.block.records)

-- who has resumed has a clock above all that was used before, and a clock counts as risen to the bound and no further
pub record Resuming (cluster : Cluster) : Type 0 where
  pub paced : ArePaced cluster.members.live cluster.members.unclosed cluster.members.actual cluster.members.found
  pub resumed : (inst : Inst) → cluster.members.live inst ≡ true → cluster.members.paused inst ≡ false → cluster.members.bound ≤ cluster.members.actual inst
  pub ahead : (inst : Inst) → cluster.block.clock inst ≤ max (cluster.members.actual inst) cluster.members.bound

-- in the phases Thawed and Running
pub record Era (cluster : Cluster) : Type 0 where
  pub whole : Whole cluster.block
  pub settled : Settled cluster.members.live cluster.members.actual cluster.members.found cluster.block.frame cluster.block.clock cluster.block.records cluster.block.floor
  pub lasting : Lasting cluster.members.live cluster.members.actual cluster.members.found cluster.global cluster.block
  pub closed : (thread : Inst) → cluster.members.unclosed thread ≡ false
  pub clocks : Resuming cluster

-- each phase has its own part
abbrev pub HoldsIn : Phase → Cluster → Type 0
HoldsIn Frozen cluster = Still cluster
HoldsIn Thawed cluster = Era cluster
HoldsIn Running cluster = Era cluster

-- the part of the phase that is
abbrev pub Holds : Cluster → Type 0
Holds cluster = HoldsIn cluster.members.phase cluster

-- all of it
pub record Invariant (cluster : Cluster) : Type 0 where
  pub holds : Holds cluster
  pub located : Located cluster
