-- The entries of a whole directory: what a message changes, and what the moving of a bucket does.
use Rattle.std.specs.Prelude.{ℕ, ◌≡◌, ◌≢◌, ◌<◌, ◌%◌, List, [], length, Some, None}
use Rattle.wire_net.specs.declared.message.Message.{Message}
use Rattle.wire_net.specs.declared.entry.Entry.{Entry}
use Rattle.resource_dir.specs.declared.directory.Directory.{Directory}
use Rattle.resource_dir.specs.Directory.{bucket_of, with_bucket, entry_of, directory_takes}
use Rattle.resource_dir.specs.Takes.{takes}
use Rattle.block_protocol.specs.Block.{Inst, Scn, At, Moves, Place, Block}
use Rattle.block_protocol.specs.AllBlocks.{BlockNo}
use Rattle.block_protocol.specs.Wire.{Wire}
use Rattle.protocol_ties.specs.Entries.{Shows}
use Rattle.protocol_ties.specs.MasterRuns.{MasterRun, raised}

-- the number of buckets, each with a place in every directory
abbrev pub IsSized : Directory → Type 0
IsSized directory = length directory.buckets ≡ 16

-- the entries that two directories have of a block are the same
abbrev pub IsSameAt : Directory → Directory → BlockNo → Type 0
IsSameAt one other block_no = entry_of one block_no ≡ entry_of other block_no

-- a message on a block changes its entry as the master's handler says, and no other; what is sent is what that sends
pub record TakesAtOne (directory : Directory) (block_no : BlockNo) (message : Message) (entry : Entry) : Type 0 where
  pub sized : IsSized (directory_takes directory block_no message).directory
  pub here : entry_of (directory_takes directory block_no message).directory block_no ≡ Some (takes entry message).entry
  pub sends : (directory_takes directory block_no message).sends ≡ (takes entry message).sends
  pub others : (other : BlockNo) → other ≢ block_no → IsSameAt (directory_takes directory block_no message).directory directory other

-- a message changes the entry of its block, and no other
abbrev pub DirectoryTakesAtOne : Type 0
DirectoryTakesAtOne = (directory : Directory) (block_no : BlockNo) (message : Message) (entry : Entry) → IsSized directory → entry_of directory block_no ≡ Some entry
    → TakesAtOne directory block_no message entry

-- where the instance masters no such block, nothing changes and nothing is sent
abbrev pub DirectoryDrops : Type 0
DirectoryDrops = (directory : Directory) (block_no : BlockNo) (message : Message) → entry_of directory block_no ≡ None
    → directory_takes directory block_no message ≡ record { directory = directory; sends = [] }

-- a bucket comes to one directory as it was in another, where it isn't any more; all other buckets stay
pub record MovesWhole (from to : Directory) (bucket : ℕ) : Type 0 where
  pub comes : (block_no : BlockNo) → block_no % 16 ≡ bucket → entry_of (with_bucket to bucket (bucket_of from bucket)) block_no ≡ entry_of from block_no
  pub leaves : (block_no : BlockNo) → block_no % 16 ≡ bucket → entry_of (with_bucket from bucket None) block_no ≡ None
  pub others : (block_no : BlockNo) → block_no % 16 ≢ bucket
      → IsSameAt (with_bucket to bucket (bucket_of from bucket)) to block_no × IsSameAt (with_bucket from bucket None) from block_no

-- a bucket that is sent is taken with all its entries, and no other moves
abbrev pub BucketsMoveWhole : Type 0
BucketsMoveWhole = (from to : Directory) (bucket : ℕ) → IsSized from → IsSized to → bucket < 16 → MovesWhole from to bucket

-- at each block of it, its entry leaves the master in a packet of that one's clock ..
abbrev pub EntryLeaves : Type 0
EntryLeaves = (from : Inst) (block : Block) → block.place ≡ At from → MasterRun block (record block { place = Moves (block.clock from) })

-- .. and comes to the next one, whose clock has risen to it
abbrev pub EntryComes : Type 0
EntryComes = (to : Inst) (scn : Scn) (block : Block) → block.place ≡ Moves scn → MasterRun (raised to scn block) (record (raised to scn block) { place = At to })

-- and the entry is shown all the while, with what waits in its queue
abbrev pub EntryStaysShown : Type 0
EntryStaysShown = (wires : List Wire) (entry : Entry) (block : Block) (place : Place) (inst : Inst) (scn : Scn) → Shows wires entry block
    → Shows wires entry (record block { place = place }) × Shows wires entry (raised inst scn block)
