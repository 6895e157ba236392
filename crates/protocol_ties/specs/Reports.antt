-- The entry that is made of the reports, beside the one that the protocol's Thaw makes of the images.
use Rattle.std.specs.Prelude.{ℕ, ◌+◌, ◌≡◌, ◌<◌, ◌≤◌, ◌==◌, if◌then◌else◌, List, [], ◌∷◌, flat_map, Option, None, Some}
use Rattle.wire_net.specs.declared.message.Mode.{Mode}
use Rattle.wire_net.specs.declared.message.Mode.TheVariants as modes
use Rattle.wire_net.specs.declared.report.Frame.{Frame}
use Rattle.wire_net.specs.declared.report.Report.{Report}
use Rattle.wire_net.specs.declared.masters.Masters.{Masters}
use Rattle.wire_net.specs.declared.entry.Entry.{Entry}
use Rattle.wire_net.specs.Entry.{empty_entry}
use Rattle.wire_net.specs.Masters.{master_of}
use Rattle.resource_dir.specs.Directory.{entry_of}
use Rattle.resource_dir.specs.Rebuilt.{rebuilt, rebuilt_directory}
use Rattle.block_protocol.specs.Block.{Inst, Scn, Shared, Exclusive, Hold, Block}
use Rattle.block_protocol.specs.Runs.{start}
use Rattle.block_protocol.specs.AllBlocks.{BlockNo}
use Rattle.block_protocol.specs.Turns.{AreGrants, thawed}
use Rattle.block_protocol.specs.Made.{grant_of}
use Rattle.protocol_ties.specs.Messages.{instances}
use Rattle.protocol_ties.specs.Entries.{Shows}
use Rattle.protocol_ties.specs.Numbered.{IsNumbered}

-- the mode that a frame tells, if it is one of the block
abbrev pub mode_told : BlockNo → Frame → List Mode
mode_told block_no frame = if frame.block == block_no then frame.mode ∷ [] else []

-- the modes that the frames of an instance tell of a block
abbrev pub modes_told : BlockNo → List Frame → List Mode
modes_told block_no frames = flat_map (mode_told block_no) frames

-- a mode is the one of an image, or there is none
abbrev pub IsModeOf : Mode → Option Hold → Type 0
IsModeOf modes.Null None = Unit {0}
IsModeOf modes.Shared (Some hold) = hold.mode ≡ Shared
IsModeOf modes.Exclusive (Some hold) = hold.mode ≡ Exclusive
IsModeOf _ _ = ⊥

-- what is told of a block is the image that is there: nothing, or one mode
abbrev pub Tells : List Mode → Option Hold → Type 0
Tells [] None = Unit {0}
Tells [] (Some hold) = ⊥
Tells (mode ∷ []) image = IsModeOf mode image
Tells (mode ∷ (next ∷ more)) image = ⊥

-- from an instance on, the reports come in the order of the instances, each tells the image that its instance has of the
-- block, and who doesn't report has none
abbrev pub AreReportsFrom : Inst → BlockNo → List (ℕ × Report) → (Inst → Option Hold) → Type 0
AreReportsFrom first block_no [] frame = (inst : Inst) → first ≤ inst → frame inst ≡ None
AreReportsFrom first block_no (reported ∷ reports) frame = (first ≤ reported.0) × (reported.0 < instances)
    × ((inst : Inst) → first ≤ inst → inst < reported.0 → frame inst ≡ None) × Tells (modes_told block_no reported.1.frames) (frame reported.0)
    × AreReportsFrom (reported.0 + 1) block_no reports frame

-- the reports tell the images of a block
abbrev pub AreReports : BlockNo → List (ℕ × Report) → (Inst → Option Hold) → Type 0
AreReports block_no reports frame = AreReportsFrom 0 block_no reports frame

-- who has an exclusive image has the only one
abbrev pub IsExclusiveAlone : (Inst → Option Hold) → Type 0
IsExclusiveAlone frame = (inst other : Inst) (hold other_hold : Hold) → frame inst ≡ Some hold → hold.mode ≡ Exclusive → frame other ≡ Some other_hold → other ≡ inst

-- what is made of the reports is the protocol's entry after a Thaw, with nothing under way: the new grants are numbers of
-- the images from 1 on, in the order of the instances
pub record IsThawedEntry (entry : Entry) (block : Block) (bound : Scn) : Type 0 where
  pub grants : AreGrants (grant_of block.frame) (grant_of block.frame instances) block.frame
  pub shows : Shows [] entry (thawed block (grant_of block.frame) (grant_of block.frame instances) bound)
  pub numbered : IsNumbered entry

-- the entry that is made of the reports is the one of the Thaw
abbrev pub ReportsMakeTheEntry : Type 0
ReportsMakeTheEntry = (block_no : BlockNo) (reports : List (ℕ × Report)) (block : Block) (bound : Scn) → AreReports block_no reports block.frame → IsExclusiveAlone block.frame
    → IsThawedEntry (rebuilt block_no reports) block bound

-- a block that was never asked for is shown by the empty entry, with nothing under way
abbrev pub NewBlockIsShown : Type 0
NewBlockIsShown = (master : Inst) → Shows [] empty_entry (start master) × IsNumbered empty_entry

-- each instance gets the entries of the blocks that it masters by the table, each made of the reports on its own block, and no
-- others
abbrev pub DirectoryIsMadeByEntries : Type 0
DirectoryIsMadeByEntries = (me : Inst) (masters : Masters) (reports : List (ℕ × Report)) (block_no : BlockNo) → block_no < 64
    → entry_of (rebuilt_directory me masters reports) block_no ≡ (if master_of masters block_no == me then Some (rebuilt block_no reports) else None)
