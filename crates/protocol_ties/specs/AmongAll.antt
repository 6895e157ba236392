-- What a master does with a message, among all blocks: one block goes on, and the others see a clock that has risen.
use Rattle.std.specs.Prelude.{ℕ, ◌≡◌, ◌≢◌, ◌++◌, ◌==◌, if◌then◌else◌, Bool, false, List, [], flat_map, is_some, option_to_list, true, Option, Some, None}
use Rattle.std.specs.List.{AllByRecursion}
use Rattle.wire_net.specs.declared.message.Message.{Message}
use Rattle.wire_net.specs.declared.entry.Entry.{Entry}
use Rattle.resource_dir.specs.declared.directory.Directory.{Directory}
use Rattle.resource_dir.specs.Directory.{entry_of, directory_takes}
use Rattle.resource_dir.specs.Takes.{takes}
use Rattle.block_protocol.specs.Block.{Inst, Scn, Block}
use Rattle.block_protocol.specs.Sound.{Sound}
use Rattle.block_protocol.specs.Steps.{clock_there}
use Rattle.block_protocol.specs.Wire.{Wire}
use Rattle.block_protocol.specs.Turns.{IsEra}
use Rattle.block_protocol.specs.AllBlocks.{BlockNo, AllBlocks, view}
use Rattle.protocol_ties.specs.Messages.{wire_of, block_of, block_of_waiting}
use Rattle.protocol_ties.specs.Entries.{Shows}
use Rattle.protocol_ties.specs.MasterRuns.{LeavesRest, raised}
use Rattle.protocol_ties.specs.Takes.{HasRoom, MayTake}
use Rattle.protocol_ties.specs.MasterTurns.{all_raised, LeadsTo}
use Rattle.protocol_ties.specs.Directories.{IsSized, IsSameAt}

-- whether a block is this one
abbrev pub is_block : BlockNo → Option BlockNo → Bool
is_block block_no None = false
is_block block_no (Some other) = other == block_no

-- a message to an instance, as one of a block, if it is about that
abbrev pub wires_at : BlockNo → Scn → ℕ × Message → List Wire
wires_at block_no scn sent = if is_block block_no (block_of sent.1) then option_to_list (wire_of sent.0 scn sent.1) else []

-- what is sent about a block
abbrev pub wires_about : BlockNo → Scn → List (ℕ × Message) → List Wire
wires_about block_no scn sends = flat_map (wires_at block_no scn) sends

-- what waits at the entry is about its block
abbrev pub WaitsAbout : BlockNo → Entry → Type 0
WaitsAbout block_no entry = AllByRecursion (λ waiting. block_of_waiting waiting ≡ block_no) entry.queue

-- a message to an instance is one of the protocol, about this block
abbrev pub IsOfBlock : BlockNo → ℕ × Message → Type 0
IsOfBlock block_no sent = (block_of sent.1 ≡ Some block_no) × ((clock : Scn) → is_some (wire_of sent.0 clock sent.1) ≡ true)

-- all that the handler sends is, and what waits afterwards is about the block too
abbrev pub SendsAreOfTheBlock : Type 0
SendsAreOfTheBlock = (block_no : BlockNo) (message : Message) (entry : Entry) → block_of message ≡ Some block_no → WaitsAbout block_no entry
    → AllByRecursion (IsOfBlock block_no) (takes entry message).sends × WaitsAbout block_no (takes entry message).entry

-- the instance is the block's master, and takes a message on it
pub record MayTakeAmong (whole : AllBlocks) (directory : Directory) (me : Inst) (scn : Scn) (block_no : BlockNo) (message : Message) (wires : List Wire) (entry : Entry) : Type 0 where
  pub sized : IsSized directory
  pub masters : entry_of directory block_no ≡ Some entry
  pub about : block_of message ≡ Some block_no
  pub waits : WaitsAbout block_no entry
  pub may : MayTake me scn message wires entry (view whole block_no).block

-- all blocks go on by a run: the one comes to a state that its entry shows, with what the master sends about it; of any other
-- the entry is as it was, nothing is sent about it, and it sees the risen clock alone
pub record IsTakenAmong (whole : AllBlocks) (directory : Directory) (me : Inst) (scn : Scn) (block_no : BlockNo) (message : Message) (wires : List Wire) : Type 0 where
  pub after : Block
  pub later : Entry
  pub leads : LeadsTo whole (all_raised me scn whole) block_no after × LeavesRest (raised me scn (view whole block_no).block) after × Sound after
  pub here : (entry_of (directory_takes directory block_no message).directory block_no ≡ Some later) × WaitsAbout block_no later
  pub shows : Shows (wires_about block_no (clock_there (raised me scn (view whole block_no).block)) (directory_takes directory block_no message).sends ++ wires) later after
  pub others : (other : BlockNo) → other ≢ block_no
      → IsSameAt (directory_takes directory block_no message).directory directory other × ((clock : Scn) → wires_about other clock (directory_takes directory block_no message).sends ≡ [])

-- a master that takes a message is a run of all blocks
abbrev pub MessageIsTakenAmongAll : Type 0
MessageIsTakenAmongAll = (whole : AllBlocks) (directory : Directory) (me : Inst) (scn : Scn) (block_no : BlockNo) (message : Message) (wires : List Wire) (entry : Entry) → IsEra whole.members.phase
    → MayTakeAmong whole directory me scn block_no message wires entry → HasRoom entry → IsTakenAmong whole directory me scn block_no message wires
