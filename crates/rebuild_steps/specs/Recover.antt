-- The leader rebuilds a block.
use Rattle.std.specs.Prelude.{◌≡◌, ℕ, ◌&&◌, ◌||◌, nat_lt, not, Bool, true, false, List, [], ◌∷◌, ◌++◌, Option, None, Some, is_some, Ok, Err}
use Rattle.std.specs.Option.{option_map}
use Rattle.base_types.specs.declared.layout.Layout.{Layout}
use Rattle.block_image.specs.Block.{BlockContent}
use Rattle.rac_disk.specs.State.{State}
use Rattle.redo_merge.specs.declared.tagged.Tagged.{Tagged}
use Rattle.undo_segment.specs.declared.error.LoadError.TheVariants as error
use Rattle.disk_calls.specs.declared.writes.Written.TheVariants as write
use Rattle.disk_calls.specs.declared.writes.Written.{Written}
use Rattle.disk_calls.specs.Calls.{WritesBlockAs}
use Rattle.inst_state.specs.declared.inst.Inst.{Inst}
use Rattle.inst_state.specs.declared.inst.Recovering.{Recovering}
use Rattle.inst_state.specs.declared.shared.Core.{Core}
use Rattle.inst_state.specs.declared.shared.Rebuilt.{Rebuilt}
use Rattle.inst_state.specs.Shared.{given_of}
use Rattle.inst_loss.specs.Lost.{lost}
use Rattle.recovery.specs.Reports.{has_past}
use Rattle.report_steps.specs.Recovering.{are_read, is_rebuilt, is_to_rebuild, leads_recovery}
use Rattle.rebuild_steps.specs.Ends.{ended}
use Rattle.rebuild_steps.specs.declared.images.Image.{Image}
use Rattle.rebuild_steps.specs.declared.recovers.Recovered.{Recovered}
use Rattle.rebuild_steps.specs.declared.recovers.Recovered.TheVariants.{Bad, Done, Unread, Unrolled, Unwritten}
use Rattle.rebuild_steps.specs.Epochs.{in_epoch, merged_redo, threads_in}
use Rattle.rebuild_steps.specs.Images.{LoadsImage, bytes_of, rolled_from, version_of}

-- The disk has a block with this number.
abbrev pub is_on_disk : ℕ → Bool
is_on_disk block = nat_lt block 200

-- The newest past image of a block was handed to the leader, where one was reported.
abbrev pub is_given : Core → ℕ → Bool
is_given core block =
    not (nat_lt block core.layout.blocks && has_past core.recovery.reports block) || is_some (given_of core block)

-- The leader rebuilds a block that is to be rebuilt and isn't yet, once each dead thread was read and the newest past image
-- of the block was handed to it.
abbrev pub may_recover : Inst → Core → ℕ → Bool
may_recover n core block =
    is_on_disk block && leads_recovery n core && are_read n core && is_to_rebuild n core block
    && not (is_rebuilt n core block) && is_given core block

-- the records that the leader has read since the last change of membership, in the order in which they were made
abbrev pub redo_read : Inst → Core → List Tagged
redo_read n core = merged_redo (threads_in n.leading.recovering core.members.epoch)

-- An image was made of a block, and its write went so.
pub record WritesMade (block : ℕ) (made : Option Image) (how : Written) (old new : State) : Type 0 where
  pub image : Image
  pub is_made : made ≡ Some image
  pub writes : WritesBlockAs block (bytes_of image) how old new

-- What is left where redo made this, if anything, of the image of a block that stood so on the disk. Nothing is left where
-- the block wasn't read.
abbrev pub WritesAs : ℕ → Option Image → Image → Recovered → State → State → Type 0
WritesAs block made stood (Done it version) old new =
    (it.value ≡ stood) × (option_map version_of made ≡ Some version) × WritesMade block made write.Done old new
WritesAs block made stood (Unwritten it) old new = (it.value ≡ stood) × WritesMade block made write.Failed old new
WritesAs block made stood (Unrolled it) old new = (it.value ≡ stood) × (made ≡ None) × (new ≡ old)
WritesAs block made stood _ old new = ⊥

-- The image of a block was read, and what redo made of it, if anything, was written.
pub record Rewrites (layout : Layout) (block : ℕ) (redo : List Tagged) (past : Option BlockContent) (stood : Image) (how : Recovered) (old new : State) : Type 0 where
  pub mid : State
  pub reads : LoadsImage layout block (Ok stood) old mid
  pub writes : WritesAs block (rolled_from redo past stood) stood how mid new

-- What stands in a block was read, and is no block that a run leaves there.
pub record ReadsBad (layout : Layout) (block : ℕ) (old new : State) : Type 0 where
  pub number : ℕ
  pub field : ℕ
  pub reads : LoadsImage layout block (Err (error.Bad number field)) old new

-- What the rebuild of a block left that went so, by the redo and the past image of the block, if one is there.
abbrev pub RebuildsAs : Layout → ℕ → List Tagged → Option BlockContent → Recovered → State → State → Type 0
RebuildsAs layout block redo past (Done stood version) old new =
    Rewrites layout block redo past stood.value (Done stood version) old new
RebuildsAs layout block redo past (Unwritten stood) old new =
    Rewrites layout block redo past stood.value (Unwritten stood) old new
RebuildsAs layout block redo past (Unrolled stood) old new =
    Rewrites layout block redo past stood.value (Unrolled stood) old new
RebuildsAs layout block redo past Bad old new = ReadsBad layout block old new
RebuildsAs layout block redo past Unread old new = LoadsImage layout block (Err error.Failed) old new

-- What the leader's rebuild of a block left on the disk that went so.
abbrev pub RecoversAs : Inst → Core → ℕ → Recovered → State → State → Type 0
RecoversAs n core block how old new = RebuildsAs core.layout block (redo_read n core) (given_of core block) how old new

-- what the leader has read and done, with a block that it rebuilt in this epoch
abbrev pub with_rebuilt : Recovering → ℕ → ℕ → Recovering
with_rebuilt r epoch block = let now = in_epoch r epoch in record now { rebuilt = now.rebuilt ++ block ∷ [] }

-- the leader with a block noted as rebuilt
abbrev pub noted : Inst → Core → ℕ → Inst
noted n core block = record n {
  leading = record n.leading { recovering = with_rebuilt n.leading.recovering core.members.epoch block };
}

-- a block that recovery wrote with a version
abbrev pub rebuilt_as : ℕ → ℕ → Rebuilt
rebuilt_as block version = record { block = block; version = version }

-- the shared part with the version noted that recovery wrote of a block
abbrev pub noted_core : Core → ℕ → ℕ → Core
noted_core core block version = record core {
  recovery = record core.recovery { rebuilt = core.recovery.rebuilt ++ rebuilt_as block version ∷ [] };
}

-- the leader after the rebuild of a block, by how that went
abbrev pub recovered : Inst → Core → ℕ → Recovered → Inst
recovered n core block (Done stood version) = noted n core block
recovered n core block _ = lost n

-- the shared part after the rebuild of a block, by how that went
abbrev pub recovered_core : Inst → Core → ℕ → Recovered → Core
recovered_core n core block (Done stood version) = noted_core core block version
recovered_core n core block (Unwritten stood) = ended n core false
recovered_core n core block (Unrolled stood) = ended n core true
recovered_core n core block Bad = ended n core true
recovered_core n core block Unread = ended n core false
