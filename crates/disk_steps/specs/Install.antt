-- A current image is installed.
use Rattle.std.specs.Prelude.{◌≡◌, ℕ, ◌≤◌, ◌^◌, if◌then◌else◌, Bool, true, false, List, Option, None, Some, Result, Ok, Err, IfOk}
use Rattle.std.specs.Option.{option_map}
use Rattle.block_image.specs.Block.{BlockContent, block_bytes}
use Rattle.rac_disk.specs.Content.{block_at}
use Rattle.rac_disk.specs.State.{State}
use Rattle.undo_segment.specs.Load.{Loads}
use Rattle.undo_segment.specs.declared.error.LoadError.{LoadError}
use Rattle.undo_segment.specs.declared.error.LoadError.TheVariants as error
use Rattle.wire_net.specs.declared.message.Lane.TheVariants.{Main}
use Rattle.wire_net.specs.declared.message.Message.{Message}
use Rattle.wire_net.specs.declared.message.Message.TheVariants.{Done, Grant, Shipped}
use Rattle.wire_net.specs.declared.message.Mode.{Mode}
use Rattle.wire_net.specs.declared.message.Mode.TheVariants.{Exclusive, Shared}
use Rattle.wire_net.specs.declared.message.Shipment.{Shipment}
use Rattle.wire_net.specs.declared.entry.PastHolder.{PastHolder}
use Rattle.buffer_cache.specs.declared.place.Current.{Current}
use Rattle.buffer_cache.specs.Cache.{installed, place_at}
use Rattle.buffer_cache.specs.Place.{read_from_disk, shipped, upgraded}
use Rattle.inst_state.specs.declared.inst.Inst.{Inst}
use Rattle.inst_state.specs.declared.shared.Core.{Core}
use Rattle.image_steps.specs.Hear.{first_message, heard, hears}
use Rattle.image_steps.specs.Sends.{sends_to_master}
use Rattle.image_steps.specs.TakeCopy.{came_dropped}
use Rattle.inst_loss.specs.Lost.{lost}
use Rattle.inst_loss.specs.LostCore.{lost_core}
use Rattle.inst_loss.specs.declared.ends.Loss.TheVariants as loss
use Rattle.disk_calls.specs.declared.images.ReadData.{ReadData}
use Rattle.disk_calls.specs.declared.images.ReadData.TheVariants as read
use Rattle.disk_calls.specs.Images.{IsBadBy, IsData, is_data_of}
use Rattle.disk_steps.specs.declared.installs.Installed.{Installed}
use Rattle.disk_steps.specs.declared.installs.Installed.TheVariants.{Calm, Read}

-- A message, if there is one, brings a current image or grants one.
abbrev pub brings_image : Option Message → Bool
brings_image (Some (Shipped shipment)) = true
brings_image (Some (Grant block grant mode from_disk)) = true
brings_image _ = false

-- An image is installed as soon as a message that brings or grants it is first on a link.
abbrev pub may_install : Inst → Core → ℕ → Bool
may_install n core from = brings_image (first_message n core from Main)

-- an instance with a current image of a block
abbrev pub with_image : Inst → ℕ → Option Current → Inst
with_image n block current = came_dropped (record n { cache = installed n.cache block current }) block

-- the shared part after the master was told that a block is held
abbrev pub done_sent : Inst → Core → ℕ → ℕ → Mode → Option PastHolder → Core
done_sent n core block grant mode past = sends_to_master n core block (Done block grant mode past)

-- the mode in which a shipped image is held
abbrev pub mode_of : Shipment → Mode
mode_of shipment = if shipment.shared then Shared else Exclusive

-- an instance that was granted a block with the disk's image, as its read went
abbrev pub granted_from_disk : Inst → ℕ → ℕ → Mode → Installed → Inst
granted_from_disk n block grant mode (Read (read.Image image)) =
    with_image n block (Some (read_from_disk grant mode image.value))
granted_from_disk n block grant mode _ = lost n

-- the shared part after a block was granted with the disk's image, as its read went
abbrev pub granted_core : Inst → Core → ℕ → ℕ → Mode → Installed → Core
granted_core n core block grant mode (Read (read.Image image)) = done_sent n core block grant mode None
granted_core n core block grant mode (Read read.Failed) = lost_core n core (loss.Ended false) (Some 0)
granted_core n core block grant mode _ = lost_core n core (loss.Ended true) (Some 0)

-- an instance that was granted a block
abbrev pub granted : Inst → ℕ → ℕ → Mode → Bool → Installed → Inst
granted n block grant mode true how = granted_from_disk n block grant mode how
granted n block grant mode false how =
    with_image n block (option_map (upgraded grant) (place_at n.cache block).current)

-- the shared part after a block was granted
abbrev pub grant_told : Inst → Core → ℕ → ℕ → Mode → Bool → Installed → Core
grant_told n core block grant mode true how = granted_core n core block grant mode how
grant_told n core block grant mode false how = done_sent n core block grant mode None

-- an instance to which a message came that brings or grants an image
abbrev pub brought : Inst → Option Message → Installed → Inst
brought n (Some (Shipped shipment)) how = with_image n shipment.block (Some (shipped shipment))
brought n (Some (Grant block grant mode from_disk)) how = granted n block grant mode from_disk how
brought n _ how = n

-- the shared part after a message that brings or grants an image
abbrev pub brought_core : Inst → Core → Option Message → Installed → Core
brought_core n core (Some (Shipped shipment)) how =
    done_sent n core shipment.block shipment.grant (mode_of shipment) shipment.past
brought_core n core (Some (Grant block grant mode from_disk)) how = grant_told n core block grant mode from_disk how
brought_core n core _ how = core

-- an instance that has installed an image
abbrev pub image_installed : Inst → Core → ℕ → Installed → Inst
image_installed n core from how = brought (hears n core from Main) (first_message n core from Main) how

-- the shared part after an image was installed
abbrev pub install_told : Inst → Core → ℕ → Installed → Core
install_told n core from how =
    brought_core (hears n core from Main) (heard n core from Main) (first_message n core from Main) how

-- What a read of a data block left that went so.
pub record ReadsData (block : ℕ) (result : Result BlockContent LoadError) (old new : State) : Type 0 where
  pub fits : IfOk result (λ b. is_data_of block b ≡ true)
  pub loads : Loads (λ b it. block_at it block ≡ block_bytes b) (IsBadBy block (IsData block)) result old new

-- what a read gave, or why it gave nothing
abbrev pub GaveAs : ℕ → ReadData → State → State → Type 0
GaveAs block (read.Image image) old new = ReadsData block (Ok image.value) old new
GaveAs block read.Bad old new = (other : ℕ) × (field : ℕ) × ReadsData block (Err (error.Bad other field)) old new
GaveAs block read.Failed old new = ReadsData block (Err error.Failed) old new

-- What an Install left on the disk that went so: a grant with the disk's image reads it, and nothing else calls the disk.
abbrev pub InstallsAs : Option Message → Installed → State → State → Type 0
InstallsAs (Some (Grant block grant mode true)) (Read how) old new = GaveAs block how old new
InstallsAs (Some (Grant block grant mode true)) Calm old new = (64 ≤ block) × (new ≡ old)
InstallsAs message how old new = new ≡ old
