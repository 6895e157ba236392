-- The first world plays the protocol, and steps of the machine play it on.
use Rattle.std.specs.Prelude.{◌≡◌, ◌≤◌, ◌+◌, ℕ, List, [], ◌∷◌, Option, Some, Bool, slice_get, slice_set, true, is_none, ◌&&◌}
use Rattle.wire_net.specs.declared.entry.Entry.{Entry}
use Rattle.wire_net.specs.declared.message.Lane.TheVariants.{Main, Undo}
use Rattle.wire_net.specs.declared.message.Message.{Message}
use Rattle.wire_net.specs.declared.message.Message.TheVariants as messages
use Rattle.resource_dir.specs.Takes.{takes}
use Rattle.rac_disk.specs.Content.{Content}
use Rattle.rac_disk.specs.State.{State}
use Rattle.disk_calls.specs.declared.images.ReadData.TheVariants as read
use Rattle.disk_steps.specs.declared.installs.Installed.{Installed}
use Rattle.disk_steps.specs.declared.installs.Installed.TheVariants.{Read}
use Rattle.disk_calls.specs.Calls.{WritesBlockAs, WritesControlAs}
use Rattle.disk_steps.specs.AskUndo.{AsksUndoAs, asked_undo, lacking, may_ask_undo, undo_ask_told}
use Rattle.machine_ties.specs.HasUndo.{HasUndo}
use Rattle.disk_steps.specs.Checkpoint.{bytes_of_entry, checkpoint_told, checkpointed, entry_now, may_end_checkpoint}
use Rattle.disk_calls.specs.declared.writes.Written.TheVariants.{Done}
use Rattle.disk_steps.specs.Write.{block_written, bytes_to_write, may_write_block, write_told}
use Rattle.disk_steps.specs.Install.{InstallsAs, image_installed, install_told, may_install}
use Rattle.inst_state.specs.declared.inst.Inst.{Inst}
use Rattle.inst_state.specs.declared.shared.Core.{Core}
use Rattle.image_steps.specs.Ask.{ask_sent, asked, may_ask}
use Rattle.image_steps.specs.AskWrite.{may_ask_write, write_asked, write_plea_sent}
use Rattle.image_steps.specs.DropPast.{may_drop_past, past_dropped, past_sent}
use Rattle.image_steps.specs.Evict.{evict_sent, evicted, may_evict}
use Rattle.image_steps.specs.Hear.{first_message, heard, hears}
use Rattle.image_steps.specs.Invalidate.{invalidate_sent, invalidated, may_invalidate}
use Rattle.image_steps.specs.MasterTake.{master_sent, master_taken, may_take_at_master}
use Rattle.image_steps.specs.ServeCopy.{copy_sent, may_serve_copy}
use Rattle.image_steps.specs.Ship.{may_ship, ship_sent, shipped}
use Rattle.image_steps.specs.TakeCopy.{copy_taken, may_take_copy}
use Rattle.script_text.specs.ScriptParts.{ScriptParts}
use Rattle.script_text.specs.WellFormed.{IsWellFormed}
use Rattle.first_state.specs.Create.{IsNew}
use Rattle.first_state.specs.Plan.{layout_of}
use Rattle.world_machine.specs.declared.worlds.World.{World}
use Rattle.cluster_run.specs.First.{IsFirstWorld}
use Rattle.disk_calls.specs.declared.appends.Appended.TheVariants.{Whole}
use Rattle.disk_steps.specs.Force.{ForcesAs, force_told, forced_as, may_force}
use Rattle.image_steps.specs.ServeUndo.{may_serve_undo, undo_sent}
use Rattle.inst_node.specs.Moves.{telling}
use Rattle.stmt_steps.specs.Mark.{mark_tells, marked, may_mark}
use Rattle.stmt_steps.specs.Change.{change_decided, change_tells, changed, may_change, record_in}
use Rattle.stmt_steps.specs.End.{end_tells, ended, may_end}
use Rattle.stmt_steps.specs.Start.{may_start, start_tells, started}
use Rattle.stmt_steps.specs.Visit.{may_visit, visit_tells, visited}
use Rattle.wave_steps.specs.Answers.{acked, acked_core, may_ack}
use Rattle.wave_steps.specs.Buckets.{bucket_kept, may_keep_bucket}
use Rattle.wave_steps.specs.Enter.{entered, entered_core, may_enter}
use Rattle.wave_steps.specs.News.{broadcast, broadcast_core, heard as news_heard, heard_core as news_answered, may_broadcast, may_hear}
use Rattle.wave_steps.specs.WaveEnd.{left, may_leave, may_rise, may_skip, risen, skipped}
use Rattle.machine_ties.specs.Plays.{AreFew, Plays}
use Rattle.machine_ties.specs.Sane.{AreSane, AreSaneWaiting, IsSane}

-- The first world of a script, over a new database, plays the protocol of each block; no step was made.
abbrev pub FirstWorldsPlay : Type 0
FirstWorldsPlay = (script : ScriptParts) (w : World) (disk : Content) → IsWellFormed script → IsFirstWorld script w → IsNew (layout_of script) disk
    → Plays script.settings.instances 0 script.settings.blocks w.core.net.links w.core.net.masters w.insts disk

-- Where instances and links play the protocol, they do so after a step of one of them with what comes from another one, or with a
-- block: the step is possible, and leads to this part of the instance and to what is shared then.
abbrev pub PlayOn : (Inst → Core → ℕ → Bool) → (Inst → Core → ℕ → Inst) → (Inst → Core → ℕ → Core) → Type 0
PlayOn may part shared = (count steps blocks : ℕ) (core : Core) (insts : List Inst) (disk : Content) (n : Inst) (number : ℕ) → Plays count steps blocks core.net.links core.net.masters insts disk
    → slice_get insts n.plan.me ≡ Some n → may n core number ≡ true
    → Plays count steps blocks (shared n core number).net.links core.net.masters (slice_set insts n.plan.me (part n core number)) disk

-- an Invalidate is obeyed
abbrev pub InvalidatesPlay : Type 0
InvalidatesPlay = PlayOn may_invalidate invalidated invalidate_sent

-- a current image is shipped, or the order goes back
abbrev pub ShipsPlay : Type 0
ShipsPlay = PlayOn may_ship shipped ship_sent

-- a copy is served, or the order goes back
abbrev pub CopiesPlay : Type 0
CopiesPlay = PlayOn may_serve_copy (λ n core from. hears n core from Main) copy_sent

-- a past image goes, or a plea to write is noted, met or sent back
abbrev pub PastsPlay : Type 0
PastsPlay = PlayOn may_drop_past past_dropped past_sent

-- a copy that comes is kept, and goes to the lines that wait for it
abbrev pub TakenCopiesPlay : Type 0
TakenCopiesPlay = PlayOn (λ n core from. may_take_copy n core from Main) (λ n core from. copy_taken n core from Main) (λ n core from. heard n core from Main)

-- a block is asked for that a line lacks
abbrev pub AsksPlay : Type 0
AsksPlay = PlayOn (λ n core block. may_ask n block) (λ n core block. asked n block) ask_sent

-- a clean image leaves its frame
abbrev pub EvictsPlay : Type 0
EvictsPlay = PlayOn (λ n core block. may_evict n block) (λ n core block. evicted n block) evict_sent

-- a write is asked for that lets a past image go
abbrev pub PleasPlay : Type 0
PleasPlay = PlayOn (λ n core block. may_ask_write n block) (λ n core block. write_asked n block) write_plea_sent

-- a line starts
abbrev pub StartsPlay : Type 0
StartsPlay = PlayOn (λ n core z. may_start n z) (λ n core z. started n z) (λ n core z. telling core (start_tells n z ∷ []))

-- a read takes the rows of its next block
abbrev pub VisitsPlay : Type 0
VisitsPlay = PlayOn (λ n core z. may_visit n z) (λ n core z. visited n z) (λ n core z. telling core (visit_tells n z))

-- a change makes no record: its line is refused or starts again, or the row that it locks is its own
abbrev pub UnmadeChangesPlay : Type 0
UnmadeChangesPlay = PlayOn (λ n core z. may_change n z && is_none (record_in (change_decided n z))) (λ n core z. changed n z) (λ n core z. telling core (change_tells n z))

-- a line is answered without a block
abbrev pub EndsPlay : Type 0
EndsPlay = PlayOn (λ n core z. may_end n z) (λ n core z. ended n z) (λ n core z. telling core (end_tells n z))

-- an end is told to the others
abbrev pub BroadcastsPlay : Type 0
BroadcastsPlay = PlayOn may_broadcast broadcast broadcast_core

-- an end is heard of, or that another one has heard of it
abbrev pub NewsPlay : Type 0
NewsPlay = PlayOn may_hear news_heard news_answered

-- an end is answered
abbrev pub AcksPlay : Type 0
AcksPlay = PlayOn may_ack (λ n core z. acked n z) acked_core

-- undo is served
abbrev pub UndoIsServed : Type 0
UndoIsServed = PlayOn may_serve_undo (λ n core from. hears n core from Undo) undo_sent

-- undo comes
abbrev pub UndoComes : Type 0
UndoComes = PlayOn (λ n core from. may_take_copy n core from Undo) (λ n core from. copy_taken n core from Undo) (λ n core from. heard n core from Undo)

-- an instance enters the wave, and leaves it
abbrev pub EntersPlay : Type 0
EntersPlay = PlayOn (λ n core number. may_enter n core) (λ n core number. entered n core) (λ n core number. entered_core n core)

abbrev pub LeavesPlay : Type 0
LeavesPlay = PlayOn (λ n core number. may_leave n core) (λ n core number. n) (λ n core number. left n core)

-- the next wave rises
abbrev pub RisesPlay : Type 0
RisesPlay = PlayOn (λ n core number. may_rise n core) (λ n core number. n) (λ n core number. risen core)

-- a control line finds nothing to do, or its bucket at its new master
abbrev pub SkipsPlay : Type 0
SkipsPlay = PlayOn may_skip (λ n core line. n) (λ n core line. skipped core line)

abbrev pub KeepsPlay : Type 0
KeepsPlay = PlayOn may_keep_bucket (λ n core line. n) (λ n core line. bucket_kept core line)

-- the end record of a transaction is made
abbrev pub MarksPlay : Type 0
MarksPlay = PlayOn (λ n core z. may_mark n z) (λ n core z. marked n z) (λ n core z. telling core (mark_tells n z))

-- The same of a step that calls the disk, which tells what it holds: its calls went well, and left this.
abbrev pub PlayOnDisk : {How : Type 0} → (Inst → Core → ℕ → Bool) → (Inst → Core → ℕ → How → Type 0) → (Inst → Core → ℕ → How → State → State → Type 0) → (Inst → Core → ℕ → How → Inst) → (Inst → Core → ℕ → How → Core) → Type 0
PlayOnDisk {How} may Well Left part shared = (count steps blocks : ℕ) (core : Core) (insts : List Inst) (disk : Content) (n : Inst) (number : ℕ) (how : How) (old new : State)
    → Plays count steps blocks core.net.links core.net.masters insts disk → AreFew steps → slice_get insts n.plan.me ≡ Some n → may n core number ≡ true → old.told ≡ Some disk → Well n core number how → Left n core number how old new
    → (later : Content) × (new.told ≡ Some later) × Plays count steps blocks (shared n core number how).net.links core.net.masters (slice_set insts n.plan.me (part n core number how)) later

-- Where the disk's image is granted, it was read; else nothing is. A read that fails ends its instance.
abbrev pub HasRead : Option Message → Installed → Type 0
HasRead (Some (messages.Grant block grant mode true)) (Read (read.Image image)) = Unit {0}
HasRead (Some (messages.Grant block grant mode true)) how = ⊥
HasRead message how = Unit {0}

-- an image is installed that was shipped, that the disk has, or that is held
abbrev pub InstallsPlay : Type 0
InstallsPlay = PlayOnDisk may_install (λ n core from how. HasRead (first_message n core from Main) how) (λ n core from how old new. InstallsAs (first_message n core from Main) how old new) image_installed install_told

-- a dirty block is written, and its master hears of it where it is to
abbrev pub WritesPlay : Type 0
WritesPlay = PlayOnDisk may_write_block (λ n core block how. how ≡ Done) (λ n core block how old new. WritesBlockAs block (bytes_to_write n block) how old new) (λ n core block how. block_written n block how) write_told

-- a checkpoint ends
abbrev pub CheckpointsPlay : Type 0
CheckpointsPlay = PlayOnDisk (λ n core line. may_end_checkpoint n line) (λ n core line how. how ≡ Done) (λ n core line how old new. WritesControlAs n.plan.me (bytes_of_entry (entry_now n)) how old new) (λ n core line how. checkpointed n line how)
    (λ n core line how. checkpoint_told n core line how)

-- undo is asked for that stands in a segment
abbrev pub UndoAsksPlay : Type 0
UndoAsksPlay = PlayOnDisk (λ n core z. may_ask_undo n z) (λ n core z how. HasUndo n core (lacking n z) how) AsksUndoAs asked_undo undo_ask_told

-- redo is forced, of all blocks at once
abbrev pub ForcesPlay : Type 0
ForcesPlay = PlayOnDisk (λ n core number. may_force n core) (λ n core number how. how ≡ Whole) (λ n core number how old new. ForcesAs n.thread n.plan.me how old new) (λ n core number how. forced_as n how)
    (λ n core number how. force_told n core how)

-- Where so few steps were made that grants are left, an instance takes a message for a master: as the master of its block, or by
-- passing it on. A step more was made then.
abbrev pub MasterTakesPlay : Type 0
MasterTakesPlay = (count steps blocks : ℕ) (core : Core) (insts : List Inst) (disk : Content) (n : Inst) (from : ℕ) → Plays count steps blocks core.net.links core.net.masters insts disk → AreFew steps
    → slice_get insts n.plan.me ≡ Some n → may_take_at_master n core from ≡ true
    → Plays count (steps + 1) blocks (master_sent n core from).net.links core.net.masters (slice_set insts n.plan.me (master_taken n core from)) disk

-- What is played after so many steps is played after one more.
abbrev pub StepsMayBeMore : Type 0
StepsMayBeMore = (count steps blocks : ℕ) (core : Core) (insts : List Inst) (disk : Content) → Plays count steps blocks core.net.links core.net.masters insts disk
    → Plays count (steps + 1) blocks core.net.links core.net.masters insts disk

-- What a master sends is sane where the message is and what waits at the entry; so is what waits then.
abbrev pub MastersAreSane : Type 0
MastersAreSane = (message : Message) (made : ℕ → ℕ) (entry : Entry) → IsSane made message → AreSaneWaiting made entry.queue → AreSane made (takes entry message).sends × AreSaneWaiting made (takes entry message).entry.queue

-- A master draws at most three grants for a message.
abbrev pub MastersDrawFew : Type 0
MastersDrawFew = (message : Message) (entry : Entry) → (takes entry message).entry.next_grant ≤ entry.next_grant + 3
