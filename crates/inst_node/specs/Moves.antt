-- What a step leaves, by its kind.
use Rattle.std.specs.Prelude.{◌≡◌, ℕ, ◌+◌, ◌-◌, ◌^◌, min, if◌then◌else◌, Bool, true, false, List, [], ◌∷◌, ◌++◌}
use Rattle.journal.specs.declared.entry.Entry.{Entry}
use Rattle.inst_set.specs.declared.set.InstSet.{InstSet}
use Rattle.inst_set.specs.Sets.{with_inst}
use Rattle.rac_disk.specs.State.{State}
use Rattle.wire_net.specs.declared.message.Lane.TheVariants.{Main, Undo}
use Rattle.disk_calls.specs.Calls.{WritesBlockAs, WritesControlAs}
use Rattle.disk_calls.specs.declared.appends.Appended.{Appended}
use Rattle.disk_calls.specs.declared.appends.Appended.TheVariants.{Whole}
use Rattle.disk_calls.specs.declared.writes.Written.{Written}
use Rattle.disk_calls.specs.declared.writes.Written.TheVariants as written
use Rattle.inst_state.specs.declared.inst.Inst.{Inst}
use Rattle.inst_state.specs.declared.shared.Core.{Core}
use Rattle.inst_state.specs.Shared.{is_thawed}
use Rattle.stmt_steps.specs.Back.{back_tells, dead_back_tells, dead_stepped_back, stepped_back}
use Rattle.stmt_steps.specs.Change.{change_tells, changed}
use Rattle.stmt_steps.specs.End.{end_tells, ended}
use Rattle.stmt_steps.specs.Mark.{dead_mark_tells, dead_marked, mark_tells, marked}
use Rattle.stmt_steps.specs.Start.{start_tells, started}
use Rattle.stmt_steps.specs.Visit.{visit_tells, visited}
use Rattle.wave_steps.specs.Answers.{acked, acked_core}
use Rattle.wave_steps.specs.Buckets.{bucket_kept, bucket_sent, bucket_sent_core, bucket_taken, bucket_taken_core}
use Rattle.wave_steps.specs.Enter.{entered, entered_core}
use Rattle.wave_steps.specs.News.{broadcast, broadcast_core, heard_core}
use Rattle.wave_steps.specs.News.{heard as news_heard}
use Rattle.wave_steps.specs.WaveEnd.{left, risen, skipped}
use Rattle.image_steps.specs.Ask.{ask_sent, asked}
use Rattle.image_steps.specs.AskWrite.{write_asked, write_plea_sent}
use Rattle.image_steps.specs.DropPast.{past_dropped, past_sent}
use Rattle.image_steps.specs.Evict.{evict_sent, evicted}
use Rattle.image_steps.specs.Hear.{heard, hears}
use Rattle.image_steps.specs.Invalidate.{invalidate_sent, invalidated}
use Rattle.image_steps.specs.MasterTake.{master_sent, master_taken}
use Rattle.image_steps.specs.ServeCopy.{copy_sent}
use Rattle.image_steps.specs.ServeUndo.{undo_sent}
use Rattle.image_steps.specs.Ship.{ship_sent, shipped}
use Rattle.image_steps.specs.TakeCopy.{copy_taken}
use Rattle.inst_loss.specs.Lost.{lost}
use Rattle.inst_loss.specs.LostCore.{lost_core}
use Rattle.inst_loss.specs.declared.ends.Loss.TheVariants as loss
use Rattle.std.specs.Prelude.{Some}
use Rattle.disk_steps.specs.AskUndo.{AsksUndoAs, asked_undo, undo_ask_told}
use Rattle.disk_steps.specs.Checkpoint.{bytes_of_entry, checkpoint_told, checkpointed, entry_now}
use Rattle.disk_steps.specs.Crash.{CrashesAs, crash_told, crashed}
use Rattle.disk_steps.specs.Force.{ForcesAs, force_told, forced_as}
use Rattle.disk_steps.specs.Install.{InstallsAs, image_installed, install_told}
use Rattle.disk_steps.specs.Write.{block_written, bytes_to_write, write_told}
use Rattle.disk_steps.specs.declared.crashes.Kept.{Kept}
use Rattle.disk_steps.specs.declared.crashes.Kept.TheVariants as kept
use Rattle.disk_steps.specs.declared.installs.Installed.{Installed}
use Rattle.disk_steps.specs.declared.installs.Installed.TheVariants as installed
use Rattle.disk_steps.specs.declared.undo_asks.AskedUndo.{AskedUndo}
use Rattle.disk_steps.specs.declared.undo_asks.AskedUndo.TheVariants as asked_for
use Rattle.image_steps.specs.Hear.{first_message}
use Rattle.report_steps.specs.Reopen.{reopened, reopened_core, resumed, resumed_core}
use Rattle.report_steps.specs.Report.{given, reported, reported_core}
use Rattle.report_steps.specs.TakeOver.{taken_over}
use Rattle.thread_steps.specs.Close.{ClosesLogAs, closed_entry, read_of, thread_closed, thread_closed_core}
use Rattle.thread_steps.specs.Found.{FindsThread}
use Rattle.thread_steps.specs.Read.{thread_read, thread_read_core}
use Rattle.thread_steps.specs.declared.closes.Closing.{Closing}
use Rattle.thread_steps.specs.declared.closes.Closing.TheVariants as closing
use Rattle.thread_steps.specs.declared.found.Found.{Found}
use Rattle.thread_steps.specs.declared.found.Found.TheVariants as found
use Rattle.rebuild_steps.specs.Join.{JoinsAs, joined, joined_core}
use Rattle.rebuild_steps.specs.Recover.{RecoversAs, recovered, recovered_core}
use Rattle.rebuild_steps.specs.Thaw.{ThawsAs, thawed, thawed_core}
use Rattle.inst_node.specs.declared.hows.How.{How}
use Rattle.inst_node.specs.declared.hows.How.TheVariants as how
use Rattle.inst_node.specs.declared.actions.Action.{Action}
use Rattle.inst_node.specs.declared.actions.Action.TheVariants.{Block, Dead, Inst as OfInst, Line, Plain, Session}
use Rattle.inst_node.specs.declared.actions.BlockStep.{BlockStep}
use Rattle.inst_node.specs.declared.actions.BlockStep.TheVariants as block
use Rattle.inst_node.specs.declared.actions.DeadStep.{DeadStep}
use Rattle.inst_node.specs.declared.actions.DeadStep.TheVariants as dead
use Rattle.inst_node.specs.declared.actions.InstStep.{InstStep}
use Rattle.inst_node.specs.declared.actions.InstStep.TheVariants as inst
use Rattle.inst_node.specs.declared.actions.LineStep.{LineStep}
use Rattle.inst_node.specs.declared.actions.LineStep.TheVariants as line
use Rattle.inst_node.specs.declared.actions.PlainStep.{PlainStep}
use Rattle.inst_node.specs.declared.actions.PlainStep.TheVariants as plain
use Rattle.inst_node.specs.declared.actions.SessionStep.{SessionStep}
use Rattle.inst_node.specs.declared.actions.SessionStep.TheVariants as session
use Rattle.inst_node.specs.declared.allowed.Class.{Class}
use Rattle.inst_node.specs.declared.allowed.Class.TheVariants.{Always, Leading, Local, Running, Serving, Settling}
use Rattle.inst_node.specs.Allowed.{kind_class}

-- A step that is neither local nor made in every phase comes after the instance has taken over what a Thaw made.
abbrev pub comes_after_thaw : Class → Bool
comes_after_thaw Local = false
comes_after_thaw Always = false
comes_after_thaw _ = true

-- an instance that has taken over what a Thaw made, where it has to
abbrev pub prepared_if : Bool → Bool → Inst → Core → Inst
prepared_if false thawed n core = n
prepared_if true false n core = n
prepared_if true true n core = taken_over n core

-- an instance that is ready for a step: its new directory, grants and roles are taken over before the first step that needs them
unfoldable pub prepared : Inst → Core → Action → Inst
prepared n core action = prepared_if (comes_after_thaw (kind_class action)) (is_thawed core.members.phase) n core

-- The step is a Mark.
abbrev pub is_mark : Action → Bool
is_mark (Session session.Mark z) = true
is_mark (Dead dead.Mark job) = true
is_mark _ = false

-- the instances that have made a Mark in the wave, with one more if it makes one
abbrev pub marked_by : InstSet → ℕ → Bool → InstSet
marked_by marked me true = with_inst marked me
marked_by marked me false = marked

-- the shared part with one more step of an instance counted
unfoldable pub counted : Core → ℕ → Action → Core
counted core me action = record core {
  waves = record core.waves {
    steps = min (core.waves.steps + 1) (2 ^ 64 - 1);
    marked = marked_by core.waves.marked me (is_mark action);
  };
}

-- the shared part with entries more, the newest first
abbrev pub telling : Core → List Entry → Core
telling core entries = record core { journal = entries ++ core.journal }

-- how the ask for undo of a step went
abbrev pub asked_undo_of : How → AskedUndo
asked_undo_of (how.AskedUndo it) = it
asked_undo_of _ = asked_for.Calm

-- how the write of a step went
abbrev pub written_of : How → Written
written_of (how.Written it) = it
written_of _ = written.Done

-- how the force of a step went
abbrev pub forced_of : How → Appended
forced_of (how.Forced it) = it
forced_of _ = Whole

-- how the crash of a step went
abbrev pub crashed_of : How → Kept
crashed_of (how.Crashed it) = it
crashed_of _ = kept.Nothing

-- how the Install of a step went
abbrev pub installed_of : How → Installed
installed_of (how.Installed it) = it
installed_of _ = installed.Calm

-- how the close of a thread went
abbrev pub closing_of : How → Closing
closing_of (how.Closed it) = it
closing_of _ = closing.Done

-- what a ReadThread found
abbrev pub found_of : How → Found
found_of (how.ReadThread it) = it.value
found_of _ = found.Unread false

-- an instance after a block was recovered, as its calls went
abbrev pub recovered_by : Inst → Core → ℕ → How → Inst
recovered_by n core number (how.Recovered it) = recovered n core number it
recovered_by n core number _ = n

-- the shared part after a block was recovered
abbrev pub recovered_core_by : Inst → Core → ℕ → How → Core
recovered_core_by n core number (how.Recovered it) = recovered_core n core number it
recovered_core_by n core number _ = core

-- what the recovery of a block left on the disk
abbrev pub RecoveredAs : Inst → Core → ℕ → How → State → State → Type 0
RecoveredAs n core number (how.Recovered it) old new = RecoversAs n core number it old new
RecoveredAs n core number _ old new = ⊥

-- an instance after a Join, as its calls went
abbrev pub joined_by : Inst → Core → ℕ → How → Inst
joined_by n core number (how.Joined it) = joined n core number it
joined_by n core number _ = n

-- the shared part after a Join
abbrev pub joined_core_by : Inst → Core → ℕ → How → Core
joined_core_by n core number (how.Joined it) = joined_core n core number it
joined_core_by n core number _ = core

-- what a Join left on the disk
abbrev pub JoinedAs : Inst → Core → How → State → State → Type 0
JoinedAs n core (how.Joined it) old new = JoinsAs n core it old new
JoinedAs n core _ old new = ⊥

-- an instance after a Thaw, as its calls went
abbrev pub thawed_by : Inst → Core → How → Inst
thawed_by n core (how.Thawed it) = thawed n core it
thawed_by n core _ = n

-- the shared part after a Thaw
abbrev pub thawed_core_by : Inst → Core → How → Core
thawed_core_by n core (how.Thawed it) = thawed_core n core it
thawed_core_by n core _ = core

-- what a Thaw left on the disk
abbrev pub ThawedAs : Inst → Core → How → State → State → Type 0
ThawedAs n core (how.Thawed it) old new = ThawsAs n core it old new
ThawedAs n core _ old new = ⊥

-- an instance after a step for a session's line
unfoldable pub session_part : Inst → Core → SessionStep → ℕ → How → Inst
session_part n core session.StartStmt z it = started n z
session_part n core session.Visit z it = visited n z
session_part n core session.Change z it = changed n z
session_part n core session.Mark z it = marked n z
session_part n core session.StepBack z it = stepped_back n z
session_part n core session.EndStmt z it = ended n z
session_part n core session.AskUndo z it = asked_undo n core z (asked_undo_of it)
session_part n core session.Broadcast z it = broadcast n core z
session_part n core session.Ack z it = acked n z

-- the shared part after a step for a session's line
unfoldable pub session_core : Inst → Core → SessionStep → ℕ → How → Core
session_core n core session.StartStmt z it = telling core (start_tells n z ∷ [])
session_core n core session.Visit z it = telling core (visit_tells n z)
session_core n core session.Change z it = telling core (change_tells n z)
session_core n core session.Mark z it = telling core (mark_tells n z)
session_core n core session.StepBack z it = telling core (back_tells n z)
session_core n core session.EndStmt z it = telling core (end_tells n z)
session_core n core session.AskUndo z it = undo_ask_told n core z (asked_undo_of it)
session_core n core session.Broadcast z it = broadcast_core n core z
session_core n core session.Ack z it = acked_core n core z

-- what a step for a session's line left on the disk
unfoldable pub SessionDisk : Inst → Core → SessionStep → ℕ → How → State → State → Type 0
SessionDisk n core session.AskUndo z it old new = AsksUndoAs n core z (asked_undo_of it) old new
SessionDisk n core kind z it old new = new ≡ old

-- an instance after a step for the dead transaction
unfoldable pub dead_part : Inst → DeadStep → Inst
dead_part n dead.Mark = dead_marked n
dead_part n dead.StepBack = dead_stepped_back n
dead_part n dead.AskUndo = lost n

-- the shared part after a step for the dead transaction
unfoldable pub dead_core : Inst → Core → DeadStep → Core
dead_core n core dead.Mark = telling core (dead_mark_tells n)
dead_core n core dead.StepBack = telling core (dead_back_tells n)
dead_core n core dead.AskUndo = lost_core n core (loss.Ended true) (Some 0)

-- an instance after a step with a block
unfoldable pub block_part : Inst → Core → BlockStep → ℕ → How → Inst
block_part n core block.Ask number it = asked n number
block_part n core block.Evict number it = evicted n number
block_part n core block.WriteBlock number it = block_written n number (written_of it)
block_part n core block.AskWrite number it = write_asked n number
block_part n core block.GivePast number it = n
block_part n core block.RecoverBlock number it = recovered_by n core number it

-- the shared part after a step with a block
unfoldable pub block_core : Inst → Core → BlockStep → ℕ → How → Core
block_core n core block.Ask number it = ask_sent n core number
block_core n core block.Evict number it = evict_sent n core number
block_core n core block.WriteBlock number it = write_told n core number (written_of it)
block_core n core block.AskWrite number it = write_plea_sent n core number
block_core n core block.GivePast number it = given n core number
block_core n core block.RecoverBlock number it = recovered_core_by n core number it

-- what a step with a block left on the disk
unfoldable pub BlockDisk : Inst → Core → BlockStep → ℕ → How → State → State → Type 0
BlockDisk n core block.WriteBlock number it old new = WritesBlockAs number (bytes_to_write n number) (written_of it) old new
BlockDisk n core block.RecoverBlock number it old new = RecoveredAs n core number it old new
BlockDisk n core kind number it old new = new ≡ old

-- an instance after a step with what came from an instance, or with its thread
unfoldable pub inst_part : Inst → Core → InstStep → ℕ → How → Inst
inst_part n core inst.MasterTake from it = master_taken n core from
inst_part n core inst.Invalidate from it = invalidated n core from
inst_part n core inst.Ship from it = shipped n core from
inst_part n core inst.ServeCopy from it = hears n core from Main
inst_part n core inst.DropPast from it = past_dropped n core from
inst_part n core inst.Install from it = image_installed n core from (installed_of it)
inst_part n core inst.TakeCopy from it = copy_taken n core from Main
inst_part n core inst.TakeUndo from it = copy_taken n core from Undo
inst_part n core inst.ServeUndo from it = hears n core from Undo
inst_part n core inst.Heard from it = news_heard n core from
inst_part n core inst.TakeBucket from it = bucket_taken n core from
inst_part n core inst.ReadThread thread it = thread_read n core (found_of it)
inst_part n core inst.CloseThread thread it = thread_closed n (closing_of it)

-- the shared part after a step with what came from an instance, or with its thread
unfoldable pub inst_core : Inst → Core → InstStep → ℕ → How → Core
inst_core n core inst.MasterTake from it = master_sent n core from
inst_core n core inst.Invalidate from it = invalidate_sent n core from
inst_core n core inst.Ship from it = ship_sent n core from
inst_core n core inst.ServeCopy from it = copy_sent n core from
inst_core n core inst.DropPast from it = past_sent n core from
inst_core n core inst.Install from it = install_told n core from (installed_of it)
inst_core n core inst.TakeCopy from it = heard n core from Main
inst_core n core inst.TakeUndo from it = heard n core from Undo
inst_core n core inst.ServeUndo from it = undo_sent n core from
inst_core n core inst.Heard from it = heard_core n core from
inst_core n core inst.TakeBucket from it = bucket_taken_core n core from
inst_core n core inst.ReadThread thread it = thread_read_core n core thread (found_of it)
inst_core n core inst.CloseThread thread it = thread_closed_core n core thread (closing_of it)

-- what a step with what came from an instance, or with its thread, left on the disk
unfoldable pub InstDisk : Inst → Core → InstStep → ℕ → How → State → State → Type 0
InstDisk n core inst.Install from it old new = InstallsAs (first_message n core from Main) (installed_of it) old new
InstDisk n core inst.ReadThread thread it old new = FindsThread core.layout thread (found_of it) old new
InstDisk n core inst.CloseThread thread it old new = ClosesLogAs thread (closed_entry (read_of n thread)) (closing_of it) old new
InstDisk n core kind from it old new = new ≡ old

-- an instance after a step for a control line
unfoldable pub line_part : Inst → Core → LineStep → ℕ → How → Inst
line_part n core line.Crash number it = crashed n core number
line_part n core line.SendBucket number it = bucket_sent n core number
line_part n core line.KeepBucket number it = n
line_part n core line.Checkpoint number it = checkpointed n number (written_of it)
line_part n core line.Skip number it = n
line_part n core line.Join number it = joined_by n core number it

-- the shared part after a step for a control line
unfoldable pub line_core : Inst → Core → LineStep → ℕ → How → Core
line_core n core line.Crash number it = crash_told n core number (crashed_of it)
line_core n core line.SendBucket number it = bucket_sent_core n core number
line_core n core line.KeepBucket number it = bucket_kept core number
line_core n core line.Checkpoint number it = checkpoint_told n core number (written_of it)
line_core n core line.Skip number it = skipped core number
line_core n core line.Join number it = joined_core_by n core number it

-- what a step for a control line left on the disk
unfoldable pub LineDisk : Inst → Core → LineStep → ℕ → How → State → State → Type 0
LineDisk n core line.Crash number it old new = CrashesAs n core number (crashed_of it) old new
LineDisk n core line.Checkpoint number it old new = WritesControlAs n.plan.me (bytes_of_entry (entry_now n)) (written_of it) old new
LineDisk n core line.Join number it old new = JoinedAs n core it old new
LineDisk n core kind number it old new = new ≡ old

-- an instance after a step about it alone
unfoldable pub plain_part : Inst → Core → PlainStep → How → Inst
plain_part n core plain.Enter it = entered n core
plain_part n core plain.Force it = forced_as n (forced_of it)
plain_part n core plain.Report it = reported n
plain_part n core plain.Thaw it = thawed_by n core it
plain_part n core plain.Reopen it = reopened n
plain_part n core plain.Resume it = resumed n core
plain_part n core plain.Leave it = n
plain_part n core plain.Wave it = n

-- the shared part after a step about an instance alone
unfoldable pub plain_core : Inst → Core → PlainStep → How → Core
plain_core n core plain.Enter it = entered_core n core
plain_core n core plain.Force it = force_told n core (forced_of it)
plain_core n core plain.Report it = reported_core n core
plain_core n core plain.Thaw it = thawed_core_by n core it
plain_core n core plain.Reopen it = reopened_core core
plain_core n core plain.Resume it = resumed_core n core
plain_core n core plain.Leave it = left n core
plain_core n core plain.Wave it = risen core

-- what a step about an instance alone left on the disk
unfoldable pub PlainDisk : Inst → Core → PlainStep → How → State → State → Type 0
PlainDisk n core plain.Force it old new = ForcesAs n.thread n.plan.me (forced_of it) old new
PlainDisk n core plain.Thaw it old new = ThawedAs n core it old new
PlainDisk n core kind it old new = new ≡ old

-- an instance after a step, by what it is about
abbrev pub part_of : Inst → Core → Action → How → Inst
part_of n core (Session kind z) it = session_part n core kind z it
part_of n core (Dead kind job) it = dead_part n kind
part_of n core (Block kind number) it = block_part n core kind number it
part_of n core (OfInst kind from) it = inst_part n core kind from it
part_of n core (Line kind number) it = line_part n core kind number it
part_of n core (Plain kind) it = plain_part n core kind it

-- the shared part after a step, by what it is about
abbrev pub core_of : Inst → Core → Action → How → Core
core_of n core (Session kind z) it = session_core n core kind z it
core_of n core (Dead kind job) it = dead_core n core kind
core_of n core (Block kind number) it = block_core n core kind number it
core_of n core (OfInst kind from) it = inst_core n core kind from it
core_of n core (Line kind number) it = line_core n core kind number it
core_of n core (Plain kind) it = plain_core n core kind it

-- what a step left on the disk, by what it is about
abbrev pub DiskOf : Inst → Core → Action → How → State → State → Type 0
DiskOf n core (Session kind z) it old new = SessionDisk n core kind z it old new
DiskOf n core (Dead kind job) it old new = new ≡ old
DiskOf n core (Block kind number) it old new = BlockDisk n core kind number it old new
DiskOf n core (OfInst kind from) it old new = InstDisk n core kind from it old new
DiskOf n core (Line kind number) it old new = LineDisk n core kind number it old new
DiskOf n core (Plain kind) it old new = PlainDisk n core kind it old new

-- an instance after a step
abbrev pub part_after : Inst → Core → Action → How → Inst
part_after n core action it = part_of (prepared n core action) (counted core n.plan.me action) action it

-- the shared part after a step
abbrev pub core_after : Inst → Core → Action → How → Core
core_after n core action it = core_of (prepared n core action) (counted core n.plan.me action) action it

-- What a step left on the disk.
abbrev pub DiskAfter : Inst → Core → Action → How → State → State → Type 0
DiskAfter n core action it old new = DiskOf (prepared n core action) (counted core n.plan.me action) action it old new
