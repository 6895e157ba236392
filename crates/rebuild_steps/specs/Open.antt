-- An instance's thread is running again, from the end of its log.
use Rattle.std.specs.Prelude.{ℕ, Bool, true, false, List, [], None, Some, replicate, unwrap_or}
use Rattle.control_image.specs.declared.entry.ControlEntry.{ControlEntry}
use Rattle.control_image.specs.declared.entry.ThreadStatus.TheVariants.{Running}
use Rattle.control_image.specs.Entry.{entry_bytes}
use Rattle.rac_disk.specs.State.{State}
use Rattle.redo_thread.specs.Thread.{ThreadState}
use Rattle.scn_clock.specs.declared.clock.Clock.{Clock}
use Rattle.scn_clock.specs.Clock.{learnt, raised}
use Rattle.disk_calls.specs.declared.writes.Written.{Written}
use Rattle.disk_calls.specs.declared.writes.Written.TheVariants.{Done, Failed}
use Rattle.disk_calls.specs.Calls.{GivesLengthAs, WritesControlAs}
use Rattle.inst_state.specs.declared.inst.Inst.{Inst}
use Rattle.inst_state.specs.declared.shared.Core.{Core}
use Rattle.inst_state.specs.Shared.{closed_of, with_closed}
use Rattle.rebuild_steps.specs.declared.opens.Opened.{Opened}
use Rattle.rebuild_steps.specs.declared.opens.Opened.TheVariants as thread

-- the control entry of a thread that runs from a place on
abbrev pub running_entry : ℕ → Clock → ControlEntry
running_entry length scns =
    record { status = Running; position = length; highest_scn = scns.scn; highest_end_scn = scns.known }

-- the bytes of that entry
unfoldable pub running_bytes : ℕ → Clock → List ℕ
running_bytes length scns = entry_bytes (running_entry length scns)

-- The log of a thread has this length, and the write of its control entry went so.
pub record WritesRunning (me : ℕ) (scns : Clock) (length : ℕ) (how : Written) (old new : State) : Type 0 where
  pub mid : State
  pub asks : GivesLengthAs me (Some length) old mid
  pub writes : WritesControlAs me (running_bytes length scns) how mid new

-- What the opening of a thread left on the disk that went so.
abbrev pub OpensAs : ℕ → Clock → Opened → State → State → Type 0
OpensAs me scns (thread.Running length) old new = WritesRunning me scns length Done old new
OpensAs me scns (thread.Unwritten length) old new = WritesRunning me scns length Failed old new
OpensAs me scns thread.Untold old new = GivesLengthAs me None old new

-- The thread runs.
abbrev pub is_open : Opened → Bool
is_open (thread.Running length) = true
is_open _ = false

-- The SCNs of the control entry that an instance's thread gets: those of its closed entry, where it is known to be closed,
-- else those of the entry that it had.
abbrev pub scns_of : Inst → Core → Clock
scns_of n core = unwrap_or (closed_of core n.plan.me) n.entry_scns

-- a clock that has learnt of another one
abbrev pub learnt_of : Clock → Clock → Clock
learnt_of clock of = learnt (raised clock of.scn) of.known

-- a thread without a record, whose log has this length
abbrev pub empty_thread : ℕ → ℕ → ThreadState
empty_thread me length =
    record { number = me; durable = length; waiting = []; durable_scn = 0; newest_scn = 0 }

-- an instance after the opening of its thread, by the SCNs of its control entry
abbrev pub opened : Inst → Clock → Opened → Inst
opened n scns (thread.Running length) = record n {
  thread = empty_thread n.plan.me length;
  newest = replicate 64 0;
  entry_scns = scns;
  clock = learnt_of n.clock scns;
}
opened n scns _ = n

-- A thread isn't known to be closed any more once its control entry was given to the disk to be written.
abbrev pub opened_core : Core → ℕ → Opened → Core
opened_core core me thread.Untold = core
opened_core core me _ = with_closed core me None
