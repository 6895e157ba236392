-- How a dead thread is closed.
use Rattle.std.specs.Prelude.{ℕ, ◌==◌, ◌&&◌, nat_lt, Bool, false, [], find, Some, unwrap_or}
use Rattle.inst_set.specs.Sets.{with_inst}
use Rattle.control_image.specs.declared.entry.ControlEntry.{ControlEntry}
use Rattle.control_image.specs.declared.entry.ThreadStatus.TheVariants as status
use Rattle.control_image.specs.Entry.{entry_bytes}
use Rattle.rac_disk.specs.State.{State}
use Rattle.disk_calls.specs.declared.writes.Written.{Written}
use Rattle.disk_calls.specs.declared.writes.Written.TheVariants as written
use Rattle.disk_calls.specs.Calls.{CutsLogAs, WritesControlAs}
use Rattle.inst_state.specs.declared.inst.Inst.{Inst}
use Rattle.inst_state.specs.declared.inst.ReadThread.{ReadThread}
use Rattle.inst_state.specs.declared.shared.Core.{Core}
use Rattle.inst_state.specs.declared.shared.Recovery.{Recovery}
use Rattle.inst_state.specs.Shared.{with_closed}
use Rattle.inst_loss.specs.declared.ends.Loss.TheVariants as loss
use Rattle.inst_loss.specs.Lost.{lost}
use Rattle.inst_loss.specs.LostCore.{lost_core}
use Rattle.report_steps.specs.Recovering.{are_read, are_rebuilt, is_dead, leads_recovery}
use Rattle.thread_steps.specs.declared.closes.Closing.{Closing}
use Rattle.thread_steps.specs.declared.closes.Closing.TheVariants.{Done, Uncut, Unwritten}
use Rattle.thread_steps.specs.Entries.{scns_of}

-- Each dead thread is read, and all blocks that are to be rebuilt are.
unfoldable pub is_all_rebuilt : Inst → Core → Bool
is_all_rebuilt n core = are_read n core && are_rebuilt n core

-- The leader of a recovery closes a dead thread once all is rebuilt.
abbrev pub may_close : Inst → Core → ℕ → Bool
may_close n core thread = nat_lt thread 8 && leads_recovery n core && is_dead core thread && is_all_rebuilt n core

-- What was read is of this thread.
abbrev pub is_of_thread : ℕ → ReadThread → Bool
is_of_thread thread read = read.thread == thread

-- a thread of which nothing was read
abbrev pub nothing_read : ReadThread
nothing_read = record { thread = 0; records = []; behind = 0; scns = record { scn = 0; known = 0 } }

-- what the leader has read of a thread
abbrev pub read_of : Inst → ℕ → ReadThread
read_of n thread = unwrap_or (find (is_of_thread thread) n.leading.recovering.threads) nothing_read

-- the control entry of a thread that is closed behind its last whole record: it keeps the thread's SCNs
abbrev pub closed_entry : ReadThread → ControlEntry
closed_entry read = record {
  status = status.Closed;
  position = read.behind;
  highest_scn = read.scns.scn;
  highest_end_scn = read.scns.known;
}

-- A log is cut at the position of its closed entry, and then that is written.
pub record CutsAndWrites (thread : ℕ) (entry : ControlEntry) (how : Written) (old new : State) : Type 0 where
  pub mid : State
  pub cuts : CutsLogAs thread entry.position written.Done old mid
  pub writes : WritesControlAs thread (entry_bytes entry) how mid new

-- What a closing left on the disk that went so.
abbrev pub ClosesLogAs : ℕ → ControlEntry → Closing → State → State → Type 0
ClosesLogAs thread entry Uncut old new = CutsLogAs thread entry.position written.Failed old new
ClosesLogAs thread entry Unwritten old new = CutsAndWrites thread entry written.Failed old new
ClosesLogAs thread entry Done old new = CutsAndWrites thread entry written.Done old new

-- what recovery has come to with one thread more that was closed
abbrev pub with_closed_since : Recovery → ℕ → Recovery
with_closed_since recovery thread = record recovery { closed_since = with_inst recovery.closed_since thread }

-- the shared part once a thread was closed: it is known to be, with the SCNs of its entry
abbrev pub with_closing : Core → ℕ → ControlEntry → Core
with_closing core thread entry =
    let closed = with_closed core thread (Some (scns_of entry)) in
    record closed { recovery = with_closed_since closed.recovery thread }

-- the leader after it has closed a thread, or has ended
abbrev pub thread_closed : Inst → Closing → Inst
thread_closed n Done = n
thread_closed n _ = lost n

-- the shared part after the leader has closed a thread by this entry, or has ended
abbrev pub closed_core_as : Inst → Core → ℕ → ControlEntry → Closing → Core
closed_core_as n core thread entry Done = with_closing core thread entry
closed_core_as n core thread entry _ = lost_core n core (loss.Ended false) (Some 0)

-- the shared part after the leader has closed a thread, or has ended
abbrev pub thread_closed_core : Inst → Core → ℕ → Closing → Core
thread_closed_core n core thread how = closed_core_as n core thread (closed_entry (read_of n thread)) how
