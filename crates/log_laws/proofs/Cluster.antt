-- What of a cluster tells of its logs, and what holds of it.
use Rattle.std.proofs.Common.{◌≡◌, ℕ, ◌+◌, ◌^◌, ◌<◌, ◌≤◌, ◌&&◌, not, Bool, true, false, List, [], ◌++◌, length, take, Option, Some, None, slice_get}
use Rattle.std.specs.Prelude.{is_some, slice_index_or, slice_set}
use Rattle.std.specs.List.{AllByRecursion}
use Rattle.inst_set.specs.declared.set.InstSet.{InstSet}
use Rattle.inst_set.specs.Sets.{has, with_inst, without_inst}
use Rattle.recovery.specs.Members.{next_epoch, phase_of}
use Rattle.rac_disk.specs.Content.{Content, LogState, no_log}
use Rattle.redo_thread.specs.Thread.{ThreadState}
use Rattle.scn_clock.specs.declared.clock.Clock.{Clock}
use Rattle.recovery.specs.declared.members.Phase.{Phase}
use Rattle.recovery.specs.declared.members.Phase.TheVariants as phase
use Rattle.control_image.specs.declared.entry.ControlEntry.{ControlEntry}
use Rattle.control_image.specs.declared.entry.ThreadStatus.TheVariants.{Closed, Running}
use Rattle.control_image.specs.Entry.{entry_bytes}
use Rattle.inst_state.specs.declared.inst.Inst.{Inst}
use Rattle.inst_state.specs.declared.inst.ReadThread.{ReadThread}
use Rattle.inst_state.specs.declared.shared.Core.{Core}
use Rattle.inst_state.specs.State.{is_up}
use Rattle.inst_loss.specs.Lost.{lost_thread}
use Rattle.log_history.specs.Logs.{IsRight}
use Rattle.log_laws.specs.Logs.{IsWhole}
use Rattle.log_laws.proofs.Places.{places_of}

-- what the instances share that tells of the logs
pub record Shared : Type 0 where
  pub instances : ℕ
  pub live : InstSet
  pub phase : Phase
  pub epoch : ℕ
  pub former : InstSet
  pub closed : List (Option Clock)

-- what an instance has that tells of the logs
pub record Own : Type 0 where
  pub me : ℕ
  pub thread : ThreadState
  pub places : List ℕ
  pub up : Bool
  pub adopts : ℕ
  pub epoch : ℕ
  pub reads : List ReadThread

-- what the disk has of the threads
pub record Files : Type 0 where
  pub logs : List LogState
  pub controls : List (List ℕ)

abbrev pub shared_of : Core → Shared
shared_of core = record {
  instances = core.layout.instances;
  live = core.members.live;
  phase = core.members.phase;
  epoch = core.members.epoch;
  former = core.recovery.former;
  closed = core.recovery.closed;
}

abbrev pub own_of : Inst → Own
own_of n = record {
  me = n.plan.me;
  thread = n.thread;
  places = places_of n;
  up = is_up n.life;
  adopts = length n.leading.adopted;
  epoch = n.leading.recovering.epoch;
  reads = n.leading.recovering.threads;
}

abbrev pub files_of : Content → Files
files_of it = record { logs = it.logs; controls = it.controls }

abbrev pub log_in : Files → ℕ → List ℕ
log_in f t = (slice_index_or f.logs t no_log).bytes

abbrev pub control_in : Files → ℕ → List ℕ
control_in f t = slice_index_or f.controls t []

abbrev pub open_in : Shared → ℕ → Bool
open_in s t = has s.live t && not (has s.former t)

abbrev pub known_in : Shared → ℕ → Bool
known_in s t = is_some (slice_index_or s.closed t None)

-- the files with these bytes as a thread's log
abbrev pub put_log : Files → ℕ → List ℕ → Files
put_log f t bytes = record f { logs = slice_set f.logs t (record { bytes = bytes; room = (slice_index_or f.logs t no_log).room }) }

-- the files with these bytes in a thread's control entry
abbrev pub put_control : Files → ℕ → List ℕ → Files
put_control f t bytes = record f { controls = slice_set f.controls t bytes }

-- what an instance has that has ended
abbrev pub lost_own : Own → Own
lost_own o = record { me = o.me; thread = lost_thread o.me o.thread; places = []; up = false; adopts = 0; epoch = 0; reads = [] }

-- the membership once an instance isn't live any more
abbrev pub left : Shared → ℕ → Shared
left s i = record s {
  live = without_inst s.live i;
  phase = phase_of (without_inst s.live i);
  epoch = next_epoch s.epoch;
  former = without_inst s.former i;
}

-- the membership once an instance is live
abbrev pub come : Shared → ℕ → Shared
come s i = record s { live = with_inst s.live i; phase = phase_of (with_inst s.live i); epoch = next_epoch s.epoch }

-- what is known of a thread's being closed
abbrev pub telling_closed : Shared → ℕ → Option Clock → Shared
telling_closed s t scns = record s { closed = slice_set s.closed t scns }

-- The phase is Running or Thawed.
abbrev pub is_settled : Phase → Bool
is_settled phase.Running = true
is_settled phase.Thawed = true
is_settled _ = false

-- The control entry of a thread with this log, which is open or not.
pub record EntryIs (log control : List ℕ) (opened : Bool) : Type 0 where
  pub entry : ControlEntry
  pub bytes : control ≡ entry_bytes entry
  pub small : entry.position < 256 ^ 8
  pub closed : entry.status ≡ Closed → (opened ≡ false) × IsWhole log
  pub running : entry.status ≡ Running → IsWhole (take entry.position log)
  pub within : opened ≡ true → entry.position ≤ length log

-- The log and the control entry of a thread, which is open or not, and known to be closed or not.
pub record Thread (log control : List ℕ) (opened is_known : Bool) : Type 0 where
  pub right : IsRight log
  pub short : length log < 2 ^ 63
  pub known : is_known ≡ true → (opened ≡ false) × IsWhole log
  pub entry : EntryIs log control opened

-- An instance is the only live one, and the phase is Frozen.
pub record Alone (s : Shared) (i : ℕ) : Type 0 where
  pub frozen : s.phase ≡ phase.Frozen
  pub live : has s.live i ≡ true
  pub alone : (j : ℕ) → has s.live j ≡ true → j ≡ i

-- Who is in the cluster.
pub record Members (s : Shared) : Type 0 where
  pub few : s.instances ≤ 8
  pub sizes : (length s.live.present ≡ 8) × (length s.former.present ≡ 8)
  pub dark : s.phase ≡ phase.Dark → (i : ℕ) → has s.live i ≡ false
  pub former : (i : ℕ) → has s.former i ≡ true → Alone s i
  pub settled : is_settled s.phase ≡ true → (i : ℕ) → i < s.instances → has s.live i ≡ false → known_in s i ≡ true

-- A place is the end of one of these whole records, or their beginning.
pub record IsEndIn (bytes : List ℕ) (place : ℕ) : Type 0 where
  pub within : place ≤ length bytes
  pub whole : IsWhole (take place bytes)

-- The log is whole records, also with what waits behind it.
pub record LogOf (log : List ℕ) (i : ℕ) (thread : ThreadState) : Type 0 where
  pub durable : thread.durable ≡ length log
  pub behind : IsWhole log
  pub whole : IsWhole (log ++ thread.waiting)
  pub short : length log + length thread.waiting < 2 ^ 63

-- An instance whose thread isn't open does nothing that makes redo.
pub record Idle (o : Own) : Type 0 where
  pub up : o.up ≡ false
  pub none : o.adopts ≡ 0
  pub empty : o.thread.waiting ≡ []
  pub places : o.places ≡ []

-- A thread was read up to the end of a record, unless it is open again.
abbrev pub ReadOf : Shared → Files → ReadThread → Type 0
ReadOf s f r = (r.behind < 256 ^ 8) × (open_in s r.thread ≡ false → IsWhole (take r.behind (log_in f r.thread)))

-- What an instance has.
pub record AtOwn (s : Shared) (f : Files) (i : ℕ) (o : Own) : Type 0 where
  pub names : (o.me ≡ i) × (o.thread.number ≡ i)
  pub log : open_in s i ≡ true → LogOf (log_in f i) i o.thread
  pub places : open_in s i ≡ true → AllByRecursion (IsEndIn (log_in f i ++ o.thread.waiting)) o.places
  pub idle : open_in s i ≡ false → Idle o
  pub epoch : o.epoch ≤ s.epoch
  pub reads : o.epoch ≡ s.epoch → AllByRecursion (ReadOf s f) o.reads

abbrev pub ThreadAt : Shared → Files → ℕ → Type 0
ThreadAt s f t = Thread (log_in f t) (control_in f t) (open_in s t) (known_in s t)

-- What holds of a cluster's logs.
pub record Logs (s : Shared) (owns : List Own) (f : Files) : Type 0 where
  pub count : length owns ≡ s.instances
  pub members : Members s
  pub sizes : (length f.logs ≡ 8) × (length f.controls ≡ 8)
  pub threads : (t : ℕ) → t < 8 → ThreadAt s f t
  pub each : (i : ℕ) (o : Own) → slice_get owns i ≡ Some o → AtOwn s f i o
