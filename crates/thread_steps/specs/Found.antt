-- What a read of a dead thread found, and what the disk holds of it.
use Rattle.std.specs.Prelude.{◌≡◌, ℕ, ◌+◌, ◌⊎◌, if◌then◌else◌, Bool, true, false, not, List, fold, length}
use Rattle.std.specs.List.{list_all}
use Rattle.base_types.specs.declared.layout.Layout.{Layout}
use Rattle.redo_types.specs.declared.redo.Redo.{Redo}
use Rattle.redo_types.specs.declared.redo.RedoKind.{RedoKind}
use Rattle.redo_types.specs.declared.redo.RedoKind.TheVariants.{Commit, RollbackEnd}
use Rattle.redo_record.specs.Front.{log_bytes}
use Rattle.rac_disk.specs.Content.{Content}
use Rattle.rac_disk.specs.State.{State}
use Rattle.scn_clock.specs.declared.clock.Clock.{Clock}
use Rattle.scn_clock.specs.Clock.{learnt, raised}
use Rattle.control_image.specs.declared.entry.ControlEntry.{ControlEntry}
use Rattle.control_image.specs.declared.entry.ThreadStatus.TheVariants as status
use Rattle.thread_steps.specs.declared.found.Found.{Found}
use Rattle.thread_steps.specs.declared.found.Found.TheVariants.{Closed, Stopped, Unread, Whole}
use Rattle.thread_steps.specs.declared.found.FoundLog.{FoundLog}
use Rattle.thread_steps.specs.declared.read_error.ReadError.{ReadError}
use Rattle.thread_steps.specs.declared.read_error.ReadError.TheVariants as why
use Rattle.thread_steps.specs.Entries.{HasBadEntry, HasEntry, scns_of}
use Rattle.thread_steps.specs.Observes.{Observes}
use Rattle.thread_steps.specs.Records.{AreRecords, has_small_scn, log_from}
use Rattle.thread_steps.specs.Versions.{HasBadOne, HaveVersions, named_blocks}

-- A record is the end of a transaction.
abbrev pub is_end : RedoKind → Bool
is_end Commit = true
is_end RollbackEnd = true
is_end _ = false

-- the highest SCN and the highest SCN of an end, with those of one record more
abbrev pub with_redo : Clock → Redo → Clock
with_redo scns redo = if is_end redo.kind then learnt scns redo.scn else raised scns redo.scn

-- The log of a thread that was read from the position of its control entry on: the SCNs are those of the entry and of the
-- records, and the place behind the records is kept.
abbrev pub found_log : ℕ → ControlEntry → List Redo → FoundLog
found_log thread entry records = record {
  position = entry.position;
  read = record {
    thread = thread;
    records = records;
    behind = entry.position + length (log_bytes records);
    scns = fold with_redo (scns_of entry) records;
  };
}

-- A call failed as a thread was read.
abbrev pub fails : Found → Bool
fails (Closed scns) = false
fails (Unread bad) = not bad
fails (Stopped log bad) = not bad
fails (Whole log versions) = false

-- Each record of a thread has an SCN that a run may have come to.
abbrev pub are_small : List Redo → Bool
are_small records = list_all has_small_scn records

-- why the read of a thread's records ended before it was whole: a block isn't what it is to be, or a call failed
abbrev pub StopsFor : Layout → List Redo → Bool → Content → Type 0
StopsFor layout records true it = HasBadOne layout (named_blocks records) it
StopsFor layout records false it = Unit {0}

-- The versions were read of the blocks that the records of a log name, or not.
abbrev pub VersionsAs : Layout → FoundLog → Found → Content → Type 0
VersionsAs layout log (Closed scns) it = ⊥
VersionsAs layout log (Unread bad) it = ⊥
VersionsAs layout log (Stopped same bad) it = (same ≡ log) × StopsFor layout log.read.records bad it
VersionsAs layout log (Whole same versions) it = (same ≡ log) × HaveVersions layout (named_blocks log.read.records) versions it

-- The records of a log's bytes aren't all that a run may have left there: what stands behind them is bad, or one has an SCN
-- that no run comes near.
pub record AreBad (bytes : List ℕ) (records : List Redo) : Type 0 where
  pub bad : Bool
  pub are : AreRecords bytes records bad
  pub why : (bad ≡ true) ⊎ (are_small records ≡ false)

-- The records of a log's bytes are such that a run may have left them.
pub record AreGood (bytes : List ℕ) (records : List Redo) : Type 0 where
  pub are : AreRecords bytes records false
  pub small : are_small records ≡ true

-- The records in a log's bytes were read, and the versions of the blocks that they name, or not.
abbrev pub HoldsRecords : Layout → ℕ → ControlEntry → List ℕ → Found → Content → Type 0
HoldsRecords layout thread entry bytes (Closed scns) it = ⊥
HoldsRecords layout thread entry bytes (Unread bad) it = ⊥
HoldsRecords layout thread entry bytes (Stopped log bad) it =
    (log ≡ found_log thread entry log.read.records)
    × (((bad ≡ true) × AreBad bytes log.read.records) ⊎ (AreGood bytes log.read.records × StopsFor layout log.read.records bad it))
HoldsRecords layout thread entry bytes (Whole log versions) it =
    (log ≡ found_log thread entry log.read.records) × AreGood bytes log.read.records
    × HaveVersions layout (named_blocks log.read.records) versions it

-- A thread that is running by its control entry was read, or not.
abbrev pub RunsAs : Layout → ℕ → ControlEntry → Found → Content → Type 0
RunsAs layout thread entry (Unread bad) it = bad ≡ false
RunsAs layout thread entry found it = HoldsRecords layout thread entry (log_from thread entry.position it) found it

-- what is found where nothing of a log was read
abbrev pub FoundFor : ReadError → Found → Type 0
FoundFor why.Failed found = found ≡ Unread false
FoundFor why.Bad found = found ≡ Unread true
FoundFor why.NoMemory found = ⊥

-- Nothing was read of a thread since a call failed, or since its control entry is bad
abbrev pub IsUnread : ℕ → Bool → Content → Type 0
IsUnread thread true it = HasBadEntry thread it
IsUnread thread false it = Unit {0}

-- A thread that its control entry says to be running was found so.
pub record IsRunning (layout : Layout) (thread : ℕ) (found : Found) (it : Content) : Type 0 where
  pub entry : ControlEntry
  pub has : HasEntry thread entry it
  pub running : entry.status ≡ status.Running
  pub holds : HoldsRecords layout thread entry (log_from thread entry.position it) found it

-- A thread that its control entry says to be closed has these SCNs.
pub record IsClosed (thread : ℕ) (scns : Clock) (it : Content) : Type 0 where
  pub entry : ControlEntry
  pub has : HasEntry thread entry it
  pub closed : entry.status ≡ status.Closed
  pub scns_are : scns ≡ scns_of entry

-- The disk holds what was found of a thread.
abbrev pub HoldsThread : Layout → ℕ → Found → Content → Type 0
HoldsThread layout thread (Closed scns) it = IsClosed thread scns it
HoldsThread layout thread (Unread bad) it = IsUnread thread bad it
HoldsThread layout thread found it = IsRunning layout thread found it

-- A thread was looked for on the disk, by calls that only read: a fault is counted exactly where a call failed, and where the
-- disk tells what it holds, it holds what was found.
abbrev pub FindsThread : Layout → ℕ → Found → State → State → Type 0
FindsThread layout thread found old new = Observes (fails found) (HoldsThread layout thread found) old new
