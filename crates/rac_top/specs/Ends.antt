-- How a call ends, and why.
use Rattle.std.specs.Prelude.{◌≡◌, ◌⊎◌, ⊤, ℕ, List, Bool, true, false, Option, None, Some, IfSome, Ok, Err}
use Rattle.rac_io.specs.Counts.{Rose}
use Rattle.rac_disk.specs.Content.{Content}
use Rattle.rac_disk.specs.State.{State}
use Rattle.log_history.specs.Logs.{IsFirstWrong}
use Rattle.log_audit.specs.Audits.{logs_in}
use Rattle.std.specs.List.{list_any}
use Rattle.journal.specs.Past.{Past}
use Rattle.rac_top.specs.Scripts.{IsRefused}
use Rattle.rac_top.specs.declared.exit.End.{End}
use Rattle.rac_top.specs.declared.exit.End.TheVariants.{Done, WrongWords, Refused, ReadFault, WriteFault}
use Rattle.rac_top.specs.declared.exit.End.TheVariants.{NotCreated, DiskFault, LogsUnread, NoMemory, StepLimit, BadLog}
use Rattle.rac_top.specs.declared.exit.End.TheVariants.{BadDisk, Stuck, NotGood}
use Rattle.rac_top.specs.RunEnds.{is_bad_end}

-- the exit status of an end
abbrev pub status_of : End → ℕ
status_of Done = 0
status_of WrongWords = 2
status_of (Refused line rule) = 3
status_of ReadFault = 4
status_of WriteFault = 5
status_of NotCreated = 6
status_of DiskFault = 6
status_of LogsUnread = 6
status_of NoMemory = 7
status_of (StepLimit limit) = 8
status_of (BadLog thread place) = 9
status_of BadDisk = 13
status_of Stuck = 14
status_of NotGood = 15

-- the ends of a run or an audit of which something was to be written: the report or the text, whole or in part
abbrev pub is_told : End → Bool
is_told Done = true
is_told WriteFault = true
is_told DiskFault = true
is_told (StepLimit limit) = true
is_told BadDisk = true
is_told Stuck = true
is_told _ = false

-- the ends at which the disk was not touched
abbrev pub is_before_disk : End → Bool
is_before_disk WrongWords = true
is_before_disk (Refused line rule) = true
is_before_disk ReadFault = true
is_before_disk _ = false

-- all was done, or memory ran out
abbrev pub is_done : End → Bool
is_done Done = true
is_done NoMemory = true
is_done _ = false

-- All was done; or memory ran out, the run came to its limit of steps or to a stop, or an instance met content that no run
-- left; or, where the check was asked for, the journal isn't good.
abbrev pub is_faultless : Bool → End → Bool
is_faultless check Done = true
is_faultless check NoMemory = true
is_faultless check (StepLimit limit) = true
is_faultless check BadDisk = true
is_faultless check Stuck = true
is_faultless check NotGood = check
is_faultless check _ = false

-- one of the two counts of a disk's failed calls rose, or stands at its end
abbrev pub DiskFailed : State → State → Type 0
DiskFailed old new = Rose old.faults new.faults ⊎ Rose old.full new.full

-- Why a run ends as it does: the text or the journal says so, or a count of what goes wrong rose. Want of memory names no
-- cause, and why a run came to its limit of steps or to a stop its own record says.
abbrev pub RunEndsFor : End → Bool → Past → Option (List ℕ) → Type 0 → Type 0 → State → State → Type 0
RunEndsFor Done check past left SourceFailed SinkFailed disk disk_now = ⊤
RunEndsFor (Refused line rule) check past left SourceFailed SinkFailed disk disk_now = IsRefused left line rule
RunEndsFor ReadFault check past left SourceFailed SinkFailed disk disk_now = SourceFailed
RunEndsFor WriteFault check past left SourceFailed SinkFailed disk disk_now = SinkFailed
RunEndsFor NotCreated check past left SourceFailed SinkFailed disk disk_now = DiskFailed disk disk_now
RunEndsFor DiskFault check past left SourceFailed SinkFailed disk disk_now = DiskFailed disk disk_now
RunEndsFor NoMemory check past left SourceFailed SinkFailed disk disk_now = ⊤
RunEndsFor (StepLimit limit) check past left SourceFailed SinkFailed disk disk_now = ⊤
RunEndsFor BadDisk check past left SourceFailed SinkFailed disk disk_now = list_any is_bad_end past ≡ true
RunEndsFor Stuck check past left SourceFailed SinkFailed disk disk_now = ⊤
RunEndsFor NotGood check past left SourceFailed SinkFailed disk disk_now = check ≡ true
RunEndsFor _ check past left SourceFailed SinkFailed disk disk_now = ⊥

-- Why an audit ends as it does: a log of the disk says so, or a count of what goes wrong rose.
abbrev pub AuditEndsFor : End → Type 0 → State → State → Type 0
AuditEndsFor Done SinkFailed disk disk_now = ⊤
AuditEndsFor WriteFault SinkFailed disk disk_now = SinkFailed
AuditEndsFor LogsUnread SinkFailed disk disk_now = Rose disk.faults disk_now.faults
AuditEndsFor NoMemory SinkFailed disk disk_now = ⊤
AuditEndsFor (BadLog thread place) SinkFailed disk disk_now =
    IfSome disk.told (λ it. IsFirstWrong (logs_in it) thread place)
AuditEndsFor _ SinkFailed disk disk_now = ⊥

-- a count of what goes wrong stayed, below its end
abbrev pub Stayed : ℕ → ℕ → Type 0
Stayed before now = Rose before now → ⊥
