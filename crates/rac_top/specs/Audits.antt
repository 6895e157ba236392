-- What an audit promises.
use Rattle.std.specs.Prelude.{◌≡◌, ◌⊎◌, ℕ, List, [], Bool, true, false, Option, Some, IfSome, IsSomeAnd}
use Rattle.rac_io.specs.Counts.{Counts, Rose}
use Rattle.rac_disk.specs.Content.{Content}
use Rattle.rac_disk.specs.State.{State}
use Rattle.log_audit.specs.Audits.{Tells}
use Rattle.log_laws.specs.Logs.{HasGoodLogs}
use Rattle.rac_top.specs.declared.exit.End.{End}
use Rattle.log_audit.specs.declared.error.AuditError.{AuditError}
use Rattle.log_audit.specs.declared.error.AuditError.TheVariants as errors
use Rattle.rac_top.specs.declared.exit.End.TheVariants.{LogsUnread, NoMemory, BadLog}
use Rattle.rac_top.specs.declared.exit.Exit.{Exit}
use Rattle.rac_top.specs.Ends.{AuditEndsFor, Stayed, is_done, is_told}
use Rattle.rac_top.specs.Runs.{IsWritten}

-- how an audit ends that told nothing
abbrev pub end_of : AuditError → End
end_of errors.Failed = LogsUnread
end_of (errors.BadLog thread place) = BadLog thread place
end_of errors.NoMemory = NoMemory

-- the text of what the logs of the disk tell was written
abbrev pub WritesHistory : End → Option (List ℕ) → Option (List ℕ) → Content → Type 0
WritesHistory end held held_now it = (text : List ℕ) × Tells it text × IsWritten end text held held_now

-- What an audit promises of its sink, its disk and its exit, each before the call and now.
pub record Audits (held held_now : Option (List ℕ)) (wrote wrote_now stalled stalled_now : ℕ) (disk disk_now : State)
    (exit : Exit) : Type 0 where
  -- why it ends as it does, and that it ends with unread logs exactly where the disk failed
  pub cause : AuditEndsFor exit.end (Rose wrote wrote_now ⊎ Rose stalled stalled_now) disk disk_now
  pub unread : Counts (exit.end ≡ LogsUnread) disk.faults disk_now.faults
  -- what is written
  pub told : is_told exit.end ≡ true → IfSome disk.told (WritesHistory exit.end held held_now)
  pub good_logs : is_told exit.end ≡ true → IfSome disk.told HasGoodLogs
  pub silent : is_told exit.end ≡ false → held_now ≡ held
  -- it changes nothing, and runs nothing
  pub kept : IfSome disk.told (λ it. disk_now.told ≡ Some it)
  pub full : disk_now.full ≡ disk.full
  pub no_run : (exit.journal ≡ []) × (exit.book ≡ [])
  -- where nothing goes wrong all is done, or memory ran out
  pub completes : IsSomeAnd disk.told HasGoodLogs → Stayed disk.faults disk_now.faults → Stayed wrote wrote_now
      → Stayed stalled stalled_now → is_done exit.end ≡ true
