-- What an audit tells of the logs of a disk.
use Rattle.std.specs.Prelude.{◌≡◌, ℕ, List, map, Option, Some, IfSome}
use Rattle.redo_types.specs.declared.redo.Redo.{Redo}
use Rattle.rac_disk.specs.Content.{Content, IsDisk}
use Rattle.log_history.specs.LogHistory.{log_history}
use Rattle.log_history.specs.Logs.{AreLogs, IsFirstWrong, torn_ends}
use Rattle.log_history.specs.declared.error.LogError.{LogError}
use Rattle.log_history.specs.declared.error.LogError.TheVariants as causes
use Rattle.log_audit.specs.declared.error.AuditError.{AuditError}
use Rattle.log_audit.specs.declared.error.AuditError.TheVariants.{Failed, BadLog, NoMemory}
use Rattle.log_audit.specs.Texts.{audit_text}

-- the bytes of the logs of a disk
abbrev pub logs_in : Content → List (List ℕ)
logs_in it = map (λ log. log.bytes) it.logs

-- The bytes of a text tell the history of the logs' whole records, and where a record was cut short behind them.
pub record Tells (it : Content) (bytes : List ℕ) : Type 0 where
  pub threads : List (List Redo)
  pub rests : List (List ℕ)
  pub are : AreLogs (logs_in it) threads rests
  pub text : bytes ≡ audit_text (log_history threads) (torn_ends 0 threads rests)

-- What an error says of the logs: the first that no writer of records left is this thread's, at this place.
abbrev pub IsBadIn : Content → AuditError → Type 0
IsBadIn it (BadLog thread place) = IsFirstWrong (logs_in it) thread place
IsBadIn it Failed = Unit {0}
IsBadIn it NoMemory = Unit {0}

-- An error comes of the disk or of memory, and says nothing of the logs.
abbrev pub IsUnread : AuditError → Type 0
IsUnread (BadLog thread place) = ⊥
IsUnread Failed = Unit {0}
IsUnread NoMemory = Unit {0}

-- why an audit told nothing, where the logs have no history
abbrev pub error_of : LogError → AuditError
error_of (causes.BadLog thread place) = BadLog thread place
error_of causes.NoMemory = NoMemory

-- A disk that told what it holds is one, and still tells the same.
abbrev pub Keeps : Option Content → Option Content → Type 0
Keeps old new = IfSome old (λ it. IsDisk it × (new ≡ Some it))
