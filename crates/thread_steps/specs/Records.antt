-- What the log of a dead thread has from its position on.
use Rattle.std.specs.Prelude.{◌≡◌, ℕ, ◌≤◌, Bool, true, false, List, [], ◌∷◌, ◌++◌, drop, length}
use Rattle.std.specs.Global.{Vec}
use Rattle.redo_types.specs.declared.redo.Redo.{Redo}
use Rattle.redo_record.specs.Front.{BeginsWith, IsTorn, log_bytes}
use Rattle.redo_record.specs.Redo.{redo_bytes}
use Rattle.rac_disk.specs.Content.{Content, log_at}
use Rattle.log_history.specs.LogHistory.{IsLog}
use Rattle.log_history.specs.Logs.{IsEnd}
use Rattle.thread_steps.specs.declared.records.Met.{Met}
use Rattle.thread_steps.specs.declared.records.Met.TheVariants.{Bad, Torn, Whole}
use Rattle.thread_steps.specs.declared.records.Records.{Records}
use Rattle.disk_calls.specs.Images.{is_small}

-- the bytes of a thread's log from a place on
abbrev pub log_from : ℕ → ℕ → Content → List ℕ
log_from thread position it = drop position (log_at it thread)

-- These are the bytes of a thread's log from a place on.
abbrev pub GivesLog : ℕ → ℕ → Vec ℕ → Content → Type 0
GivesLog thread position bytes it = bytes.items ≡ log_from thread position it

-- No bytes of a log are bad as such.
abbrev pub IsNoLog : Content → Type 0
IsNoLog it = ⊥

-- Behind the whole records of a log stands nothing or a record cut short; where that is bad, neither.
abbrev pub EndsAs : Bool → List ℕ → Type 0
EndsAs false rest = IsEnd rest
EndsAs true rest = IsEnd rest → ⊥

-- These are the whole records of a log's bytes, and what stands behind them is bad or not.
pub record AreRecords (bytes : List ℕ) (records : List Redo) (bad : Bool) : Type 0 where
  pub rest : List ℕ
  pub is_log : IsLog bytes records rest
  pub ends : EndsAs bad rest

-- The records were read, and their bytes counted.
pub record HasRecords (bytes : List ℕ) (log : Records) : Type 0 where
  pub are : AreRecords bytes log.records log.bad
  pub len : log.len ≡ length (log_bytes log.records)

-- What was met at the front of a log's rest: a whole record, which was added, one cut short, or neither.
abbrev pub TakesNext : List ℕ → List Redo → List Redo → Met → Type 0
TakesNext rest old new (Whole len) =
    (len ≤ length rest) × ((r : Redo) × (new ≡ old ++ r ∷ []) × BeginsWith rest r × (len ≡ length (redo_bytes r)))
TakesNext rest old new Torn = (new ≡ old) × IsTorn rest
TakesNext rest old new Bad = (new ≡ old) × (IsTorn rest → ⊥) × ((r : Redo) → BeginsWith rest r → ⊥)

-- The SCN of a record is one that a run may have come to.
abbrev pub has_small_scn : Redo → Bool
has_small_scn redo = is_small redo.scn
