-- The logs of all threads, and what is told of them.
use Rattle.std.specs.Prelude.{◌≡◌, ◌≤◌, ℕ, zero, suc, ◌⊎◌, List, [], ◌∷◌, ◌++◌, length, map, Bool, true, false}
use Rattle.std.specs.Global.{Vec}
use Rattle.base_types.specs.declared.names.InstNo.{InstNo}
use Rattle.redo_types.specs.declared.redo.Redo.{Redo}
use Rattle.redo_record.specs.Front.{BeginsWith, IsTorn, log_bytes}
use Rattle.redo_record.specs.Redo.{redo_bytes}
use Rattle.log_history.specs.LogHistory.{IsLog}
use Rattle.log_history.specs.declared.error.LogError.{LogError}
use Rattle.log_history.specs.declared.error.LogError.TheVariants.{BadLog, NoMemory}
use Rattle.log_history.specs.declared.reading.Log.{Log}
use Rattle.log_history.specs.declared.reading.Met.{Met}
use Rattle.log_history.specs.declared.reading.Met.TheVariants as met
use Rattle.log_history.specs.declared.reading.Stop.{Stop}
use Rattle.log_history.specs.declared.reading.Stop.TheVariants as stops

-- the bytes of logs
abbrev pub bytes_of : List (Vec ℕ) → List (List ℕ)
bytes_of logs = map (λ log. log.items) logs

-- What a log may end with behind its whole records: nothing, or a record cut short.
abbrev pub IsEnd : List ℕ → Type 0
IsEnd rest = (rest ≡ []) ⊎ IsTorn rest

-- Each log has the records and the rest at its place, and the rest is nothing or a record cut short.
abbrev pub AreLogs : List (List ℕ) → List (List Redo) → List (List ℕ) → Type 0
AreLogs [] [] [] = Unit {0}
AreLogs (bytes ∷ logs) (records ∷ threads) (rest ∷ rests) = IsLog bytes records rest × IsEnd rest × AreLogs logs threads rests
AreLogs _ _ _ = ⊥

-- where the rest of a thread's log begins, if there is one
abbrev pub torn_end : ℕ → List Redo → List ℕ → List (InstNo × ℕ)
torn_end thread records [] = []
torn_end thread records (byte ∷ rest) = (thread, length (log_bytes records)) ∷ []

-- The threads from this one on whose logs have a rest, each with the place where it begins.
abbrev pub torn_ends : ℕ → List (List Redo) → List (List ℕ) → List (InstNo × ℕ)
torn_ends thread (records ∷ threads) (rest ∷ rests) = torn_end thread records rest ++ torn_ends (suc thread) threads rests
torn_ends thread _ _ = []

-- A log is one that a writer of records can have left: whole records, and then nothing or a record cut short.
pub record IsRight (bytes : List ℕ) : Type 0 where
  pub records : List Redo
  pub rest : List ℕ
  pub is_log : IsLog bytes records rest
  pub ends : IsEnd rest

-- A log isn't: its whole records end at this place, and what stands there is neither nothing nor a record cut short.
pub record IsWrongAt (bytes : List ℕ) (place : ℕ) : Type 0 where
  pub records : List Redo
  pub rest : List ℕ
  pub is_log : IsLog bytes records rest
  pub at : place ≡ length (log_bytes records)
  pub wrong : IsEnd rest → ⊥

-- The log of this thread is wrong at this place, and each log of a lower thread is right.
abbrev pub IsFirstWrong : List (List ℕ) → ℕ → ℕ → Type 0
IsFirstWrong [] thread place = ⊥
IsFirstWrong (bytes ∷ logs) zero place = IsWrongAt bytes place
IsFirstWrong (bytes ∷ logs) (suc thread) place = IsRight bytes × IsFirstWrong logs thread place

-- What an error says of the logs.
abbrev pub IsBad : List (List ℕ) → LogError → Type 0
IsBad logs (BadLog thread place) = IsFirstWrong logs thread place
IsBad logs NoMemory = Unit {0}

-- whether bytes stand there
abbrev pub is_some : List ℕ → Bool
is_some [] = false
is_some (byte ∷ rest) = true

-- What was met at the front of a log's rest: a whole record, which was added, one cut short, or neither.
abbrev pub TakesNext : List ℕ → List Redo → List Redo → Met → Type 0
TakesNext rest old new (met.Whole len) =
    (len ≤ length rest) × ((r : Redo) × (new ≡ old ++ r ∷ []) × BeginsWith rest r × (len ≡ length (redo_bytes r)))
TakesNext rest old new met.Torn = (new ≡ old) × IsTorn rest
TakesNext rest old new met.Bad = (new ≡ old) × (IsTorn rest → ⊥) × ((r : Redo) → BeginsWith rest r → ⊥)

-- A log was read: its whole records, how many bytes they have, and whether a record cut short stands behind them.
pub record IsRead (bytes : List ℕ) (log : Log) : Type 0 where
  pub rest : List ℕ
  pub is_log : IsLog bytes log.records rest
  pub ends : IsEnd rest
  pub len : log.len ≡ length (log_bytes log.records)
  pub torn : log.torn ≡ is_some rest

-- The records and the rest of a log were added to those of the threads before it.
pub record IsNext (bytes : List ℕ) (thread : ℕ) (old new : List (List Redo)) (old_torn new_torn : List (InstNo × ℕ)) : Type 0 where
  pub records : List Redo
  pub rest : List ℕ
  pub is_log : IsLog bytes records rest
  pub ends : IsEnd rest
  pub threads : new ≡ old ++ records ∷ []
  pub torn : new_torn ≡ old_torn ++ torn_end thread records rest

-- An error says where the log of this thread is wrong.
abbrev pub IsWrong : List ℕ → ℕ → LogError → Type 0
IsWrong bytes thread (BadLog at place) = (at ≡ thread) × IsWrongAt bytes place
IsWrong bytes thread NoMemory = Unit {0}

-- A log was not read, as it is wrong at a place.
abbrev pub StopsRight : List ℕ → Stop → Type 0
StopsRight bytes (stops.Bad place) = IsWrongAt bytes place
StopsRight bytes stops.NoMemory = Unit {0}
