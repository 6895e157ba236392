-- What was done to the files of a disk.
use Rattle.std.specs.Prelude.{ℕ, List, [], ◌∷◌, ◌++◌, map, slice_index_or, Option, None, Some}

-- a call that changed a file: these bytes were written from a place on, the file was cut to so many bytes, or all that
-- it holds was synced
pub data FileCall : Type 0 where
  Written : (at : ℕ) (bytes : List ℕ) → FileCall
  Cut : (len : ℕ) → FileCall
  Synced : FileCall

-- the calls of a file and one more, where it tells them
abbrev pub added : FileCall → Option (List FileCall) → Option (List FileCall)
added call None = None
added call (Some calls) = Some (calls ++ call ∷ [])

-- the calls of a file, one more, and a sync behind it
abbrev pub synced : FileCall → Option (List FileCall) → Option (List FileCall)
synced call calls = added Synced (added call calls)

-- what the file of a thread's log tells
abbrev pub of_log : {F A : Type 0} → (F → Option A) → List F → ℕ → Option A
of_log tells files thread = slice_index_or (map tells files) thread None
