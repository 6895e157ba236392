-- The undo of a segment is a ring: a place has the newest record that was written there.
use Rattle.std.specs.Prelude.{ℕ, ◌<◌, ◌==◌, ◌-◌, ◌%◌, if◌then◌else◌, List, [], ◌∷◌, Option, Some, None}
use Rattle.std.specs.List.{AllByRecursion}
use Rattle.redo_types.specs.declared.undo.UndoRecord.{UndoRecord}

-- The numbers of the undo records of a segment rise; the newest is the first here.
abbrev pub Rising : List UndoRecord → Type 0
Rising [] = Unit {0}
Rising (undo ∷ older) = AllByRecursion (λ (other : UndoRecord). other.seq < undo.seq) older × Rising older

-- what stands in a place, in a ring of so many places, after all of these were written
abbrev pub in_place : ℕ → ℕ → List UndoRecord → Option UndoRecord
in_place size place [] = None
in_place size place (undo ∷ older) = if (undo.seq - 1) % size == place then Some undo else in_place size place older
