-- What stands in the place of an undo record.
use Rattle.std.specs.Prelude.{ℕ, ◌-◌, ◌%◌, ◌==◌, if◌then◌else◌, Option, None, Some}
use Rattle.redo_types.specs.declared.undo.UndoRecord.{UndoRecord}
use Rattle.undo_image.specs.UndoBlock.{UndoContent, record_at}
use Rattle.undo_segment.specs.declared.fetch.Fetch.{Fetch}
use Rattle.undo_segment.specs.declared.fetch.Fetch.TheVariants.{Has, Never, Reused, Unfetched}

-- What stands in a place, by the sequence number that is wanted there.
abbrev pub found_at : ℕ → Option UndoRecord → Fetch
found_at seq None = Never
found_at seq (Some u) = if u.seq == seq then Has u else Reused u.seq

-- What stands in the place of a sequence number in its block, where that is at hand.
abbrev pub fetch_in : ℕ → Option UndoContent → Fetch
fetch_in seq None = Unfetched
fetch_in seq (Some b) = found_at seq (record_at b ((seq - 1) % 4))
