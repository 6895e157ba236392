-- That each Committed enters once.
use Rattle.std.specs.Prelude.{◌≡◌, ℕ, ◌<◌, List, length}
use Rattle.redo_types.specs.declared.redo.Redo.{Redo}
use Rattle.inst_state.specs.declared.shared.Core.{Core}
use Rattle.thread_steps.specs.Read.{records_entered}

-- The records of a thread that were read once enter nothing as they are read again.
abbrev pub EntersOnce : Type 0
EntersOnce =
    (thread position : ℕ) (records : List Redo) (core : Core) → thread < length core.recovery.counted
    → let once = records_entered thread position records core in (records_entered thread position records once).journal ≡ once.journal
