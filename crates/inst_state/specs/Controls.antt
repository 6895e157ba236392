-- What a control line asks, and of whom.
use Rattle.std.specs.Prelude.{ℕ, ◌==◌, ◌&&◌, Bool, false}
use Rattle.inst_state.specs.declared.control.Wanted.{Wanted}
use Rattle.inst_state.specs.declared.control.Wanted.TheVariants.{Checkpoint, Crash, Move, Start}

-- the instance that is to do what a line asks
abbrev pub maker : Wanted → ℕ
maker (Crash inst when keep) = inst
maker (Start inst) = inst
maker (Move bucket to) = to
maker (Checkpoint inst) = inst

-- A line asks an instance for a checkpoint.
abbrev pub is_checkpoint_of : ℕ → Wanted → Bool
is_checkpoint_of me (Checkpoint inst) = inst == me
is_checkpoint_of me _ = false

-- A line asks that a bucket gets an instance as its master.
abbrev pub is_move_of : ℕ → ℕ → Wanted → Bool
is_move_of bucket me (Move wanted to) = wanted == bucket && to == me
is_move_of bucket me _ = false
